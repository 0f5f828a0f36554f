use Rattle.std.proofs.Common.{rules, arith}
use Rattle.jpeg_segments.specs.FrameView.{component_in, frame_in}
use Rattle.jpeg_decoder.specs.Steps.{with_decoded}
use Rattle.jpeg_decoder.proofs.Pictures.PicturesOfPlanes.{decoded-few}
use Rattle.jpeg_decoder.proofs.Partial.ShownParts.{lossless-shown}
use Rattle.jpeg_decoder.proofs.picture.partial.complete_part.Goals as goal

pub complete_samples-requires-clause-index : goal.complete_samples-requires-clause-index
complete_samples-requires-clause-index c =
    omega (arith, c.requires.index, decoded-few _ (c.requires.sound.frames _ c.requires.frame))

pub returns-in-Lossless : goal.returns-in-Lossless
returns-in-Lossless c =
    lossless-shown c.complete_samples.result (frame_in c.args.frame.now)
    (with_decoded c.args.state.now c.args.decoded.now) _ (c.args.index, component_in c.args.component.now)
    (search rules) (c.complete_samples.ensures c.args.state.now)

use Rattle.std.proofs.Common.{rules}
use Rattle.jpeg_segments.specs.FrameView.{frame_in}
use Rattle.jpeg_decoder.proofs.Pictures.SparedPlanes.{sound-planes}
use Rattle.jpeg_decoder.proofs.picture.spared.spare_colours.Goals as goal

pub returns-clause-sound : goal.returns-clause-sound
returns-clause-sound c =
    sound-planes c.args.state.now _ (frame_in c.in-Some.frame) c.requires.sound (search rules) (search rules)
    (search rules) (search rules) (search rules)

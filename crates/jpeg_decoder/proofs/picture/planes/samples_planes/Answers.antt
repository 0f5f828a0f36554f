use Rattle.std.proofs.Common.{Global, Vec, map, rules, ℕ}
use Rattle.jpeg_segments.specs.FrameView.{frame_in}
use Rattle.jpeg_decoder.proofs.LosslessFrames.LosslessReads.{samples-whole}
use Rattle.jpeg_decoder.proofs.Pictures.OwnPlanes.{if-sampled}
use Rattle.jpeg_decoder.proofs.Pictures.PicturesOfPlanes.{decoded-few}
use Rattle.jpeg_decoder.proofs.picture.planes.samples_planes.Goals as goal

pub samples_at_end-requires : goal.samples_at_end-requires
samples_at_end-requires c = record { count = decoded-few _ (c.requires.sound.frames _ c.requires.frame) }

pub returns-clause-sizes : goal.returns-clause-sizes
returns-clause-sizes c =
    let frame = frame_in c.args.frame.now in
    if-sampled {X = Vec (Vec ℕ Global) Global} (λ v. map (λ p. p.items) v.items) frame (map (λ p. p.items) c.in_ok-planes.planes.items)
    c.bytes_of_all.result
    (samples-whole _ _ _ (c.requires.sound.samples frame c.requires.frame) c.in_ok-planes.ensures.planes) (search rules)

use Rattle.jpeg_segments.specs.FrameView.{frame_in}
use Rattle.jpeg_decoder.proofs.LosslessFrames.LosslessReads.{samples-whole}
use Rattle.jpeg_decoder.proofs.Pictures.PictureSizes.{if-sample_lines}
use Rattle.jpeg_decoder.proofs.Pictures.PicturesOfPlanes.{decoded-factors, decoded-few}
use Rattle.jpeg_meaning.proofs.Pictures.LosslessSizes.{all-reach, decoded-made}
use Rattle.jpeg_decoder.proofs.picture.whole.samples_picture.Goals as goal

pub samples_at_end-requires : goal.samples_at_end-requires
samples_at_end-requires c = record { count = decoded-few _ (c.requires.sound.frames _ c.requires.frame) }

pub sample_lines-requires : goal.sample_lines-requires
sample_lines-requires c =
    let frame = frame_in c.args.frame.now in
    let decoded = c.requires.sound.frames frame c.requires.frame in
    record {
      whole = samples-whole _ _ _ (c.requires.sound.samples frame c.requires.frame) c.in_ok-planes.ensures.planes;
      sampling = decoded-factors frame decoded;
      reaches = all-reach frame frame.components (decoded-made frame decoded c.requires.process);
    }

pub returns-clause-lines : goal.returns-clause-lines
returns-clause-lines c =
    if-sample_lines _ _ c.sample_lines.result (c.requires.sound.frames _ c.requires.frame) c.requires.process
    c.in_ok-planes.ensures.count c.sample_lines.ensures.lines

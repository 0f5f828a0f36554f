use Rattle.std.proofs.Common.{rules}
use Rattle.jpeg_segments.specs.FrameView.{frame_in}
use Rattle.jpeg_decoder.proofs.Pictures.PicturesOfPlanes.{decoded-few}
use Rattle.jpeg_decoder.proofs.picture.whole.picture.Goals as goal

pub line_bytes-line_bytes-requires : goal.line_bytes-line_bytes-requires
line_bytes-line_bytes-requires c =
    decoded-few (frame_in c.in_ok-frame.frame.now) (c.requires.sound.frames _ (search rules))

use Rattle.std.proofs.Common.{rules}
use Rattle.jpeg_segments.specs.FrameView.{frame_in}
use Rattle.jpeg_decoder.proofs.Pictures.PicturesOfPlanes.{decoded-few}
use Rattle.jpeg_decoder.proofs.picture.rest.sent_picture.Goals as goal

pub check_sent-requires : goal.check_sent-requires
check_sent-requires c =
    record { few = decoded-few (frame_in c.in_ok-frame.frame.now) (c.requires.sound.frames _ (search rules)) }

use Rattle.std.proofs.Common.{rules}
use Rattle.jpeg_segments.specs.FrameView.{frame_in}
use Rattle.jpeg_decoder.proofs.Pictures.PicturesOfPlanes.{decoded-few}
use Rattle.jpeg_decoder.proofs.decoder.size_within.Goals as goal

pub picture_bytes-size-requires : goal.picture_bytes-size-requires
picture_bytes-size-requires c = decoded-few (frame_in c.in-Some.frame) (c.requires.frames _ (search rules))

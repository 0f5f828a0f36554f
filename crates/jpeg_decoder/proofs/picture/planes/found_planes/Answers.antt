use Rattle.std.proofs.Common.{rules}
use Rattle.jpeg_segments.specs.FrameView.{frame_in}
use Rattle.jpeg_decoder.proofs.Pictures.PicturesOfPlanes.{decoded-few}
use Rattle.jpeg_decoder.proofs.picture.planes.found_planes.Goals as goal

pub samples_in-count-requires : goal.samples_in-count-requires
samples_in-count-requires c = decoded-few (frame_in c.in_ok-frame.frame.now) (c.requires.sound.frames _ (search rules))

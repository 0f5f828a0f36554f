use Rattle.jpeg_segments.specs.FrameView.{frame_in}
use Rattle.jpeg_decoder.proofs.Pictures.PicturesOfPlanes.{decoded-factors, decoded-few}
use Rattle.jpeg_decoder.proofs.sizes.decoding_bytes.Goals as goal

pub component_bytes-coefficients-requires-clause-few : goal.component_bytes-coefficients-requires-clause-few
component_bytes-coefficients-requires-clause-few c = decoded-few (frame_in c.args.frame.now) c.requires

pub component_bytes-coefficients-requires-clause-sampling : goal.component_bytes-coefficients-requires-clause-sampling
component_bytes-coefficients-requires-clause-sampling c = decoded-factors (frame_in c.args.frame.now) c.requires

pub picture_bytes-picture-requires : goal.picture_bytes-picture-requires
picture_bytes-picture-requires c = decoded-few (frame_in c.args.frame.now) c.requires

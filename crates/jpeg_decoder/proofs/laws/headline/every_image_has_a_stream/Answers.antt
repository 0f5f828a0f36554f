use Rattle.jpeg_meaning.proofs.Encoded.EncodedImages.{image-written}
use Rattle.jpeg_decoder.proofs.laws.headline.every_image_has_a_stream.Goals as goal

pub returns : goal.returns
returns c = image-written

use Rattle.jpeg_meaning.proofs.Pictures.PrintedImages.{image-output}
use Rattle.jpeg_decoder.proofs.laws.headline.images_are_printed.Goals as goal

pub returns : goal.returns
returns c = image-output

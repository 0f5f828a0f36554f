use Rattle.jpeg_meaning.proofs.Pictures.WholeImages.{sequential-whole}
use Rattle.jpeg_decoder.proofs.laws.headline.sequential_images_are_complete.Goals as goal

pub returns : goal.returns
returns c = sequential-whole

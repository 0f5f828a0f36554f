use Rattle.jpeg_meaning.proofs.Written.WrittenParts.{one-picture}
use Rattle.jpeg_decoder.proofs.laws.headline.pictures_are_of_coefficients.Goals as goal

pub returns : goal.returns
returns c = one-picture

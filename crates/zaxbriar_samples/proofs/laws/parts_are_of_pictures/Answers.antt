use Rattle.zaxbriar_samples.proofs.PartPixels.{part-of-picture}
use Rattle.zaxbriar_samples.proofs.laws.parts_are_of_pictures.Goals as goal

pub returns : goal.returns
returns c = part-of-picture

use Rattle.zaxbriar_calls.proofs.CropPixels.{part-of-picture}
use Rattle.zaxbriar_calls.proofs.laws.parts_are_of_pictures.Goals as goal

pub returns : goal.returns
returns c = part-of-picture

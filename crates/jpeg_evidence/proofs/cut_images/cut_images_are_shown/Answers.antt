use Rattle.jpeg_evidence.proofs.Cut.CutTaken.{cut_images_are_shown}
use Rattle.jpeg_evidence.proofs.cut_images.cut_images_are_shown.Goals as goal

pub returns : goal.returns
returns c = cut_images_are_shown

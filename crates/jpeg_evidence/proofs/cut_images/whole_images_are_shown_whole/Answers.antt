use Rattle.jpeg_evidence.proofs.Cut.WholeShown.{whole_images_are_shown_whole}
use Rattle.jpeg_evidence.proofs.cut_images.whole_images_are_shown_whole.Goals as goal

pub returns : goal.returns
returns c = whole_images_are_shown_whole

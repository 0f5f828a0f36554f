use Rattle.jpeg_evidence.proofs.Cut.CutShown.{cut_images_show_what_was_sent}
use Rattle.jpeg_evidence.proofs.cut_images.cut_images_show_what_was_sent.Goals as goal

pub returns : goal.returns
returns c = cut_images_show_what_was_sent

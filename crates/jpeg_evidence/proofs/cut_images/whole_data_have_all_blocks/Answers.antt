use Rattle.jpeg_evidence.proofs.Cut.StandingBlocks.{whole_data_have_all_blocks}
use Rattle.jpeg_evidence.proofs.cut_images.whole_data_have_all_blocks.Goals as goal

pub returns : goal.returns
returns c = whole_data_have_all_blocks

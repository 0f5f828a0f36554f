use Rattle.std.proofs.Common.{rules}
use Rattle.jpeg_pixels.specs.Scaled.{sample_of_1}
use Rattle.jpeg_pixels.proofs.Fours.{one_sample}
use Rattle.jpeg_pixels.proofs.LaneSums.{wrapped_more, shifted_back}
use Rattle.jpeg_pixels.proofs.small_transforms.dequantize_and_idct_block_1x1.Goals as goal

pub returns : goal.returns
unfolding sample_of_1
returns c = search (rules, one_sample, shifted_back, wrapped_more)

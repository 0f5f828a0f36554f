use Rattle.std.proofs.Common.{arith}
use Rattle.std.proofs.lemmas.Grind.{common_steps}
use Rattle.std.specs.Int.{int_wrap}
use Rattle.jpeg_pixels.specs.Samples.{basis, transformed, dequantized, is_flat_column, column_value, sample}
use Rattle.jpeg_pixels.specs.Scaled.{sample_at, even_part, odd_part, column_of_4, sample_of_4, sample_of_2, sample_of_1}
use Rattle.jpeg_pixels.specs.Planes.{plane_of}
use Rattle.jpeg_pixels.proofs.laws.known_blocks.Goals as goal

pub returns : goal.returns
unfolding basis transformed dequantized is_flat_column column_value sample sample_at plane_of int_wrap even_part odd_part column_of_4 sample_of_4 sample_of_2 sample_of_1
returns c = grind (arith, common_steps)

use Rattle.std.proofs.Common.{◌∙◌}
use Rattle.jpeg_pixels.specs.Samples.{dequantized}
use Rattle.jpeg_pixels.proofs.LaneSums.{kept_words}
use Rattle.jpeg_pixels.proofs.HalfLanes.{twice_lanes}
use Rattle.jpeg_pixels.proofs.half_block.products_twice.Goals as goal

pub returns : goal.returns
unfolding dequantized
returns c =
    let f = dequantized c.args.coefficients c.args.quantization_table.now c.args.row in
    kept_words c.left_twice.result _ c.left_twice.type_inv.1.1
    ∙ twice_lanes c.left_twice.result _ f (kept_words c.products.result _ c.products.type_inv.1.1
    ∙ c.products.ensures) c.left_twice.ensures

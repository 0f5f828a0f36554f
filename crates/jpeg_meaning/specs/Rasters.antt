-- Planes of blocks (T.81, A.3.3).
use Rattle.std.specs.Prelude.{ℕ, ◌+◌, ◌*◌, ℤ, List, get_or}
use Rattle.jpeg_bits.specs.Zigzag.{coefficients_in_block_order, values_in_block_order}
use Rattle.jpeg_bits.specs.Passes.{Block, zero_block, listed}
use Rattle.jpeg_segments.specs.Frame.{Component}
use Rattle.jpeg_pixels.specs.Planes.{plane_of}

-- The plane of a component: each block, by its row and its column, is dequantized and transformed.
unfoldable pub plane_of_blocks : Component → List ℕ → (ℕ → ℕ → Block) → List ℕ
plane_of_blocks c table blocks =
    plane_of c.scale (values_in_block_order table) c.blocks_wide c.blocks_high
    (λ row column. coefficients_in_block_order (listed (blocks row column)))

-- the same of its blocks in raster order
unfoldable pub plane_by : Component → List ℕ → List Block → List ℕ
plane_by c table blocks =
    plane_of_blocks c table
    (λ row column. get_or blocks (row * c.blocks_wide + column) zero_block)

-- ---- as rows

-- a block, its coefficients in block order
abbrev pub ordered : Block → List ℤ
ordered b = coefficients_in_block_order (listed b)

-- the block in a row and a column of blocks in raster order, this many wide
abbrev pub in_raster : ℕ → List Block → ℕ → ℕ → List ℤ
in_raster wide blocks row column = ordered (get_or blocks (row * wide + column) zero_block)

-- The samples of a component at a scale, and the picture of one (T.81, A.1.1 and A.2).
use Rattle.std.specs.Prelude.{ℕ, ◌+◌, ◌*◌, ◌/◌, ◌%◌, List, map, length, slice_index, slice_index_or}
use Rattle.std.specs.Prelude.{ℤ, pos, replicate}
use Rattle.std.specs.List.{range_with_len}
use Rattle.jpeg_pixels.specs.Scaled.{sample_at}

-- a block of zeros
abbrev pub zero_coefficients : List ℤ
zero_coefficients = replicate 64 (pos 0)

-- The sample at (x, y) of a component whose block at a row and a column is given, in block order,
-- as its quantization table is, and gives `scale` samples a side: the sample at (x mod scale, y mod
-- scale) of the block in row y / scale and column x / scale.
abbrev pub plane_sample : ℕ → List ℕ → (ℕ → ℕ → List ℤ) → ℕ → ℕ → ℕ
plane_sample scale table block_at x y =
    sample_at scale (block_at (y / scale) (x / scale)) table (x % scale) (y % scale)

-- the samples of some rows of blocks, this many blocks wide, line by line
unfoldable pub plane_of : ℕ → List ℕ → ℕ → ℕ → (ℕ → ℕ → List ℤ) → List ℕ
plane_of scale table wide high block_at =
    map (λ i. plane_sample scale table block_at (i % (scale * wide)) (i / (scale * wide)))
    (range_with_len 0 (scale * wide * (scale * high)))

-- the samples of one row of blocks
abbrev pub strip_of : ℕ → List ℕ → List (List ℤ) → List ℕ
strip_of scale table blocks = plane_of scale table (length blocks) 1
    (λ row column. slice_index_or blocks column zero_coefficients)

-- the first samples of the first lines of a plane with lines of a stride
unfoldable pub cropped : ℕ → ℕ → ℕ → List ℕ → List ℕ
cropped stride width height plane = map (λ i. slice_index plane (i / width * stride + i % width))
    (range_with_len 0 (width * height))

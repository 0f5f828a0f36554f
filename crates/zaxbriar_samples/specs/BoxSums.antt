-- The sums of the columns of boxes, by which pictures are made smaller line by line.
use Rattle.std.specs.Prelude.{◌≡◌, ◌<◌, ℕ, ◌+◌, ◌*◌, List, length, slice_index}
use Rattle.zaxbriar_samples.specs.Boxes.{sum_over}
use Rattle.zaxbriar_samples.specs.Samples.{sample_in}
use Rattle.zaxbriar_samples.specs.declared.boxes.Reduction.{Reduction}

-- the sample at an index of a line, which is so many lines below another
unfoldable pub sample_below : List ℕ → Reduction → ℕ → ℕ → ℕ → ℕ
sample_below pixels r top index down =
    sample_in r.precision pixels ((top + down) * (r.width * r.components) + index)

-- the sum of the samples at an index, in this many lines from a line on
unfoldable pub column_sum : List ℕ → Reduction → ℕ → ℕ → ℕ → ℕ
column_sum pixels r top lines index = sum_over lines (sample_below pixels r top index)

-- these are such sums, in lines of this picture
abbrev pub AreSums : List ℕ → Reduction → ℕ → ℕ → List ℕ → Type 0
AreSums pixels r top lines sums = (i : ℕ) → i < length sums
    → slice_index sums i ≡ column_sum pixels r top lines i

-- the sum in the column of a component that is so many columns after another
abbrev pub sum_at : List ℕ → ℕ → ℕ → ℕ → ℕ → ℕ
sum_at sums left components component across =
    slice_index sums ((left + across) * components + component)

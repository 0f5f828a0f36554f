-- Eight lanes in two halves of four, in which a block is transformed to 4x4 samples (own to the
-- code).
use Rattle.std.specs.Prelude.{ℕ, ◌-◌, ◌%◌, ◌/◌, nat_lt, if◌then◌else◌, ℤ, pos, ◌+ℤ◌, ◌*ℤ◌}
use Rattle.std.specs.Int.{w32, int_wrap}
use Rattle.jpeg_pixels.specs.Scaled.{even_and_odd, even_part, odd_part}

-- one number in the lanes of the left half, another in those of the right
abbrev pub by_half : ℤ → ℤ → ℕ → ℤ
by_half left right j = if nat_lt j 4 then left else right

-- Of four lines by four, the first two stand in one vector, and the last two, from the end, in
-- another.
abbrev pub upper : {A : Type 0} → (ℕ → ℕ → A) → ℕ → A
upper f j = f (j / 4) (j % 4)

abbrev pub lower : {A : Type 0} → (ℕ → ℕ → A) → ℕ → A
lower f j = f (3 - j / 4) (j % 4)

-- a sample of a line of four, before the last shift
abbrev pub row_sum : (ℕ → ℤ) → ℕ → ℤ
row_sum s x = int_wrap w32
    (even_and_odd x (pos 4096 *ℤ even_part s x +ℤ pos 16842752) (odd_part s x))

-- Samples of a component between its own (the centres of A.1.1). Where the greatest sampling
-- factors are the component's or twice those, across and down, samples are blended in each
-- direction that is doubled: three parts of the nearer sample and one of the farther. Where one of
-- the two ratios is another number, as for factors 1x1 under 2x4, samples are repeated in both
-- directions, also in one that is doubled.
use Rattle.std.specs.Prelude.{ℕ, ◌+◌, ◌-◌, ◌*◌, ◌/◌, ◌%◌, ◌==◌, ◌&&◌, ◌||◌, min, Bool, Option, Some}
use Rattle.std.specs.Prelude.{None, if◌then◌else◌}
use Rattle.jpeg_pixels.specs.declared.upsample_rows.UpsampleRule.{UpsampleRule}
use Rattle.jpeg_pixels.specs.declared.upsample_rows.UpsampleRule.TheVariants.{H1V1, H2V1, H1V2}
use Rattle.jpeg_pixels.specs.declared.upsample_rows.UpsampleRule.TheVariants.{H2V2, Generic}

-- the outputs across and down that a sample of the component stands for
abbrev pub across : UpsampleRule → ℕ
across H1V1 = 1
across H2V1 = 2
across H1V2 = 1
across H2V2 = 2
across (Generic h v) = h

abbrev pub down : UpsampleRule → ℕ
down H1V1 = 1
down H2V1 = 1
down H1V2 = 2
down H2V2 = 2
down (Generic h v) = v

-- of the two indices next to index i / 2 the one that i is nearer to, where there are this many
-- indices: at the ends it is the index itself
abbrev pub far_index : ℕ → ℕ → ℕ
far_index count i = if i % 2 == 0 then i / 2 - 1 else min (i / 2 + 1) (count - 1)

-- three parts of one sample and one of another, rounded
abbrev pub blended : ℕ → ℕ → ℕ
blended near far = (3 * near + far + 2) / 4

-- three parts of the nearer line and one of the farther, not divided yet
abbrev pub line_sum : (ℕ → ℕ → ℕ) → ℕ → ℕ → ℕ → ℕ
line_sum plane height row i = 3 * plane i (row / 2) + plane i (far_index height row)

-- The sample at column x and row of the output, where plane gives the sample of the component at a
-- column and a row, of which it has width and height.
unfoldable pub upsampled : UpsampleRule → (ℕ → ℕ → ℕ) → ℕ → ℕ → ℕ → ℕ → ℕ
upsampled H1V1 plane width height x row = plane x row
upsampled H2V1 plane width height x row =
    blended (plane (x / 2) row) (plane (far_index width x) row)
upsampled H1V2 plane width height x row =
    blended (plane x (row / 2)) (plane x (far_index height row))
upsampled H2V2 plane width height x row =
    (3 * line_sum plane height row (x / 2) + line_sum plane height row (far_index width x) + 8) / 16
upsampled (Generic h v) plane width height x row = plane (x / h) (row / v)

-- whether one number divides another
abbrev pub divides : ℕ → ℕ → Bool
divides d n = n % d == 0

-- The rule of a component with factors h and v, in a frame whose greatest are those and whose
-- output has this width and height. For the first four rules a factor counts as the greatest where
-- the output has one sample in that direction. Where none of them fits, both ratios have to be
-- whole; else there is no rule.
unfoldable pub rule_of : ℕ → ℕ → ℕ → ℕ → ℕ → ℕ → Option UpsampleRule
rule_of h v greatest_h greatest_v width height =
    let h1 = h == greatest_h || width == 1 in
    let v1 = v == greatest_v || height == 1 in
    let h2 = 2 * h == greatest_h in
    let v2 = 2 * v == greatest_v in
    if h1 && v1 then Some H1V1 else (
    if h2 && v1 then Some H2V1 else (
    if h1 && v2 then Some H1V2 else (
    if h2 && v2 then Some H2V2 else (
    if divides h greatest_h && divides v greatest_v
    then Some (Generic (greatest_h / h) (greatest_v / v)) else None))))

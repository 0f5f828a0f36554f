-- Rows of samples made wider, index by index, and samples at the ends of a component.
use Rattle.std.proofs.Common.{◌≡◌, ℕ, ◌+◌, ◌-◌, ◌*◌, ◌/◌, ◌%◌, ◌<◌, ◌≤◌, List, length, get_or, set}
use Rattle.std.proofs.Common.{get_or-set_other, get_or-set_same, arith, ap, subst}
use Rattle.std.proofs.Common.{cond, min, take, drop, ◌++◌, length-take, rules, ◌∙◌}
use Rattle.std.specs.Prelude.{◌==◌}
use Rattle.std.specs.Int.{div_ceil}
use Rattle.std.proofs.lemmas.Bool.{cases_eq}
use Rattle.std.proofs.Math.Nat.{mul_comm, mul-le-mul_right, div-lt_iff_lt-mul}
use Rattle.std.proofs.lemmas.List.{get_or_append_left}
use Rattle.std.proofs.lemmas.Nat.{div-mul-add}
use Rattle.std.proofs.lemmas.Grind.{div_ceil_times, common_steps}
use Rattle.jpeg_pixels.specs.Upsampling.{across, down, blended, far_index, upsampled, line_sum}
use Rattle.jpeg_pixels.specs.declared.upsample_rows.UpsampleRule.{UpsampleRule}
use Rattle.jpeg_pixels.specs.declared.upsample_rows.UpsampleRule.TheVariants.{H1V1, H2V1, H1V2, H2V2, Generic}

pub far_even : (count x : ℕ) → x % 2 ≡ 0 → far_index count x ≡ x / 2 - 1
far_even count x e = ap (λ r. cond (r == 0) (x / 2 - 1) (min (x / 2 + 1) (count - 1))) e

pub far_odd : (count x : ℕ) → x % 2 ≡ 1 → far_index count x ≡ min (x / 2 + 1) (count - 1)
far_odd count x e = ap (λ r. cond (r == 0) (x / 2 - 1) (min (x / 2 + 1) (count - 1))) e

-- the farther index is one of the line
pub far_below : (count x : ℕ) → x / 2 < count → far_index count x < count
far_below count x h = grind (arith, common_steps, cases_eq, far_even, far_odd)

-- the front of a row, once it is written
pub in_front : (n : ℕ) (new old : List ℕ) (x : ℕ) → length new ≡ length (take n old) → n ≤ length old → x < n
    → get_or (new ++ drop n old) x 0 ≡ get_or new x 0
in_front n new old x long room h = grind (arith, common_steps, get_or_append_left, length-take)

-- the sample of each rule by the lines that it reads

pub as_h1v1 : (rule : UpsampleRule) (plane : ℕ → ℕ → ℕ) (line : List ℕ) (used width height x row : ℕ) → rule ≡ H1V1
    → x < used →
    ((i : ℕ) → i < used → get_or line i 0 ≡ plane i row) →
    get_or line x 0 ≡ upsampled rule plane width height x row
unfolding upsampled
as_h1v1 rule plane line used width height x row e inside each = rw e (each x inside)

pub as_h2v1 : (rule : UpsampleRule) (plane : ℕ → ℕ → ℕ) (line : List ℕ) (width height x row : ℕ) → rule ≡ H2V1
    → length line ≡ width → x < across rule * width →
    ((i : ℕ) → i < width → get_or line i 0 ≡ plane i row) →
    blended (get_or line (x / 2) 0) (get_or line (far_index (length line) x) 0) ≡ upsampled rule
    plane width height x
    row
unfolding upsampled
as_h2v1 rule plane line width height x row e long inside each = search (rules, far_below, get_or)

pub as_h1v2 : (rule : UpsampleRule) (plane : ℕ → ℕ → ℕ) (near far : List ℕ) (used width height x row : ℕ) → rule ≡ H1V2
    → x < used →
    ((i : ℕ) → i < used → get_or near i 0 ≡ plane i (row / 2)) →
    ((i : ℕ) → i < used → get_or far i 0 ≡ plane i (far_index height row)) →
    blended (get_or near x 0) (get_or far x 0) ≡ upsampled rule plane width height x row
unfolding upsampled
as_h1v2 rule plane near far used width height x row e inside near_is far_is = search rules

pub as_h2v2 : (rule : UpsampleRule) (plane : ℕ → ℕ → ℕ) (near far : List ℕ) (width height x row : ℕ) → rule ≡ H2V2
    → length near ≡ width → x < across rule * width →
    ((i : ℕ) → i < width → get_or near i 0 ≡ plane i (row / 2)) →
    ((i : ℕ) → i < width → get_or far i 0 ≡ plane i (far_index height row)) →
    (3 * (3 * get_or near (x / 2) 0 + get_or far (x / 2) 0) + (3 * get_or near (far_index (length
    near) x) 0
    + get_or far (far_index (length near) x) 0) + 8) / 16
    ≡ upsampled rule plane width height x row
unfolding upsampled
as_h2v2 rule plane near far width height x row e long inside near_is far_is = search (rules, far_below)

pub as_generic : (rule : UpsampleRule) (h v : ℕ) (plane : ℕ → ℕ → ℕ) (line : List ℕ) (used width height x row : ℕ)
    → rule ≡ Generic h v → 1 ≤ h → x < h * used →
    ((i : ℕ) → i < used → get_or line i 0 ≡ plane i (row / v)) →
    get_or line (x / h) 0 ≡ upsampled rule plane width height x row
unfolding upsampled
as_generic rule h v plane line used width height x row e some inside each =
    grind (arith, common_steps, div-lt_iff_lt-mul, mul_comm)

-- the outputs are those of the samples used
pub used_enough : (output h used : ℕ) → 0 < h → used ≡ div_ceil output h → output ≤ h * used
used_enough output h used some is = search (rules, div_ceil_times, mul_comm)

-- and a line has these samples
used_within : (output h used width : ℕ) → 0 < h → used ≡ div_ceil output h → output ≤ h * width → used ≤ width
used_within output h used width some is wide = grind (arith, common_steps)

-- the samples that are repeated lie in the plane
pub repeated_within : (rule : UpsampleRule) (h v output used width height stride row room : ℕ) → rule ≡ Generic h v
    → 1 ≤ across rule → 1 ≤ down rule → used ≡ div_ceil output h →
    output ≤ across rule * width → row < down rule * height → (height - 1) * stride + width ≤ room
    → row / v * stride + used ≤ room
repeated_within rule h v output used width height stride row room e some_across some_down is wide high inside =
    let some_h : 0 < h = subst (λ n. 0 < n) (ap across e) some_across in
    let some_v : 0 < v = subst (λ n. 0 < n) (ap down e) some_down in
    let short : used ≤ width = grind (arith, common_steps, used_within) in
    let rows : row < v * height = subst (λ n. row < n * height) (ap down e) high in
    let turned : row < height * v = rw (mul_comm height v) rows in
    let line : row / v < height = (div-lt_iff_lt-mul {k = v} {x = row} {y = height} some_v).1 turned in
    let last : row / v ≤ height - 1 = omega (arith, line) in
    omega (arith, mul-le-mul_right stride last, short, inside)

-- one more sample of a run
pub run_sample : (line xs : List ℕ) (times i k : ℕ) → k < times → i * times + k < length xs →
    ((x : ℕ) → x < i * times + k → get_or xs x 0 ≡ get_or line (x / times) 0) →
    (x : ℕ) → x < i * times + (k + 1)
    → get_or (set xs (i * times + k) (get_or line i 0)) x 0 ≡ get_or line (x / times) 0
run_sample line xs times i k some inside before x h = search (rules, cases_eq, get_or, get_or-set_other, get_or-set_same, div-mul-add)

-- one more sample of the last run
pub run_end : (line xs : List ℕ) (times size i : ℕ) → 1 ≤ times → size / times * times ≤ i → i < size → i < length xs →
    ((x : ℕ) → x < i → get_or xs x 0 ≡ get_or line (x / times) 0) →
    (x : ℕ) → x < i + 1 → get_or (set xs i (get_or line (size / times) 0)) x 0 ≡ get_or line (x / times) 0
run_end line xs times size i some above below inside before x h =
    let same : size / times * times + (i - size / times * times) ≡ i = omega (arith, above) in
    subst (λ n. get_or (set xs n (get_or line (size / times) 0)) x 0 ≡ get_or line (x / times) 0) same
    (run_sample line xs times (size / times) (i - size / times * times) (grind (arith, common_steps))
    (rw same inside) (λ k l. before k (omega (arith, same, l))) x (omega (arith, same, h)))

pub ruleset upsampled_rows = (as_h1v1, as_h2v1, as_h1v2, as_h2v2, in_front, length-take)

-- the nearer and the farther index at the ends
far_first : (count : ℕ) → far_index count 0 ≡ 0
far_first count = far_even count 0 (omega arith) ∙ omega arith

far_last : (count : ℕ) → 1 ≤ count → far_index count (2 * count - 1) ≡ count - 1
far_last count some = far_odd count (2 * count - 1) (omega arith) ∙ omega arith

-- of one index
far_alone : (x : ℕ) → x < 2 → far_index 1 x ≡ 0
far_alone x h = grind (arith, common_steps, cases_eq, far_even, far_odd)

pub first_across : (plane : ℕ → ℕ → ℕ) (width height row : ℕ) → upsampled H2V1 plane width height 0 row ≡ plane 0 row
unfolding upsampled
first_across plane width height row = omega (arith, far_first)

pub last_across : (plane : ℕ → ℕ → ℕ) (width height row : ℕ) → 1 ≤ width
    → upsampled H2V1 plane width height (2 * width - 1) row ≡ plane (width - 1) row
unfolding upsampled
last_across plane width height row some = grind (arith, common_steps, far_last)

pub first_down : (plane : ℕ → ℕ → ℕ) (width height x : ℕ) → upsampled H1V2 plane width height x 0 ≡ plane x 0
unfolding upsampled
first_down plane width height x = omega (arith, far_first)

pub last_down : (plane : ℕ → ℕ → ℕ) (width height x : ℕ) → 1 ≤ height
    → upsampled H1V2 plane width height x (2 * height - 1) ≡ plane x (height - 1)
unfolding upsampled
last_down plane width height x some = grind (arith, common_steps, far_last)

-- a sample of H2V2 by the four indices that it is blended from
at_indices : (plane : ℕ → ℕ → ℕ) (width height x row near far upper lower : ℕ) → x / 2 ≡ near →
    far_index width x ≡ far
    → row / 2 ≡ upper → far_index height row ≡ lower → upsampled H2V2 plane width height x row
    ≡ (3 * (3 * plane near upper + plane near lower) + (3 * plane far upper + plane far lower) + 8) / 16
unfolding upsampled
at_indices plane width height x row near far upper lower a b c d = cc

pub first_corner : (plane : ℕ → ℕ → ℕ) (width height : ℕ) → upsampled H2V2 plane width height 0 0 ≡ plane 0 0
first_corner plane width height = grind (arith, common_steps, at_indices, far_first)

pub last_corner : (plane : ℕ → ℕ → ℕ) (width height : ℕ) → 1 ≤ width → 1 ≤ height →
    upsampled H2V2 plane width height (2 * width - 1) (2 * height - 1) ≡ plane (width - 1) (height - 1)
last_corner plane width height wide high =
    grind (arith, common_steps, at_indices, far_last)

pub first_column : (plane : ℕ → ℕ → ℕ) (width height row : ℕ) → upsampled H2V2 plane width height 0 row
    ≡ (line_sum plane height row 0 + 2) / 4
first_column plane width height row = grind (arith, common_steps, at_indices, far_first)

pub last_column : (plane : ℕ → ℕ → ℕ) (width height row : ℕ) → 1 ≤ width
    → upsampled H2V2 plane width height (2 * width - 1) row ≡ (line_sum plane height row (width - 1) + 2) / 4
last_column plane width height row wide =
    grind (arith, common_steps, at_indices, far_last)

pub first_line : (plane : ℕ → ℕ → ℕ) (width height x : ℕ) → upsampled H2V2 plane width height x 0 ≡ upsampled H2V1 plane
    width height x 0
unfolding upsampled
first_line plane width height x = grind (arith, common_steps, at_indices, far_first)

pub repeated : (plane : ℕ → ℕ → ℕ) (width height h v i j k l : ℕ) → k < h → l < v
    → upsampled (Generic h v) plane width height (i * h + k) (j * v + l) ≡ plane i j
unfolding upsampled
repeated plane width height h v i j k l hk hl = λ p. plane (div-mul-add i h k hk p) (div-mul-add j v l hl p)

-- a component of one sample
pub alone : (rule : UpsampleRule) (plane : ℕ → ℕ → ℕ) (x row : ℕ) → x < across rule → row < down rule
    → upsampled rule plane 1 1 x row ≡ plane 0 0
unfolding upsampled
alone H1V1 plane x row hx hr = let a : x ≡ 0 = omega arith in let b : row ≡ 0 = omega arith in λ i. plane (a i) (b i)
alone H2V1 plane x row hx hr = grind (arith, common_steps, far_alone)
alone H1V2 plane x row hx hr = grind (arith, common_steps, far_alone)
alone H2V2 plane x row hx hr = grind (arith, common_steps, at_indices, far_alone)
alone (Generic h v) plane x row hx hr =
    let a : x / h ≡ 0 = ap (λ n. n / h) (let e : x ≡ 0 * h + x = omega arith in e) ∙ div-mul-add 0 h x hx in
    let b : row / v ≡ 0 = ap (λ n. n / v) (let e : row ≡ 0 * v + row = omega arith in e) ∙ div-mul-add 0 v row hr in
    λ i. plane (a i) (b i)

pub ruleset firsts = (alone, first_across, first_down, first_corner, first_column, first_line)

pub ruleset lasts = (last_across, last_down, last_corner, last_column, repeated)

-- Where the luma of a picture is shown, the component that is luma has all lines of the rows.
use Rattle.std.proofs.Common.{◌≡◌, ◌⊎◌, inl, inr, ℕ, ◌+◌, ◌-◌, ◌*◌, ◌<◌, ◌≤◌, List, [], ◌∷◌, map, min, Option, Some}
use Rattle.std.proofs.Common.{None, refl, sym, ap, ◌∙◌, subst, arith}
use Rattle.std.proofs.Math.Nat.{add-mul, lt_of_mul-lt-mul_left, mul-add, mul-le-mul_left, mul-le-mul_right}
use Rattle.std.proofs.Math.Nat.{mul_assoc, mul_comm}
use Rattle.jpeg_segments.specs.Frame.{Component, Factors, Frame, ceiling, greatest, most_across, most_down}
use Rattle.jpeg_segments.proofs.Ceilings.{ceiling-high, ceiling-le, ceiling-low}
use Rattle.jpeg_segments.proofs.FrameLemmas.{greatest-some}
use Rattle.jpeg_pixels.specs.Upsampling.{down, rule_of}
use Rattle.jpeg_pixels.specs.declared.upsample_rows.UpsampleRule.{UpsampleRule}
use Rattle.jpeg_pixels.specs.declared.upsample_rows.UpsampleRule.TheVariants.{H1V1, H2V1, H1V2, H2V2, Generic}
use Rattle.jpeg_pixels.proofs.RuleRatios.{Ratio, rule-ratios}
use Rattle.jpeg_meaning.proofs.Order.FrameShapes.{factors-scaled, is-sized, most_h, most_v, scaled_component}
use Rattle.jpeg_meaning.proofs.Pictures.LosslessSizes.{some-across, some-down}
use Rattle.jpeg_meaning.proofs.Written.BroughtLevels.{Made}
use Rattle.jpeg_evidence.specs.CompleteRows.{lines_for, lines_needed, sample_lines}

-- ---- lines by the factors of a component that has the height of the picture

rows-below : (n k v mv rows : ℕ) → n ≤ 8 * (rows + k) → mv * 8 * (rows + k) < n * v + mv * 8 → v ≤ mv
    → mv * rows < rows * v + mv
rows-below n k v mv rows low top le =
    let a : 8 * (rows + k) * v ≡ 8 * (rows * v + k * v) =
    mul_assoc 8 (rows + k) v ∙ ap (λ (j : ℕ). 8 * j) (add-mul rows k v) in
    let b : mv * 8 * (rows + k) ≡ 8 * (mv * rows + mv * k) =
    ap (λ (j : ℕ). j * (rows + k)) (mul_comm mv 8) ∙ mul_assoc 8 mv (rows + k)
    ∙ ap (λ (j : ℕ). 8 * j) (mul-add mv rows k) in
    let up : n * v ≤ 8 * (rows * v + k * v) = subst (λ (j : ℕ). n * v ≤ j) a (mul-le-mul_right v low) in
    let under : 8 * (mv * rows + mv * k) < n * v + mv * 8 = subst (λ (j : ℕ). j < n * v + mv * 8) b top in
    let more : k * v ≤ k * mv = mul-le-mul_left k le in
    let turn = mul_comm k mv in
    omega arith

no-more : (rows q v mv : ℕ) → mv * rows < rows * v + mv → rows * v ≤ mv * q → rows ≤ q
no-more rows q v mv above low =
    let next = mul-add mv q 1 in
    let below : rows < q + 1 = lt_of_mul-lt-mul_left mv (omega arith) in
    omega arith

no-fewer : (height s v mv rows : ℕ) → 0 < mv → v ≤ mv
    → ceiling (height * v * s) (mv * 8) ≡ ceiling (height * s) 8 → rows ≤ ceiling (height * s) 8
    → rows ≤ ceiling (rows * v) mv
no-fewer height s v mv rows some most tall few =
    let high = ceiling (height * s) 8 in
    let whole : rows + (high - rows) ≡ high = omega arith in
    let turn : height * v * s ≡ height * s * v =
    mul_assoc height v s ∙ ap (λ (j : ℕ). height * j) (mul_comm v s) ∙ sym (mul_assoc height s v) in
    let low = subst (λ (j : ℕ). height * s ≤ 8 * j) (sym whole) (ceiling-low (height * s) 8 (omega arith)) in
    let top = subst (λ (j : ℕ). mv * 8 * j < height * s * v + mv * 8) (tall ∙ sym whole)
    (subst (λ (j : ℕ). mv * 8 * ceiling (height * v * s) (mv * 8) < j + mv * 8) turn
    (ceiling-high (height * v * s) (mv * 8) (omega arith))) in
    no-more rows (ceiling (rows * v) mv) v mv (rows-below (height * s) (high - rows) v mv rows low top most)
    (ceiling-low (rows * v) mv some)

-- ---- lines by its rule

-- the lines that a rule needs stand for all the rows
rule-covers : (rule : UpsampleRule) (rows : ℕ) → 0 < down rule → rows ≤ down rule * lines_needed rule rows
rule-covers H1V1 rows some = omega arith
rule-covers H2V1 rows some = omega arith
rule-covers H1V2 rows some = omega arith
rule-covers H2V2 rows some = omega arith
rule-covers (Generic h v) rows some = ceiling-low rows v some

covered : (d v mv height rows lines : ℕ) → 0 < mv → Ratio v mv height d → rows ≤ d * lines
    → rows ≤ ceiling (rows * v) mv → rows ≤ lines
covered d v mv height rows lines some ratio covers many = go ratio.is
  where
    go : (mv ≡ v * d) ⊎ ((height ≡ 1) × (d ≡ 1)) → rows ≤ lines
    go (inl e) =
        let turn : d * lines * v ≡ mv * lines =
        mul_comm (d * lines) v ∙ sym (mul_assoc v d lines) ∙ ap (λ (j : ℕ). j * lines) (sym e) in
        let up : rows * v ≤ mv * lines = subst (λ (j : ℕ). rows * v ≤ j) turn (mul-le-mul_right v covers) in
        let least = ceiling-le (rows * v) mv lines some up in
        omega arith
    go (inr one) =
        let all : rows ≤ 1 * lines = subst (λ (j : ℕ). rows ≤ j * lines) one.1 covers in omega arith

all-lines : (frame : Frame) (rows : ℕ) (c : Component) → c.height ≡ frame.output_height
    → rows ≤ frame.output_height → rows ≤ sample_lines frame rows c → rows ≤ lines_for frame rows c
all-lines frame rows c tall few many =
    go (rule_of c.factors.horizontal c.factors.vertical (most_across frame.components) (most_down frame.components)
    frame.output_width frame.output_height) refl
  where
    go : (o : Option UpsampleRule)
        → rule_of c.factors.horizontal c.factors.vertical (most_across frame.components) (most_down frame.components)
        frame.output_width frame.output_height ≡ o
        → rows ≤ elim o as (λ _. ℕ) [
          | Some rule ↦ min c.height (lines_needed rule rows)
          | None ↦ min c.height (sample_lines frame rows c)
        ]
    go None e = omega arith
    go (Some rule) e =
        let ratios = rule-ratios c.factors.horizontal c.factors.vertical (most_across frame.components)
        (most_down frame.components) frame.output_width frame.output_height rule (some-across frame)
        (some-down frame) e in
        let needed = covered (down rule) c.factors.vertical (most_down frame.components) frame.output_height rows
        (lines_needed rule rows) (some-down frame) ratios.lines (rule-covers rule rows ratios.lines.some) many in
        omega arith

first-many : (s width height : ℕ) (xs : List Factors) (c : Component) (cs : List Component) (rows : ℕ)
    → c ∷ cs ≡ map (scaled_component s width height (most_h xs) (most_v xs)) xs
    → c.height ≡ ceiling (height * s) 8 → rows ≤ ceiling (height * s) 8
    → rows ≤ ceiling (rows * c.factors.vertical) (most_v xs)
first-many s width height [] c cs rows is tall few = absurd cc
first-many s width height (x ∷ xs) c cs rows is tall few =
    let same : scaled_component s width height (most_h (x ∷ xs)) (most_v (x ∷ xs)) x ≡ c = cc in
    subst (λ (d : Component). rows ≤ ceiling (rows * d.factors.vertical) (most_v (x ∷ xs))) same
    (no-fewer height s x.vertical (most_v (x ∷ xs)) rows (greatest-some (λ f. f.vertical) (x ∷ xs)) (omega arith)
    (ap (λ (d : Component). d.height) same ∙ tall) few)

-- the first component's lines, where it has the height of the picture
sample-many : (frame : Frame) (m : Made frame) (c : Component) (cs : List Component) (rows : ℕ)
    → frame.components ≡ c ∷ cs → c.height ≡ frame.output_height → rows ≤ frame.output_height
    → rows ≤ sample_lines frame rows c
sample-many frame m c cs rows is tall few =
    let z = is-sized frame m in
    let most : most_v m.factors ≡ most_down frame.components =
    ap (λ (l : List Factors). greatest (λ f. f.vertical) l)
    (sym (factors-scaled m.scale m.width m.height (most_h m.factors) (most_v m.factors) m.factors))
    ∙ ap (λ (l : List Component). most_down l) (sym z.components) in
    subst (λ (n : ℕ). rows ≤ ceiling (rows * c.factors.vertical) n) most
    (first-many m.scale m.width m.height m.factors c cs rows (sym is ∙ z.components) (tall ∙ z.height)
    (subst (λ (n : ℕ). rows ≤ n) z.height few))

-- The first component needs no fewer lines than there are rows, where it has the height of the picture.
pub luma-lines : (frame : Frame) (m : Made frame) (c : Component) (cs : List Component) (rows : ℕ)
    → frame.components ≡ c ∷ cs → c.height ≡ frame.output_height → rows ≤ frame.output_height
    → rows ≤ lines_for frame rows c
luma-lines frame m c cs rows is tall few =
    all-lines frame rows c tall few (sample-many frame m c cs rows is tall few)

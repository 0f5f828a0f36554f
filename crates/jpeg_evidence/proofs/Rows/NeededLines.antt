-- Rows of MCUs above the first block that a scan lacks have the lines that the complete rows need.
use Rattle.std.proofs.lemmas.Grind.{common_steps}
use Rattle.std.proofs.Common.{◌≡◌, ◌⊎◌, inl, inr, ℕ, zero, suc, ◌+◌, ◌-◌, ◌*◌, ◌/◌, ◌<◌, ◌≤◌, Bool, true}
use Rattle.std.proofs.Common.{false, List, [], ◌∷◌, min, slice_get, Option, Some, None, refl, sym, ap, ◌∙◌, arith}
use Rattle.std.proofs.Common.{subst}
use Rattle.std.proofs.Common.{if◌then◌else◌, true≢false}
use Rattle.std.proofs.Math.Nat.{le-div_iff_mul-le, mul-div_cancel, mul_assoc, mul_comm}
use Rattle.std.specs.List.{AllByRecursion, list_any}
use Rattle.jpeg_segments.specs.Frame.{Component, Frame, most_across, most_down}
use Rattle.jpeg_pixels.specs.Pictures.{blends_down, is_blended}
use Rattle.jpeg_pixels.specs.Upsampling.{down, rule_of}
use Rattle.jpeg_pixels.specs.declared.upsample_rows.UpsampleRule.{UpsampleRule}
use Rattle.jpeg_pixels.specs.declared.upsample_rows.UpsampleRule.TheVariants.{H1V1, H2V1, H1V2, H2V2, Generic}
use Rattle.jpeg_pixels.proofs.RuleRatios.{Ratio, rule-ratios}
use Rattle.jpeg_meaning.specs.InTurn.{Fits}
use Rattle.jpeg_meaning.specs.Order.{Spot}
use Rattle.jpeg_meaning.specs.WholeRows.{rows_above, rows_above_line, rows_apart, rows_of_lines}
use Rattle.jpeg_meaning.proofs.Order.Apart.{At, at-all, get-at}
use Rattle.jpeg_meaning.proofs.Order.FrameShapes.{ceiling-least}
use Rattle.jpeg_meaning.proofs.Pictures.LosslessSizes.{some-across, some-down}
use Rattle.jpeg_evidence.specs.CompleteRows.{lines_for, lines_needed, sample_lines}
use Rattle.jpeg_evidence.proofs.Rows.UnreadRows.{mcu-at, row_of}

-- ---- one rule

-- one row more where lines are blended
abbrev extra : Bool → ℕ
extra b = if b then 1 else 0

-- lines and the rows that they make
rows-made : (lines v mv n : ℕ) → 0 < v → mv ≡ v * n → lines * mv / v ≡ lines * n
rows-made lines v mv n some e =
    let turn : lines * mv ≡ lines * n * v = ap (λ (m : ℕ). lines * m) (e ∙ mul_comm v n) ∙ sym (mul_assoc lines n v) in
    ap (λ (m : ℕ). m / v) turn ∙ mul-div_cancel (lines * n) some

none-made : (mv v : ℕ) → 0 < v → 0 * mv / v ≡ 0
none-made mv v some =
    let none : 0 * mv ≡ 0 * v = omega arith in ap (λ (m : ℕ). m / v) none ∙ mul-div_cancel 0 some

-- by the ratio of the factors
by-ratio : (rule : UpsampleRule) (lines rows : ℕ) → 0 < down rule → 0 < rows
    → rows + extra (blends_down rule) ≤ lines * down rule → lines_needed rule rows ≤ lines
by-ratio H1V1 lines rows d some le = omega arith
by-ratio H2V1 lines rows d some le = omega arith
by-ratio H1V2 lines rows d some le = omega arith
by-ratio H2V2 lines rows d some le = omega arith
by-ratio (Generic h v) lines rows d some le = ceiling-least rows v lines d (omega arith)

-- a picture of one row
by-one : (rule : UpsampleRule) (lines : ℕ) → down rule ≡ 1 → 0 < lines → lines_needed rule 1 ≤ lines
by-one H1V1 lines d some = omega arith
by-one H2V1 lines d some = omega arith
by-one H1V2 lines d some = absurd (omega arith)
by-one H2V2 lines d some = absurd (omega arith)
by-one (Generic h v) lines d some =
    let one : v ≡ 1 = d in ceiling-least 1 v lines (omega arith) (rw one (omega arith))

enough : (rule : UpsampleRule) (v mv height lines rows : ℕ) → 0 < v → 0 < rows → rows ≤ height
    → Ratio v mv height (down rule) → rows + extra (blends_down rule) ≤ lines * mv / v
    → lines_needed rule rows ≤ lines
enough rule v mv height lines rows some rs few ratio le = go ratio.is
  where
    go : (mv ≡ v * down rule) ⊎ ((height ≡ 1) × (down rule ≡ 1)) → lines_needed rule rows ≤ lines
    go (inl e) =
        let made = rows-made lines v mv (down rule) some e in
        by-ratio rule lines rows ratio.some rs (omega arith)
    go (inr one) =
        let h = one.0 in
        let e : 1 ≡ rows = omega arith in
        subst (λ (n : ℕ). lines_needed rule n ≤ lines) e (by-one rule lines one.1 (there lines le))
      where
        there : (l : ℕ) → rows + extra (blends_down rule) ≤ l * mv / v → 0 < l
        there zero g = let k = none-made mv v some in absurd (omega arith)
        there (suc l) g = omega arith

-- ---- one component

-- So many lines of a component make these rows.
pub component-enough : (frame : Frame) (c : Component) (lines rows : ℕ) → 0 < c.factors.vertical → 0 < rows
    → rows ≤ frame.output_height → rows + extra (is_blended frame c) ≤ rows_of_lines frame c lines
    → lines_for frame rows c ≤ lines
unfolding is_blended
component-enough frame c lines rows some rs few le =
    go (rule_of c.factors.horizontal c.factors.vertical (most_across frame.components) (most_down frame.components)
    frame.output_width frame.output_height) refl le
  where
    go : (o : Option UpsampleRule)
        → rule_of c.factors.horizontal c.factors.vertical (most_across frame.components) (most_down frame.components)
        frame.output_width frame.output_height ≡ o
        → rows + extra (elim o as (λ _. Bool) [ Some rule ↦ blends_down rule | None ↦ false ])
        ≤ rows_of_lines frame c lines
        → elim o as (λ _. ℕ) [
          | Some rule ↦ min c.height (lines_needed rule rows)
          | None ↦ min c.height (sample_lines frame rows c)
        ] ≤ lines
    go None e le =
        let made : rows * c.factors.vertical ≤ lines * most_down frame.components =
        (le-div_iff_mul-le some).0 (omega arith) in
        let least = ceiling-least (rows * c.factors.vertical) (most_down frame.components) lines (some-down frame) made in
        omega arith
    go (Some rule) e le =
        let ratios = rule-ratios c.factors.horizontal c.factors.vertical (most_across frame.components)
        (most_down frame.components) frame.output_width frame.output_height rule (some-across frame)
        (some-down frame) e in
        let needed = enough rule c.factors.vertical (most_down frame.components) frame.output_height lines rows some rs
        few ratios.lines le in
        omega arith

-- ---- a scan

-- the rows of blocks of a component in this many rows of a scan
abbrev pub block_rows : List Component → Component → ℕ → ℕ
block_rows (c ∷ []) d rows = rows
block_rows components d rows = rows * d.factors.vertical

-- the components of a scan have one scale
abbrev pub OneScale : ℕ → List Component → Type 0
OneScale scale components = AllByRecursion (λ c. c.scale ≡ scale) components

any-at : (f : Component → Bool) (j : ℕ) (cs : List Component) (d : Component) → At j cs d → f d ≡ true
    → list_any f cs ≡ true
any-at f j [] d t e = absurd t
any-at f zero (c ∷ cs) d t e = grind (arith, common_steps)
any-at f (suc j) (c ∷ cs) d t e = let more = any-at f j cs d t e in grind (arith, common_steps)

pub apart-few : (frame : Frame) (cs : List Component) (rows : ℕ) → rows_apart frame cs rows ≤ rows
apart-few frame cs rows = go (list_any (is_blended frame) cs)
  where
    go : (b : Bool) → (if b then rows - 1 else rows) ≤ rows
    go true = omega arith
    go false = omega arith

apart-extra : (frame : Frame) (cs : List Component) (j : ℕ) (d : Component) (rows : ℕ) → At j cs d
    → 0 < rows_apart frame cs rows → rows_apart frame cs rows + extra (is_blended frame d) ≤ rows
apart-extra frame cs j d rows t some =
    go (list_any (is_blended frame) cs) refl (is_blended frame d) refl some
  where
    go : (b : Bool) → list_any (is_blended frame) cs ≡ b → (x : Bool) → is_blended frame d ≡ x
        → 0 < (if b then rows - 1 else rows) → (if b then rows - 1 else rows) + extra x ≤ rows
    go true e true g some = omega arith
    go true e false g some = omega arith
    go false e false g some = omega arith
    go false e true g some = absurd (true≢false (sym (any-at (is_blended frame) j cs d t g) ∙ e))

-- rows of MCUs, by any of their components
by-any : (rows v scale mv : ℕ) → 0 < v → rows * v * scale * mv / v ≡ rows * scale * mv
by-any rows v scale mv some =
    let turn : rows * v * scale * mv ≡ rows * scale * mv * v = grind (arith, common_steps, mul_assoc, mul_comm) in
    ap (λ (n : ℕ). n / v) turn ∙ mul-div_cancel (rows * scale * mv) some

several-rows : (frame : Frame) (c d : Component) (line rows scale : ℕ) → 0 < c.factors.vertical
    → 0 < d.factors.vertical → c.scale ≡ scale → d.scale ≡ scale → rows ≡ line / c.factors.vertical
    → rows_of_lines frame c (line / c.factors.vertical * c.factors.vertical * c.scale)
    ≡ rows_of_lines frame d (rows * d.factors.vertical * d.scale)
several-rows frame c d line rows scale a b e g is =
    let mv = most_down frame.components in
    ap (λ (n : ℕ). n * c.factors.vertical * c.scale * mv / c.factors.vertical) (sym is)
    ∙ by-any rows c.factors.vertical c.scale mv a ∙ ap (λ (n : ℕ). rows * n * mv) (e ∙ sym g)
    ∙ sym (by-any rows d.factors.vertical d.scale mv b)

line-rows : (frame : Frame) (cs : List Component) (s : Spot) (c d : Component) (j scale : ℕ)
    → AllByRecursion (Fits frame) cs → OneScale scale cs → At s.slot cs c → At j cs d
    → rows_above_line frame cs c (s.index / c.blocks_wide)
    ≡ rows_of_lines frame d (block_rows cs d (row_of cs s) * d.scale)
line-rows frame [] s c d j scale fits one at t = absurd t
line-rows frame (e ∷ []) s c d j scale fits one at t =
    alone s.slot j at t
  where
    alone : (i k : ℕ) → At i (e ∷ []) c → At k (e ∷ []) d
        → rows_of_lines frame c (s.index / c.blocks_wide * c.scale)
        ≡ rows_of_lines frame d (s.index / e.blocks_wide * d.scale)
    alone zero zero at t =
        ap (λ (x : Component). rows_of_lines frame x (s.index / x.blocks_wide * x.scale)) (sym at)
        ∙ ap (λ (x : Component). rows_of_lines frame x (s.index / e.blocks_wide * x.scale)) t
    alone zero (suc k) at t = absurd t
    alone (suc i) k at t = absurd at
line-rows frame (e ∷ g ∷ cs) s c d j scale fits one at t =
    let all = e ∷ g ∷ cs in
    several-rows frame c d (s.index / c.blocks_wide) (row_of all s) scale
    (at-all (Fits frame) s.slot all c fits at).vertical
    (at-all (Fits frame) j all d fits t).vertical (at-all (λ c. c.scale ≡ scale) s.slot all c one at)
    (at-all (λ c. c.scale ≡ scale) j all d one t) (mcu-at all s c at)

-- The lines of a component of a scan that the rows above a block need are in the rows of blocks above it.
pub scan-enough : (frame : Frame) (cs : List Component) (s : Spot) (d : Component) (j scale : ℕ)
    → AllByRecursion (Fits frame) cs → OneScale scale cs → At j cs d → 0 < rows_above frame cs s
    → lines_for frame (rows_above frame cs s) d ≤ block_rows cs d (row_of cs s) * d.scale
scan-enough frame cs s d j scale fits one t some = go (slice_get cs s.slot) refl some
  where
    rows_by : Option Component → ℕ
    rows_by o = elim o [
      | Some c ↦ rows_apart frame cs
          (min frame.output_height (rows_above_line frame cs c (s.index / c.blocks_wide)))
      | None ↦ 0
    ]

    go : (o : Option Component) → slice_get cs s.slot ≡ o → 0 < rows_by o
        → lines_for frame (rows_by o) d ≤ block_rows cs d (row_of cs s) * d.scale
    go None e some = absurd (omega arith)
    go (Some c) e some =
        let at = get-at s.slot cs c e in
        let all = rows_above_line frame cs c (s.index / c.blocks_wide) in
        let few = apart-few frame cs (min frame.output_height all) in
        let more = apart-extra frame cs j d (min frame.output_height all) t some in
        let same = line-rows frame cs s c d j scale fits one at t in
        component-enough frame d (block_rows cs d (row_of cs s) * d.scale) (rows_by (Some c))
        (at-all (Fits frame) j cs d fits t).vertical some (omega arith) (omega arith)

-- The lines of a picture that the last rows of MCUs of its planes decide are made of these rows alone, and stay as more
-- rows follow.
use Rattle.std.proofs.lemmas.Grind.{common_steps}
use Rattle.std.proofs.Common.{◌≡◌, ◌⊎◌, inl, inr, ℕ, zero, suc, ◌+◌, ◌-◌, ◌*◌, ◌/◌, ◌<◌, ◌≤◌, List, [], ◌∷◌, ◌++◌}
use Rattle.std.proofs.Common.{map}
use Rattle.std.proofs.Common.{min, drop, refl, sym, ap, ap₂, ◌∙◌, subst, arith, Bool, true, false, true≢false}
use Rattle.std.proofs.Common.{Option, Some, None}
use Rattle.std.proofs.Common.{Result, Ok, length, slice_index, if◌then◌else◌, ◌&&◌, ◌||◌}
use Rattle.std.specs.Prelude.{◌==◌, ok_or}
use Rattle.std.proofs.Math.Nat.{add-mul, add-mul-div_right, mul-le-mul, mul-le-mul_left, mul-le-mul_right}
use Rattle.std.proofs.Math.Nat.{mul_assoc, mul_comm, div-lt_iff_lt-mul}
use Rattle.std.proofs.lemmas.Bool.{eq-eqb, eqb-true, or_left, or_right}
use Rattle.std.proofs.lemmas.List.{get_or-drop, get_or_append_left}
use Rattle.std.specs.List.{AllByRecursion, list_any}
use Rattle.jpeg_bits.specs.Reading.{Fault, Lacks}
use Rattle.jpeg_bits.specs.declared.error.UnsupportedFeature.TheVariants.{NonIntegerSubsamplingRatio}
use Rattle.jpeg_segments.specs.Checks.{gathered}
use Rattle.jpeg_segments.specs.Frame.{Component, Factors, Frame, greatest, most_across, most_down}
use Rattle.jpeg_segments.proofs.Codecs.{bind-ok, ok-same}
use Rattle.jpeg_segments.proofs.FrameLemmas.{greatest-some}
use Rattle.jpeg_pixels.specs.declared.color_convert.ColorConvert.{ColorConvert}
use Rattle.jpeg_pixels.specs.declared.upsample_rows.UpsampleRule.{UpsampleRule}
use Rattle.jpeg_pixels.specs.declared.upsample_rows.UpsampleRule.TheVariants.{H1V1, H2V1, H1V2, H2V2, Generic}
use Rattle.jpeg_pixels.specs.Colour.{line_bytes}
use Rattle.jpeg_pixels.specs.Pictures.{AllCover, Covers, Source, blends_down, is_blended, line_of, lines_of}
use Rattle.jpeg_pixels.specs.Pictures.{picture_line}
use Rattle.jpeg_pixels.specs.Pictures.{source_of, sources_of}
use Rattle.jpeg_pixels.specs.Upsampling.{across, blended, divides, down, far_index, line_sum, rule_of, upsampled}
use Rattle.jpeg_pixels.proofs.RuleRatios.{Ratio, room-of, rule-ratios}
use Rattle.jpeg_pixels.proofs.SourceLists.{source-rule, source_with}
use Rattle.jpeg_meaning.specs.Sound.{IsDecodedFrame}
use Rattle.jpeg_meaning.proofs.Order.FrameShapes.{reaches-made}
use Rattle.jpeg_meaning.proofs.Pictures.UpsampledFactors.{AllReach, Reaches, map-same}
use Rattle.jpeg_meaning.proofs.Written.ReadTurns.{then-ok}
use Rattle.jpeg_meaning.specs.ScanSegments.{Coding}
use Rattle.jpeg_meaning.specs.Scans.{Arrays}
use Rattle.jpeg_decoder.specs.ByRows.{HaveRows, below, lines_decided, lines_from, strip_size, unit_lines}
use Rattle.jpeg_decoder.specs.ByRows.{window_component}
use Rattle.jpeg_decoder.specs.Strips.{with_strips}
use Rattle.jpeg_decoder.proofs.ByRows.FrameRows.{HasRows, StandsIn, decoded-made, decoded-rows}

-- ---- lines that rows of MCUs decide

-- So many rows of MCUs decide a line: it lies in them, and so does the one below where a component is blended, unless
-- they are all.
pub record IsDecided (f : Frame) (k y : ℕ) : Type 0 where
  pub inside : y < f.output_height
  pub within : y < k * unit_lines f.components
  pub apart : list_any (is_blended f) f.components ≡ true
      → (k ≡ f.mcus_high) ⊎ (y + 1 < k * unit_lines f.components)

pub is-decided : (f : Frame) → HasRows f → (k y : ℕ) → y < lines_decided f k → IsDecided f k y
unfolding lines_decided
is-decided f r k y lt = go (k == f.mcus_high) refl (list_any (is_blended f) f.components) refl lt
  where
    n : ℕ
    n = k * unit_lines f.components

    go : (b : Bool) → (k == f.mcus_high) ≡ b → (a : Bool) → list_any (is_blended f) f.components ≡ a
        → y < (if b then f.output_height else min f.output_height (if a then n - 1 else n)) → IsDecided f k y
    go true e a g lt =
        let same : k ≡ f.mcus_high = eqb-true k f.mcus_high e in
        let high = r.high in
        let whole : y < f.mcus_high * unit_lines f.components = omega arith in
        record {
          inside = lt;
          within = subst (λ (m : ℕ). y < m * unit_lines f.components) (sym same) whole;
          apart = λ h. inl same;
        }
    go false e true g lt =
        record { inside = omega arith; within = omega arith; apart = λ h. inr (omega arith) }
    go false e false g lt =
        record { inside = omega arith; within = omega arith; apart = λ h. absurd (true≢false (sym h ∙ g)) }

-- a line that they don't decide
undecided : (f : Frame) → HasRows f → (k y : ℕ) → k < f.mcus_high → lines_decided f k ≤ y
    → k * unit_lines f.components ≤ y + 1
unfolding lines_decided
undecided f r k y fewer le = go (k == f.mcus_high) refl (list_any (is_blended f) f.components) le
  where
    n : ℕ
    n = k * unit_lines f.components

    go : (b : Bool) → (k == f.mcus_high) ≡ b → (a : Bool)
        → (if b then f.output_height else min f.output_height (if a then n - 1 else n)) ≤ y
        → k * unit_lines f.components ≤ y + 1
    go true e a le = let same : k ≡ f.mcus_high = eqb-true k f.mcus_high e in absurd (omega arith)
    go false e true le = let low = r.low k fewer in omega arith
    go false e false le = let low = r.low k fewer in omega arith

-- ---- windows

-- A window lies in a frame: below no rows of MCUs, of one, or of two.
pub record IsWindow (f : Frame) (above rows : ℕ) : Type 0 where
  pub shape : ((above ≡ 0) × (rows ≡ 1)) ⊎ (rows ≡ 2)
  pub within : above + rows ≤ f.mcus_high

-- the lines of the picture that it has
abbrev pub window_height : Frame → ℕ → ℕ → ℕ
window_height f above rows =
    min (f.output_height - above * unit_lines f.components) (rows * unit_lines f.components)

-- A line is one that a window decides.
pub record InWindow (f : Frame) (above rows y : ℕ) : Type 0 where
  pub some : 0 < rows
  pub first : (above ≡ 0) ⊎ (above * unit_lines f.components + unit_lines f.components ≤ y + 1)
  pub decided : IsDecided f (above + rows) y

pub in-window : (f : Frame) → HasRows f → (above rows y : ℕ) → IsWindow f above rows
    → lines_decided f (above + rows - 1) ≤ y → y < lines_decided f (above + rows) → InWindow f above rows y
in-window f r above rows y w from to = go w.shape
  where
    go : ((above ≡ 0) × (rows ≡ 1)) ⊎ (rows ≡ 2) → InWindow f above rows y
    go (inl e) = record { some = omega (arith, e.1); first = inl e.0; decided = is-decided f r (above + rows) y to }
    go (inr e) =
        let within = w.within in
        let last : above + rows - 1 ≡ above + 1 = omega arith in
        let low = undecided f r (above + 1) y (omega arith) (subst (λ (k : ℕ). lines_decided f k ≤ y) last from) in
        let split : (above + 1) * unit_lines f.components
        ≡ above * unit_lines f.components + 1 * unit_lines f.components = add-mul above 1 (unit_lines f.components) in
        record {
          some = omega arith;
          first = inr (omega (arith, low, split));
          decided = is-decided f r (above + rows) y to;
        }

-- it lies below the rows above the window
pub below-top : (a u y : ℕ) → 0 < u → (a ≡ 0) ⊎ (a * u + u ≤ y + 1) → a * u ≤ y
below-top a u y some (inl e) = rw e (omega arith)
below-top a u y some (inr le) = omega arith

-- in a picture of one line none lie above
alone-top : (a u y : ℕ) → 0 < u → y < 1 → (a ≡ 0) ⊎ (a * u + u ≤ y + 1) → a ≡ 0
alone-top a u y some one (inl e) = e
alone-top zero u y some one (inr le) = refl
alone-top (suc a) u y some one (inr le) =
    let n : suc a * u ≡ a * u + u = omega arith in absurd (omega (arith, n))

-- ---- one sample

half-in : (w x : ℕ) → x < 2 * w → x / 2 < w
half-in w x lt = omega arith

far-in : (w x : ℕ) → 0 < w → x < 2 * w → far_index w x < w
far-in w x some lt = grind (arith, common_steps)

-- The lines of a component that a line of the picture is made of lie so far below those that another line is made of,
-- where the component has another height; the latter are among these.
record Moved (rule : UpsampleRule) (Among : ℕ → Type 0) (h g y z d : ℕ) : Type 0 where
  near : y / down rule ≡ z / down rule + d
  near_among : Among (z / down rule)
  far : blends_down rule ≡ true → far_index h y ≡ far_index g z + d
  far_among : blends_down rule ≡ true → Among (far_index g z)

moved-at : (Among : ℕ → Type 0) (w j k d i : ℕ) (p q : ℕ → ℕ → ℕ)
    → ((i j : ℕ) → i < w → Among j → q i j ≡ p i (j + d)) → i < w → Among j → k ≡ j + d → q i j ≡ p i k
moved-at Among w j k d i p q same lt here e = same i j lt here ∙ ap (p i) (sym e)

upsampled-moved : (rule : UpsampleRule) (Among : ℕ → Type 0) (w h g width x y z d : ℕ) (p q : ℕ → ℕ → ℕ) → 0 < w
    → 0 < across rule → width ≤ across rule * w → x < width → Moved rule Among h g y z d
    → ((i j : ℕ) → i < w → Among j → q i j ≡ p i (j + d))
    → upsampled rule q w g x z ≡ upsampled rule p w h x y
unfolding upsampled
upsampled-moved H1V1 Among w h g width x y z d p q some ratio wide lt m same =
    let one : z / 1 ≡ z = omega arith in
    let near = m.near in
    moved-at Among w z y d x p q same (omega arith) (subst Among one m.near_among) (omega arith)
upsampled-moved H2V1 Among w h g width x y z d p q some ratio wide lt m same =
    let one : z / 1 ≡ z = omega arith in
    let near = m.near in
    let at : (i : ℕ) → i < w → q i z ≡ p i y =
    λ i lt. moved-at Among w z y d i p q same lt (subst Among one m.near_among) (omega arith) in
    ap₂ blended (at (x / 2) (half-in w x (omega arith))) (at (far_index w x) (far-in w x some (omega arith)))
upsampled-moved H1V2 Among w h g width x y z d p q some ratio wide lt m same =
    ap₂ blended (moved-at Among w (z / 2) (y / 2) d x p q same (omega arith) m.near_among m.near)
    (moved-at Among w (far_index g z) (far_index h y) d x p q same (omega arith) (m.far_among refl) (m.far refl))
upsampled-moved H2V2 Among w h g width x y z d p q some ratio wide lt m same =
    ap₂ (λ (s t : ℕ). (3 * s + t + 8) / 16) (sums (x / 2) (half-in w x (omega arith)))
    (sums (far_index w x) (far-in w x some (omega arith)))
  where
    sums : (i : ℕ) → i < w → line_sum q g z i ≡ line_sum p h y i
    sums i lt = ap₂ (λ (s t : ℕ). 3 * s + t)
        (moved-at Among w (z / 2) (y / 2) d i p q same lt m.near_among m.near)
        (moved-at Among w (far_index g z) (far_index h y) d i p q same lt (m.far_among refl) (m.far refl))
upsampled-moved (Generic u v) Among w h g width x y z d p q some ratio wide lt m same =
    let t = mul_comm u w in
    moved-at Among w (z / v) (y / v) d (x / u) p q same ((div-lt_iff_lt-mul ratio).1 (omega arith)) m.near_among m.near

-- ---- the sources of a frame

-- how a component of a frame is upsampled
record HasSource (f : Frame) (c : Component) (s : Source) : Type 0 where
  stands : StandsIn f c
  rule : rule_of c.factors.horizontal c.factors.vertical (most_across f.components) (most_down f.components)
      f.output_width f.output_height ≡ Some s.rule
  is : source_with c s.rule ≡ s
  reaches : Reaches s f.output_width f.output_height
  ratio : Ratio c.factors.vertical (most_down f.components) f.output_height (down s.rule)

unfoldable HaveSources : Frame → List Component → List Source → Type 0
HaveSources f [] [] = Unit {0}
HaveSources f (c ∷ cs) (s ∷ sources) = HasSource f c s × HaveSources f cs sources
HaveSources f _ _ = ⊥

abbrev frame_source : Frame → Component → Result Source Fault
frame_source f = source_of (most_across f.components) (most_down f.components) f.output_width f.output_height

have-sources : (f : Frame) (cs : List Component) (sources : List Source) → AllByRecursion (StandsIn f) cs
    → gathered (frame_source f) cs ≡ Ok sources → AllReach sources f.output_width f.output_height
    → HaveSources f cs sources
unfolding gathered HaveSources
have-sources f [] sources stand e reach = subst (λ (l : List Source). HaveSources f [] l) (ok-same [] sources e) tt
have-sources f (c ∷ cs) sources stand e reach =
    let one = bind-ok (frame_source f c) _ sources e in
    let rest = bind-ok (gathered (frame_source f) cs) _ sources one.2 in
    let same = ok-same (one.0 ∷ rest.0) sources rest.2 in
    let reach2 = subst (λ (l : List Source). AllReach l f.output_width f.output_height) (sym same) reach in
    let h = f.output_height in
    let w = f.output_width in
    let mh = most_across f.components in
    let mv = most_down f.components in
    let r = source-rule mh mv w h c one.0 one.1 in
    let by = ap (λ (s : Source). s.rule) r.2 in
    let rule = subst (λ (x : UpsampleRule). rule_of c.factors.horizontal c.factors.vertical mh mv w h ≡ Some x) by
    r.1 in
    subst (λ (l : List Source). HaveSources f (c ∷ cs) l) same (
      record {
        stands = stand.0;
        rule = rule;
        is = subst (λ (x : UpsampleRule). source_with c x ≡ one.0) by r.2;
        reaches = reach2.0;
        ratio = (rule-ratios c.factors.horizontal c.factors.vertical mh mv w h one.0.rule
            (greatest-some (λ x. x.horizontal) (map (λ c. c.factors) f.components))
            (greatest-some (λ x. x.vertical) (map (λ c. c.factors) f.components)) rule).lines;
      },
      have-sources f cs rest.0 stand.1 rest.1 reach2.1,
    )

decoded-have-sources : (f : Frame) (p : IsDecodedFrame f) (sources : List Source)
    → sources_of f.components f.output_width f.output_height ≡ Ok sources → HaveSources f f.components sources
decoded-have-sources f p sources e =
    have-sources f f.components sources (decoded-rows f p).stand e (reaches-made f sources (decoded-made f p) e)

-- ---- where the lines of a window lie

-- the lines of a component that a row of MCUs has
abbrev pub strip_lines : Component → ℕ
strip_lines c = c.factors.vertical * c.scale

-- by the ratio of a component
unit-lines : (f : Frame) (c : Component) (s : Source) → HasSource f c s
    → (unit_lines f.components ≡ strip_lines c * down s.rule)
    ⊎ ((f.output_height ≡ 1) × (down s.rule ≡ 1))
unit-lines f c s x = go x.ratio.is
  where
    go : (most_down f.components ≡ c.factors.vertical * down s.rule) ⊎ ((f.output_height ≡ 1) × (down s.rule ≡ 1))
        → (unit_lines f.components ≡ strip_lines c * down s.rule) ⊎ ((f.output_height ≡ 1) × (down s.rule ≡ 1))
    go (inl e) =
        let turn : c.factors.vertical * down s.rule * c.scale ≡ c.factors.vertical * c.scale * down s.rule
        = grind (arith, common_steps, mul_assoc, mul_comm) in
        inl (x.stands.unit ∙ ap (λ (n : ℕ). n * c.scale) e ∙ turn)
    go (inr e) = inr e

-- the nearer line
near-moved : (a u l k y : ℕ) → 0 < k → u ≡ l * k → a * u ≤ y → y / k ≡ (y - a * u) / k + a * l
near-moved a u l k y some e le =
    let n : a * u ≡ a * l * k = ap (λ (m : ℕ). a * m) e ∙ sym (mul_assoc a l k) in
    let at : y ≡ (y - a * u) + a * l * k = omega arith in
    ap (λ (m : ℕ). m / k) at ∙ add-mul-div_right (y - a * u) (a * l) some

-- the farther one, where a component has half as many lines: t lines of it lie above the window, which has r
far-moved : (t r l h y z : ℕ) → 0 < l → 0 < r → y ≡ z + 2 * t → (t ≡ 0) ⊎ (2 * t + 2 * l ≤ y + 1) → y < 2 * h
    → (h ≤ t + r) ⊎ (y + 1 < 2 * t + 2 * r) → far_index h y ≡ far_index (min (h - t) r) z + t
far-moved t r l h y z some rows e first reach last = grind (arith, common_steps)

some-product : (a b : ℕ) → 0 < a → 0 < b → 0 < a * b
some-product a b some more = let p : 1 * 1 ≤ a * b = mul-le-mul some more in omega arith

-- a window of all rows above, where none lie above it
near-same : (a u l k y : ℕ) → a ≡ 0 → y / k ≡ (y - a * u) / k + a * l
near-same a u l k y none =
    let top : y - a * u ≡ y = rw none (omega arith) in
    let few : a * l ≡ 0 = rw none (omega arith) in
    rw (top, few) (omega arith)

far-in-window : (a n u l h y : ℕ) → 0 < l → 0 < n → u ≡ l * 2 → (a ≡ 0) ⊎ (a * u + u ≤ y + 1) → a * u ≤ y
    → y < 2 * h → (h ≤ (a + n) * l) ⊎ (y + 1 < (a + n) * u)
    → far_index h y ≡ far_index (min (h - a * l) (n * l)) (y - a * u) + a * l
far-in-window a n u l h y some rows e first low reach last =
    far-moved (a * l) (n * l) l h y (y - a * u) some (some-product n l rows some) (omega (arith, above, low))
    (from first) reach (to last)
  where
    above : a * u ≡ 2 * (a * l)
    above = let m = ap (λ (x : ℕ). a * x) e in let p = mul_assoc a l 2 in omega (arith, m, p)

    whole : (a + n) * u ≡ 2 * (a * l) + 2 * (n * l)
    whole =
        let m = ap (λ (x : ℕ). n * x) e in
        let p = mul_assoc n l 2 in
        let s = add-mul a n u in omega (arith, above, m, p, s)

    from : (a ≡ 0) ⊎ (a * u + u ≤ y + 1) → (a * l ≡ 0) ⊎ (2 * (a * l) + 2 * l ≤ y + 1)
    from (inl none) = inl (rw none (omega arith))
    from (inr le) = inr (omega (arith, above, e, le))

    to : (h ≤ (a + n) * l) ⊎ (y + 1 < (a + n) * u) → (h ≤ a * l + n * l) ⊎ (y + 1 < 2 * (a * l) + 2 * (n * l))
    to (inl le) = inl (let s = add-mul a n l in omega (arith, s, le))
    to (inr lt) = inr (omega (arith, whole, lt))

-- a rule that blends lines makes two of each
blends-two : (rule : UpsampleRule) → blends_down rule ≡ true → down rule ≡ 2
blends-two H1V1 e = absurd (true≢false (sym e))
blends-two H2V1 e = absurd (true≢false (sym e))
blends-two H1V2 e = refl
blends-two H2V2 e = refl
blends-two (Generic u v) e = absurd (true≢false (sym e))

some-lines : (f : Frame) (c : Component) → StandsIn f c → 0 < strip_lines c
some-lines f c x = some-product c.factors.vertical c.scale x.some x.some_scale

-- where lines of a component are blended, either all rows of MCUs are there, or the line below too
abbrev Apart : Frame → Source → ℕ → ℕ → Type 0
Apart f s k y = blends_down s.rule ≡ true → (k ≡ f.mcus_high) ⊎ (y + 1 < k * unit_lines f.components)

twice : (f : Frame) (c : Component) (s : Source) → HasSource f c s → blends_down s.rule ≡ true
    → unit_lines f.components ≡ strip_lines c * 2
twice f c s x e =
    let two = blends-two s.rule e in
    elim (unit-lines f c s x) [
      | inl u ↦ u ∙ ap (λ (n : ℕ). strip_lines c * n) two
      | inr u ↦ absurd (let one = u.1 in omega arith)
    ]

-- the lines that blended ones are made of are there
reached : (f : Frame) (c : Component) (s : Source) (k y : ℕ) → HasSource f c s
    → (k ≡ f.mcus_high) ⊎ (y + 1 < k * unit_lines f.components)
    → (s.height ≤ k * strip_lines c) ⊎ (y + 1 < k * unit_lines f.components)
reached f c s k y x (inr lt) = inr lt
reached f c s k y x (inl e) =
    let height : c.height ≡ s.height = ap (λ (z : Source). z.height) x.is in
    inl (subst (λ (n : ℕ). s.height ≤ n * strip_lines c) (sym e)
    (subst (λ (n : ℕ). n ≤ f.mcus_high * strip_lines c) height x.stands.within))

window-near : (f : Frame) (c : Component) (s : Source) (above rows y : ℕ) → HasRows f → HasSource f c s
    → InWindow f above rows y
    → y / down s.rule ≡ (y - above * unit_lines f.components) / down s.rule + above * strip_lines c
window-near f c s above rows y r x w = near (unit-lines f c s x)
  where
    low : above * unit_lines f.components ≤ y
    low = below-top above (unit_lines f.components) y r.some_unit w.first

    near : (unit_lines f.components ≡ strip_lines c * down s.rule) ⊎ ((f.output_height ≡ 1) × (down s.rule ≡ 1))
        → y / down s.rule ≡ (y - above * unit_lines f.components) / down s.rule + above * strip_lines c
    near (inl e) = near-moved above (unit_lines f.components) (strip_lines c) (down s.rule) y x.ratio.some e low
    near (inr e) =
        let inside = w.decided.inside in
        let one = e.0 in
        near-same above (unit_lines f.components) (strip_lines c) (down s.rule) y
        (alone-top above (unit_lines f.components) y r.some_unit (omega arith) w.first)

window-moved : (f : Frame) (c : Component) (s : Source) (above rows y : ℕ) → HasRows f → HasSource f c s
    → InWindow f above rows y → Apart f s (above + rows) y
    → Moved s.rule (λ _. Unit {0}) s.height (min (s.height - above * strip_lines c) (rows * strip_lines c)) y
    (y - above * unit_lines f.components) (above * strip_lines c)
window-moved f c s above rows y r x w apart = record {
  near = window-near f c s above rows y r x w;
  near_among = tt;
  far = λ e.
      let two = blends-two s.rule e in
      let reach = x.reaches.high_enough in
      let most : down s.rule * s.height ≡ 2 * s.height = ap (λ (n : ℕ). n * s.height) two in
      let inside = w.decided.inside in
      far-in-window above rows u (strip_lines c) s.height y (some-lines f c x.stands) w.some (twice f c s x e) w.first
      low (omega arith) (reached f c s (above + rows) y x (apart e));
  far_among = λ e. tt;
}
  where
    u : ℕ
    u = unit_lines f.components

    low : above * unit_lines f.components ≤ y
    low = below-top above (unit_lines f.components) y r.some_unit w.first

-- ---- the lines of a window

-- A component's source as it stands in a window.
abbrev pub window_source : ℕ → ℕ → Component → Source → Source
window_source above rows c s =
    record s { height = min (s.height - above * strip_lines c) (rows * strip_lines c) }

unfoldable pub window_sources : ℕ → ℕ → List Component → List Source → List Source
window_sources above rows (c ∷ cs) (s ∷ sources) =
    window_source above rows c s ∷ window_sources above rows cs sources
window_sources above rows _ _ = []

-- a sample of a plane below some rows
shifted : (a l t j i : ℕ) (plane : List ℕ)
    → slice_index (drop (a * (l * t)) plane) (j * t + i) ≡ slice_index plane ((j + a * l) * t + i)
shifted a l t j i plane =
    let x = add-mul j (a * l) t in
    let y = mul_assoc a l t in
    get_or-drop (a * (l * t)) plane (j * t + i) 0 ∙ ap (slice_index plane) (omega (arith, x, y))

line-in-window : (f : Frame) (c : Component) (s : Source) (above rows y : ℕ) (plane : List ℕ) → HasRows f
    → HasSource f c s → InWindow f above rows y → Apart f s (above + rows) y
    → line_of (window_source above rows c s) (drop (above * strip_size c) plane) f.output_width
    (y - above * unit_lines f.components) ≡ line_of s plane f.output_width y
line-in-window f c s above rows y plane r x w apart =
    let stride : c.blocks_wide * c.scale ≡ s.stride = ap (λ (z : Source). z.stride) x.is in
    let m = window-moved f c s above rows y r x w apart in
    map-same _ _ 0 f.output_width (λ i from to.
    upsampled-moved s.rule (λ _. Unit {0}) s.width s.height _ f.output_width i y (y - above * unit_lines f.components)
    (above * strip_lines c) (λ i j. slice_index plane (j * s.stride + i))
    (λ i j. slice_index (drop (above * strip_size c) plane) (j * s.stride + i)) x.reaches.some_width
    x.reaches.some_across x.reaches.wide_enough (omega arith) m (λ i j lt here.
    subst (λ (t : ℕ). slice_index (drop (above * strip_size c) plane) (j * t + i)
    ≡ slice_index plane ((j + above * strip_lines c) * t + i)) stride
    (shifted above (strip_lines c) (c.blocks_wide * c.scale) j i plane)))

-- whether a component is blended, by its rule
blends : (f : Frame) (c : Component) (s : Source) → HasSource f c s → is_blended f c ≡ blends_down s.rule
unfolding is_blended
blends f c s x =
    ap (λ (o : Option UpsampleRule). elim o as (λ _. Bool) [ Some rule ↦ blends_down rule | None ↦ false ]) x.rule

-- so for each of some components
abbrev AllApart : Frame → List Component → ℕ → ℕ → Type 0
AllApart f cs k y = list_any (is_blended f) cs ≡ true → (k ≡ f.mcus_high) ⊎ (y + 1 < k * unit_lines f.components)

apart-first : (f : Frame) (c : Component) (cs : List Component) (s : Source) (k y : ℕ) → HasSource f c s
    → AllApart f (c ∷ cs) k y → Apart f s k y
apart-first f c cs s k y x apart e =
    apart (or_left (is_blended f c) (list_any (is_blended f) cs) (blends f c s x ∙ e))

apart-rest : (f : Frame) (c : Component) (cs : List Component) (k y : ℕ) → AllApart f (c ∷ cs) k y → AllApart f cs k y
apart-rest f c cs k y apart e = apart (or_right (is_blended f c) (list_any (is_blended f) cs) e)

lines-in-window : (f : Frame) (above rows y : ℕ) → HasRows f → InWindow f above rows y → (cs : List Component)
    (sources : List Source) (planes : List (List ℕ)) (n : ℕ) → HaveSources f cs sources → HaveRows n cs planes
    → AllApart f cs (above + rows) y
    → lines_of (window_sources above rows cs sources) (below above cs planes) f.output_width
    (y - above * unit_lines f.components) ≡ lines_of sources planes f.output_width y
unfolding lines_of window_sources below HaveSources HaveRows
lines-in-window f above rows y r w [] [] planes n x have apart = refl
lines-in-window f above rows y r w (c ∷ cs) (s ∷ sources) (plane ∷ planes) n x have apart =
    ap₂ (λ (l : List ℕ) (ls : List (List ℕ)). l ∷ ls)
    (line-in-window f c s above rows y plane r x.0 w (apart-first f c cs s (above + rows) y x.0 apart))
    (lines-in-window f above rows y r w cs sources planes n x.1 have.1 (apart-rest f c cs (above + rows) y apart))
lines-in-window f above rows y r w [] (s ∷ sources) planes n x have apart = absurd x
lines-in-window f above rows y r w (c ∷ cs) [] planes n x have apart = absurd x
lines-in-window f above rows y r w (c ∷ cs) (s ∷ sources) [] n x have apart = absurd have

-- A line of the picture that a window decides is made of the window.
pub window-line : (f : Frame) (p : IsDecodedFrame f) (convert : ColorConvert) (sources : List Source)
    (planes : List (List ℕ)) (above rows y : ℕ)
    → sources_of f.components f.output_width f.output_height ≡ Ok sources
    → HaveRows (above + rows) f.components planes → IsWindow f above rows
    → lines_decided f (above + rows - 1) ≤ y → y < lines_decided f (above + rows)
    → picture_line convert (window_sources above rows f.components sources) (below above f.components planes)
    f.output_width (y - above * unit_lines f.components) ≡ picture_line convert sources planes f.output_width y
unfolding picture_line
window-line f p convert sources planes above rows y e have w from to =
    let r = decoded-rows f p in
    let l = in-window f r above rows y w from to in
    ap (line_bytes convert f.output_width) (lines-in-window f above rows y r l f.components sources planes
    (above + rows) (decoded-have-sources f p sources e) have l.decided.apart)

-- ---- the sources of a window

one-or-more : (n : ℕ) → 0 < n → (n ≡ 1) ⊎ (1 < n)
one-or-more zero some = absurd (omega arith)
one-or-more (suc zero) some = inl refl
one-or-more (suc (suc n)) some = inr (omega arith)

one-factor : (m s : ℕ) → 0 < m → 0 < s → m * s ≡ 1 → m ≡ 1
one-factor m s some scaled e = let p : m * 1 ≤ m * s = mul-le-mul_left m scaled in omega arith

-- two heights, of which either is one line or none is
abbrev AlikeOne : ℕ → ℕ → Type 0
AlikeOne a b = (a ≡ 1 → b ≡ 1) × (b ≡ 1 → a ≡ 1)

-- A picture and its window have one line alike, but for where no component has fewer lines than another.
one-line : (f : Frame) (c : Component) (above rows : ℕ) → HasRows f → StandsIn f c → IsWindow f above rows
    → (most_down f.components ≡ 1) ⊎ AlikeOne f.output_height (window_height f above rows)
one-line f c above rows r x w = go w.shape
  where
    u : ℕ
    u = unit_lines f.components

    whole : above ≡ 0 → rows ≡ 1 → (u ≡ 1) ⊎ (1 < u)
        → (most_down f.components ≡ 1) ⊎ AlikeOne f.output_height (window_height f above rows)
    whole a n (inl e) =
        inl (one-factor (most_down f.components) c.scale
        (greatest-some (λ k. k.vertical) (map (λ d. d.factors) f.components)) x.some_scale (sym x.unit ∙ e))
    whole a n (inr lt) =
        let none : above * u ≡ 0 = rw a (omega arith) in
        let one : rows * u ≡ u = rw n (omega arith) in
        inr (λ e. omega (arith, none, one, lt, e), λ e. omega (arith, none, one, lt, e))

    go : ((above ≡ 0) × (rows ≡ 1)) ⊎ (rows ≡ 2)
        → (most_down f.components ≡ 1) ⊎ AlikeOne f.output_height (window_height f above rows)
    go (inl e) = whole e.0 e.1 (one-or-more u r.some_unit)
    go (inr e) =
        let within = w.within in
        let low = r.low (above + 1) (omega arith) in
        let split = add-mul above 1 u in
        let two : rows * u ≡ 2 * u = ap (λ (n : ℕ). n * u) e in
        let some = r.some_unit in
        inr (λ h. absurd (omega (arith, low, split, some, h)), λ h. absurd (omega (arith, low, split, some, two, h)))

-- the rule of a component by whether it has the greatest vertical factor, or the picture one line
abbrev rule_by : ℕ → ℕ → ℕ → ℕ → ℕ → Bool → Option UpsampleRule
rule_by h v most_h most_v width v1 =
    let h1 = h == most_h || width == 1 in
    let h2 = 2 * h == most_h in
    let v2 = 2 * v == most_v in
    if h1 && v1 then Some H1V1 else (
    if h2 && v1 then Some H2V1 else (
    if h1 && v2 then Some H1V2 else (
    if h2 && v2 then Some H2V2 else (
    if divides h most_h && divides v most_v
    then Some (Generic (most_h / h) (most_v / v)) else None))))

one-test : (a b : ℕ) → AlikeOne a b → (a == 1) ≡ (b == 1)
one-test a b e = go (a == 1) refl (b == 1) refl
  where
    go : (x : Bool) → (a == 1) ≡ x → (y : Bool) → (b == 1) ≡ y → x ≡ y
    go true p true q = refl
    go false p false q = refl
    go true p false q = absurd (true≢false (sym (eq-eqb b 1 (e.0 (eqb-true a 1 p))) ∙ q))
    go false p true q = absurd (true≢false (sym (eq-eqb a 1 (e.1 (eqb-true b 1 q))) ∙ p))

-- A rule depends on the height only where that is 1.
rule-same : (h v most_h most_v width a b : ℕ) → 0 < v → v ≤ most_v → (most_v ≡ 1) ⊎ AlikeOne a b
    → rule_of h v most_h most_v width a ≡ rule_of h v most_h most_v width b
unfolding rule_of
rule-same h v most_h most_v width a b some le e = ap (rule_by h v most_h most_v width) (same e)
  where
    same : (most_v ≡ 1) ⊎ AlikeOne a b → (v == most_v || a == 1) ≡ (v == most_v || b == 1)
    same (inl one) =
        let whole = eq-eqb v most_v (omega arith) in rw whole refl
    same (inr alike) = ap (λ (t : Bool). v == most_v || t) (one-test a b alike)

abbrev window_ok : ℕ → ℕ → Component → Source → Result Source Fault
window_ok above rows c s = Ok (window_source above rows c s)

-- A component in a window has its source there.
source-in-window : (f : Frame) (c : Component) (s : Source) (above rows : ℕ) → HasRows f → HasSource f c s
    → IsWindow f above rows
    → source_of (most_across f.components) (most_down f.components) f.output_width (window_height f above rows)
    (window_component above rows c) ≡ Ok (window_source above rows c s)
unfolding source_of
source-in-window f c s above rows r x w =
    let g = sym (rule-same c.factors.horizontal c.factors.vertical (most_across f.components) (most_down f.components)
    f.output_width f.output_height (window_height f above rows) x.stands.some x.stands.most
    (one-line f c above rows r x.stands w)) ∙ x.rule in
    then-ok (ok_or (rule_of c.factors.horizontal c.factors.vertical (most_across f.components) (most_down f.components)
    f.output_width (window_height f above rows)) (Lacks NonIntegerSubsamplingRatio)) _ s.rule _
    (ap (λ (o : Option UpsampleRule). ok_or o (Lacks NonIntegerSubsamplingRatio)) g)
    (ap (λ (z : Source). window_ok above rows c z) x.is)

sources-in-window : (f : Frame) (above rows : ℕ) → HasRows f → IsWindow f above rows → (cs : List Component)
    (sources : List Source) → HaveSources f cs sources
    → gathered (source_of (most_across f.components) (most_down f.components) f.output_width
    (window_height f above rows)) (map (window_component above rows) cs) ≡ Ok (window_sources above rows cs sources)
unfolding gathered window_sources HaveSources
sources-in-window f above rows r w [] [] x = refl
sources-in-window f above rows r w (c ∷ cs) (s ∷ sources) x =
    then-ok _ _ (window_source above rows c s) _ (source-in-window f c s above rows r x.0 w)
    (then-ok _ _ (window_sources above rows cs sources) _ (sources-in-window f above rows r w cs sources x.1) refl)
sources-in-window f above rows r w [] (s ∷ sources) x = absurd x
sources-in-window f above rows r w (c ∷ cs) [] x = absurd x

factors-kept : (above rows : ℕ) (cs : List Component)
    → map (λ c. c.factors) (map (window_component above rows) cs) ≡ map (λ c. c.factors) cs
factors-kept above rows [] = refl
factors-kept above rows (c ∷ cs) = ap (λ (l : List Factors). c.factors ∷ l) (factors-kept above rows cs)

-- The components of a window have their sources, by the same rules.
pub window-sources : (f : Frame) (p : IsDecodedFrame f) (sources : List Source) (above rows : ℕ)
    → sources_of f.components f.output_width f.output_height ≡ Ok sources → IsWindow f above rows
    → sources_of (map (window_component above rows) f.components) f.output_width (window_height f above rows)
    ≡ Ok (window_sources above rows f.components sources)
window-sources f p sources above rows e w =
    subst (λ (l : List Factors). gathered (source_of (greatest (λ c. c.horizontal) l) (greatest (λ c. c.vertical) l)
    f.output_width (window_height f above rows)) (map (window_component above rows) f.components)
    ≡ Ok (window_sources above rows f.components sources)) (sym (factors-kept above rows f.components))
    (sources-in-window f above rows (decoded-rows f p) w f.components sources (decoded-have-sources f p sources e))

-- ---- room for the lines of a window

-- how many lines of a component a line of a window reaches
reaches-in-window : (f : Frame) (c : Component) (s : Source) (above rows y : ℕ) → HasRows f → HasSource f c s
    → InWindow f above rows y
    → (y - above * unit_lines f.components) / down s.rule
    < min (s.height - above * strip_lines c) (rows * strip_lines c)
reaches-in-window f c s above rows y r x w =
    let own : y < s.height * down s.rule =
    let t = mul_comm (down s.rule) s.height in
    let reach = x.reaches.high_enough in
    let inside = w.decided.inside in omega (arith, t, reach, inside) in
    let a = (div-lt_iff_lt-mul x.ratio.some).1 own in
    let b = (div-lt_iff_lt-mul x.ratio.some).1 (there (unit-lines f c s x)) in
    let near = window-near f c s above rows y r x w in
    omega (arith, a, b, near)
  where
    low : above * unit_lines f.components ≤ y
    low = below-top above (unit_lines f.components) y r.some_unit w.first

    there : (unit_lines f.components ≡ strip_lines c * down s.rule) ⊎ ((f.output_height ≡ 1) × (down s.rule ≡ 1))
        → y - above * unit_lines f.components < rows * strip_lines c * down s.rule
    there (inl e) =
        let m = ap (λ (n : ℕ). rows * n) e in
        let p = mul_assoc rows (strip_lines c) (down s.rule) in
        let split = add-mul above rows (unit_lines f.components) in
        let within = w.decided.within in
        omega (arith, low, m, p, split, within)
    there (inr e) =
        let some = some-product rows (strip_lines c) w.some (some-lines f c x.stands) in
        let m : rows * strip_lines c * down s.rule ≡ rows * strip_lines c * 1 =
        ap (λ (n : ℕ). rows * strip_lines c * n) e.1 in
        let inside = w.decided.inside in
        let one = e.0 in
        omega (arith, some, m, inside, one)

covers-in-window : (f : Frame) (c : Component) (s : Source) (above rows y : ℕ) (plane : List ℕ) → HasRows f
    → HasSource f c s → InWindow f above rows y → length plane ≡ rows * strip_size c
    → Covers (window_source above rows c s) plane f.output_width (y - above * unit_lines f.components + 1)
covers-in-window f c s above rows y plane r x w long =
    let h = min (s.height - above * strip_lines c) (rows * strip_lines c) in
    let z = y - above * unit_lines f.components in
    let k = down s.rule in
    let reach : z / k < h = reaches-in-window f c s above rows y r x w in
    let high : z < h * k = (div-lt_iff_lt-mul x.ratio.some).0 reach in
    let turn = mul_comm h k in
    let stride : c.blocks_wide * c.scale ≡ s.stride = ap (λ (q : Source). q.stride) x.is in
    let width : c.width ≡ s.width = ap (λ (q : Source). q.width) x.is in
    let inside = x.stands.inside in
    let room : (h - 1) * (c.blocks_wide * c.scale) + c.width
    ≤ rows * strip_lines c * (c.blocks_wide * c.scale)
    = room-of c.width h (c.blocks_wide * c.scale) (rows * strip_lines c) (omega arith) inside (omega arith) in
    let all = mul_assoc rows (strip_lines c) (c.blocks_wide * c.scale) in
    record {
      some_width = x.reaches.some_width;
      some_across = x.reaches.some_across;
      some_down = x.reaches.some_down;
      wide_enough = x.reaches.wide_enough;
      high_enough = omega (arith, high, turn);
      room = subst (λ (t : ℕ). (h - 1) * t + s.width ≤ length plane) stride
          (subst (λ (t : ℕ). (h - 1) * (c.blocks_wide * c.scale) + t ≤ length plane) width
          (omega (arith, room, all, long)));
    }

all-cover-in-window : (f : Frame) (above rows y : ℕ) → HasRows f → InWindow f above rows y → (cs : List Component)
    (sources : List Source) (planes : List (List ℕ)) → HaveSources f cs sources → HaveRows rows cs planes
    → AllCover (window_sources above rows cs sources) planes f.output_width (y - above * unit_lines f.components + 1)
unfolding AllCover window_sources HaveSources HaveRows
all-cover-in-window f above rows y r w [] [] planes x have = tt
all-cover-in-window f above rows y r w (c ∷ cs) (s ∷ sources) (plane ∷ planes) x have = (
  covers-in-window f c s above rows y plane r x.0 w have.0,
  all-cover-in-window f above rows y r w cs sources planes x.1 have.1,
)
all-cover-in-window f above rows y r w [] (s ∷ sources) planes x have = absurd x
all-cover-in-window f above rows y r w (c ∷ cs) [] planes x have = absurd x
all-cover-in-window f above rows y r w (c ∷ cs) (s ∷ sources) [] x have = absurd have

-- A window has the samples of each line that it decides.
pub window-covers : (f : Frame) (p : IsDecodedFrame f) (sources : List Source) (window : List (List ℕ))
    (above rows y : ℕ) → sources_of f.components f.output_width f.output_height ≡ Ok sources
    → HaveRows rows f.components window → IsWindow f above rows → lines_decided f (above + rows - 1) ≤ y
    → y < lines_decided f (above + rows)
    → AllCover (window_sources above rows f.components sources) window f.output_width
    (y - above * unit_lines f.components + 1)
window-covers f p sources window above rows y e have w from to =
    let r = decoded-rows f p in
    all-cover-in-window f above rows y r (in-window f r above rows y w from to) f.components sources window
    (decoded-have-sources f p sources e) have

-- ---- lines stay as more rows of MCUs follow

-- a plane that goes on after another
abbrev pub GoesOn : List ℕ → List ℕ → Type 0
GoesOn plane other = (more : List ℕ) × (other ≡ plane ++ more)

-- each plane does
unfoldable pub AllGoOn : List (List ℕ) → List (List ℕ) → Type 0
AllGoOn [] [] = Unit {0}
AllGoOn (plane ∷ planes) (other ∷ others) = GoesOn plane other × AllGoOn planes others
AllGoOn _ _ = ⊥

-- Planes go on by the samples of a row of MCUs.
pub strips-go-on : (codings : List Coding) (arrays : Arrays) (planes : List (List ℕ))
    → length codings ≡ length planes → length arrays ≡ length planes
    → AllGoOn planes (with_strips codings arrays planes)
unfolding AllGoOn with_strips
strips-go-on [] arrays [] count blocks = tt
strips-go-on (c ∷ codings) (a ∷ arrays) (plane ∷ planes) count blocks =
    ((_, refl), strips-go-on codings arrays planes (omega arith) (omega arith))
strips-go-on [] arrays (plane ∷ planes) count blocks = absurd (omega arith)
strips-go-on (c ∷ codings) arrays [] count blocks = absurd (omega arith)
strips-go-on (c ∷ codings) [] (plane ∷ planes) count blocks = absurd (omega arith)

some-count : (k u y : ℕ) → y < k * u → 0 < k
some-count zero u y lt = absurd (let none : zero * u ≡ 0 = omega arith in omega (arith, none, lt))
some-count (suc k) u y lt = omega arith

far-kept : (t h y : ℕ) → y < 2 * h → y < 2 * t → (h ≤ t) ⊎ (y + 1 < 2 * t) → far_index h y < t
far-kept t h y reach within last = grind (arith, common_steps)

kept-moved : (f : Frame) (c : Component) (s : Source) (k y : ℕ) → HasSource f c s → IsDecided f k y → Apart f s k y
    → Moved s.rule (λ j. j < k * strip_lines c) s.height s.height y y 0
kept-moved f c s k y x decided apart = record {
  near = omega arith;
  near_among = (div-lt_iff_lt-mul x.ratio.some).1 (near (unit-lines f c s x));
  far = λ e. omega arith;
  far_among = λ e. far (twice f c s x e) (reached f c s k y x (apart e)) e;
}
  where
    near : (unit_lines f.components ≡ strip_lines c * down s.rule) ⊎ ((f.output_height ≡ 1) × (down s.rule ≡ 1))
        → y < k * strip_lines c * down s.rule
    near (inl e) =
        let m = ap (λ (n : ℕ). k * n) e in
        let p = mul_assoc k (strip_lines c) (down s.rule) in
        let within = decided.within in omega (arith, m, p, within)
    near (inr e) =
        let some = some-product k (strip_lines c) (some-count k (unit_lines f.components) y decided.within)
        (some-lines f c x.stands) in
        let m : k * strip_lines c * down s.rule ≡ k * strip_lines c * 1 =
        ap (λ (n : ℕ). k * strip_lines c * n) e.1 in
        let inside = decided.inside in
        let one = e.0 in
        omega (arith, some, m, inside, one)

    far : unit_lines f.components ≡ strip_lines c * 2
        → (s.height ≤ k * strip_lines c) ⊎ (y + 1 < k * unit_lines f.components) → blends_down s.rule ≡ true
        → far_index s.height y < k * strip_lines c
    far e last b =
        let m = ap (λ (n : ℕ). k * n) e in
        let p = mul_assoc k (strip_lines c) 2 in
        let within = decided.within in
        let two = ap (λ (n : ℕ). n * s.height) (blends-two s.rule b) in
        let reach = x.reaches.high_enough in
        let inside = decided.inside in
        far-kept (k * strip_lines c) s.height y (omega (arith, two, reach, inside)) (omega (arith, m, p, within))
        (elim last [ inl le ↦ inl le | inr lt ↦ inr (omega (arith, m, p, lt)) ])

-- a sample of a plane that goes on
sample-kept : (t n i j : ℕ) (plane other : List ℕ) → GoesOn plane other → j < n → i < t → length plane ≡ n * t
    → slice_index other (j * t + i) ≡ slice_index plane ((j + 0) * t + i)
sample-kept t n i j plane other on low lt long =
    let up : (j + 1) * t ≤ n * t = mul-le-mul_right t (omega arith) in
    let next = add-mul j 1 t in
    let same : (j + 0) * t ≡ j * t = ap (λ (m : ℕ). m * t) (omega arith) in
    ap (λ (l : List ℕ). slice_index l (j * t + i)) on.1
    ∙ get_or_append_left plane on.0 0 (j * t + i) (omega (arith, up, next, long))
    ∙ ap (slice_index plane) (omega (arith, same))

line-kept : (f : Frame) (c : Component) (s : Source) (k y : ℕ) (plane other : List ℕ) → HasSource f c s
    → IsDecided f k y → Apart f s k y → length plane ≡ k * strip_size c → GoesOn plane other
    → line_of s other f.output_width y ≡ line_of s plane f.output_width y
line-kept f c s k y plane other x decided apart long on =
    let stride : c.blocks_wide * c.scale ≡ s.stride = ap (λ (q : Source). q.stride) x.is in
    let width : c.width ≡ s.width = ap (λ (q : Source). q.width) x.is in
    let inside = x.stands.inside in
    let all = mul_assoc k (strip_lines c) (c.blocks_wide * c.scale) in
    let m = kept-moved f c s k y x decided apart in
    map-same _ _ 0 f.output_width (λ i from to.
    upsampled-moved s.rule (λ j. j < k * strip_lines c) s.width s.height s.height f.output_width i y y 0
    (λ i j. slice_index plane (j * s.stride + i)) (λ i j. slice_index other (j * s.stride + i)) x.reaches.some_width
    x.reaches.some_across x.reaches.wide_enough (omega arith) m (λ i j lt low.
    subst (λ (t : ℕ). slice_index other (j * t + i) ≡ slice_index plane ((j + 0) * t + i)) stride
    (sample-kept (c.blocks_wide * c.scale) (k * strip_lines c) i j plane other on low (omega arith)
    (omega (arith, long, all)))))

lines-kept : (f : Frame) (k y : ℕ) → IsDecided f k y → (cs : List Component) (sources : List Source)
    (planes others : List (List ℕ)) → HaveSources f cs sources → HaveRows k cs planes → AllGoOn planes others
    → AllApart f cs k y → lines_of sources others f.output_width y ≡ lines_of sources planes f.output_width y
unfolding lines_of HaveSources HaveRows AllGoOn
lines-kept f k y decided [] [] planes others x have on apart = refl
lines-kept f k y decided (c ∷ cs) (s ∷ sources) (plane ∷ planes) (other ∷ others) x have on apart =
    ap₂ (λ (l : List ℕ) (ls : List (List ℕ)). l ∷ ls)
    (line-kept f c s k y plane other x.0 decided (apart-first f c cs s k y x.0 apart) have.0 on.0)
    (lines-kept f k y decided cs sources planes others x.1 have.1 on.1 (apart-rest f c cs k y apart))
lines-kept f k y decided [] (s ∷ sources) planes others x have on apart = absurd x
lines-kept f k y decided (c ∷ cs) [] planes others x have on apart = absurd x
lines-kept f k y decided (c ∷ cs) (s ∷ sources) [] others x have on apart = absurd have
lines-kept f k y decided (c ∷ cs) (s ∷ sources) (plane ∷ planes) [] x have on apart = absurd on

-- A line that rows of MCUs decide stays as more of them follow.
pub line-stays : (f : Frame) (p : IsDecodedFrame f) (convert : ColorConvert) (sources : List Source)
    (planes others : List (List ℕ)) (k y : ℕ) → sources_of f.components f.output_width f.output_height ≡ Ok sources
    → HaveRows k f.components planes → AllGoOn planes others → y < lines_decided f k
    → picture_line convert sources others f.output_width y ≡ picture_line convert sources planes f.output_width y
unfolding picture_line
line-stays f p convert sources planes others k y e have on lt =
    let decided = is-decided f (decoded-rows f p) k y lt in
    ap (line_bytes convert f.output_width) (lines-kept f k y decided f.components sources planes others
    (decoded-have-sources f p sources e) have on decided.apart)

-- and so do those up to it
pub lines-stay : (f : Frame) (p : IsDecodedFrame f) (convert : ColorConvert) (sources : List Source)
    (planes others : List (List ℕ)) (k first count : ℕ)
    → sources_of f.components f.output_width f.output_height ≡ Ok sources
    → HaveRows k f.components planes → AllGoOn planes others → first + count ≤ lines_decided f k
    → lines_from f convert sources others first count ≡ lines_from f convert sources planes first count
lines-stay f p convert sources planes others k first count e have on le =
    map-same (picture_line convert sources others f.output_width) (picture_line convert sources planes f.output_width)
    first count (λ y from to. line-stays f p convert sources planes others k y e have on (omega arith))

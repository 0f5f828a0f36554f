-- Frames that are read have the blocks that the order of a scan goes over.
use Rattle.std.proofs.lemmas.Grind.{common_steps}
use Rattle.std.proofs.Common.{rules, ◌≡◌, ◌≢◌, ℕ, zero, suc, ◌*◌, ◌<◌, ◌≤◌, true, List, [], ◌∷◌}
use Rattle.std.proofs.Common.{map, length, Ok, refl, sym, ap, ◌∙◌, subst, arith, inl}
use Rattle.std.proofs.lemmas.Bool.{eqb-true}
use Rattle.std.proofs.lemmas.Bool.Decides.{leb_tells}
use Rattle.std.proofs.Math.Nat.{le-div_iff_mul-le, add-mul, one-mul, mul_assoc, mul_comm, mul-le-mul_right, mul-le-mul}
use Rattle.std.specs.List.{AllByRecursion}
use Rattle.jpeg_segments.specs.declared.frame.CodingProcess.TheVariants.{Lossless}
use Rattle.jpeg_segments.specs.Frame.{Frame, Factors, IsInRange, frame_of, ceiling, component_of, greatest, Component}
use Rattle.jpeg_pixels.specs.Pictures.{Source, sources_of, source_of, AllCover, AreWhole, Covers, HasSources}
use Rattle.jpeg_segments.specs.Scales.{frame_at, component_at}
use Rattle.jpeg_segments.proofs.ScaleLemmas.{full_size, factors-back}
use Rattle.jpeg_meaning.specs.Segments.{accepted, is_decoded_count}
use Rattle.jpeg_meaning.proofs.Order.OwnSpots.{At}
use Rattle.jpeg_meaning.proofs.Order.Apart.{at-all}
use Rattle.jpeg_segments.proofs.Codecs.{bind-ok}
use Rattle.jpeg_meaning.proofs.Written.BroughtLevels.{Made, Shaped}
use Rattle.jpeg_segments.proofs.Ceilings.{ceiling-low, ceiling-le}
use Rattle.jpeg_meaning.specs.InTurn.{Fits}
use Rattle.jpeg_segments.specs.Checks.{gathered}
use Rattle.jpeg_pixels.proofs.SourceLists.{source-rule}
use Rattle.jpeg_pixels.proofs.RuleRatios.{reach-end, rule-ratios, some-ceiling, in-blocks, room-of}
use Rattle.jpeg_meaning.proofs.Written.ReadTurns.{ok-same, bind-ok}
use Rattle.jpeg_meaning.proofs.Pictures.UpsampledFactors.{Reaches, AllReach, Upsampled, sources-back, sources-some}
use Rattle.jpeg_segments.proofs.FrameLemmas.{greatest-some}

-- the own blocks of a component are among those of all MCUs
pub own-within : (width h m s : ℕ) → 0 < h → h ≤ m → 0 < s
    → ceiling (ceiling (width * h * s) (m * 8)) s ≤ ceiling width (8 * m) * h
own-within width h m s some most scaled =
    let b = ceiling width (8 * m) in
    let low : width ≤ (8 * m) * b = ceiling-low width (8 * m) (omega arith) in
    let wide : width * h * s ≤ ((8 * m) * b) * h * s = mul-le-mul_right s (mul-le-mul_right h low) in
    let e : ((8 * m) * b) * h * s ≡ (m * 8) * (s * (b * h))
    = search (rules, mul_assoc, mul_comm) in
    let one : ceiling (width * h * s) (m * 8) ≤ s * (b * h) = search (rules, ceiling-le) in
    ceiling-le (ceiling (width * h * s) (m * 8)) s (b * h) scaled one

-- ---- components fit their frame

all-fit : (frame : Frame) (scale width height h v : ℕ) (xs : List Factors) → 0 < scale
    → frame.mcus_wide ≡ ceiling width (8 * h) → frame.mcus_high ≡ ceiling height (8 * v)
    → AllByRecursion IsInRange xs → greatest (λ c. c.horizontal) xs ≤ h → greatest (λ c. c.vertical) xs ≤ v
    → AllByRecursion (Fits frame) (map (component_at scale width height h v) (map (component_of width height h v) xs))
unfolding component_of component_at
all-fit frame scale width height h v [] some wide high range across down = tt
all-fit frame scale width height h v (x ∷ xs) some wide high range across down =
    search (rules, own-within, width, height, wide, high, all-fit frame scale width height h v xs)

-- The components of a frame at a scale fit it.
pub scaled-frames-fit : (scale number precision width height : ℕ) (xs : List Factors) → 0 < scale
    → AllByRecursion IsInRange xs
    → AllByRecursion (Fits (frame_at scale (frame_of number precision width height xs)))
    (frame_at scale (frame_of number precision width height xs)).components
unfolding frame_of frame_at
scaled-frames-fit scale number precision width height xs some range = search (rules, factors-back, all-fit)

-- and those of a frame that is read, which is at full size
pub frames-fit : (number precision width height : ℕ) (xs : List Factors) → AllByRecursion IsInRange xs
    → AllByRecursion (Fits (frame_of number precision width height xs))
    (frame_of number precision width height xs).components
frames-fit number precision width height xs range =
    subst (λ (g : Frame). AllByRecursion (Fits g) g.components) (full_size number precision width height xs)
    (scaled-frames-fit 8 number precision width height xs (omega arith) range)

-- ---- rounding up

pub below-ceiling : (x a b : ℕ) → 0 < b → (x < ceiling a b → x * b < a) × (x * b < a → x < ceiling a b)
below-ceiling x a b h = search (rules, add-mul, one-mul, le-div_iff_mul-le)

pub ceiling-least : (a b c : ℕ) → 0 < b → a ≤ c * b → ceiling a b ≤ c
ceiling-least a b c h le = search (rules, leb_tells, below-ceiling)

pub ceiling-covers : (a b : ℕ) → 0 < b → a ≤ ceiling a b * b
ceiling-covers a b h = search (rules, leb_tells, below-ceiling)

-- ---- frames that are read

-- a frame that is read
pub record Plain (f : Frame) : Type 0 where
  pub number : ℕ
  pub precision : ℕ
  pub width : ℕ
  pub height : ℕ
  pub factors : List Factors
  pub in_range : AllByRecursion IsInRange factors
  pub some_width : 0 < width
  pub some_height : 0 < height
  pub is : f ≡ frame_of number precision width height factors

pub frame-lossy : (number precision width height : ℕ) (cs : List Factors) → number ≤ 2
    → (frame_of number precision width height cs).process ≢ Lossless
unfolding frame_of
frame-lossy number precision width height cs h = search rules

-- ---- full size

abbrev pub made-at : (f : Frame) (s : ℕ) → Plain f → 0 < s → Made (frame_at s f)
made-at f s o h = grind (arith, common_steps)

pub plain-size : (f : Frame) → Plain f → frame_at 8 f ≡ f
plain-size f o = ap (frame_at 8) o.is ∙ full_size o.number o.precision o.width o.height o.factors ∙ sym o.is

-- ---- shapes

pub at-mapped : {A B : Type 0} (g : A → B) (k : ℕ) (xs : List A) (y : B) → At k (map g xs) y
    → (x : A) × At k xs x × (g x ≡ y)
at-mapped g k [] y h = absurd h
at-mapped g zero (x ∷ xs) y h = (x, refl, h)
at-mapped g (suc k) (x ∷ xs) y h = at-mapped g k xs y h

pub count-few : (n : ℕ) → is_decoded_count n ≡ true → (0 < n) × (n ≤ 4)
count-few n h = search (rules, eqb-true)

pub accepted-facts : (f g : Frame) → accepted f ≡ Ok g
    → (is_decoded_count (length f.components) ≡ true)
    × ((sources : List Source) × (sources_of f.components f.output_width f.output_height ≡ Ok sources))
unfolding accepted
accepted-facts f g h = search (rules, bind-ok)

pub accepted-few : (f g : Frame) → accepted f ≡ Ok g → length f.components ≤ 4
accepted-few f g h = (count-few (length f.components) (accepted-facts f g h).0).1

-- Frames that are read and accepted have this shape.
pub all-shaped : (f : Frame) → Plain f → f.process ≢ Lossless → accepted f ≡ Ok f → Shaped f
all-shaped f o lossy ok = record {
  made = subst Made (plain-size f o) (made-at f 8 o (omega arith));
  few = accepted-few f f ok;
  fits = search (rules, at-all, frames-fit);
  lossy = lossy;
}

pub accepted-sources : (f g : Frame) → accepted f ≡ Ok g
    → (sources : List Source) × (sources_of f.components f.output_width f.output_height ≡ Ok sources)
accepted-sources f g h = (accepted-facts f g h).1

-- a component of these factors at a scale
abbrev pub scaled_component : ℕ → ℕ → ℕ → ℕ → ℕ → Factors → Component
scaled_component s width height h v x = record {
  factors = x;
  scale = s;
  width = ceiling (width * x.horizontal * s) (h * 8);
  height = ceiling (height * x.vertical * s) (v * 8);
  blocks_wide = ceiling width (8 * h) * x.horizontal;
  blocks_high = ceiling height (8 * v) * x.vertical;
}

components-scaled : (s width height h v : ℕ) (xs : List Factors)
    → map (component_at s width height h v) (map (component_of width height h v) xs)
    ≡ map (scaled_component s width height h v) xs
unfolding component_of component_at
components-scaled s width height h v [] = refl
components-scaled s width height h v (x ∷ xs) = rw (components-scaled s width height h v xs) refl

abbrev pub most_h : List Factors → ℕ
most_h xs = greatest (λ f. f.horizontal) xs

abbrev pub most_v : List Factors → ℕ
most_v xs = greatest (λ f. f.vertical) xs

pub frame-components : (s number precision width height : ℕ) (xs : List Factors)
    → (frame_at s (frame_of number precision width height xs)).components
    ≡ map (scaled_component s width height (most_h xs) (most_v xs)) xs
unfolding frame_at frame_of
frame-components s number precision width height xs = search (rules, factors-back, components-scaled)

-- ---- all components

reaches-one : (s width height mh mv : ℕ) (x : Factors) (source : Source) → 0 < s → 0 < width
    → 0 < height → 0 < mh → 0 < mv → IsInRange x → source_of mh mv (ceiling (width * s) 8)
    (ceiling (height * s) 8) (scaled_component s width height mh mv x) ≡ Ok source
    → Reaches source (ceiling (width * s) 8) (ceiling (height * s) 8)
reaches-one s width height mh mv x source ss w h a b r e =
    let z = source-rule mh mv (ceiling (width * s) 8) (ceiling (height * s) 8)
    (scaled_component s width height mh mv x) source e in
    let ratios = rule-ratios x.horizontal x.vertical mh mv (ceiling (width * s) 8) (ceiling (height * s) 8) z.0 a b z.1 in
    let p : 1 * 1 ≤ width * x.horizontal * s = mul-le-mul (mul-le-mul w r.horizontal_some) ss in
    let q : 1 * 1 ≤ height * x.vertical * s = mul-le-mul (mul-le-mul h r.vertical_some) ss in
    subst (λ (y : Source). Reaches y (ceiling (width * s) 8) (ceiling (height * s) 8)) z.2
    (search (rules, some-ceiling, reach-end))

reaches-all : (s width height mh mv : ℕ) (xs : List Factors) (sources : List Source) → 0 < s → 0 < width → 0 < height
    → 0 < mh → 0 < mv → AllByRecursion IsInRange xs
    → gathered (source_of mh mv (ceiling (width * s) 8) (ceiling (height * s) 8))
    (map (scaled_component s width height mh mv) xs) ≡ Ok sources
    → AllReach sources (ceiling (width * s) 8) (ceiling (height * s) 8)
unfolding gathered
reaches-all s width height mh mv [] sources ss w h a b range e = search (rules, ok-same)
reaches-all s width height mh mv (x ∷ xs) sources ss w h a b range e =
    grind (arith, common_steps, bind-ok, width, height, ok-same, reaches-one, reaches-all s width height mh mv xs)

pub factors-scaled : (s width height h v : ℕ) (xs : List Factors)
    → map (λ c. c.factors) (map (scaled_component s width height h v) xs) ≡ xs
factors-scaled s width height h v [] = refl
factors-scaled s width height h v (x ∷ xs) = ap (λ (l : List Factors). x ∷ l) (factors-scaled s width height h v xs)

reaches-frame : (s width height : ℕ) (xs : List Factors) (sources : List Source) → 0 < s → 0 < width → 0 < height
    → AllByRecursion IsInRange xs
    → sources_of (map (scaled_component s width height (most_h xs) (most_v xs)) xs) (ceiling (width * s) 8)
    (ceiling (height * s) 8) ≡ Ok sources
    → AllReach sources (ceiling (width * s) 8) (ceiling (height * s) 8)
reaches-frame s width height xs sources ss w h range e =
    reaches-all s width height (most_h xs) (most_v xs) xs sources ss w h (greatest-some (λ f. f.horizontal) xs)
    (greatest-some (λ f. f.vertical) xs) range
    (search (rules, factors-scaled))

-- a frame that is made of factors has these components, and this size
pub record IsSized (f : Frame) (m : Made f) : Type 0 where
  pub components : f.components
      ≡ map (scaled_component m.scale m.width m.height (most_h m.factors) (most_v m.factors)) m.factors
  pub width : f.output_width ≡ ceiling (m.width * m.scale) 8
  pub height : f.output_height ≡ ceiling (m.height * m.scale) 8

pub is-sized : (f : Frame) (m : Made f) → IsSized f m
unfolding frame_at frame_of
is-sized f m = record {
  components = ap (λ (x : Frame). x.components) m.is
      ∙ frame-components m.scale m.number m.precision m.width m.height m.factors;
  width = ap (λ (x : Frame). x.output_width) m.is;
  height = ap (λ (x : Frame). x.output_height) m.is;
}

pub reaches-made : (f : Frame) (sources : List Source) → Made f
    → sources_of f.components f.output_width f.output_height ≡ Ok sources
    → AllReach sources f.output_width f.output_height
reaches-made f sources m e =
    let z = is-sized f m in
    search (rules, reaches-frame)

pub scale-made : (f : Frame) → Made f → (k : ℕ) (c : Component) → At k f.components c → 0 < c.scale
scale-made f m k c t =
    let z = is-sized f m in
    let x = at-mapped (scaled_component m.scale m.width m.height (most_h m.factors) (most_v m.factors)) k m.factors c
    (subst (λ (l : List Component). At k l c) z.components t) in
    subst (λ (d : Component). 0 < d.scale) x.2 m.some_scale

one-of : (s width height : ℕ) (xs : List Factors) (c : Component) → 0 < s → 0 < width → 0 < height
    → AllByRecursion IsInRange xs → map (scaled_component s width height (most_h xs) (most_v xs)) xs ≡ c ∷ []
    → (ceiling (width * s) 8 ≤ c.width) × (ceiling (height * s) 8 ≤ c.height)
one-of s width height (x ∷ []) c ss w h range e =
    let hs = range.0.horizontal_some in
    let vs = range.0.vertical_some in
    let mh : most_h (x ∷ []) ≡ x.horizontal * 1 = omega arith in
    let mv : most_v (x ∷ []) ≡ x.vertical * 1 = omega arith in
    let a = reach-end width x.horizontal (most_h (x ∷ [])) s 1 w hs (omega arith) ss
    (record { some = omega arith; is = inl mh }) in
    let b = reach-end height x.vertical (most_v (x ∷ [])) s 1 h vs (omega arith) ss
    (record { some = omega arith; is = inl mv }) in
    let first : scaled_component s width height (most_h (x ∷ [])) (most_v (x ∷ [])) x ≡ c = cc in
    let p : ceiling (width * x.horizontal * s) (most_h (x ∷ []) * 8) ≡ c.width =
    ap (λ (d : Component). d.width) first in
    let q : ceiling (height * x.vertical * s) (most_v (x ∷ []) * 8) ≡ c.height =
    ap (λ (d : Component). d.height) first in
    (omega arith, omega arith)
one-of s width height n c ss w h range e = absurd (let n = ap length e in omega arith)

-- one component has all samples of the picture
pub one-made : (f : Frame) (c : Component) → Made f → f.components ≡ c ∷ []
    → (f.output_width ≤ c.width) × (f.output_height ≤ c.height)
one-made f c m e =
    let z = is-sized f m in
    let r = one-of m.scale m.width m.height m.factors c m.some_scale m.some_width m.some_height m.in_range
    (sym z.components ∙ e) in
    (search rules)

-- ---- components

all-kept : (s width height mh mv a b a' b' : ℕ) (xs : List Factors) → (a ≡ 1 → a' ≡ 1) → (b ≡ 1 → b' ≡ 1)
    → AllByRecursion (λ c. Upsampled mh mv a b c.factors) (map (scaled_component 8 width height mh mv) xs)
    → AllByRecursion (λ c. Upsampled mh mv a' b' c.factors) (map (scaled_component s width height mh mv) xs)
all-kept s width height mh mv a b a' b' [] f g h = tt
all-kept s width height mh mv a b a' b' (x ∷ xs) f g h =
    search (rules, all-kept s width height mh mv a b a' b' xs f g h.1)

-- ---- frames

one-wide : (n s : ℕ) → 0 < s → s ≤ 8 → ceiling (n * 8) 8 ≡ 1 → 0 < n → ceiling (n * s) 8 ≡ 1
one-wide n s a b e some = search (rules, ceiling-covers, ceiling-least, some-ceiling)

-- the frame at a scale has a way to upsample each component
pub frame-sources : (f : Frame) (s : ℕ) (sources : List Source) → Plain f → 0 < s → s ≤ 8
    → sources_of f.components f.output_width f.output_height ≡ Ok sources → (others : List Source)
    × (sources_of (frame_at s f).components (frame_at s f).output_width (frame_at s f).output_height ≡ Ok others)
frame-sources f s sources o a b e =
    let z = is-sized (frame_at s f) (made-at f s o a) in
    let z8 = is-sized (frame_at 8 f) (made-at f 8 o (omega arith)) in
    let full = plain-size f o in
    let mh = most_h o.factors in
    let mv = most_v o.factors in
    let cs = map (scaled_component s o.width o.height mh mv) o.factors in
    let at8 : sources_of (map (scaled_component 8 o.width o.height mh mv) o.factors) (ceiling (o.width * 8) 8)
    (ceiling (o.height * 8) 8) ≡ Ok sources
    = search rules in
    let by8 : gathered (source_of mh mv (ceiling (o.width * 8) 8) (ceiling (o.height * 8) 8))
    (map (scaled_component 8 o.width o.height mh mv) o.factors) ≡ Ok sources
    = search (rules, factors-scaled) in
    let others = sources-some mh mv (ceiling (o.width * s) 8) (ceiling (o.height * s) 8) cs
    (all-kept s o.width o.height mh mv _ _ _ _ o.factors (λ k. one-wide o.width s a b k o.some_width)
    (λ k. one-wide o.height s a b k o.some_height) (sources-back mh mv _ _ _ sources by8)) in
    let back : sources_of cs (ceiling (o.width * s) 8) (ceiling (o.height * s) 8) ≡ Ok others.0
    = search (rules, factors-scaled) in
    grind arith

-- ---- one component

-- the samples of a component stand in its blocks
record InBlocks (c : Component) : Type 0 where
  wide : c.width ≤ c.blocks_wide * c.scale
  high : c.height ≤ c.blocks_high * c.scale

all-inside : (s width height h v : ℕ) (xs : List Factors) → 0 < h → 0 < v
    → AllByRecursion InBlocks (map (scaled_component s width height h v) xs)
all-inside s width height h v [] a b = tt
all-inside s width height h v (x ∷ xs) a b = search (rules, in-blocks, all-inside s width height h v xs a b)

covers : (h v width height : ℕ) (c : Component) (source : Source) (plane : List ℕ)
    → InBlocks c → length plane ≡ (c.blocks_high * c.scale) * (c.blocks_wide * c.scale)
    → source_of h v width height c ≡ Ok source → Reaches source width height → Covers source plane width height
covers h v width height c source plane inside size e reach =
    let same = (source-rule h v width height c source e).2 in
    let r = subst (λ (s : Source). Reaches s width height) (sym same) reach in
    grind (
      arith,
      room-of c.width c.height (c.blocks_wide * c.scale) (c.blocks_high * c.scale) r.some_height inside.wide
          inside.high,
    )

-- ---- all components

all-cover : (h v width height : ℕ) (cs : List Component) (planes : List (List ℕ)) (sources : List Source)
    → AllByRecursion InBlocks cs → AreWhole cs planes → gathered (source_of h v width height) cs ≡ Ok sources
    → AllReach sources width height → AllCover sources planes width height
unfolding gathered AreWhole AllCover
all-cover h v width height (c ∷ cs) (plane ∷ planes) sources inside whole e reach =
    search (rules, bind-ok, width, height, ok-same, AllReach, covers, all-cover h v width height cs planes)
all-cover h v width height cs planes sources inside whole e reach = search (rules, ok-same)

-- The picture of a frame that is accepted at full size has its sources at each scale, and planes of all blocks cover
-- it.
pub frames-have-sources : (scale number precision width height : ℕ) (factors : List Factors) (sources : List Source)
    → AllByRecursion IsInRange factors → 0 < scale → scale ≤ 8 → 0 < width → 0 < height
    → sources_of (frame_of number precision width height factors).components width height ≡ Ok sources
    → HasSources (frame_at scale (frame_of number precision width height factors))
unfolding frame_of
frames-have-sources scale number precision width height factors sources range some most w g e =
    let f = frame_of number precision width height factors in
    let o : Plain f = search rules in
    let m = made-at f scale o some in
    let there = frame-sources f scale sources o some most e in
    let inside = subst (AllByRecursion InBlocks) (sym (is-sized (frame_at scale f) m).components)
    (search (rules, all-inside, greatest-some)) in
    grind (arith, all-cover, reaches-made (frame_at scale f) there.0 m there.1)

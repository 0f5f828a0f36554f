-- How the rows of MCUs of a frame that is decoded lie in its picture and in its components.
use Rattle.std.proofs.Common.{◌≡◌, ℕ, ◌+◌, ◌*◌, ◌<◌, ◌≤◌, List, [], ◌∷◌, map, length, refl, sym, ap, ◌∙◌, subst}
use Rattle.std.proofs.Common.{arith}
use Rattle.std.proofs.lemmas.Grind.{common_steps}
use Rattle.std.proofs.Math.Nat.{mul_assoc, mul_comm, mul-le-mul, mul-le-mul_left, mul-le-mul_right}
use Rattle.std.proofs.Math.Nat.{mul-lt-mul_of_pos_right}
use Rattle.std.proofs.lemmas.List.{length-map}
use Rattle.std.proofs.lemmas.List.Elements.{recursion_from_All}
use Rattle.std.specs.List.{AllByRecursion}
use Rattle.jpeg_segments.specs.Frame.{Component, Factors, Frame, IsInRange, ceiling, frame_of, greatest, most_down}
use Rattle.jpeg_segments.specs.Scales.{frame_at}
use Rattle.jpeg_segments.proofs.Ceilings.{ceiling-high, ceiling-le, ceiling-low}
use Rattle.jpeg_segments.proofs.FrameLemmas.{greatest-some}
use Rattle.jpeg_pixels.proofs.RuleRatios.{in-blocks}
use Rattle.jpeg_meaning.specs.Sound.{IsDecodedFrame}
use Rattle.jpeg_meaning.proofs.Order.FrameShapes.{factors-scaled, is-sized, most_v, most_h, scaled_component}
use Rattle.jpeg_meaning.proofs.Soundness.{count-few, decoded-count, scale-bounds}
use Rattle.jpeg_meaning.proofs.Written.BroughtLevels.{Made}
use Rattle.jpeg_decoder.specs.ByRows.{unit_lines}

-- a frame that is decoded is made of its factors
pub decoded-made : (f : Frame) → IsDecodedFrame f → Made f
decoded-made f p = record {
  number = p.is_read.number;
  precision = p.is_read.precision;
  width = p.is_read.width;
  height = p.is_read.height;
  factors = p.is_read.factors;
  in_range = recursion_from_All IsInRange p.is_read.factors p.is_read.in_range;
  some_width = p.is_read.some_width;
  some_height = p.is_read.some_height;
  scale = p.scale;
  some_scale = (scale-bounds p.scale p.is_scale).0;
  is = p.made ∙ ap (frame_at p.scale) p.is_read.made;
}

-- ---- components

-- A component stands so in its frame: a row of MCUs has lines of it by its vertical factor and its scale, and its
-- samples lie in its blocks.
pub record StandsIn (f : Frame) (c : Component) : Type 0 where
  pub unit : unit_lines f.components ≡ most_down f.components * c.scale
  pub some_scale : 0 < c.scale
  pub some : 0 < c.factors.vertical
  pub most : c.factors.vertical ≤ most_down f.components
  pub inside : c.width ≤ c.blocks_wide * c.scale
  pub within : c.height ≤ f.mcus_high * (c.factors.vertical * c.scale)

all-stand : (f : Frame) (s width height h v : ℕ) (xs : List Factors) → 0 < s → 0 < h → 0 < v
    → AllByRecursion IsInRange xs → greatest (λ c. c.vertical) xs ≤ v → unit_lines f.components ≡ v * s
    → most_down f.components ≡ v → f.mcus_high ≡ ceiling height (8 * v)
    → AllByRecursion (StandsIn f) (map (scaled_component s width height h v) xs)
all-stand f s width height h v [] some sh sv range low unit most high = tt
all-stand f s width height h v (x ∷ xs) some sh sv range low unit most high = (
  record {
    unit = rw (unit, most) refl;
    some_scale = some;
    some = range.0.vertical_some;
    most = rw most (omega arith);
    inside = in-blocks s width x.horizontal h sh;
    within = rw (high, ← mul_assoc (ceiling height (8 * v)) x.vertical s) (in-blocks s height x.vertical v sv);
  },
  all-stand f s width height h v xs some sh sv range.1 (omega arith) unit most high,
)

unit-scaled : (s width height h v : ℕ) (xs : List Factors) → 0 < length xs
    → unit_lines (map (scaled_component s width height h v) xs) ≡ most_v xs * s
unit-scaled s width height h v [] some = absurd (omega arith)
unit-scaled s width height h v (x ∷ xs) some =
    ap (λ (l : List Factors). greatest (λ f. f.vertical) l * s) (factors-scaled s width height h v (x ∷ xs))

-- ---- the picture

-- The rows of MCUs of a frame cover its picture, and the last of them has a line of it.
pub record HasRows (f : Frame) : Type 0 where
  pub some_unit : 0 < unit_lines f.components
  pub high : f.output_height ≤ f.mcus_high * unit_lines f.components
  pub low : (k : ℕ) → k < f.mcus_high → k * unit_lines f.components < f.output_height
  pub stand : AllByRecursion (StandsIn f) f.components

rows-high : (n v s : ℕ) → 0 < v → ceiling (n * s) 8 ≤ ceiling n (8 * v) * (v * s)
rows-high n v s some =
    let b = ceiling n (8 * v) in
    let low : n ≤ (8 * v) * b = ceiling-low n (8 * v) (omega arith) in
    let wide : n * s ≤ (8 * v) * b * s = mul-le-mul_right s low in
    let e : (8 * v) * b * s ≡ 8 * (b * (v * s)) = grind (arith, common_steps, mul_assoc, mul_comm) in
    ceiling-le (n * s) 8 (b * (v * s)) (omega arith) (omega (arith, wide, e))

rows-low : (n v s k : ℕ) → 0 < v → 0 < s → k < ceiling n (8 * v) → k * (v * s) < ceiling (n * s) 8
rows-low n v s k some scaled lt =
    let b = ceiling n (8 * v) in
    let up : (8 * v) * b < n + 8 * v = ceiling-high n (8 * v) (omega arith) in
    let next : (8 * v) * (k + 1) ≤ (8 * v) * b = mul-le-mul_left (8 * v) (omega arith) in
    let split : (8 * v) * (k + 1) ≡ (8 * v) * k + 8 * v = omega arith in
    let below : (8 * v) * k < n = omega (arith, up, next, split) in
    let scaled-up : (8 * v) * k * s < n * s = mul-lt-mul_of_pos_right below scaled in
    let e : (8 * v) * k * s ≡ 8 * (k * (v * s)) = grind (arith, common_steps, mul_assoc, mul_comm) in
    let top : n * s ≤ 8 * ceiling (n * s) 8 = ceiling-low (n * s) 8 (omega arith) in
    omega (arith, scaled-up, e, top)

-- by the factors and the size that a frame is made of
rows-of : (f : Frame) (n v s : ℕ) → 0 < v → 0 < s → f.output_height ≡ ceiling (n * s) 8
    → f.mcus_high ≡ ceiling n (8 * v) → unit_lines f.components ≡ v * s → AllByRecursion (StandsIn f) f.components
    → HasRows f
rows-of f n v s some scaled height high unit stand =
    let product : 1 * 1 ≤ v * s = mul-le-mul some scaled in
    record {
      some_unit = rw unit (omega (arith, product));
      high = rw (height, high, unit) (rows-high n v s some);
      low = λ k lt. rw (height, unit) (rows-low n v s k some scaled (rw high at lt));
      stand = stand;
    }

-- A frame that is decoded has such rows.
pub decoded-rows : (f : Frame) → IsDecodedFrame f → HasRows f
unfolding frame_at frame_of
decoded-rows f p =
    let m = decoded-made f p in
    let z = is-sized f m in
    let v = most_v m.factors in
    let few = count-few (length f.components) (decoded-count f p) in
    let count : length f.components ≡ length m.factors =
    ap length z.components ∙ length-map m.factors (scaled_component m.scale m.width m.height (most_h m.factors) v) in
    let high : f.mcus_high ≡ ceiling m.height (8 * v) = ap (λ (x : Frame). x.mcus_high) m.is in
    let unit : unit_lines f.components ≡ v * m.scale =
    ap unit_lines z.components ∙ unit-scaled m.scale m.width m.height (most_h m.factors) v m.factors
    (omega (arith, count, few.0)) in
    let most : most_down f.components ≡ v =
    ap most_down z.components ∙ ap (greatest (λ f. f.vertical))
    (factors-scaled m.scale m.width m.height (most_h m.factors) v m.factors) in
    let some-v : 0 < v = greatest-some (λ f. f.vertical) m.factors in
    let some-h : 0 < most_h m.factors = greatest-some (λ f. f.horizontal) m.factors in
    rows-of f m.height v m.scale some-v m.some_scale z.height high unit
    (subst (AllByRecursion (StandsIn f)) (sym z.components)
    (all-stand f m.scale m.width m.height (most_h m.factors) v m.factors m.some_scale some-h some-v m.in_range
    (omega arith) unit most high))

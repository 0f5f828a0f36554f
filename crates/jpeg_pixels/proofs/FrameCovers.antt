-- The planes of a frame's components cover its picture.
use Rattle.std.proofs.Common.{◌≡◌, ◌≤◌, ◌<◌, ℕ, ◌+◌, ◌-◌, ◌*◌, List, [], ◌∷◌, length, map, Some, Ok}
use Rattle.std.proofs.Common.{All, subst, arith, rules}
use Rattle.std.proofs.Math.Nat.{le-mul_of_pos_right}
use Rattle.std.proofs.lemmas.List.Elements.{All-cons, All-head, All-nil, All-tail}
use Rattle.jpeg_segments.specs.Checks.{gathered}
use Rattle.jpeg_segments.specs.Frame.{Factors, IsInRange, ceiling, component_of, frame_of, greatest}
use Rattle.jpeg_segments.proofs.Ceilings.{ceiling-eights}
use Rattle.jpeg_segments.proofs.Codecs.{bind-ok, ok-same}
use Rattle.jpeg_segments.proofs.ScaleLemmas.{factors-back}
use Rattle.jpeg_pixels.specs.declared.upsample_rows.UpsampleRule.{UpsampleRule}
use Rattle.jpeg_pixels.specs.Upsampling.{across, down, rule_of}
use Rattle.jpeg_pixels.specs.Pictures.{AllCover, AreWhole, Covers, HaveRoom, Source, source_of, sources_of}
use Rattle.jpeg_pixels.proofs.SourceLists.{source_with, source-rule}
use Rattle.jpeg_pixels.proofs.RuleRatios.{in-blocks as in-blocks-at, reach-full, room-of, rule-ratios, some-ceiling}

-- ---- components

-- the samples of a line stand in its blocks
in-blocks : (width h m : ℕ) → 0 < m → ceiling (width * h) m ≤ (ceiling width (8 * m) * h) * 8
in-blocks width h m some =
    subst (λ (n : ℕ). n ≤ (ceiling width (8 * m) * h) * 8) (ceiling-eights (width * h) m some)
    (in-blocks-at 8 width h m some)

-- factors in their range, of which these are the greatest
record Fits (most_h most_v : ℕ) (f : Factors) : Type 0 where
  range : IsInRange f
  across : f.horizontal ≤ most_h
  down : f.vertical ≤ most_v

all-fit : (h v : ℕ) (xs : List Factors) → All IsInRange xs → greatest (λ f. f.horizontal) xs ≤ h
    → greatest (λ f. f.vertical) xs ≤ v → All (Fits h v) xs
all-fit h v [] range across down = All-nil (Fits h v)
all-fit h v (x ∷ xs) range across down = All-cons (Fits h v) x xs
    (record { range = All-head IsInRange x xs range; across = omega arith; down = omega arith })
    (all-fit h v xs (All-tail IsInRange x xs range) (omega arith) (omega arith))

covers : (width height most_h most_v : ℕ) (f : Factors) (rule : UpsampleRule) (plane : List ℕ) → 0 < width → 0 < height
    → Fits most_h most_v f
    → rule_of f.horizontal f.vertical most_h most_v width height ≡ Some rule
    → (ceiling (height * f.vertical) most_v - 1) * ((ceiling width (8 * most_h) * f.horizontal) * 8)
    + ceiling (width * f.horizontal) most_h ≤ length plane
    → Covers (source_with (component_of width height most_h most_v f) rule) plane width height
unfolding component_of
covers width height most_h most_v f rule plane some_width some_height fits chosen room =
    let h = fits.range.horizontal_some in
    let v = fits.range.vertical_some in
    let ratios = rule-ratios f.horizontal f.vertical most_h most_v width height rule (omega arith) (omega arith) chosen
    in
    let grows : width ≤ width * f.horizontal = le-mul_of_pos_right width h in
    record {
      some_width = some-ceiling (width * f.horizontal) most_h (omega arith) (omega arith);
      some_across = ratios.columns.some;
      some_down = ratios.lines.some;
      wide_enough = reach-full width f.horizontal most_h (across rule) some_width h (omega arith) ratios.columns;
      high_enough = reach-full height f.vertical most_v (down rule) some_height v (omega arith) ratios.lines;
      room = room;
    }

-- ---- lists

all-cover : (width height h v : ℕ) (xs : List Factors) (planes : List (List ℕ)) (sources : List Source) → 0 < width
    → 0 < height → All (Fits h v) xs
    → HaveRoom (map (component_of width height h v) xs) planes
    → gathered (source_of h v width height) (map (component_of width height h v) xs) ≡ Ok sources
    → AllCover sources planes width height
unfolding component_of gathered HaveRoom AllCover
all-cover width height h v [] planes sources some_width some_height fits room is =
    subst (λ (l : List Source). AllCover l planes width height) (ok-same [] sources is) tt
all-cover width height h v (x ∷ xs) [] sources some_width some_height fits room is = absurd room
all-cover width height h v (x ∷ xs) (plane ∷ planes) sources some_width some_height fits room is =
    let one = bind-ok (source_of h v width height (component_of width height h v x)) _ sources is in
    let rest = bind-ok (gathered (source_of h v width height) (map (component_of width height h v) xs)) _ sources
    one.2 in
    let chosen = source-rule h v width height (component_of width height h v x) one.0 one.1 in
    subst (λ (l : List Source). AllCover l (plane ∷ planes) width height) (ok-same _ sources rest.2) (
      subst (λ (s : Source). Covers s plane width height) chosen.2
          (covers width height h v x chosen.0 plane some_width some_height (All-head (Fits h v) x xs fits)
          chosen.1 room.0),
      all-cover width height h v xs planes rest.0 some_width some_height (All-tail (Fits h v) x xs fits)
          room.1 rest.1,
    )

pub frames-are-covered : (number precision width height : ℕ) (factors : List Factors) (planes : List (List ℕ))
    (sources : List Source)
    → All IsInRange factors → 0 < width → 0 < height
    → HaveRoom (frame_of number precision width height factors).components planes
    → sources_of (frame_of number precision width height factors).components width height ≡ Ok sources
    → AllCover sources planes width height
unfolding frame_of
frames-are-covered number precision width height factors planes sources range some_width some_height room is =
    let h = greatest (λ f. f.horizontal) factors in
    let v = greatest (λ f. f.vertical) factors in
    let back : map (λ c. c.factors) (map (component_of width height h v) factors) ≡ factors =
    search (rules, factors-back) in
    all-cover width height h v factors planes sources some_width some_height
    (all-fit h v factors range (omega arith) (omega arith))
    room
    (subst (λ (l : List Factors). gathered (source_of (greatest (λ f. f.horizontal) l) (greatest (λ f. f.vertical) l)
    width height) (map (component_of width height h v) factors) ≡ Ok sources) back is)

-- ---- planes of all blocks

have-room : (width height h v : ℕ) (xs : List Factors) (planes : List (List ℕ)) → 0 < width → 0 < height
    → All (Fits h v) xs → AreWhole (map (component_of width height h v) xs) planes
    → HaveRoom (map (component_of width height h v) xs) planes
unfolding component_of HaveRoom AreWhole
have-room width height h v [] planes some_width some_height fits whole = tt
have-room width height h v (x ∷ xs) [] some_width some_height fits whole = absurd whole
have-room width height h v (x ∷ xs) (plane ∷ planes) some_width some_height fits whole =
    let here : Fits h v x = All-head (Fits h v) x xs fits in
    let grows : height ≤ height * x.vertical = le-mul_of_pos_right height here.range.vertical_some in
    let lines_some = some-ceiling (height * x.vertical) v (omega arith) (omega arith) in
    let columns_inside = in-blocks width x.horizontal h (omega arith) in
    let lines_inside = in-blocks height x.vertical v (omega arith) in (
      rw whole.0 (room-of (ceiling (width * x.horizontal) h) (ceiling (height * x.vertical) v) _ _ lines_some
          columns_inside lines_inside),
      have-room width height h v xs planes some_width some_height (All-tail (Fits h v) x xs fits) whole.1,
    )

pub whole-planes-have-room : (number precision width height : ℕ) (factors : List Factors) (planes : List (List ℕ))
    → All IsInRange factors → 0 < width → 0 < height
    → AreWhole (frame_of number precision width height factors).components planes
    → HaveRoom (frame_of number precision width height factors).components planes
unfolding frame_of
whole-planes-have-room number precision width height factors planes range some_width some_height whole =
    search (rules, all-fit, have-room)

pub ruleset frame_laws = (whole-planes-have-room, frames-are-covered)

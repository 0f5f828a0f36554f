-- Frames at scales.
use Rattle.std.proofs.Common.{take, drop, length-take, ◌++◌, ◌-◌, ◌≡◌, ◌≤◌, ◌<◌, ℕ, ◌+◌, ◌*◌, List, [], ◌∷◌, map}
use Rattle.std.proofs.Common.{length, get_or, set, true, All, refl, ap, sym, ◌∙◌, arith, rules}
use Rattle.std.proofs.lemmas.List.{get_or-append_right, get_or-drop, length-map, map-set, get_or-map}
use Rattle.std.proofs.lemmas.List.{append-nil, drop_all, take_all}
use Rattle.std.proofs.lemmas.List.Edits.{map_over_more}
use Rattle.std.proofs.lemmas.Simd.{map-map}
use Rattle.std.proofs.lemmas.Bool.{eqb-true}
use Rattle.std.proofs.lemmas.List.Elements.{All-get_or, All-nil}
use Rattle.jpeg_segments.specs.declared.frame.Component.{Component as Seen}
use Rattle.jpeg_segments.specs.Frame.{AllHaveSampling, Component, Factors, Frame, IsFrame, IsInRange, ceiling}
use Rattle.jpeg_segments.specs.Frame.{component_of, frame_of, greatest}
use Rattle.jpeg_segments.specs.FrameView.{component_in, factors_in}
use Rattle.jpeg_segments.specs.Scales.{IsSizedFrame, component_at, frame_at, is_scale, scale_for}
use Rattle.jpeg_segments.proofs.Ceilings.{ceiling-eights}
use Rattle.jpeg_segments.proofs.FrameLemmas.{all-in-range, factor_rules, greatest-some}
use Rattle.std.proofs.lemmas.Grind.{common_steps}

-- ---- the greatest factors

pub factors-seen : (xs : List Seen) → map (λ c. c.factors) (map component_in xs) ≡ map factors_in xs
factors-seen [] = refl
factors-seen (x ∷ xs) = ap (λ l. factors_in x ∷ l) (factors-seen xs)

pub seen-in-range : (xs : List Seen) → AllHaveSampling (map component_in xs) → All IsInRange (map factors_in xs)
unfolding AllHaveSampling
seen-in-range [] h = All-nil IsInRange
seen-in-range (x ∷ xs) h = search (rules, seen-in-range xs h.1)

-- ---- the same of components as code has them

-- what stands after all components
abbrev pub none : Seen
none = record {
  identifier = 0;
  horizontal_sampling_factor = 0;
  vertical_sampling_factor = 0;
  quantization_table_index = 0;
  dct_scale = 0;
  size = record { width = 0; height = 0 };
  block_size = record { width = 0; height = 0 };
}

-- A component that is not changed yet: the first i of the old ones are.
pub seen-at : (f : Component → Component) (i : ℕ) (old new : List Seen)
    → map component_in new ≡ map f (take i (map component_in old)) ++ drop i (map component_in old)
    → i < length old → length new ≡ length old
    → component_in (get_or new i none) ≡ component_in (get_or old i none)
seen-at f i old new e h same =
    let d = component_in none in
    let front = map f (take i (map component_in old)) in
    let count : length front ≡ i = search (rules, length-map, length-take) in
    sym (get_or-map component_in new i none d (omega arith)) ∙ ap (λ l. get_or l i d) e
    ∙ get_or-append_right front (drop i (map component_in old)) i i d count (omega arith)
    ∙ get_or-drop i (map component_in old) (i - i) d ∙ ap (λ n. get_or (map component_in old) n d) (omega arith)
    ∙ get_or-map component_in old i none d h

-- a factor of it is as small as the old ones
pub factor-at : (factor : Component → ℕ) (f : Component → Component) (m i : ℕ) (old new : List Seen)
    → map component_in new ≡ map f (take i (map component_in old)) ++ drop i (map component_in old)
    → i < length old → length new ≡ length old
    → All (λ c. factor (component_in c) ≤ m) old → factor (component_in (get_or new i none)) ≤ m
factor-at factor f m i old new e h same all =
    rw (seen-at f i old new e h same) (All-get_or (λ c. factor (component_in c) ≤ m) old i none h all)

-- one more is changed
pub seen-more : (f : Component → Component) (i : ℕ) (old new : List Seen) (x : Seen)
    → map component_in new ≡ map f (take i (map component_in old)) ++ drop i (map component_in old)
    → i < length old → length new ≡ length old
    → component_in x ≡ f (component_in (get_or new i none))
    → map component_in (set new i x)
    ≡ map f (take (i + 1) (map component_in old)) ++ drop (i + 1) (map component_in old)
seen-more f i old new x e h same made = search (rules, map-set, map_over_more, length-map, get_or-map)

-- ---- scales

-- what holds of each scale
pub each-scale : (P : ℕ → Type 0) (s : ℕ) → is_scale s ≡ true → P 1 → P 2 → P 4 → P 8 → P s
each-scale P s e one two four eight = grind (arith, common_steps, eqb-true)

pub scale-most : (s : ℕ) → is_scale s ≡ true → s ≤ 8
scale-most s e = each-scale (λ n. n ≤ 8) s e (omega arith) (omega arith) (omega arith) (omega arith)

-- ---- frames at scales

again : (s t width height h v : ℕ) (cs : List Component) → map (component_at s width height h v)
    (map (component_at t width height h v) cs) ≡ map (component_at s width height h v) cs
unfolding component_at
again s t width height h v cs = map-map _ _ cs

factors-stay : (t width height h v : ℕ) (cs : List Component)
    → map (λ c. c.factors) (map (component_at t width height h v) cs) ≡ map (λ c. c.factors) cs
unfolding component_at
factors-stay t width height h v cs = map-map _ _ cs

-- A frame at a scale depends on the full frame alone, not on the scale that it had.
pub scaled_again : (s t : ℕ) (f : Frame) → frame_at s (frame_at t f) ≡ frame_at s f
unfolding frame_at
scaled_again s t f = grind (arith, common_steps, factors-stay, again)

pub scaled_frames_are_sized : (s : ℕ) (f : Frame) → is_scale s ≡ true → IsSizedFrame f → IsSizedFrame (frame_at s f)
scaled_frames_are_sized s f e p = grind (arith, common_steps, scaled_again)

-- a frame that is sized in parts
pub at-scale : (scale w g h v : ℕ) (f : Frame) (cs : List Component)
    → w ≡ ceiling (f.width * 1 * scale) 8 → g ≡ ceiling (f.height * 1 * scale) 8
    → h ≡ greatest (λ x. x.horizontal) (map (λ c. c.factors) f.components)
    → v ≡ greatest (λ x. x.vertical) (map (λ c. c.factors) f.components)
    → cs ≡ map (component_at scale f.width f.height h v) f.components
    → record f { output_width = w; output_height = g; components = cs } ≡ frame_at scale f
unfolding frame_at
at-scale scale w g h v f cs wide high across down made = grind (arith, common_steps)

-- ---- full size

pub factors-back : (width height h v : ℕ) (xs : List Factors)
    → map (λ c. c.factors) (map (component_of width height h v) xs) ≡ xs
unfolding component_of
factors-back width height h v [] = refl
factors-back width height h v (x ∷ xs) = ap (λ l. x ∷ l) (factors-back width height h v xs)

same-components : (width height h v : ℕ) (xs : List Factors) → 0 < h → 0 < v → map (component_at 8 width height h v)
    (map (component_of width height h v) xs) ≡ map (component_of width height h v) xs
unfolding component_of component_at
same-components width height h v [] hs vs = refl
same-components width height h v (x ∷ xs) hs vs =
    grind (arith, common_steps, ceiling-eights, same-components width height h v xs hs vs)

-- A frame that is read is its own at full size.
pub full_size : (number precision width height : ℕ) (xs : List Factors)
    → frame_at 8 (frame_of number precision width height xs) ≡ frame_of number precision width height xs
unfolding frame_of frame_at
full_size number precision width height xs = search (rules, factors-back, same-components, greatest-some)

pub full_frames : (f : Frame) → IsFrame f → frame_at 8 f ≡ f
full_frames f p = ap (frame_at 8) p.made ∙ (full_size p.number p.precision p.width p.height p.factors ∙ sym p.made)

pub frames_are_sized : (f : Frame) → IsFrame f → IsSizedFrame f
frames_are_sized f p = record {
  full = f;
  scale = 8;
  is_read = p;
  is_scale = refl;
  made = sym (full_frames f p);
}

-- ---- factors

read-have-factors : (number precision width height : ℕ) (xs : List Factors) → All IsInRange xs
    → AllHaveSampling (frame_of number precision width height xs).components
unfolding frame_of
read-have-factors number precision width height xs range = search (rules, all-in-range)

frames-have-factors : (f : Frame) → IsFrame f → AllHaveSampling f.components
frames-have-factors f p = grind (arith, common_steps, read-have-factors)

scaled-have-factors : (s width height h v : ℕ) (cs : List Component) → s ≤ 8 → AllHaveSampling cs
    → AllHaveSampling (map (component_at s width height h v) cs)
unfolding AllHaveSampling component_at
scaled-have-factors s width height h v [] most p = tt
scaled-have-factors s width height h v (c ∷ cs) most p =
    search (rules, scaled-have-factors s width height h v cs most p.1)

at-scale-have-factors : (s : ℕ) (f : Frame) → s ≤ 8 → AllHaveSampling f.components
    → AllHaveSampling (frame_at s f).components
unfolding frame_at
at-scale-have-factors s f most p = grind (arith, common_steps, scaled-have-factors)

pub sized_frames_have_factors : (f : Frame) → IsSizedFrame f → AllHaveSampling f.components
sized_frames_have_factors f p = search (rules, at-scale-have-factors, scale-most, frames-have-factors)

-- ---- the requested scale

pub scale_for_is_scale : (full_width full_height width height : ℕ)
    → is_scale (scale_for full_width full_height width height) ≡ true
unfolding scale_for
scale_for_is_scale full_width full_height width height = grind (arith, common_steps)

pub ruleset seen_rules = (factor_rules, seen-in-range)

pub ruleset component_rules = (seen-more, drop_all, take_all, append-nil, length-map, common_steps)

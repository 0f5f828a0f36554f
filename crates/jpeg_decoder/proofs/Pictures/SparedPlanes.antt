-- Planes that are given to components before their scans.
use Rattle.std.proofs.Common.{◌≡◌, ◌≤◌, ◌<◌, ℕ, List, [], ◌∷◌, length, get_or, map, replicate, set, Option, Some}
use Rattle.std.proofs.Common.{None}
use Rattle.std.proofs.Common.{arith, sym, ap, ◌∙◌, subst}
use Rattle.std.proofs.lemmas.Grind.{common_steps}
use Rattle.std.proofs.lemmas.List.{length-map}
use Rattle.jpeg_pixels.specs.Scaled.{IsScale}
use Rattle.jpeg_segments.specs.Frame.{Component, Frame}
use Rattle.jpeg_segments.specs.FrameView.{component_in}
use Rattle.jpeg_segments.specs.declared.frame.Component as declared
use Rattle.jpeg_meaning.specs.Found.{Found}
use Rattle.jpeg_meaning.specs.ScanSegments.{arrays_before}
use Rattle.jpeg_meaning.specs.Sound.{ArePlanes, IsDecodedFrame, IsPlaneOf, IsSound}
use Rattle.jpeg_decoder.specs.Spared.{IsPlaneAt, three_planes}
use Rattle.jpeg_decoder.proofs.Pictures.EndedPlanes.{decoded-scales, element, mapped-or}

-- the component at an index has a scale
pub scale-at : (items : List declared.Component) (f : Frame) (i : ℕ) (c : declared.Component) → IsDecodedFrame f
    → f.components ≡ map component_in items → i < length items → c ≡ get_or items i c → IsScale c.dct_scale
scale-at items f i c p same h e =
    let within : i < length f.components = omega (arith, h, ap length same, length-map items component_in) in
    subst (λ (x : Component). IsScale x.scale)
    (ap (λ (cs : List Component). get_or cs i (component_in c)) same
    ∙ sym (mapped-or component_in items i c c (component_in c) h e))
    (element (λ x. IsScale x.scale) f.components i (component_in c) (decoded-scales f p) within)

-- its plane
pub plane-at-index : (items : List declared.Component) (i : ℕ) (c : declared.Component) (plane : List ℕ)
    → i < length items → c ≡ get_or items i c → IsPlaneOf (component_in c) (Some plane)
    → IsPlaneAt (map component_in items) i plane
plane-at-index items i c plane h e p =
    λ d within. subst (λ (x : Component). IsPlaneOf x (Some plane)) (mapped-or component_in items i c c d h e) p

-- where there is none
pub none-at-index : (items : List declared.Component) (i : ℕ) (plane : List ℕ) → length items ≤ i
    → IsPlaneAt (map component_in items) i plane
none-at-index items i plane h = λ d within. absurd (omega (arith, h, within, length-map items component_in))

-- the planes of at most four components
four-planes : (cs : List Component) (second third fourth : List ℕ) → length cs ≤ 4 → IsPlaneAt cs 1 second
    → IsPlaneAt cs 2 third → IsPlaneAt cs 3 fourth → ArePlanes cs (None ∷ three_planes second third fourth)
unfolding ArePlanes
four-planes [] second third fourth few p q r = tt
four-planes (c ∷ []) second third fourth few p q r = (tt, tt)
four-planes (c ∷ d ∷ []) second third fourth few p q r = (tt, (p d (omega arith), tt))
four-planes (c ∷ d ∷ e ∷ []) second third fourth few p q r = (tt, (p d (omega arith), (q e (omega arith), tt)))
four-planes (c ∷ d ∷ e ∷ f ∷ []) second third fourth few p q r =
    (tt, (p d (omega arith), (q e (omega arith), (r f (omega arith), tt))))
four-planes (c ∷ d ∷ e ∷ f ∷ g ∷ cs) second third fourth few p q r = absurd (omega (arith, few))

pub planes-put : (cs : List Component) (old a b new : List (Option (List ℕ))) (second third fourth : List ℕ)
    → length cs ≤ 4 → old ≡ replicate 4 None → a ≡ set old 1 (Some second) → b ≡ set a 2 (Some third)
    → new ≡ set b 3 (Some fourth) → IsPlaneAt cs 1 second → IsPlaneAt cs 2 third → IsPlaneAt cs 3 fourth
    → ArePlanes cs new
planes-put cs old a b new second third fourth few none e f g p q r =
    let is : new ≡ None ∷ three_planes second third fourth =
    g ∙ ap (λ (l : List (Option (List ℕ))). set l 3 (Some fourth)) (f
    ∙ ap (λ (l : List (Option (List ℕ))). set l 2 (Some third)) (e
    ∙ ap (λ (l : List (Option (List ℕ))). set l 1 (Some second)) none)) in
    subst (ArePlanes cs) (sym is) (four-planes cs second third fourth few p q r)

-- What holds between segments still does where other planes are there.
pub sound-planes : (old new : Found) (frame : Frame) → IsSound old → old.said.frame ≡ Some frame
    → new.said ≡ old.said → new.kept ≡ old.kept → new.samples ≡ old.samples → ArePlanes frame.components new.planes
    → IsSound new
unfolding arrays_before
sound-planes old new frame s is e k g p = grind (arith, common_steps)

pub ruleset plane_rules = (scale-at, plane-at-index, none-at-index)

-- Planes that are decided, of which those of like components share one buffer.
use Rattle.std.proofs.lemmas.Grind.{common_steps}
use Rattle.std.proofs.Common.{◌≡◌, ◌<◌, ◌≤◌, ℕ, zero, suc, List, [], ◌∷◌, Option, Some, None, rules}
use Rattle.std.proofs.Common.{arith, drop, get_or, length, map, refl, replicate, set}
use Rattle.std.proofs.lemmas.List.{drop-set-lt, get_or-map, get_or_past, length-map}
use Rattle.std.proofs.lemmas.List.FromFn.{get_or-map-range_with_len, length-map-range_with_len}
use Rattle.std.specs.Option.{option_or}
use Rattle.jpeg_pixels.specs.JointPlanes.{joint_plane, joint_planes}
use Rattle.jpeg_pixels.specs.declared.joint_planes.JointShape.{JointShape}
use Rattle.jpeg_decoder.specs.PlanesView.{or_joint}

-- With nothing in a shared buffer there are those of their own.
pub or-nothing : (own : List (Option (List ℕ))) → or_joint own [] ≡ own
unfolding or_joint
or-nothing own = grind (arith, common_steps)

-- A plane of its own is the one that is decided, or else the one in the room.
pub or-at : (own : List (Option (List ℕ))) (joint : List (List ℕ)) (k : ℕ) → k < length own
    → get_or (or_joint own joint) k None ≡ option_or (get_or own k None) (get_or (map Some joint) k None)
unfolding or_joint
or-at own [] k h = grind (arith, common_steps, or-nothing)
or-at [] (other ∷ joint) k h = absurd (omega arith)
or-at (o ∷ own) (other ∷ joint) zero h = grind (arith, common_steps)
or-at (o ∷ own) (other ∷ joint) (suc k) h = grind (arith, common_steps, or-at own joint k (omega arith))

-- A plane that is put is the one that is decided.
pub or-set : (own : List (Option (List ℕ))) (joint : List (List ℕ)) (k : ℕ) (plane : List ℕ)
    → or_joint (set own k (Some plane)) joint ≡ set (or_joint own joint) k (Some plane)
unfolding or_joint
or-set own [] k plane = simp or-nothing
or-set [] (other ∷ joint) k plane = refl
or-set (o ∷ own) (other ∷ joint) zero plane = grind (arith, common_steps)
or-set (o ∷ own) (other ∷ joint) (suc k) plane = grind (arith, common_steps, or-set own joint k plane)

-- What comes after a plane that is taken is as it was.
pub or-after : (own : List (Option (List ℕ))) (joint : List (List ℕ)) (k n : ℕ) (o : Option (List ℕ))
    → k < n → drop n (or_joint (set own k o) joint) ≡ drop n (or_joint own joint)
unfolding or_joint
or-after own [] k n o h = simp or-nothing (drop-set-lt _ _ _ _ h)
or-after [] (other ∷ joint) k n o h = refl
or-after (p ∷ own) (other ∷ joint) k zero o h = absurd (omega arith)
or-after (p ∷ own) (other ∷ joint) zero (suc n) o h = grind (arith, common_steps)
or-after (p ∷ own) (other ∷ joint) (suc k) (suc n) o h =
    grind (arith, common_steps, or-after own joint k n o (omega arith))

-- Where none is decided there is none of its own.
pub none-own : (own : List (Option (List ℕ))) (joint : List (List ℕ)) (n : ℕ)
    → or_joint own joint ≡ replicate n None → own ≡ replicate n None
unfolding or_joint
none-own own [] n e = rw (← or-nothing own) e
none-own [] (other ∷ joint) n e = e
none-own (Some p ∷ own) (other ∷ joint) zero e = absurd (cc)
none-own (Some p ∷ own) (other ∷ joint) (suc n) e = absurd (cc)
none-own (None ∷ own) (other ∷ joint) zero e = absurd (cc)
none-own (None ∷ own) (other ∷ joint) (suc n) e = absurd (cc)

-- The planes in one room are as many as its components.
pub joint-count : (shape : JointShape) (samples : List ℕ)
    → length (joint_planes shape samples) ≡ shape.count
unfolding joint_planes
joint-count shape samples = length-map-range_with_len (joint_plane shape samples) 0 shape.count

-- The plane of a component in a slot.
pub room-at : (shape : JointShape) (samples : List ℕ) (slot : ℕ) → slot < shape.count
    → get_or (map Some (joint_planes shape samples)) slot None
    ≡ Some (joint_plane shape samples slot)
unfolding joint_planes
room-at shape samples slot h =
    let at = get_or-map Some (joint_planes shape samples) slot [] None (omega (arith, joint-count shape samples)) in
    grind (arith, common_steps, get_or-map-range_with_len)

-- Past those slots there is none.
pub room-past : (shape : JointShape) (samples : List ℕ) (slot : ℕ) → shape.count ≤ slot
    → get_or (map Some (joint_planes shape samples)) slot None ≡ None
room-past shape samples slot h = search (rules, length-map, get_or_past, joint-count)

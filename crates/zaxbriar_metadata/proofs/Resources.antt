-- Image resources, one after the other.
use Rattle.std.proofs.Common.{◌≡◌, ℕ, zero, suc, ◌+◌, ◌-◌, ◌<◌, ◌≤◌, true, false, List, [], length, take, drop}
use Rattle.std.proofs.Common.{arith, None, Some, refl, ne_eqb, eq-eqb}
use Rattle.std.specs.Prelude.{codes, nat_eq}
use Rattle.std.specs.List.{starts_with}
use Rattle.std.proofs.lemmas.Bool.{lt-leb, le-leb}
use Rattle.std.proofs.lemmas.List.{drop-drop}
use Rattle.std.proofs.lemmas.Grind.{common_steps}
use Rattle.jpeg_orientation.specs.Tiff.{number_at}
use Rattle.zaxbriar_metadata.specs.Photoshop.{even, first_resource, resource_of, size_at, size_of}

-- ---- one resource

pub other-resource : (bytes : List ℕ) → starts_with nat_eq bytes (codes "8BIM") ≡ false
    → first_resource bytes ≡ None
unfolding first_resource
other-resource bytes h = rw h refl

pub cut-resource : (bytes : List ℕ) → length bytes < size_at bytes + 4 + size_of bytes
    → first_resource bytes ≡ None
unfolding first_resource
cut-resource bytes h = grind (arith, common_steps, lt-leb)

pub whole-resource : (bytes resource rest : List ℕ) (number at size : ℕ) → starts_with nat_eq bytes (codes "8BIM") ≡ true
    → at ≡ size_at bytes → number ≡ number_at false 4 2 bytes → size ≡ number_at false at 4 bytes
    → at + 4 + size ≤ length bytes → resource ≡ take size (drop (at + 4) bytes)
    → rest ≡ drop (even size) (drop (at + 4) bytes)
    → first_resource bytes ≡ Some (record { number = number; bytes = resource; rest = rest })
unfolding first_resource
whole-resource bytes resource rest number at size h a n s room r l =
    grind (arith, common_steps, le-leb, drop-drop)

pub nothing-after : (count : ℕ) (bytes : List ℕ) → length bytes < count → drop count bytes ≡ []
nothing-after count bytes h = grind (arith, common_steps)

-- ---- several

pub none-there : (number n : ℕ) (bytes : List ℕ) → 0 < n → first_resource bytes ≡ None
    → resource_of number n bytes ≡ None
unfolding resource_of
none-there number (suc n) bytes h e = rw (e, resource_of) refl
none-there number zero bytes h e = absurd (omega (arith, h))

pub found-there : (number n : ℕ) (bytes resource rest : List ℕ) → 0 < n
    → first_resource bytes ≡ Some (record { number = number; bytes = resource; rest = rest })
    → resource_of number n bytes ≡ Some resource
unfolding resource_of
found-there number (suc n) bytes resource rest h e =
    rw (e, resource_of) (rw (eq-eqb number number refl) refl)
found-there number zero bytes resource rest h e = absurd (omega (arith, h))

pub passed-there : (number n found : ℕ) (bytes resource rest : List ℕ) → 0 < n
    → first_resource bytes ≡ Some (record { number = found; bytes = resource; rest = rest })
    → (found ≡ number → ⊥) → resource_of number n bytes ≡ resource_of number (n - 1) rest
unfolding resource_of
passed-there number (suc n) found bytes resource rest h e other =
    let less : suc n - 1 ≡ n = omega arith in
    rw less (rw (e, resource_of) (rw (ne_eqb found number other) refl))
passed-there number zero found bytes resource rest h e other = absurd (omega (arith, h))

pub none-left : (number n : ℕ) (bytes : List ℕ) → n ≡ 0 → resource_of number n bytes ≡ None
unfolding resource_of
none-left number zero bytes h = refl
none-left number (suc n) bytes h = absurd (omega (arith, h))

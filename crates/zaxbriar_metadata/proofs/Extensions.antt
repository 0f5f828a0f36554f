-- The GUID that a packet names, and the parts of an extension.
use Rattle.std.proofs.Common.{◌≡◌, ℕ, zero, suc, ◌-◌, ◌<◌, Bool, true, false, List, [], ◌∷◌, ◌++◌, length, drop}
use Rattle.std.proofs.Common.{arith, Option, None, Some, refl, sym, ◌∙◌, ap, cond, map, Global, Vec}
use Rattle.std.specs.Prelude.{◌==◌, ◌&&◌, ◌||◌, not, nat_eq}
use Rattle.std.specs.Option.{option_map}
use Rattle.std.specs.List.{find, list_all, starts_with}
use Rattle.std.proofs.lemmas.List.Folds.{list_all-map}
use Rattle.std.proofs.lemmas.Grind.{common_steps}
use Rattle.jpeg_orientation.specs.Tiff.{number_at}
use Rattle.zaxbriar_metadata.specs.Xmp.{after, all_name, is_mark, is_of, joined, part_at, value_of}

-- ---- the GUID

pub name-here : (name bytes : List ℕ) → 0 < length bytes → starts_with nat_eq bytes name ≡ true
    → after name bytes ≡ Some (drop (length name) bytes)
unfolding after
name-here name (b ∷ bytes) room h = rw (h, after) refl
name-here name [] room h = absurd (omega (arith, room))

pub name-later : (name bytes : List ℕ) → 0 < length bytes → starts_with nat_eq bytes name ≡ false
    → after name bytes ≡ after name (drop 1 bytes)
unfolding after
name-later name (b ∷ bytes) room h = rw (h, after) refl
name-later name [] room h = absurd (omega (arith, room))

pub no-name : (name bytes : List ℕ) → length bytes ≡ 0 → after name bytes ≡ None
unfolding after
no-name name [] h = refl
no-name name (b ∷ bytes) h = absurd (omega (arith, h))

pub value-here : (b : ℕ) (bytes : List ℕ) → is_mark b ≡ true → value_of (b ∷ bytes) ≡ bytes
unfolding value_of
value-here b bytes h = rw (h, value_of) refl

pub value-later : (b : ℕ) (bytes : List ℕ) → is_mark b ≡ false → value_of (b ∷ bytes) ≡ value_of bytes
unfolding value_of
value-later b bytes h = rw (h, value_of) refl

pub no-value : (bytes : List ℕ) → length bytes ≡ 0 → value_of bytes ≡ bytes
unfolding value_of
no-value [] h = refl
no-value (b ∷ bytes) h = absurd (omega (arith, h))

-- ---- the parts

held-by : {X : Type 0} (test : X → Bool) (y x : X) (others : Option X) (b : Bool) → test y ≡ b
    → (others ≡ Some x → test x ≡ true) → cond b (Some y) others ≡ Some x → test x ≡ true
held-by test y x others true e more h = let same : y ≡ x = cc in rw (sym same) e
held-by test y x others false e more h = more h

pub find-held : {X : Type 0} (test : X → Bool) (xs : List X) (x : X) → find test xs ≡ Some x → test x ≡ true
find-held test (y ∷ ys) x h = held-by test y x (find test ys) (test y) refl (find-held test ys x) h
find-held test [] x h = absurd (let n : ⊥ = cc in n)

mapped-by : {X : Type 0} {Y : Type 0} (view : X → Y) (x : X) (seen : Option Y) (others : Option X) (b : Bool)
    → seen ≡ option_map view others → cond b (Some (view x)) seen ≡ option_map view (cond b (Some x) others)
mapped-by view x seen others true e = refl
mapped-by view x seen others false e = e

pub find-mapped : {X : Type 0} {Y : Type 0} (test : Y → Bool) (view : X → Y) (xs : List X)
    → find test (map view xs) ≡ option_map view (find (λ x. test (view x)) xs)
find-mapped test view [] = refl
find-mapped test view (x ∷ xs) =
    mapped-by view x (find test (map view xs)) (find (λ x. test (view x)) xs) (test (view x)) (find-mapped test view xs)

-- the first part in a vector of parts, and what each of them names
pub part-found : (guid : List ℕ) (offset : ℕ) (parts : List (Vec ℕ Global))
    → part_at guid offset (map (λ (v : Vec ℕ Global). v.items) parts)
    ≡ option_map (λ (v : Vec ℕ Global). v.items)
    (find (λ (v : Vec ℕ Global). is_of guid v.items && number_at false 36 4 v.items == offset) parts)
part-found guid offset parts =
    find-mapped (λ (part : List ℕ). is_of guid part && number_at false 36 4 part == offset)
    (λ (v : Vec ℕ Global). v.items) parts

pub all-named : (guid : List ℕ) (size : ℕ) (parts : List (Vec ℕ Global))
    → all_name guid size (map (λ (v : Vec ℕ Global). v.items) parts)
    ≡ list_all (λ (v : Vec ℕ Global). not (is_of guid v.items) || number_at false 32 4 v.items == size) parts
all-named guid size parts =
    list_all-map (λ (part : List ℕ). not (is_of guid part) || number_at false 32 4 part == size)
    (λ (v : Vec ℕ Global). v.items) parts

pub part-long : (guid : List ℕ) (offset : ℕ) (parts : List (List ℕ)) (part : List ℕ)
    → part_at guid offset parts ≡ Some part → 40 < length part
part-long guid offset parts part h =
    let held = find-held (λ (part : List ℕ). is_of guid part && number_at false 36 4 part == offset) parts part h in
    grind (arith, common_steps)

pub joined-more : (n size : ℕ) (before guid part bytes : List ℕ) (parts : List (List ℕ)) → 0 < n
    → size ≡ length before → Some part ≡ part_at guid size parts → bytes ≡ drop 40 part
    → joined (n - 1) (before ++ bytes) guid parts ≡ joined n before guid parts
unfolding joined
joined-more (suc n) size before guid part bytes parts h s e b =
    let less : suc n - 1 ≡ n = omega arith in
    let found : part_at guid (length before) parts ≡ Some part = sym (e ∙ ap (λ at. part_at guid at parts) s) in
    rw (less, b) (rw (found, joined) refl)
joined-more zero size before guid part bytes parts h s e b = absurd (omega (arith, h))

pub joined-missing : (n size : ℕ) (before guid : List ℕ) (parts : List (List ℕ)) → 0 < n
    → size ≡ length before → None ≡ part_at guid size parts → joined n before guid parts ≡ None
unfolding joined
joined-missing (suc n) size before guid parts h s e =
    let found : part_at guid (length before) parts ≡ None = sym (e ∙ ap (λ at. part_at guid at parts) s) in
    rw (found, joined) refl
joined-missing zero size before guid parts h s e = absurd (omega (arith, h))

pub joined-all : (n : ℕ) (before guid : List ℕ) (parts : List (List ℕ)) → n ≡ 0
    → joined n before guid parts ≡ Some before
unfolding joined
joined-all zero before guid parts h = refl
joined-all (suc n) before guid parts h = absurd (omega (arith, h))

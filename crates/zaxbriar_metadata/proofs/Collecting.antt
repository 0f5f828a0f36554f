-- One more segment of an application, and what all of them bring by their names.
use Rattle.std.proofs.Common.{arith, ◌≡◌, ◌∙◌, ℕ, ◌-◌, Bool, List, [], ◌∷◌, ◌++◌, None, Option, Some, ap, append_assoc, cond}
use Rattle.std.proofs.Common.{drop, false, length, map, ne_eqb, refl, slice_index, take, true}
use Rattle.std.specs.Prelude.{◌==◌, ◌&&◌, fold, if◌then◌else◌, nat_eq}
use Rattle.std.specs.List.{concat, filter, last_or, starts_with}
use Rattle.std.proofs.lemmas.Bool.Decides.{Decides-eqb, nat_tests}
use Rattle.std.proofs.lemmas.Grind.{common_steps}
use Rattle.std.proofs.lemmas.Slice.Eq.{starts_is}
use Rattle.zaxbriar_metadata.specs.Collected.{Collection, collection_of, data_named, exif_name, extension_name, is_named}
use Rattle.zaxbriar_metadata.specs.Collected.{nothing, photoshop_name, with_segment, xmp_name}
use Rattle.zaxbriar_metadata.specs.Exif.{joined_exif, with_exif}

-- Other applications bring nothing.
pub other-kept : (c : Collection) (number : ℕ) (payload : List ℕ) → (number ≡ 1 → ⊥) → (number ≡ 13 → ⊥)
    → with_segment c (number, payload) ≡ c
unfolding with_segment
other-kept c number payload one thirteen = rw (ne_eqb number 1 one, ne_eqb number 13 thirteen) refl

-- XMP data, and a part of extended XMP data
pub xmp-brought : (c : Collection) (payload : List ℕ) → starts_with nat_eq payload exif_name ≡ false
    → starts_with nat_eq payload xmp_name ≡ true
    → with_segment c (1, payload) ≡ record c { xmp = Some (drop 29 payload) }
unfolding with_segment
xmp-brought c payload exif xmp = rw (exif, xmp) refl

pub part-brought : (c : Collection) (payload : List ℕ) → starts_with nat_eq payload exif_name ≡ false
    → starts_with nat_eq payload xmp_name ≡ false → starts_with nat_eq payload extension_name ≡ true
    → with_segment c (1, payload) ≡ record c { extensions = c.extensions ++ (drop 35 payload ∷ []) }
unfolding with_segment
part-brought c payload exif xmp extension = rw (exif, xmp, extension) refl

-- the bytes after a name
pub all-after : (count : ℕ) (payload : List ℕ) → take (length payload - count) (drop count payload) ≡ drop count payload
all-after count payload = grind (arith, common_steps)

-- ---- names that no bytes have both of

begun : (bytes name : List ℕ) → starts_with nat_eq bytes name ≡ true → bytes ≡ name ++ drop (length name) bytes
begun bytes name h = (starts_is Decides-eqb bytes name (starts_with nat_eq bytes name) refl).0 h

exif-or-xmp : (bytes : List ℕ) → starts_with nat_eq bytes exif_name ≡ true
    → starts_with nat_eq bytes xmp_name ≡ true → ⊥
exif-or-xmp bytes exif xmp =
    let a : slice_index bytes 0 ≡ 69 = ap (λ (l : List ℕ). slice_index l 0) (begun bytes exif_name exif) in
    let b : slice_index bytes 0 ≡ 104 = ap (λ (l : List ℕ). slice_index l 0) (begun bytes xmp_name xmp) in
    omega (arith, a, b)

exif-or-part : (bytes : List ℕ) → starts_with nat_eq bytes exif_name ≡ true
    → starts_with nat_eq bytes extension_name ≡ true → ⊥
exif-or-part bytes exif part =
    let a : slice_index bytes 0 ≡ 69 = ap (λ (l : List ℕ). slice_index l 0) (begun bytes exif_name exif) in
    let b : slice_index bytes 0 ≡ 104 = ap (λ (l : List ℕ). slice_index l 0) (begun bytes extension_name part) in
    omega (arith, a, b)

-- (behind `http://ns.adobe.com/x`)
xmp-or-part : (bytes : List ℕ) → starts_with nat_eq bytes xmp_name ≡ true
    → starts_with nat_eq bytes extension_name ≡ true → ⊥
xmp-or-part bytes xmp part =
    let a : slice_index bytes 21 ≡ 97 = ap (λ (l : List ℕ). slice_index l 21) (begun bytes xmp_name xmp) in
    let b : slice_index bytes 21 ≡ 109 = ap (λ (l : List ℕ). slice_index l 21) (begun bytes extension_name part) in
    omega (arith, a, b)

both : (a b : Bool) → (a && b) ≡ true → (a ≡ true) × (b ≡ true)
both true b h = (refl, h)
both false b h = absurd (let n : ⊥ = cc in n)

not-both : (a b c d : Bool) → (b ≡ true → d ≡ true → ⊥) → (c && d) ≡ true → (a && b) ≡ false
not-both a b c d apart h = go (a && b) refl
  where
    go : (r : Bool) → (a && b) ≡ r → r ≡ false
    go false e = refl
    go true e = absurd (apart (both a b e).1 (both c d h).1)

-- ---- what a segment brings of each kind

exif-step : (c : Collection) (s : ℕ × List ℕ)
    → (with_segment c s).exif ≡ (if is_named 1 exif_name s then with_exif c.exif (drop 6 s.1) else c.exif)
unfolding with_segment
exif-step c s =
    go (is_named 1 exif_name s) (is_named 1 xmp_name s) (is_named 1 extension_name s) (is_named 13 photoshop_name s)
  where
    go : (e x p r : Bool) → (
        if e then record c { exif = with_exif c.exif (drop 6 s.1) } else (
        if x then record c { xmp = Some (drop 29 s.1) } else (
        if p then record c { extensions = c.extensions ++ (drop 35 s.1 ∷ []) } else (
        if r then record c { resources = c.resources ++ drop 14 s.1 } else c)))).exif
        ≡ (if e then with_exif c.exif (drop 6 s.1) else c.exif)
    go true x p r = refl
    go false true p r = refl
    go false false true r = refl
    go false false false true = refl
    go false false false false = refl

xmp-step : (c : Collection) (s : ℕ × List ℕ)
    → (with_segment c s).xmp ≡ (if is_named 1 xmp_name s then Some (drop 29 s.1) else c.xmp)
unfolding with_segment
xmp-step c s =
    go (is_named 1 exif_name s) (is_named 1 xmp_name s) (is_named 1 extension_name s) (is_named 13 photoshop_name s)
    (not-both (s.0 == 1) _ (s.0 == 1) _ (exif-or-xmp s.1))
  where
    go : (e x p r : Bool) → (x ≡ true → e ≡ false) → (
        if e then record c { exif = with_exif c.exif (drop 6 s.1) } else (
        if x then record c { xmp = Some (drop 29 s.1) } else (
        if p then record c { extensions = c.extensions ++ (drop 35 s.1 ∷ []) } else (
        if r then record c { resources = c.resources ++ drop 14 s.1 } else c)))).xmp
        ≡ (if x then Some (drop 29 s.1) else c.xmp)
    go true true p r apart = absurd (let n : ⊥ = cc (apart refl) in n)
    go true false p r apart = refl
    go false true p r apart = refl
    go false false true r apart = refl
    go false false false true apart = refl
    go false false false false apart = refl

part-step : (c : Collection) (s : ℕ × List ℕ) → (with_segment c s).extensions
    ≡ (if is_named 1 extension_name s then c.extensions ++ (drop 35 s.1 ∷ []) else c.extensions)
unfolding with_segment
part-step c s =
    go (is_named 1 exif_name s) (is_named 1 xmp_name s) (is_named 1 extension_name s) (is_named 13 photoshop_name s)
    (not-both (s.0 == 1) _ (s.0 == 1) _ (exif-or-part s.1)) (not-both (s.0 == 1) _ (s.0 == 1) _ (xmp-or-part s.1))
  where
    go : (e x p r : Bool) → (p ≡ true → e ≡ false) → (p ≡ true → x ≡ false) → (
        if e then record c { exif = with_exif c.exif (drop 6 s.1) } else (
        if x then record c { xmp = Some (drop 29 s.1) } else (
        if p then record c { extensions = c.extensions ++ (drop 35 s.1 ∷ []) } else (
        if r then record c { resources = c.resources ++ drop 14 s.1 } else c)))).extensions
        ≡ (if p then c.extensions ++ (drop 35 s.1 ∷ []) else c.extensions)
    go true x true r one other = absurd (let n : ⊥ = cc (one refl) in n)
    go true x false r one other = refl
    go false true true r one other = absurd (let n : ⊥ = cc (other refl) in n)
    go false true false r one other = refl
    go false false true r one other = refl
    go false false false true one other = refl
    go false false false false one other = refl

-- (APP13 isn't APP1)
other-number : (number : ℕ) (a b : Bool) → (number == 13 && a) ≡ true → (number == 1 && b) ≡ false
other-number number a b h =
    let is : number == 13 ≡ true = (both (number == 13) a h).0 in
    let other : number == 1 ≡ false = grind (arith, nat_tests) in
    rw other refl

resource-step : (c : Collection) (s : ℕ × List ℕ) → (with_segment c s).resources
    ≡ (if is_named 13 photoshop_name s then c.resources ++ drop 14 s.1 else c.resources)
unfolding with_segment
resource-step c s =
    go (is_named 1 exif_name s) (is_named 1 xmp_name s) (is_named 1 extension_name s) (is_named 13 photoshop_name s)
    (other-number s.0 _ _) (other-number s.0 _ _) (other-number s.0 _ _)
  where
    go : (e x p r : Bool) → (r ≡ true → e ≡ false) → (r ≡ true → x ≡ false) → (r ≡ true → p ≡ false) → (
        if e then record c { exif = with_exif c.exif (drop 6 s.1) } else (
        if x then record c { xmp = Some (drop 29 s.1) } else (
        if p then record c { extensions = c.extensions ++ (drop 35 s.1 ∷ []) } else (
        if r then record c { resources = c.resources ++ drop 14 s.1 } else c)))).resources
        ≡ (if r then c.resources ++ drop 14 s.1 else c.resources)
    go true x p true one two three = absurd (let n : ⊥ = cc (one refl) in n)
    go true x p false one two three = refl
    go false true p true one two three = absurd (let n : ⊥ = cc (two refl) in n)
    go false true p false one two three = refl
    go false false true true one two three = absurd (let n : ⊥ = cc (three refl) in n)
    go false false true false one two three = refl
    go false false false true one two three = refl
    go false false false false one two three = refl

-- ---- what all segments bring of each kind

by-name : {X : Type 0} (field : Collection → X) (join : X → List ℕ → X) (number : ℕ) (name : List ℕ)
    → ((c : Collection) (s : ℕ × List ℕ) → field (with_segment c s)
    ≡ (if is_named number name s then join (field c) (drop (length name) s.1) else field c))
    → (segments : List (ℕ × List ℕ)) (c : Collection)
    → field (fold with_segment c segments) ≡ fold join (field c) (data_named number name segments)
by-name field join number name step [] c = refl
by-name field join number name step (s ∷ more) c =
    by-name field join number name step more (with_segment c s)
    ∙ ap (λ before. fold join before (data_named number name more)) (step c s)
    ∙ go (is_named number name s)
  where
    go : (b : Bool)
        → fold join (if b then join (field c) (drop (length name) s.1) else field c) (data_named number name more)
        ≡ fold join (field c) (map (λ (t : ℕ × List ℕ). drop (length name) t.1)
        (cond b (s ∷ filter (is_named number name) more) (filter (is_named number name) more)))
    go true = refl
    go false = refl

last-one : (before : Option (List ℕ)) (parts : List (List ℕ))
    → fold (λ b part. Some part) before parts ≡ last_or before parts
last-one before [] = refl
last-one before (part ∷ parts) = last-one (Some part) parts

all-parts : (before parts : List (List ℕ)) → fold (λ b part. b ++ (part ∷ [])) before parts ≡ before ++ parts
all-parts before [] = grind (arith, common_steps)
all-parts before (part ∷ parts) =
    all-parts (before ++ (part ∷ [])) parts ∙ append_assoc before (part ∷ []) parts

all-joined : (before : List ℕ) (parts : List (List ℕ)) → fold (λ b part. b ++ part) before parts ≡ before ++ concat parts
all-joined before [] = grind (arith, common_steps)
all-joined before (part ∷ parts) =
    all-joined (before ++ part) parts ∙ append_assoc before part (concat parts)

pub exif-by-name : (segments : List (ℕ × List ℕ))
    → (collection_of segments).exif ≡ joined_exif (data_named 1 exif_name segments)
exif-by-name segments = by-name (λ c. c.exif) with_exif 1 exif_name exif-step segments nothing

pub xmp-by-name : (segments : List (ℕ × List ℕ))
    → (collection_of segments).xmp ≡ last_or None (data_named 1 xmp_name segments)
xmp-by-name segments =
    by-name (λ c. c.xmp) (λ before packet. Some packet) 1 xmp_name xmp-step segments nothing
    ∙ last-one None (data_named 1 xmp_name segments)

pub parts-by-name : (segments : List (ℕ × List ℕ))
    → (collection_of segments).extensions ≡ data_named 1 extension_name segments
parts-by-name segments =
    by-name (λ c. c.extensions) (λ before part. before ++ (part ∷ [])) 1 extension_name part-step segments nothing
    ∙ all-parts [] (data_named 1 extension_name segments)

pub resources-by-name : (segments : List (ℕ × List ℕ))
    → (collection_of segments).resources ≡ concat (data_named 13 photoshop_name segments)
resources-by-name segments =
    by-name (λ c. c.resources) (λ before part. before ++ part) 13 photoshop_name resource-step segments nothing
    ∙ all-joined [] (data_named 13 photoshop_name segments)

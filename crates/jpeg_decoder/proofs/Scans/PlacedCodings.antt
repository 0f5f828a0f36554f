-- The codings of a scan, as the code has them and as the definitions do.
use Rattle.std.proofs.Common.{◌≡◌, ◌<◌, ℕ, List, [], ◌∷◌, sym, refl, ap, ◌∙◌, get_or, length, map, arith}
use Rattle.std.proofs.lemmas.List.{get_or-map, length-map}
use Rattle.jpeg_meaning.specs.ScanSegments.{Coding, components_of}
use Rattle.jpeg_decoder.specs.declared.scan.coded.Coded.{Coded}
use Rattle.jpeg_decoder.specs.Steps.{coding_in, IsInOrder}
use Rattle.jpeg_decoder.proofs.Kept.TakenBlocks.{indices_of}

-- the same words of what the code has
pub coded-indices : (cs : List Coded) → indices_of (map coding_in cs) ≡ map (λ c. c.index) cs
coded-indices [] = refl
coded-indices (c ∷ cs) = ap (λ (l : List ℕ). c.index ∷ l) (coded-indices cs)

pub seen-long : (cs : List Coded) (codings : List Coding) → map coding_in cs ≡ codings → length codings ≡ length cs
seen-long cs codings same = sym (ap (λ (l : List Coding). length l) same) ∙ length-map cs coding_in

-- the component in a slot, as it is seen
pub coding-at : (cs : List Coded) (codings : List Coding) (slot : ℕ) (c : Coded) → map coding_in cs ≡ codings
    → slot < length cs → c ≡ get_or cs slot c → get_or codings slot (coding_in c) ≡ coding_in c
coding-at cs codings slot c same within is =
    ap (λ (l : List Coding). get_or l slot (coding_in c)) (sym same)
    ∙ get_or-map coding_in cs slot c (coding_in c) within ∙ ap coding_in (sym is)

pub component-at : (cs : List Coded) (codings : List Coding) (slot : ℕ) (c : Coded) → map coding_in cs ≡ codings
    → slot < length codings → c ≡ get_or cs slot c
    → (coding_in c).component ≡ get_or (components_of codings) slot (coding_in c).component
component-at cs codings slot c same within is =
    sym (get_or-map (λ (k : Coding). k.component) codings slot (coding_in c) (coding_in c).component within
    ∙ ap (λ (k : Coding). k.component)
    (coding-at cs codings slot c same (omega (arith, within, seen-long cs codings same)) is))

pub first-index : (cs : List Coded) (codings : List Coding) (slot : ℕ) (c : Coded) → map coding_in cs ≡ codings
    → IsInOrder codings → slot < length cs → c ≡ get_or cs slot c → c.index ≡ slot
first-index cs codings slot c same order within is =
    ap (λ (x : Coding). x.index) (sym (coding-at cs codings slot c same within is))
    ∙ order slot (coding_in c) (omega (arith, within, seen-long cs codings same))

pub in-order : (cs : List Coded) → ((k : ℕ) (d : Coded) → k < length cs → (get_or cs k d).index ≡ k)
    → IsInOrder (map coding_in cs)
in-order [] h k d within = absurd (omega (arith, within))
in-order (c ∷ cs) h k d within =
    let inside : k < length (c ∷ cs) = omega (arith, within, length-map (c ∷ cs) coding_in) in
    ap (λ (x : Coding). x.index) (get_or-map coding_in (c ∷ cs) k c d inside) ∙ h k c inside

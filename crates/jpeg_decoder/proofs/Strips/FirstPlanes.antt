-- Planes of a scan's first components: how many they are.
use Rattle.std.proofs.Common.{◌≡◌, ◌∙◌, ℕ, List, [], ap, arith, length, length-take, map, sym, take}
use Rattle.std.proofs.lemmas.List.{length-map, take-map, take_all, take_min}
use Rattle.std.specs.Prelude.{min}
use Rattle.jpeg_segments.specs.Frame.{Component}
use Rattle.jpeg_meaning.specs.ScanSegments.{Coding, components_of}
use Rattle.jpeg_decoder.specs.declared.scan.coded.Coded.{Coded}
use Rattle.jpeg_decoder.specs.Steps.{coding_in}
use Rattle.jpeg_decoder.specs.Strips.{no_samples}

abbrev Planes : Type 0
Planes = List (List ℕ)

pub none-long : (codings : List Coding) → length (no_samples codings) ≡ length codings
none-long codings = length-map codings (λ (c : Coding). [])

-- ---- before the scan

-- all of them
pub all-started : (codings : List Coding) (start : Planes) → start ≡ no_samples codings
    → start ≡ take (length start) (no_samples codings)
all-started codings start e =
    e ∙ sym (take_all (length start) (no_samples codings) (omega (arith, ap (λ (l : Planes). length l) e)))

-- the first k
first-as : (k : ℕ) (codings : List Coding) (start : Planes) → start ≡ take k (no_samples codings)
    → start ≡ take (length start) (no_samples codings)
first-as k codings start e =
    e ∙ sym (take_min k (no_samples codings))
    ∙ ap (λ (n : ℕ). take n (no_samples codings))
    (sym (ap (λ (l : Planes). length l) e ∙ length-take k (no_samples codings)))

pub first-started : (k : ℕ) (cs : List Coded) (codings : List Coding) (start : Planes) → map coding_in cs ≡ codings
    → start ≡ no_samples (map coding_in (take k cs)) → start ≡ take (length start) (no_samples codings)
first-started k cs codings start same e =
    first-as k codings start (e
    ∙ ap (λ (l : List Coding). no_samples l) (sym (take-map coding_in k cs) ∙ ap (take k) same)
    ∙ sym (take-map (λ (c : Coding). []) k codings))

-- ---- after it

-- As many were made as there were before.
pub made-long : (k : ℕ) (codings : List Coding) (size : Component → ℕ) (start made : Planes)
    → start ≡ take k (no_samples codings)
    → map (λ (l : List ℕ). length l) made ≡ take k (map size (components_of codings)) → length made ≡ length start
made-long k codings size start made e sizes =
    let all = components_of codings in
    sym (length-map made (λ (l : List ℕ). length l)) ∙ ap (λ (l : List ℕ). length l) sizes
    ∙ length-take k (map size all) ∙ ap (min k) (length-map all size ∙ length-map codings (λ (c : Coding). c.component))
    ∙ sym (ap (λ (l : Planes). length l) e ∙ length-take k (no_samples codings) ∙ ap (min k) (none-long codings))

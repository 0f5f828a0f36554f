-- The blocks of a scan are kept: of all components of a scan, or of a row of MCUs.
use Rattle.std.proofs.Common.{rules, ◌≡◌, inl, inr, ℕ, zero, suc, ◌+◌, ◌<◌, List, [], ◌∷◌, map}
use Rattle.std.proofs.Common.{drop, length, get_or, refl, ap, arith}
use Rattle.std.proofs.lemmas.List.{length-map}
use Rattle.std.specs.List.{AllByRecursion, range_with_len}
use Rattle.jpeg_segments.specs.Frame.{Frame, Component}
use Rattle.jpeg_meaning.specs.Order.{Spot, spots_of}
use Rattle.jpeg_meaning.specs.InTurn.{IsIn, IsInside, Fits, AreArrays}
use Rattle.jpeg_meaning.specs.McuRows.{mcu_row, rows_of}
use Rattle.jpeg_meaning.specs.Scans.{zero_arrays, zero_of}
use Rattle.jpeg_meaning.specs.ScanSegments.{Coding, components_of}
use Rattle.jpeg_meaning.proofs.Order.Apart.{spots-inside, zeros-sized}
use Rattle.jpeg_meaning.proofs.Order.McuRows.{AreRows, row-inside, rows-count}
use Rattle.jpeg_decoder.specs.Scanning.{IsSpotOf, arrays_in, blocks_in, sizes_of}
use Rattle.jpeg_decoder.specs.Strips.{row_sizes}
use Rattle.jpeg_decoder.proofs.Kept.BlockArrays.{Held, sizes-long}
use Rattle.std.proofs.lemmas.Grind.{common_steps}

kept-long : (vs : List Held) (slot : ℕ) → slot < length vs
    → get_or (sizes_of vs) slot 0 ≡ length (get_or (arrays_in vs) slot [])
kept-long [] slot h = absurd (omega arith)
kept-long (v ∷ vs) zero h = refl
kept-long (v ∷ vs) (suc slot) h = kept-long vs slot (omega arith)

arrays-long : (vs : List Held) → length (arrays_in vs) ≡ length vs
arrays-long vs = length-map vs blocks_in

one-spot : (slots : ℕ) (vs : List Held) (q : Spot) → q.slot < slots → IsInside (arrays_in vs) q
    → IsSpotOf slots (sizes_of vs) q
one-spot slots vs q few i = grind (arith, common_steps, arrays-long, kept-long, sizes-long)

all-spots : (slots : ℕ) (vs : List Held) (spots : List Spot) → ((q : Spot) → IsIn q spots → q.slot < slots)
    → ((q : Spot) → IsIn q spots → IsInside (arrays_in vs) q) → AllByRecursion (IsSpotOf slots (sizes_of vs)) spots
all-spots slots vs [] few i = tt
all-spots slots vs (s ∷ spots) few i = (
  one-spot slots vs s (few s (inl refl)) (i s (inl refl)),
  all-spots slots vs spots (λ q t. few q (inr t)) (λ q t. i q (inr t)),
)

-- ---- all blocks of a scan

slot-few : (frame : Frame) (cs : List Coding) (q : Spot) → AllByRecursion (Fits frame) (components_of cs)
    → IsIn q (spots_of frame (components_of cs)) → q.slot < length cs
unfolding zero_arrays
slot-few frame cs q fits t =
    let i = spots-inside frame (components_of cs) (zero_arrays (components_of cs)) q fits
    (zeros-sized (components_of cs)) t in
    let s = i.slot in
    let l = length-map (components_of cs) (λ (c : Component). zero_of c) in
    let k = length-map cs (λ (c : Coding). c.component) in
    omega arith

pub kept-spots : (frame : Frame) (cs : List Coding) (vs : List Held) → AllByRecursion (Fits frame)
    (components_of cs) → AreArrays (components_of cs) (arrays_in vs)
    → AllByRecursion (IsSpotOf (length cs) (sizes_of vs)) (spots_of frame (components_of cs))
kept-spots frame cs vs fits arrays = grind (arith, common_steps, all-spots, slot-few, spots-inside)

-- ---- those of a row of MCUs

are-rows : (cs : List Coding) (vs : List Held) → sizes_of vs ≡ row_sizes cs → AreRows 1 (components_of cs) (arrays_in vs)
unfolding AreRows
are-rows [] [] e = tt
are-rows (c ∷ cs) (v ∷ vs) e = search (rules, arith, length-map, are-rows cs vs (ap (λ (l : List ℕ). drop 1 l) e))
are-rows _ _ e = absurd (let n = ap (λ (l : List ℕ). length l) e in omega arith)

row-spots : (frame : Frame) (cs : List Coding) (vs : List Held) (row : ℕ) → AllByRecursion (Fits frame) (components_of cs)
    → sizes_of vs ≡ row_sizes cs
    → AllByRecursion (IsSpotOf (length cs) (sizes_of vs)) (mcu_row frame (components_of cs) row)
row-spots frame cs vs row fits sizes =
    let sized = are-rows cs vs sizes in
    let inside : (q : Spot) → IsIn q (mcu_row frame (components_of cs) row) → IsInside (arrays_in
    vs) q
    = λ q t. (row-inside frame (components_of cs) row fits).inside (arrays_in vs) q sized t in
    all-spots (length cs) vs (mcu_row frame (components_of cs) row)
    (λ q t.
    let s = (inside q t).slot in
    let l = rows-count 1 (components_of cs) (arrays_in vs) sized in
    let k = length-map cs (λ (c : Coding). c.component) in
    omega arith) inside

each-row : (cs : List Coding) (vs : List Held) (f : ℕ → List Spot) (a n : ℕ)
    → ((row : ℕ) → AllByRecursion (IsSpotOf (length cs) (sizes_of vs)) (f row))
    → AllByRecursion (AllByRecursion (IsSpotOf (length cs) (sizes_of vs))) (map f (range_with_len a n))
each-row cs vs f a zero h = tt
each-row cs vs f a (suc n) h = (h a, each-row cs vs f (a + 1) n h)

pub rows-spots : (frame : Frame) (cs : List Coding) (vs : List Held) → AllByRecursion (Fits frame) (components_of cs)
    → sizes_of vs ≡ row_sizes cs
    → AllByRecursion (AllByRecursion (IsSpotOf (length cs) (sizes_of vs))) (rows_of frame (components_of cs))
rows-spots frame cs vs fits sizes = search (rules, arith, each-row, row-spots)

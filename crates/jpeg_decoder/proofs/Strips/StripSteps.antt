-- Steps of the loop over the rows of MCUs of a sequential scan.
use Rattle.std.proofs.Common.{◌≡◌, ℕ, zero, suc, ◌+◌, ◌-◌, ◌*◌, ◌<◌, ◌≤◌, List, [], ◌∷◌, map, drop, take}
use Rattle.std.proofs.Common.{length, Ok, Err, refl, sym, ap, ◌∙◌, arith, add-mul, length-append, mul-add, mul_comm}
use Rattle.std.proofs.Common.{rules}
use Rattle.std.proofs.lemmas.List.{length-map, take-map}
use Rattle.std.proofs.lemmas.List.FromFn.{length-map-range_with_len}
use Rattle.jpeg_pixels.specs.Planes.{plane_of}
use Rattle.std.specs.List.{AllByRecursion, range_with_len}
use Rattle.jpeg_bits.specs.Reading.{Fault}
use Rattle.jpeg_bits.specs.Entropy.{Text}
use Rattle.jpeg_bits.specs.Readers.{Reads, read_on}
use Rattle.jpeg_bits.specs.Passes.{Pass, Via, Block}
use Rattle.jpeg_segments.specs.Frame.{Frame, Component}
use Rattle.jpeg_meaning.specs.Order.{Spot}
use Rattle.jpeg_meaning.specs.Scans.{Arrays}
use Rattle.jpeg_meaning.specs.InTurn.{Counted, Fits, blocks_from}
use Rattle.jpeg_meaning.specs.McuRows.{zero_rows, on_arrays}
use Rattle.jpeg_decoder.specs.Scanning.{arrays_in, sizes_of, down_in}
use Rattle.jpeg_meaning.specs.ScanSegments.{Coding, components_of}
use Rattle.jpeg_decoder.specs.Strips.{no_samples, row_sizes, strip_samples, samples_of, zeros_of, with_strips}
use Rattle.jpeg_decoder.specs.Strips.{strips_from}
use Rattle.jpeg_decoder.proofs.Kept.BlockArrays.{Held, sizes-long}
use Rattle.jpeg_decoder.proofs.Orders.OrderedWalks.{one-less}
use Rattle.jpeg_decoder.proofs.Strips.StripRows.{strips-none}
use Rattle.std.proofs.lemmas.Grind.{common_steps}

-- ---- the rows

-- all rows, from the first on
pub whole-rows : (f : ℕ → List Spot) (high : ℕ) → map f (range_with_len 0 high) ≡ map f (range_with_len 0 (high - 0))
whole-rows f high = let e : high ≡ high - 0 = omega arith in ap (λ (n : ℕ). map f (range_with_len 0 n)) e

-- what holds of the rows that are left
pub first-row : (P : List Spot → Type 0) (f : ℕ → List Spot) (k high : ℕ) → k < high
    → AllByRecursion P (map f (range_with_len k (high - k))) → P (f k)
first-row P f k high h all = grind (arith, common_steps, one-less)

pub later-rows : (P : List Spot → Type 0) (f : ℕ → List Spot) (k high : ℕ) → k < high
    → AllByRecursion P (map f (range_with_len k (high - k)))
    → AllByRecursion P (map f (range_with_len (k + 1) (high - (k + 1))))
later-rows P f k high h all = grind (arith, common_steps, one-less)

after : Pass → List Via → ℕ → List Coding → List (List Spot) → List (List ℕ) → Counted → Reads (List (List ℕ))
after p vias n codings rows planes r = strips_from p vias n codings rows
    (with_strips codings r.reached.arrays planes) (on_arrays [] r)

strips-more : (p : Pass) (vias : List Via) (n : ℕ) (codings : List Coding) (f : ℕ → List Spot) (spots : List Spot)
    (k high : ℕ) (planes : List (List ℕ)) (zeros : Arrays) (old : Counted) (t : Text)
    → k < high → zeros ≡ zero_rows 1 (components_of codings) → spots ≡ f k
    → strips_from p vias n codings (map f (range_with_len k (high - k))) planes old t
    ≡ read_on (after p vias n codings (map f (range_with_len (k + 1) (high - (k + 1)))) planes) (blocks_from p vias n
    spots (on_arrays zeros old) t)
unfolding strips_from after
strips-more p vias n codings f spots k high planes zeros old t h e is = grind (arith, common_steps, one-less, after)

pub strips_step : (p : Pass) (vias : List Via) (n : ℕ) (codings : List Coding) (f : ℕ → List Spot) (spots : List Spot)
    (k high : ℕ) (planes : List (List ℕ)) (zeros : Arrays) (old new : Counted) (t u : Text)
    → k < high → zeros ≡ zero_rows 1 (components_of codings) → spots ≡ f k
    → blocks_from p vias n spots (on_arrays zeros old) t ≡ Ok (new, u)
    → strips_from p vias n codings (map f (range_with_len k (high - k))) planes old t
    ≡ strips_from p vias n codings (map f (range_with_len (k + 1) (high - (k + 1))))
    (with_strips codings new.reached.arrays planes) (on_arrays [] new) u
unfolding after strips_from
strips_step p vias n codings f spots k high planes zeros old new t u h e is r = search rules

pub strips_refused : (p : Pass) (vias : List Via) (n : ℕ) (codings : List Coding) (f : ℕ → List Spot)
    (spots : List Spot) (k high : ℕ) (planes : List (List ℕ)) (zeros : Arrays) (old : Counted) (t : Text)
    (fault : Fault)
    → k < high → zeros ≡ zero_rows 1 (components_of codings) → spots ≡ f k
    → blocks_from p vias n spots (on_arrays zeros old) t ≡ Err fault
    → strips_from p vias n codings (map f (range_with_len k (high - k))) planes old t ≡ Err fault
strips_refused p vias n codings f spots k high planes zeros old t fault h e is r =
    strips-more p vias n codings f spots k high planes zeros old t h e is
    ∙ ap (read_on (after p vias n codings (map f (range_with_len (k + 1) (high - (k + 1)))) planes)) r

pub strips_none : (p : Pass) (vias : List Via) (n : ℕ) (codings : List Coding) (f : ℕ → List Spot)
    (k high : ℕ) (planes : List (List ℕ)) (old : Counted) (t : Text)
    → high ≤ k → strips_from p vias n codings (map f (range_with_len k (high - k))) planes old t ≡ Ok (planes, t)
unfolding strips_from
strips_none p vias n codings f k high planes old t h = grind (arith, common_steps)

pub zeros-are : (cs : List Coding) → zeros_of (row_sizes cs) ≡ zero_rows 1 (components_of cs)
unfolding zero_rows
zeros-are [] = refl
zeros-are (c ∷ cs) = grind (arith, common_steps, zeros-are cs)

-- ---- the planes

pub length-samples : (high : ℕ) (c : Coding) (blocks : List Block)
    → length (samples_of high c blocks)
    ≡ c.component.scale * c.component.blocks_wide * (c.component.scale * high)
unfolding samples_of plane_of
length-samples high c blocks = grind (arith, common_steps, length-map-range_with_len)

one-row-more : (a s r d : ℕ) → a * (s * (r * d)) + a * (s * d) ≡ a * (s * ((r + 1) * d))
one-row-more a s r d = grind (arith, common_steps, add-mul, mul-add)

abbrev pub lengths : List (List ℕ) → List ℕ
lengths planes = map (λ (l : List ℕ). length l) planes

-- the sizes of the first planes, of this many rows of MCUs
abbrev pub sizes_after : ℕ → ℕ → List Coding → List ℕ
sizes_after row k cs = take k (map (λ (c : Coding). strip_samples (row * down_in c) c) cs)

pub lengths-none : (k : ℕ) (cs : List Coding) (planes : List (List ℕ)) → planes ≡ take k (no_samples cs)
    → lengths planes ≡ sizes_after 0 k cs
lengths-none k cs planes e =
    ap lengths e ∙ sym (take-map (λ (l : List ℕ). length l) k (no_samples cs)) ∙ ap (take k) (go cs)
  where
    go : (cs : List Coding) → lengths (map (λ (c : Coding). []) cs)
        ≡ map (λ (c : Coding). strip_samples (0 * down_in c) c) cs
    go [] = refl
    go (c ∷ cs) = grind (arith, common_steps, go cs)

pub lengths-next : (k : ℕ) (cs : List Coding) (arrays : Arrays) (planes : List (List ℕ)) (row : ℕ)
    → length arrays ≡ length cs → lengths planes ≡ sizes_after row k cs
    → lengths (with_strips cs arrays planes) ≡ sizes_after (row + 1) k cs
unfolding with_strips
lengths-next zero cs arrays [] row e h = ap lengths (strips-none cs arrays)
lengths-next (suc k) [] arrays [] row e h = refl
lengths-next (suc k) (c ∷ cs) (a ∷ arrays) (p ∷ planes) row e h =
    let tail = ap (λ (l : List ℕ). drop 1 l) h in
    let more = lengths-next k cs arrays planes row (omega arith) tail in
    grind (arith, common_steps, length-append, length-samples, one-row-more, more)
lengths-next _ _ _ _ row e h = absurd (let n = ap (λ (l : List ℕ). length l) h in omega arith)

pub row-count : (cs : List Coding) (vs : List Held) → sizes_of vs ≡ row_sizes cs
    → length (arrays_in vs) ≡ length cs
row-count cs vs sizes = grind (arith, common_steps, length-map, sizes-long)

-- a plane of all rows of MCUs has the samples of all blocks
pub lengths-all : (frame : Frame) (cs : List Coding) → AllByRecursion (Fits frame) (components_of cs)
    → map (λ (c : Coding). strip_samples (frame.mcus_high * down_in c) c) cs
    ≡ map (λ (c : Component). c.blocks_high * c.scale * (c.blocks_wide * c.scale)) (components_of cs)
lengths-all frame [] fits = refl
lengths-all frame (c ∷ cs) fits = grind (arith, common_steps, mul_comm, lengths-all frame cs fits.1)

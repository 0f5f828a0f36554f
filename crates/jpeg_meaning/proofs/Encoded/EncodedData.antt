-- Coefficients have data in each legal scan, by any tables that suffice.
use Rattle.std.proofs.Common.{[], ap, append_assoc, arith, Bool, drop, false, flat_map, get_or, inl, inr}
use Rattle.std.proofs.Common.{length, length-append, List, map, neg_ℤ, negsuc, None, Option, pos, refl, rules}
use Rattle.std.proofs.Common.{set, Some, subst, suc, sym, true, unsigned_abs, zero, ℕ, ℤ, ◌%◌, ◌*◌, ◌++◌, ◌+◌}
use Rattle.std.proofs.Common.{◌-◌, ◌/◌, ◌<◌, ◌^◌, ◌∙◌, ◌∷◌, ◌≡◌, ◌≢◌, ◌≤◌, ◌⊎◌}
use Rattle.std.proofs.Math.Nat.{div-le_self}
use Rattle.std.proofs.lemmas.Bool.{cases_lt}
use Rattle.std.proofs.lemmas.List.{append-nil, replicate-append-replicate}
use Rattle.std.proofs.lemmas.List.Elements.{filter-append}
use Rattle.std.specs.List.{AllByRecursion, range_with_len}
use Rattle.std.specs.Prelude.{nat_le, slice_get}
use lib.ListN.{length-map}
use Rattle.jpeg_bits.proofs.ReadIntervals.{all-append, all-drop, all-map, all-take}
use Rattle.jpeg_bits.proofs.WrittenIntervals.{first-all, others-all}
use Rattle.jpeg_bits.specs.Codes.{Table}
use Rattle.jpeg_bits.specs.Intervals.{first_group, other_groups}
use Rattle.jpeg_bits.specs.Passes.{band_of, band_size, before_band, Block, Pass, predictors_at_start, Via}
use Rattle.jpeg_bits.specs.Written.{IsCategory, low_bits, WritesIntervals}
use Rattle.jpeg_segments.specs.Frame.{Component, Frame}
use Rattle.jpeg_segments.specs.ScanHeaders.{scan_written, ScanHeader}
use Rattle.jpeg_meaning.specs.Found.{Said}
use Rattle.jpeg_meaning.specs.FrameSamples.{AreBytes}
use Rattle.jpeg_meaning.specs.Levels.{Is8Bit, Levels, numbers_at, toward_zero}
use Rattle.jpeg_meaning.specs.Order.{all_spots, mcu_size, mcu_spots, own_spots, part_spots, Spot, spots_of}
use Rattle.jpeg_meaning.specs.ScanSegments.{Coding, components_of, pass_of, vias_from}
use Rattle.jpeg_meaning.specs.Scans.{turns_of, via_at}
use Rattle.jpeg_meaning.specs.Scripts.{greatest_category, HasAcCodes, HasDcCodes, Suffices}
use Rattle.jpeg_meaning.specs.WrittenData.{corrections, count_unknown, no_numbers, NoneNew, WritesAc, WritesBand}
use Rattle.jpeg_meaning.specs.WrittenData.{WritesBlocks, WritesDc, WritesDifference, WritesRefinement}
use Rattle.jpeg_meaning.specs.WrittenData.WritesAc.{again, no_band, first}
use Rattle.jpeg_meaning.specs.WrittenData.WritesBand.{ended, full, sixteen, value}
use Rattle.jpeg_meaning.specs.WrittenData.WritesBlocks.{block, done}
use Rattle.jpeg_meaning.specs.WrittenData.WritesDc.{one_bit, whole, other_band}
use Rattle.jpeg_meaning.specs.WrittenData.WritesRefinement.{found, none_left, passed, refined}
use Rattle.jpeg_meaning.specs.WrittenImages.{WritesImageScan}
use Rattle.jpeg_meaning.specs.WrittenScans.{Coefficients, IsLegalScan, levels_after, WritesScan}
use Rattle.jpeg_meaning.specs.declared.grids.Grid.{Grid}
use Rattle.jpeg_meaning.proofs.Written.BroughtLevels.{eqb_cases}
use Rattle.jpeg_meaning.proofs.Written.CutLevels.{floor-range}
use Rattle.jpeg_meaning.proofs.Encoded.EncodedParts.{all-weaker, CanWrite, category-at_most, intervals-packed}
use Rattle.jpeg_meaning.proofs.Written.SentBlocks.{InDcRange}
use Rattle.jpeg_meaning.proofs.Written.WrittenBlocks.{difference-range, Predicts, predicts-set}
use Rattle.jpeg_meaning.proofs.Written.WrittenFrameScans.{start-predicts}

abbrev Small : ℤ → Type 0
Small u = unsigned_abs u ≤ 1023

-- ---- bands in their first scan

Written : Table → List ℤ → Type 0
Written table us = (b : List Bool) × WritesBand table us b 0

-- sixteen zeros first
sixteen-first : (table : Table) (z : ℕ) (us : List ℤ) → HasAcCodes 10 table → 16 ≤ z
    → Written table (no_numbers (z - 16) ++ us) → Written table (no_numbers z ++ us)
unfolding Written
sixteen-first table z us codes far w =
    let rest : 16 + (z - 16) ≡ z = omega arith in
    let same : no_numbers 16 ++ (no_numbers (z - 16) ++ us) ≡ no_numbers z ++ us =
    sym (append_assoc (no_numbers 16) (no_numbers (z - 16)) us)
    ∙ ap (λ (l : List ℤ). l ++ us) (replicate-append-replicate 16 (z - 16) (pos 0) ∙ ap no_numbers rest) in
    let code = codes.sixteen in (
      code.0 ++ w.0,
      subst (λ (l : List ℤ). WritesBand table l (code.0 ++ w.0) 0) same
          (sixteen code.0 (no_numbers (z - 16) ++ us) w.0 0 code.1 w.1),
    )

some-category : (u : ℤ) (s : ℕ) → u ≢ pos 0 → IsCategory u s → 1 ≤ s
some-category (pos zero) s ne c = absurd (ne refl)
some-category u zero ne c = let h = c.holds in omega arith
some-category u (suc s) ne c = omega arith

zeros-step : (table : Table) (z : ℕ) (u : ℤ) (more : List ℤ) → HasAcCodes 10 table → u ≢ pos 0 → Small u
    → Written table more → (z < 16) ⊎ (16 ≤ z)
    → (16 ≤ z → Written table (no_numbers (z - 16) ++ u ∷ more)) → Written table (no_numbers z ++ u ∷ more)
unfolding Written
zeros-step table z u more codes ne small w (inl less) next =
    let c = category-at_most u 10 (omega arith) in
    let code = codes.value z c.0 (omega arith) (some-category u c.0 ne c.2) c.1 in
    (_, value z c.0 u code.0 more w.0 0 (omega arith) ne c.2 code.1 w.1)
zeros-step table z u more codes ne small w (inr far) next = sixteen-first table z (u ∷ more) codes far (next far)

-- zeros and a value
zeros-written : (table : Table) (n z : ℕ) (u : ℤ) (more : List ℤ) → HasAcCodes 10 table → z ≤ n → u ≢ pos 0
    → Small u → Written table more → Written table (no_numbers z ++ u ∷ more)
zeros-written table zero z u more codes le ne small w = search (rules, zeros-step, cases_lt)
zeros-written table (suc n) z u more codes le ne small w = zeros-step table z u more codes ne small w
    (cases_lt z 16) (λ far. zeros-written table n (z - 16) u more codes (omega arith) ne small w)

zeros-shift : (z : ℕ) (us : List ℤ) → no_numbers (suc z) ++ us ≡ no_numbers z ++ pos 0 ∷ us
zeros-shift zero us = refl
zeros-shift (suc z) us = ap (λ (l : List ℤ). pos 0 ∷ l) (zeros-shift z us)

band-written : (table : Table) (us : List ℤ) (z : ℕ) → HasAcCodes 10 table → AllByRecursion Small us
    → Written table (no_numbers z ++ us)
unfolding Written
band-written table [] zero codes small = (_, full)
band-written table [] (suc n) codes small =
    let code = codes.ended in (
      code.0 ++ low_bits 0 0,
      subst (λ (l : List ℤ). WritesBand table l (code.0 ++ low_bits 0 0) 0) (sym (append-nil (no_numbers (suc n))))
          (ended n 0 0 code.0 (omega arith) (omega arith) code.1),
    )
band-written table (pos zero ∷ us) z codes small =
    subst (Written table) (zeros-shift z us) (band-written table us (suc z) codes small.1)
band-written table (pos (suc n) ∷ us) z codes small = zeros-written table z z (pos (suc n)) us codes (omega arith)
    (λ e. absurd (let h : suc n ≡ 0 = ap unsigned_abs e in omega arith)) small.0
    (band-written table us 0 codes small.1)
band-written table (negsuc n ∷ us) z codes small = zeros-written table z z (negsuc n) us codes (omega arith)
    (λ e. absurd (let h : suc n ≡ 0 = ap unsigned_abs e in omega arith)) small.0
    (band-written table us 0 codes small.1)

-- ---- bands in a refinement

Refined : Table → List ℤ → Type 0
Refined table us = (b : List Bool) × WritesRefinement table us b 0

-- coefficients of which none is new, and this many are not old
record IsFront (front : List ℤ) (n : ℕ) : Type 0 where
  none : NoneNew front
  counted : count_unknown front ≡ n

front-none : IsFront [] 0
unfolding NoneNew count_unknown
front-none = record { none = tt; counted = refl }

front-more : (front : List ℤ) (n k : ℕ) (u : ℤ) → IsFront front n → IsFront (u ∷ []) k → IsFront (front ++ u ∷ []) (n + k)
unfolding NoneNew count_unknown
front-more front n k u is one = search (rules, all-append, unsigned_abs, filter-append, length-append)

front-zero : IsFront (pos 0 ∷ []) 1
unfolding NoneNew count_unknown
front-zero = record { none = (λ e. absurd (omega arith), tt); counted = refl }

front-old : (u : ℤ) → 2 ≤ unsigned_abs u → IsFront (u ∷ []) 0
unfolding NoneNew count_unknown
front-old u h = record { none = (λ e. absurd (omega arith), tt); counted = search (rules, nat_le) }

refined-end : (table : Table) (front : List ℤ) (n : ℕ) → HasAcCodes 1 table → IsFront front n → Refined table (front ++ [])
unfolding Refined
refined-end table [] n codes is = (_, refined)
refined-end table (u ∷ front) n codes is =
    let code = codes.ended in (
      code.0 ++ (low_bits 0 0 ++ corrections (u ∷ front)),
      subst (λ (l : List ℤ). WritesRefinement table l (code.0 ++ (low_bits 0 0 ++ corrections (u ∷ front))) 0)
          (sym (append-nil (u ∷ front)))
          (none_left 0 0 u front code.0 (omega arith) (omega arith) is.none code.1),
    )

-- a new coefficient after those in front
found-first : (table : Table) (front : List ℤ) (n : ℕ) (u : ℤ) (us : List ℤ) → HasAcCodes 1 table → IsFront front n
    → n ≤ 15 → unsigned_abs u ≡ 1 → Refined table us → Refined table (front ++ u ∷ us)
unfolding Refined
found-first table front n u us codes is le one w =
    let code = codes.value n 1 le (omega arith) (omega arith) in
    (_, found n front u code.0 us w.0 0 le is.none is.counted one code.1 w.1)

passed-first : (table : Table) (front us : List ℤ) → HasAcCodes 1 table → IsFront front 15
    → Refined table us → Refined table (front ++ pos 0 ∷ us)
unfolding Refined
passed-first table front us codes is w =
    let code = codes.sixteen in
    (_, passed front code.0 us w.0 0 is.none is.counted code.1 w.1)

move : (table : Table) (front us : List ℤ) (u : ℤ) → Refined table ((front ++ u ∷ []) ++ us) → Refined table (front ++ u ∷ us)
move table front us u w = subst (Refined table) (append_assoc front (u ∷ []) us) w

zero-next : (table : Table) (front us : List ℤ) (n : ℕ) → HasAcCodes 1 table → IsFront front n → n ≤ 15
    → (n < 15) ⊎ (15 ≤ n) → (n < 15 → Refined table ((front ++ pos 0 ∷ []) ++ us)) → Refined table us
    → Refined table (front ++ pos 0 ∷ us)
zero-next table front us n codes is le (inl less) onward anew = move table front us (pos 0) (onward less)
zero-next table front us n codes is le (inr far) onward anew = search (rules, passed-first)

refinement-written : (table : Table) (us front : List ℤ) (n : ℕ) → HasAcCodes 1 table → IsFront front n → n ≤ 15
    → Refined table (front ++ us)
refinement-written table [] front n codes is le = refined-end table front n codes is
refinement-written table (pos zero ∷ us) front n codes is le =
    zero-next table front us n codes is le (cases_lt n 15)
    (λ less. refinement-written table us (front ++ pos 0 ∷ []) (n + 1) codes
    (front-more front n 1 (pos 0) is front-zero) (omega arith))
    (refinement-written table us [] 0 codes front-none (omega arith))
refinement-written table (pos (suc zero) ∷ us) front n codes is le =
    found-first table front n (pos 1) us codes is le refl
    (refinement-written table us [] 0 codes front-none (omega arith))
refinement-written table (pos (suc (suc k)) ∷ us) front n codes is le =
    let u = pos (suc (suc k)) in
    move table front us u (refinement-written table us (front ++ u ∷ []) (n + 0) codes
    (front-more front n 0 u is (front-old u (omega arith))) (omega arith))
refinement-written table (negsuc zero ∷ us) front n codes is le =
    found-first table front n (negsuc 0) us codes is le refl
    (refinement-written table us [] 0 codes front-none (omega arith))
refinement-written table (negsuc (suc k) ∷ us) front n codes is le =
    let u = negsuc (suc k) in
    move table front us u (refinement-written table us (front ++ u ∷ []) (n + 0) codes
    (front-more front n 0 u is (front-old u (omega arith))) (omega arith))

-- ---- blocks

-- the bits of a block after a prediction, and the next prediction
record BlockBits (p : Pass) (t : Via × Block) (prediction : ℤ) : Type 0 where
  dc : List Bool
  ac : List Bool
  next : ℤ
  ranged : InDcRange next
  writes_dc : WritesDc p t.0.dc t.1.dc prediction dc next
  writes_ac : WritesAc p t.0.ac (band_of p t.1.acs) 0 ac 0

-- A block's numbers at the level of a pass are in range, and its tables suffice.
record CanSend (p : Pass) (t : Via × Block) : Type 0 where
  dc : p.ss ≡ 0 → p.is_first ≡ true → HasDcCodes t.0.dc
  ac : 0 < p.se → HasAcCodes (greatest_category p.is_first) t.0.ac
  dc_range : InDcRange t.1.dc
  acs : AllByRecursion Small t.1.acs

-- the bits of DC, and the next prediction
record DcBits (p : Pass) (table : Table) (u prediction : ℤ) : Type 0 where
  bits : List Bool
  next : ℤ
  ranged : InDcRange next
  writes : WritesDc p table u prediction bits next

difference-written : (table : Table) (d : ℤ) → HasDcCodes table → unsigned_abs d < 2 ^ 11
    → (bits : List Bool) × WritesDifference table d bits
difference-written table d codes h =
    let c = category-at_most d 11 h in
    let code = codes c.0 c.1 in
    (_, record { s = c.0; code = code.0; category = c.2; coded = code.1; has_bits = refl })

dc-whole : (p : Pass) (table : Table) (u prediction : ℤ) → p.ss ≡ 0 → p.is_first ≡ true → HasDcCodes table
    → InDcRange u → InDcRange prediction → DcBits p table u prediction
dc-whole p table u prediction s f codes ranged before =
    let d = difference-written table _ codes (difference-range u prediction ranged before) in
    record { bits = d.0; next = u; ranged = ranged; writes = whole u prediction d.0 s f d.1 }

dc-at : (p : Pass) (table : Table) (u prediction : ℤ) (f : Bool) → p.is_first ≡ f → (p.ss ≡ 0) ⊎ (p.ss ≢ 0)
    → (p.ss ≡ 0 → p.is_first ≡ true → HasDcCodes table) → InDcRange u → InDcRange prediction
    → DcBits p table u prediction
dc-at p table u prediction true is (inl s) codes ranged before =
    dc-whole p table u prediction s is (codes s is) ranged before
dc-at p table u prediction false is (inl s) codes ranged before = record {
  bits = _;
  next = prediction;
  ranged = before;
  writes = one_bit u prediction s is;
}
dc-at p table u prediction f is (inr s) codes ranged before = record {
  bits = [];
  next = prediction;
  ranged = before;
  writes = other_band u prediction s;
}

ac-at : (p : Pass) (table : Table) (us : List ℤ) (f : Bool) → p.is_first ≡ f
    → (us ≢ [] → HasAcCodes (greatest_category f) table) → AllByRecursion Small us
    → (b : List Bool) × WritesAc p table us 0 b 0
unfolding Written Refined
ac-at p table [] f is codes small = ([], no_band 0)
ac-at p table (u ∷ us) true is codes small =
    let w = band-written table (u ∷ us) 0 (codes (λ e. let n : ⊥ = cc in n)) small in
    (w.0, first u us w.0 0 is w.1)
ac-at p table (u ∷ us) false is codes small =
    let w = refinement-written table (u ∷ us) [] 0 (codes (λ e. let n : ⊥ = cc in n)) front-none (omega arith) in
    (w.0, again u us w.0 0 is w.1)

-- a pass that has a band codes AC
band-some : (p : Pass) (us : List ℤ) → band_of p us ≢ [] → (0 < p.se) ⊎ (p.se ≤ 0) → 0 < p.se
band-some p us ne (inl h) = h
band-some p us ne (inr h) = search rules

each-sent : (p : Pass) (t : Via × Block) (prediction : ℤ) → CanSend p t → InDcRange prediction → BlockBits p t prediction
each-sent p t prediction good ranged =
    let d = dc-at p t.0.dc t.1.dc prediction p.is_first refl (eqb_cases p.ss 0) good.dc good.dc_range ranged in
    let band = all-take Small (band_size p) (drop (before_band p) t.1.acs)
    (all-drop Small (before_band p) t.1.acs good.acs) in
    let a = ac-at p t.0.ac (band_of p t.1.acs) p.is_first refl
    (λ ne. good.ac (band-some p t.1.acs ne (cases_lt 0 p.se))) band in
    record { dc = d.bits; ac = a.0; next = d.next; ranged = d.ranged; writes_dc = d.writes; writes_ac = a.1 }

blocks-sent : (p : Pass) (ps : List ℤ) (turns : List (Via × Block)) → Predicts ps → AllByRecursion (CanSend p) turns
    → (b : List Bool) × WritesBlocks p ps 0 turns b
blocks-sent p ps [] ranged good = ([], done ps)
blocks-sent p ps (t ∷ turns) ranged good =
    let b = each-sent p t (get_or ps t.0.component (pos 0)) good.0 (ranged.each t.0.component) in
    let more = blocks-sent p (set ps t.0.component b.next) turns (predicts-set ps t.0.component b.next ranged b.ranged)
    good.1 in
    (_, block ps 0 0 t.0 t.1 turns b.dc b.ac more.0 b.next b.writes_dc b.writes_ac more.1)

-- the intervals of a scan
intervals-sent : (p : Pass) (n : ℕ) (turns : List (Via × Block)) → AllByRecursion (CanSend p) turns
    → (bytes : List ℕ)
    × WritesIntervals (WritesBlocks p predictors_at_start 0) 0 (first_group n turns) (other_groups n turns) bytes
    × AreBytes bytes
intervals-sent p n turns good =
    let sent : (ts : List (Via × Block)) → AllByRecursion (CanSend p) ts → CanWrite (WritesBlocks p predictors_at_start 0) ts =
    λ ts all. blocks-sent p predictors_at_start ts start-predicts all in
    intervals-packed (WritesBlocks p predictors_at_start 0) 0 (first_group n turns) (other_groups n turns)
    (sent (first_group n turns) (first-all (CanSend p) n turns good))
    (all-weaker (AllByRecursion (CanSend p)) (CanWrite (WritesBlocks p predictors_at_start 0)) (other_groups n turns) sent
    (others-all (CanSend p) n turns good))

-- ---- the blocks of a scan

each-map : {A B : Type 0} (P : B → Type 0) (f : A → B) (xs : List A) → ((x : A) → P (f x)) → AllByRecursion P (map f xs)
each-map P f [] h = tt
each-map P f (x ∷ xs) h = (h x, each-map P f xs h)

each-flat : {A B : Type 0} (P : B → Type 0) (f : A → List B) (xs : List A) → ((x : A) → AllByRecursion P (f x))
    → AllByRecursion P (flat_map f xs)
each-flat P f [] h = tt
each-flat P f (x ∷ xs) h = all-append P (f x) (flat_map f xs) (h x) (each-flat P f xs h)

own-slots : (g : Grid) → AllByRecursion (λ s. s.slot ≡ 0) (own_spots g)
unfolding own_spots
own-slots g = search (rules, each-flat, each-map)

-- the slots of a scan's spots are those of its components
part-slots : (row column slot n : ℕ) (c : Component) → slot < n
    → AllByRecursion (λ s. s.slot < n) (part_spots row column slot c)
unfolding part_spots
part-slots row column slot n c h = search (rules, each-flat, each-map)

mcu-slots : (row column slot n : ℕ) (cs : List Component) → slot + length cs ≤ n
    → AllByRecursion (λ s. s.slot < n) (mcu_spots row column slot cs)
unfolding mcu_spots
mcu-slots row column slot n [] h = tt
mcu-slots row column slot n (c ∷ cs) h =
    all-append (λ s. s.slot < n) (part_spots row column slot c) (mcu_spots row column (slot + 1) cs)
    (part-slots row column slot n c (omega arith)) (mcu-slots row column (slot + 1) n cs (omega arith))

all-slots : (wide high n : ℕ) (cs : List Component) → length cs ≤ n
    → AllByRecursion (λ s. s.slot < n) (all_spots wide high cs)
unfolding all_spots
all-slots wide high n cs h =
    each-flat (λ s. s.slot < n) (λ row. flat_map (λ column. mcu_spots row column 0 cs) (range_with_len 0 wide))
    (range_with_len 0 high)
    (λ row. each-flat (λ s. s.slot < n) (λ column. mcu_spots row column 0 cs) (range_with_len 0 wide)
    (λ column. mcu-slots row column 0 n cs (omega arith)))

scan-slots : (frame : Frame) (cs : List Component) → AllByRecursion (λ s. s.slot < length cs) (spots_of frame cs)
unfolding spots_of
scan-slots frame [] = tt
scan-slots frame (c ∷ []) = search (rules, all-weaker, own-slots)
scan-slots frame (c ∷ d ∷ more) = search (rules, all-slots)

-- the tables of a slot suffice
record ViaSuffices (p : Pass) (v : Via) : Type 0 where
  dc : p.ss ≡ 0 → p.is_first ≡ true → HasDcCodes v.dc
  ac : 0 < p.se → HasAcCodes (greatest_category p.is_first) v.ac

via-suffices : (p : Pass) (k slot : ℕ) (codings : List Coding) (other : Via) → AllByRecursion (Suffices p) codings
    → slot < length codings → ViaSuffices p (get_or (vias_from k codings) slot other)
unfolding vias_from
via-suffices p k slot [] other all h = absurd (omega arith)
via-suffices p k zero (c ∷ codings) other all h = record { dc = all.0.dc; ac = all.0.ac }
via-suffices p k (suc slot) (c ∷ codings) other all h =
    via-suffices p (k + 1) slot codings other all.1 (omega arith)

-- the block of a spot, if it is of this component
abbrev own_block : Coding → Coefficients → Spot → Block
own_block k array s = array k.index (s.index / k.component.blocks_wide) (s.index % k.component.blocks_wide)

-- The block that is sent at a spot: that of the array, also where it is padding.
abbrev block_for : Option Coding → Coefficients → Spot → Block
block_for (Some k) array s = own_block k array s
block_for None array s = array 0 0 0

for-range : (o : Option Coding) (array : Coefficients) (s : Spot)
    → ((index row column : ℕ) → Is8Bit (array index row column)) → Is8Bit (block_for o array s)
for-range (Some k) array s range = search rules
for-range None array s range = range 0 0 0

toward-small : (a : ℕ) (x : ℤ) → unsigned_abs x ≤ 1023 → Small (toward_zero a x)
toward-small a (pos n) h = let le = div-le_self n (2 ^ a) in omega arith
toward-small a (negsuc n) h = search (rules, neg_ℤ, div-le_self, unsigned_abs)

can-send : (p : Pass) (v : Via) (b : Block) → ViaSuffices p v → Is8Bit b → CanSend p (v, numbers_at p.al b)
can-send p v b is range = search (rules, floor-range, all-map, toward-small)

pub scan-data : (frame : Frame) (restart : ℕ) (p : Pass) (codings : List Coding) (array : Coefficients)
    → ((index row column : ℕ) → Is8Bit (array index row column)) → AllByRecursion (Suffices p) codings
    → (bytes : List ℕ) × WritesScan frame restart p codings array bytes × AreBytes bytes
unfolding turns_of
scan-data frame restart p codings array range all =
    let spots = spots_of frame (components_of codings) in
    let sent : Spot → Block = λ s. block_for (slice_get codings s.slot) array s in
    let in_range : (s : Spot) → Is8Bit (sent s) = λ s. for-range (slice_get codings s.slot) array s range in
    let count : length (components_of codings) ≡ length codings = length-map codings (λ c. c.component) in
    let turns = turns_of (vias_from 0 codings) spots (λ s. numbers_at p.al (sent s)) in
    let good : AllByRecursion (CanSend p) turns =
    all-map (λ s. s.slot < length (components_of codings)) (CanSend p) _ spots
    (λ s h. can-send p (via_at (vias_from 0 codings) s.slot) (sent s)
    (via-suffices p 0 s.slot codings _ all (omega arith)) (in_range s))
    (scan-slots frame (components_of codings)) in
    let w = intervals-sent p (restart * mcu_size (components_of codings)) turns good in (
      w.0,
      record {
        sent = sent;
        in_range = in_range;
        is_own = λ s c e own. ap (λ (o : Option Coding). block_for o array s) e;
        coded = w.1;
      },
      w.2,
    )

-- A legal scan by tables that suffice has data.
pub scan-sent : (said : Said) (frame : Frame) (levels : ℕ → Levels) (h : ScanHeader) (codings : List Coding)
    (array : Coefficients) → ((index row column : ℕ) → Is8Bit (array index row column))
    → IsLegalScan said frame levels (scan_written frame h) codings
    → AllByRecursion (Suffices (pass_of (scan_written frame h))) codings
    → (bytes : List ℕ) × WritesImageScan array said levels frame h bytes
    (levels_after (pass_of (scan_written frame h)) (map (λ c. c.index) codings) levels) × AreBytes bytes
scan-sent said frame levels h codings array range legal all =
    let d = scan-data frame said.restart (pass_of (scan_written frame h)) codings array range all in
    (d.0, record { codings = codings; legal = legal; written = d.1; sent = refl }, d.2)

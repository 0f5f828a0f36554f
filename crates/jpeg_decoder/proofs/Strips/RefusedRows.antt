-- The rows of MCUs of a sequential scan where nothing follows the markers that end its data: those that are
-- read, one in which a block is refused, and the rows of zeros below it.
use Rattle.std.proofs.Common.{◌≡◌, ℕ, zero, suc, ◌+◌, ◌-◌, ◌*◌, ◌<◌, ◌≤◌, Bool, false, true, List, [], map, length}
use Rattle.std.proofs.Common.{replicate, Option, None, Some, Result, Ok, Err, refl, sym, ap, ap₂, ◌∙◌, arith, subst}
use Rattle.std.specs.Prelude.{IfSome, option_map}
use Rattle.std.specs.List.{AllByRecursion, range_with_len}
use Rattle.std.proofs.lemmas.List.{length-map}
use Rattle.std.proofs.lemmas.Bool.{false≢true}
use Rattle.jpeg_bits.specs.Reading.{Fault, Names}
use Rattle.jpeg_bits.specs.Entropy.{Text}
use Rattle.jpeg_bits.specs.Readers.{read_on}
use Rattle.jpeg_bits.specs.Passes.{Pass, Via, zero_block}
use Rattle.jpeg_bits.specs.declared.error.Error.{Error}
use Rattle.jpeg_meaning.specs.Brought.{Through}
use Rattle.jpeg_meaning.specs.InTurn.{AreApart, Counted, blocks_from}
use Rattle.jpeg_meaning.specs.McuRows.{on_arrays, row_size, zero_rows}
use Rattle.jpeg_meaning.specs.Order.{Spot}
use Rattle.jpeg_meaning.specs.Scans.{Arrays}
use Rattle.jpeg_meaning.specs.ScanSegments.{Coding, components_of}
use Rattle.jpeg_meaning.specs.States.{IfRefused}
use Rattle.jpeg_decoder.specs.Scanning.{IsSpotOf, counted, kept_after, kept_counted}
use Rattle.jpeg_decoder.specs.Strips.{with_strips, zeros_of}
use Rattle.jpeg_decoder.specs.Through.{IsReached, IsReachedBeside, cleared, counted_reached, in_frame}
use Rattle.jpeg_decoder.specs.Through.{strips_reached, zero_strips}
use Rattle.jpeg_decoder.specs.Walk.{spot_of}
use Rattle.jpeg_decoder.specs.declared.scan.blocks.Interval.{Interval}
use Rattle.jpeg_decoder.specs.declared.scan.spots.Spot as taken
use Rattle.jpeg_decoder.proofs.Partial.CountedReads.{counted-fault, unread-of, unread-zero}
use Rattle.jpeg_decoder.proofs.Partial.Refused.{if-refused-as, refused-at}
use Rattle.jpeg_decoder.proofs.Strips.KeptStrips.{kept-refused}
use Rattle.jpeg_decoder.proofs.Strips.ReachedStrips.{reached-refused, reached-step}
use Rattle.jpeg_decoder.proofs.Strips.StripSteps.{lengths, lengths-next, sizes_after}

-- ---- rows of zeros

-- all of them are left
pub zeros-all : (left : ℕ) (codings : List Coding) (planes : List (List ℕ))
    → zero_strips (left - 0) codings planes ≡ zero_strips left codings planes
zeros-all left codings planes =
    let e : left - 0 ≡ left = omega arith in ap (λ (n : ℕ). zero_strips n codings planes) e

-- the next of those that are left
pub zeros-next : (left i : ℕ) (codings : List Coding) (planes : List (List ℕ)) → i < left
    → zero_strips (left - i) codings planes
    ≡ zero_strips (left - (i + 1)) codings (with_strips codings (zero_rows 1 (components_of codings)) planes)
unfolding zero_strips
zeros-next left i codings planes h =
    let e : left - i ≡ suc (left - (i + 1)) = omega arith in ap (λ (n : ℕ). zero_strips n codings planes) e

-- none is left
pub zeros-done : (left i : ℕ) (codings : List Coding) (planes : List (List ℕ)) → left ≤ i
    → zero_strips (left - i) codings planes ≡ planes
unfolding zero_strips
zeros-done left i codings planes h =
    let e : left - i ≡ 0 = omega arith in ap (λ (n : ℕ). zero_strips n codings planes) e

zeros-count : (codings : List Coding) → length (zero_rows 1 (components_of codings)) ≡ length codings
unfolding zero_rows
zeros-count codings =
    length-map (components_of codings) (λ c. replicate (1 * row_size c) zero_block)
    ∙ length-map codings (λ c. c.component)

abbrev Sized : ℕ → ℕ → List Coding → List (List ℕ) → Type 0
Sized count row codings planes = lengths planes ≡ sizes_after row count codings

lengths-zeros : (count k : ℕ) (codings : List Coding) (planes : List (List ℕ)) (row : ℕ)
    → Sized count row codings planes → Sized count (row + k) codings (zero_strips k codings planes)
unfolding zero_strips
lengths-zeros count zero codings planes row h =
    let e : row ≡ row + 0 = omega arith in subst (λ (n : ℕ). Sized count n codings planes) e h
lengths-zeros count (suc k) codings planes row h =
    let e : row + 1 + k ≡ row + suc k = omega arith in
    let zeros = zero_rows 1 (components_of codings) in
    subst (λ (n : ℕ). Sized count n codings (zero_strips (suc k) codings planes)) e
    (lengths-zeros count k codings (with_strips codings zeros planes) (row + 1)
    (lengths-next count codings zeros planes row (zeros-count codings) h))

-- Planes with a row of MCUs and the rows of zeros below it have the samples of all blocks.
pub lengths-rest : (count : ℕ) (codings : List Coding) (arrays : Arrays) (planes new : List (List ℕ)) (k high : ℕ)
    → k < high → length arrays ≡ length codings → Sized count k codings planes
    → new ≡ zero_strips (high - 1 - k) codings (with_strips codings arrays planes) → Sized count high codings new
lengths-rest count codings arrays planes new k high lt long h is =
    let e : k + 1 + (high - 1 - k) ≡ high = omega arith in
    subst (λ (l : List (List ℕ)). Sized count high codings l) (sym is)
    (subst (λ (n : ℕ). Sized count n codings (zero_strips (high - 1 - k) codings (with_strips codings arrays planes))) e
    (lengths-zeros count (high - 1 - k) codings (with_strips codings arrays planes) (k + 1)
    (lengths-next count codings arrays planes k long h)))

-- ---- a row that is read, and one in which a block is refused

whole-read : (keeps : Bool) (o : Result (Counted × Text) Fault) (new : Counted) (u : Text) → keeps ≡ true
    → read_on (kept_after keeps) o ≡ Ok (kept_counted keeps new, u) → o ≡ Ok (new, u)
whole-read true (Ok r) new u e h = h
whole-read true (Err f) new u e h = h
whole-read false o new u e h = absurd (false≢true e)

-- the spot of a block that wasn't read is one of those that were to be
unread-in : (slots : ℕ) (sizes : List ℕ) (p : Pass) (vias : List Via) (n : ℕ) (spots : List Spot) (old : Counted)
    (t : Text) (unread : Option taken.Spot) → AllByRecursion (IsSpotOf slots sizes) spots
    → option_map spot_of unread ≡ (counted_reached p vias n spots old t).unread
    → IfSome unread (λ s. IsSpotOf slots sizes (spot_of s))
unread-in slots sizes p vias n spots old t None all e = tt
unread-in slots sizes p vias n spots old t (Some s) all e =
    unread-of (IsSpotOf slots sizes) p vias n spots old t (spot_of s) all (sym e)

-- What is there once the block that was refused is cleared is what is reached of a row of zeros.
pub reached-cleared : (p : Pass) (vias : List Via) (n : ℕ) (i : Interval) (walked spots : List Spot) (start : Arrays)
    (sizes : List ℕ) (t : Text) (e : Error) (read new : Arrays) (unread : Option taken.Spot)
    → walked ≡ spots → start ≡ zeros_of sizes → AreApart spots → new ≡ cleared (option_map spot_of unread) read
    → IfRefused e (IsReachedBeside (counted_reached p vias n walked (counted i start) t) read unread)
    → IfRefused e (IsReached (counted_reached p vias n spots (counted i (zeros_of sizes)) t) new unread)
reached-cleared p vias n i walked spots start sizes t e read new unread same zeros apart made there =
    let old = counted i (zeros_of sizes) in
    let r = counted_reached p vias n spots old t in
    let is : counted_reached p vias n walked (counted i start) t ≡ r =
    ap₂ (λ (l : List Spot) (a : Arrays). counted_reached p vias n l (counted i a) t) same zeros in
    if-refused-as {P = IsReachedBeside r read unread} e (λ q. (
      made ∙ ap (λ (o : Option Spot). cleared o read) q.1 ∙ q.0 ∙ unread-zero p vias n spots old t sizes apart refl,
      q.1,
    )) (subst (λ (x : Through Counted Text). IfRefused e (IsReachedBeside x read unread)) is there)

module _ (p : Pass) (vias : List Via) (n : ℕ) (codings : List Coding) (f : ℕ → List Spot) (spots : List Spot)
    (k high : ℕ) (planes : List (List ℕ)) (zeros : Arrays) (old : Counted) (t : Text) (keeps : Bool)
    (lt : k < high) (none : zeros ≡ zero_rows 1 (components_of codings)) (is : spots ≡ f k) (kept : keeps ≡ true) where
  abbrev rows_left : Through (List (List ℕ)) Text
  rows_left = strips_reached p vias n codings k (map f (range_with_len k (high - k))) planes old t

  -- The rows go on where what is kept of this one was read.
  pub row-read : (new : Counted) (u : Text)
      → read_on (kept_after keeps) (blocks_from p vias n spots (on_arrays zeros old) t) ≡ Ok (kept_counted keeps new, u)
      → rows_left ≡ strips_reached p vias n codings (k + 1) (map f (range_with_len (k + 1) (high - (k + 1))))
      (with_strips codings new.reached.arrays planes) (on_arrays [] new) u
  row-read new u r =
      reached-step p vias n codings f spots k high planes zeros old new t u lt none is
      (whole-read keeps (blocks_from p vias n spots (on_arrays zeros old) t) new u kept r)

  -- What is there after a refusal in this one is what is reached.
  pub row-refused : (e : Error) (arrays : Arrays) (unread lost : Option taken.Spot) (new : List (List ℕ))
      (slots : ℕ) (sizes : List ℕ)
      → Names e (read_on (kept_after keeps) (blocks_from p vias n spots (on_arrays zeros old) t))
      → AllByRecursion (IsSpotOf slots sizes) spots
      → (IfSome unread (λ s. IsSpotOf slots sizes (spot_of s))
      → option_map spot_of lost ≡ option_map (in_frame codings k) (option_map spot_of unread))
      → new ≡ zero_strips (high - 1 - k) codings (with_strips codings arrays planes)
      → IfRefused e (IsReached (counted_reached p vias n spots (on_arrays zeros old) t) arrays unread)
      → IfRefused e ((new ≡ rows_left.reached) × (option_map spot_of lost ≡ rows_left.unread))
  row-refused e arrays unread lost new slots sizes names all shifted made there =
      let read = counted_reached p vias n spots (on_arrays zeros old) t in
      refused-at e (read_on (kept_after keeps) (blocks_from p vias n spots (on_arrays zeros old) t))
      (IsReached read arrays unread) ((new ≡ rows_left.reached) × (option_map spot_of lost ≡ rows_left.unread)) names
      (λ fault r q.
      let left = reached-refused p vias n codings f spots k high planes zeros old t fault lt none is
      (counted-fault p vias n spots (on_arrays zeros old) t fault (kept-refused keeps _ fault r)) in (
        made ∙ ap (λ (l : Arrays). zero_strips (high - 1 - k) codings (with_strips codings l planes)) q.0
            ∙ sym (ap (λ (r : Through (List (List ℕ)) Text). r.reached) left),
        shifted (unread-in slots sizes p vias n spots (on_arrays zeros old) t unread all q.1)
            ∙ ap (option_map (in_frame codings k)) q.1
            ∙ sym (ap (λ (r : Through (List (List ℕ)) Text). r.unread) left),
      )) there

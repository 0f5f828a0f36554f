-- Where the data of a scan have a fault, its meaning has it too, or a marker ends the data early.
use Rattle.std.proofs.Common.{rules, ◌≡◌, ◌⊎◌, inl, inr, ℕ, suc, ◌-◌, Bool, true, false, List, [], ◌∷◌, length, Option}
use Rattle.std.proofs.Common.{Result, Ok, Err, refl, sym, ap, ◌∙◌, arith}
use Rattle.std.proofs.Math.Logic.{⊎_map}
use Rattle.jpeg_bits.specs.Reading.{Outcome, Fault, Malformed, End, ◌>>=◌}
use Rattle.jpeg_bits.specs.Codes.{Table}
use Rattle.jpeg_bits.specs.Entropy.{Text, Ending, Found, Stops, Broken, closed, text_at, upcoming, fresh, marker_from}
use Rattle.jpeg_bits.specs.Intervals.{end_after, interval, intervals, is_restart}
use Rattle.jpeg_bits.specs.Passes.{Pass, Via}
use Rattle.jpeg_bits.specs.Readers.{Reads, text}
use Rattle.jpeg_bits.specs.declared.beyond.Beyond.TheVariants.{Nothing}
use Rattle.jpeg_bits.specs.declared.marker.Marker.{Marker}
use Rattle.jpeg_bits.proofs.EndLemmas.{ahead-so}
use Rattle.jpeg_lossless.specs.Differences.{interval_rows}
use Rattle.jpeg_lossless.specs.RowsReached.{rows_reached}
use Rattle.jpeg_lossless.proofs.LineSums.{Grids}
use Rattle.jpeg_lossless.proofs.ReachedRows.{IsReached, rows-same}
use Rattle.jpeg_meaning.specs.Brought.{after_interval, interval_reached, interval_rows_reached, intervals_reached}
use Rattle.jpeg_meaning.specs.Brought.{or_first, reached_from, scan_rows_reached, stopped, stopping}
use Rattle.jpeg_meaning.specs.InTurn.{Reached, at_start, interval_from, intervals_from, next_interval, turns_from}
use Rattle.jpeg_meaning.specs.Order.{Spot}
use Rattle.jpeg_meaning.specs.Scans.{Arrays}
use Rattle.jpeg_meaning.specs.ScanSegments.{after_restarts}
use Rattle.jpeg_meaning.proofs.Order.CountedScans.{shut}
use Rattle.jpeg_meaning.proofs.Partial.ReachedIntervals.{blocks-same, interval-read, next_reached, turns-take}
use Rattle.jpeg_meaning.proofs.Partial.RowIntervals.{as_interval, interval-rows-read, with_others}
use Rattle.jpeg_meaning.proofs.Partial.RowIntervals as row_intervals
use Rattle.jpeg_evidence.specs.EarlyEnds.{BlocksEndEarly, EndsEarly, RowsEndEarly, sealed}
use Rattle.jpeg_evidence.specs.EarlyEnds.BlocksEndEarly.{here, later}
use Rattle.jpeg_evidence.specs.EarlyEnds.RowsEndEarly.{here_too, later_too}
use Rattle.jpeg_meaning.proofs.Longer.FrontReaders.{Front, TakesFront, bind-front, broken, each-front, err-same}
use Rattle.jpeg_meaning.proofs.Longer.FrontReaders.{gives-front, own-read}
use Rattle.jpeg_meaning.proofs.Longer.FrontReaders.Front.{gave, failed}
use Rattle.jpeg_meaning.proofs.Longer.FrontReaders.FaultIn.{rule, short}
use Rattle.jpeg_meaning.proofs.Longer.LongerBits.{AreSized, turns-front}
use Rattle.jpeg_meaning.proofs.Longer.LongerRows.{row-front}

-- The fault of what is reached is that of what is read; or data end early, and they are malformed.
abbrev pub Fails : {A B : Type 0} → Type 0 → Result A Fault → Result B Fault → Type 0
Fails early read reached = (g : Fault) → reached ≡ Err g → (read ≡ Err g) ⊎ (early × (g ≡ Malformed))

-- the same of more, by a part
pub fails-on : {P Q early whole : Type 0} {g : Fault} → (early → whole) → (P → Q) → P ⊎ (early × (g ≡ Malformed))
    → Q ⊎ (whole × (g ≡ Malformed))
fails-on first so h = ⊎_map so (λ y. (first y.0, y.1)) h

-- ---- an interval

-- the bits that are left after what is read
abbrev pub left_of : {A : Type 0} → Result (A × Text) Fault → Result (List Bool) Fault
left_of o = o >>= λ r. Ok r.1.bits

pub left-so : {A : Type 0} (x : A) (r : Result (List Bool) Fault) (o : Result (A × Text) Fault) → IsReached x r o
    → r ≡ left_of o
left-so x r o h = grind arith

-- an interval by what is read of its bits
abbrev ended : {A : Type 0} → List ℕ → Result (A × Text) Fault → Outcome (A × Option Marker)
ended bytes o = o >>= λ r.
    end_after (length (text_at bytes).bits - length r.1.bits) bytes r.1.bits (text_at bytes).ending
    >>= λ m. Ok ((r.0, m.0), m.1)

ended-err : {A : Type 0} (bytes : List ℕ) (o : Result (A × Text) Fault) (g : Fault)
    → stopped bytes (left_of o) ≡ Err g → ended bytes o ≡ Err g
ended-err bytes o g h = grind arith

-- What is read of an interval has the fault of what is reached of it, or a marker ends its data early.
interval-fails : {A : Type 0} (sized : Type 0) (read : Reads A) (reach : Text → Result (List Bool) Fault)
    (bytes : List ℕ) → TakesFront sized read → ((t : Text) → reach t ≡ left_of (read t))
    → Fails (EndsEarly bytes (reach (sealed (text_at bytes)))) (interval read bytes)
    (stopped bytes (reach (stopping bytes)))
unfolding TakesFront interval
interval-fails sized read reach bytes front same g h = go (text_at bytes).ending refl (front (text_at bytes).bits)
  where
    bits : List Bool
    bits = (text_at bytes).bits

    ps : List (List ℕ)
    ps = (text_at bytes).following

    Named : Type 0
    Named =
        (ended bytes (read (text_at bytes)) ≡ Err g)
        ⊎ (EndsEarly bytes (reach (sealed (text_at bytes))) × (g ≡ Malformed))

    -- the same is read of the bits as they end
    alike : ended bytes (read (text_at bytes)) ≡ ended bytes (read (stopping bytes)) → Named
    alike e = inl (e ∙ ended-err bytes (read (stopping bytes)) g (ap (stopped bytes) (sym (same (stopping bytes))) ∙ h))

    kept : closed Nothing (text_at bytes).ending ≡ (text_at bytes).ending → Named
    kept e = alike (ap (λ (d : Ending). ended bytes (read (text bits ps d))) (sym e))

    go : (e : Ending) → (text_at bytes).ending ≡ e → Front sized read bits → Named
    go (Stops m rest) is f = kept (ap (closed Nothing) is ∙ sym is)
    go (Broken k) is f = kept (ap (closed Nothing) is ∙ sym is)
    go (Found m rest) is (gave own left x cut r) =
        alike (ap (ended bytes) (own-read read own left bits x ps (text_at bytes).ending cut r)
        ∙ sym (ap (ended bytes) (own-read read own left bits x ps (closed Nothing (text_at bytes).ending) cut r)))
    go (Found m rest) is (failed k (rule n breaks)) =
        alike (ap (ended bytes) (broken read bits (text_at bytes).ending ps breaks
        ∙ sym (broken read bits (closed Nothing (text_at bytes).ending) ps breaks)))
    go (Found m rest) is (failed k (short n lacks)) =
        let stops : read (stopping bytes) ≡ Err Malformed
        = ap (λ (e : Ending). read (text bits ps (closed Nothing e))) is ∙ lacks (Stops m rest) tt ps in
        let early : EndsEarly bytes (reach (sealed (text_at bytes)))
        = record {
          marker = m;
          rest = rest;
          ends = is;
          lacks = same (sealed (text_at bytes)) ∙ ap left_of (lacks (Broken End) tt ps);
        } in
        inr (early, err-same g Malformed (sym h ∙ ap (stopped bytes) (same (stopping bytes) ∙ ap left_of stops)))

-- what is read of an interval, and the marker after it
abbrev met_after : {A : Type 0} → Result (A × Text) Fault → Outcome (A × Option Marker)
met_after o = o >>= λ r. marker_from r.1 >>= λ m. Ok ((r.0, m.0), m.1)

shut-err : (o : Result (Reached × Text) Fault) (g : Fault) → met_after o ≡ Err g → shut o ≡ Err g
shut-err o g h = grind arith

blocks-interval : (p : Pass) (vias : List Via) (spots : List Spot) (arrays : Arrays) (bytes : List ℕ)
    → Fails (EndsEarly bytes (reached_from p vias spots (at_start arrays) (sealed (text_at bytes))).rest)
    (interval_from p vias spots arrays bytes) (interval_reached p vias spots arrays bytes).rest
unfolding interval_reached interval_from
blocks-interval p vias spots arrays bytes g h =
    let read = turns_from p vias spots (at_start arrays) in
    fails-on (λ y. y)
    (λ e. shut-err (read (upcoming fresh bytes)) g
    (sym (ahead-so read bytes (turns-take p vias spots (at_start arrays))) ∙ e))
    (interval-fails (AreSized vias) read (λ t. (reached_from p vias spots (at_start arrays) t).rest) bytes
    (turns-front p vias spots (at_start arrays))
    (λ t. left-so _ _ (read t) (blocks-same p vias spots (at_start arrays) t)) g h)

rows-front : (rows : List (List Table)) → TakesFront ⊥ (interval_rows rows)
unfolding interval_rows
rows-front rows = search (rules, bind-front, each-front, row-front, gives-front)

rows-left : (rows : List (List Table)) (t : Text) → (rows_reached rows t).1 ≡ left_of (interval_rows rows t)
unfolding interval_rows
rows-left rows t = let s = rows-same rows t in grind arith

rows-interval : (rows : List (List Table)) (bytes : List ℕ)
    → Fails (EndsEarly bytes (rows_reached rows (sealed (text_at bytes))).1) (interval (interval_rows rows) bytes)
    (interval_rows_reached rows bytes).1
unfolding interval_rows_reached
rows-interval rows bytes =
    interval-fails ⊥ (interval_rows rows) (λ t. (rows_reached rows t).1) bytes (rows-front rows) (rows-left rows)

-- ---- intervals

-- What a scan and the marker after it lead to, where restart markers that end the scan are passed over.
abbrev pub passed : {A B : Type 0} → (A → Option Marker → B) → Outcome (A × Option Marker) → Outcome B
passed to o = o >>= λ r. after_restarts (suc (length r.1)) r.0.1 r.1 >>= λ m. Ok (to r.0.0 m.0, m.1)

pub passed-on : {A B C : Type 0} (to : B → Option Marker → C) (f : A → B) (o : Outcome (A × Option Marker))
    → passed to (o >>= λ s. Ok ((f s.0.0, s.0.1), s.1)) ≡ passed (λ a. to (f a)) o
passed-on to f (Err g) = refl
passed-on to f (Ok s) = refl

-- after another interval
next-fails : {A B : Type 0} (k : ℕ) (to : A → Option Marker → B) (one : Outcome (A × Option Marker)) (a : A)
    (others : (A × Option Marker) × List ℕ → Outcome (A × Option Marker)) (r : Outcome (Option Marker))
    (after : Result (List ℕ) Fault → Outcome (Option Marker)) (early whole : Type 0) → (early → whole)
    → ((f : Fault) → after (Err f) ≡ Err f)
    → ((x : (A × Option Marker) × List ℕ) → is_restart k x.0.1 ≡ false → others x ≡ Err Malformed)
    → ((x : Option Marker × List ℕ) → r ≡ Ok x → one ≡ Ok ((a, x.0), x.1)) → Fails early one r
    → ((x : Option Marker × List ℕ) → r ≡ Ok x → is_restart k x.0 ≡ true
    → Fails whole (passed to (others ((a, x.0), x.1))) (after (Ok x.1)))
    → Fails whole (passed to (one >>= others)) (after (r >>= after_interval k))
next-fails k to one a others r after early whole first errs stops reads fails goes g h = grind arith

-- What a scan of blocks leads to has the fault of what is reached of it, or its data end early.
pub blocks-fail : {B : Type 0} (p : Pass) (vias : List Via) (k : ℕ) (spots : List Spot) (more : List (List Spot))
    (arrays : Arrays) (bytes : List ℕ) (to : Arrays → Option Marker → B)
    → Fails (BlocksEndEarly p vias k spots more arrays bytes)
    (passed to (intervals_from p vias k spots more arrays bytes))
    (intervals_reached p vias k spots more arrays bytes).rest
unfolding intervals_reached intervals_from
blocks-fail p vias k spots [] arrays bytes to g h =
    let reads = interval-read p vias spots arrays bytes in
    let fails = blocks-interval p vias spots arrays bytes in
    grind (arith, reads, fails, here)
blocks-fail p vias k spots (next ∷ more) arrays bytes to g h =
    let r = interval_reached p vias spots arrays bytes in
    next-fails k to (interval_from p vias spots arrays bytes) r.reached
    (next_interval k (intervals_from p vias (suc k) next more)) r.rest
    (λ q. (next_reached (intervals_reached p vias (suc k) next more) r.reached (or_first r.unread next) q).rest) _ _
    (λ y. here k spots (next ∷ more) arrays bytes y) (λ f. refl) (λ x t. rw (t, next_interval) refl)
    (interval-read p vias spots arrays bytes) (blocks-interval p vias spots arrays bytes)
    (λ x e t g h.
    fails-on (λ y. later k spots next more arrays bytes x.1 (rw (e, t) refl) y) (λ i. rw (t, next_interval) i)
    (blocks-fail p vias (suc k) next more r.reached x.1 to g h)) g h

-- the same of a lossless scan
pub rows-fail : {B : Type 0} (k : ℕ) (rows : List (List Table)) (more : List (List (List Table))) (bytes : List ℕ)
    (to : Grids → Option Marker → B)
    → Fails (RowsEndEarly k rows more bytes) (passed to (intervals interval_rows k rows more bytes))
    (scan_rows_reached k rows more bytes).1
unfolding scan_rows_reached intervals
rows-fail k rows [] bytes to g h =
    let reads = interval-rows-read rows bytes in
    let fails = rows-interval rows bytes in
    grind (arith, reads, fails, here_too)
rows-fail k rows (next ∷ more) bytes to g h =
    let r = interval_rows_reached rows bytes in
    let others = intervals interval_rows (suc k) next more in
    next-fails k to (interval (interval_rows rows) bytes) (as_interval r.0) (with_others k others) r.1
    (λ q. (row_intervals.next_reached (scan_rows_reached (suc k) next more) r.0 q).1) _ _
    (λ y. here_too k rows (next ∷ more) bytes y) (λ f. refl) (λ x t. rw (t, with_others) refl)
    (interval-rows-read rows bytes) (rows-interval rows bytes)
    (λ x e t g h.
    fails-on (λ y. later_too k rows next more bytes x.1 (rw (e, t) refl) y)
    (λ i. rw (t, with_others) (passed-on to (λ (s : Grids). r.0 ∷ s) (others x.1) ∙ i))
    (rows-fail (suc k) next more x.1 (λ s. to (r.0 ∷ s)) g h)) g h

-- The data of a scan that were written are reached without a fault.
use Rattle.std.proofs.Common.{◌≡◌, ◌+◌, ◌-◌, ◌%◌, ◌<◌, ℕ, suc, Bool, List, [], ◌∷◌, ◌++◌, length, map, refl, sym, ap}
use Rattle.std.proofs.Common.{ap₂, ◌∙◌, subst, arith, Ok, Err, Result, Option, Some, append_assoc, ℤ, set}
use Rattle.std.specs.List.{AllByRecursion}
use Rattle.std.proofs.lemmas.Bool.{eq-eqb}
use Rattle.std.proofs.lemmas.Bool.Decides.{nat_tests}
use Rattle.std.proofs.lemmas.Simd.{map-map}
use Rattle.jpeg_bits.specs.Reading.{Fault, Outcome}
use Rattle.jpeg_bits.specs.Reading as outcomes
use Rattle.jpeg_bits.specs.Entropy.{Ending, Text, closed, text_at}
use Rattle.jpeg_bits.specs.Intervals.{end_after, first_group, interval, other_groups}
use Rattle.jpeg_bits.specs.Marker.{marker_of}
use Rattle.jpeg_bits.specs.Passes.{Block, Pass, Via, blocks_of, predictors_at_start}
use Rattle.jpeg_bits.specs.Readers.{Reads, ReadsJust, text}
use Rattle.jpeg_bits.specs.Written.{IsMarker, WritesInterval, WritesIntervals, marker}
use Rattle.jpeg_bits.specs.Written.WritesIntervals.{last, another}
use Rattle.jpeg_bits.specs.declared.beyond.Beyond.TheVariants.{Nothing}
use Rattle.jpeg_bits.specs.declared.marker.Marker.{Marker}
use Rattle.jpeg_bits.specs.declared.marker.Marker.TheVariants.{EOI, RST}
use Rattle.jpeg_bits.proofs.ReadIntervals.{all-map}
use Rattle.jpeg_bits.proofs.WrittenBits.{takes-gives}
use Rattle.jpeg_bits.proofs.WrittenIntervals.{all-groups, first-map, marker-append, others-map, reads-interval}
use Rattle.jpeg_lossless.proofs.ReachedRows.{IsReached}
use Rattle.jpeg_segments.proofs.Codecs.{bind-ok, err-ok, ok-same}
use Rattle.jpeg_meaning.specs.Brought.{BlocksTo, after_interval, after_intervals, interval_reached}
use Rattle.jpeg_meaning.specs.Brought.{intervals_reached, or_first, reached_from, scan_reached, stopped, stopping}
use Rattle.jpeg_meaning.specs.InTurn.{AreApart, IsIn, Reached, at_start, turns_from}
use Rattle.jpeg_meaning.specs.Order.{Spot}
use Rattle.jpeg_meaning.specs.Scans.{Arrays, block_at, put_blocks, turns_of, via_at}
use Rattle.jpeg_meaning.specs.ScanSegments.{after_restarts}
use Rattle.jpeg_meaning.specs.WrittenData.{WritesBlocks}
use Rattle.jpeg_meaning.specs.WrittenData.WritesBlocks.{block, done}
use Rattle.jpeg_meaning.proofs.Order.CountedScans.{all_of, apart-back, apart-between, apart-front, arrays_in, in-back}
use Rattle.jpeg_meaning.proofs.Order.CountedScans.{in-front, in-turn, others-kept, put_in}
use Rattle.jpeg_meaning.proofs.Partial.ReachedIntervals.{blocks-same, next_reached}
use Rattle.jpeg_meaning.proofs.Written.SentBlocks.{Suits, after_pass, numbers_of, reads_of}
use Rattle.jpeg_meaning.proofs.Written.WrittenBlocks.{IsReady, Predicts, takes-next}
use Rattle.jpeg_meaning.proofs.Written.WrittenFrameScans.{IsReadyAt, all-in, reads-arrays, start-predicts, turn_with}
use Rattle.jpeg_evidence.specs.FirstBlocks.{WritesFirst}
use Rattle.jpeg_evidence.specs.FirstBlocks.WritesFirst.{next_block, no_more}
use Rattle.jpeg_meaning.proofs.Longer.LongerBlocks.{reached_are_read}
use Rattle.jpeg_meaning.proofs.Longer.LongerBits.{After}
use Rattle.jpeg_meaning.proofs.Longer.LongerData.{both}

-- ---- an interval

-- blocks of bits that nothing follows where a marker ends them, before the end that does
abbrev restored : Ending → Result (Arrays × Text) Fault → Result (Arrays × Text) Fault
restored e (Ok r) = Ok (r.0, record r.1 { ending = e })
restored e (Err f) = Err f

abbrev stopping_read : Pass → List Via → List Spot → Arrays → Reads Arrays
stopping_read p vias spots arrays t =
    restored t.ending
    (arrays_in (turns_from p vias spots (at_start arrays) (record t { ending = closed Nothing t.ending })))

-- the arrays after written blocks
abbrev pub after_blocks : Pass → (Spot → Block) → List Spot → Arrays → Arrays
after_blocks p u spots arrays = put_blocks spots (map (λ s. after_pass p (block_at arrays s) (u s)) spots) arrays

-- The first blocks of an interval are read as all are.
takes-first : (p : Pass) (turns : List (Via × Block × Block)) (predictors : List ℤ) (run : ℕ) (bits : List Bool)
    → Predicts predictors → AllByRecursion (IsReady p) turns → WritesFirst p predictors run (numbers_of turns) bits
    → ReadsJust (blocks_of p predictors run (reads_of turns)) bits (map (λ t. after_pass p t.1 t.2) turns)
unfolding blocks_of
takes-first p [] predictors run bits predict ready (no_more preds run') = takes-gives []
takes-first p (t ∷ turns) predictors run bits predict ready
    (next_block preds run' after via u turns' dc ac more next wd wa w) =
    takes-next p t turns predictors next run after dc ac more predict ready.0 wd wa
    (λ range. takes-first p turns (set predictors t.0.component next) after more range ready.1 w)

first-read : (p : Pass) (vias : List Via) (spots : List Spot) (arrays : Arrays) (u : Spot → Block) (bits : List Bool)
    → AllByRecursion (IsReadyAt p vias arrays u) spots
    → WritesFirst p predictors_at_start 0 (turns_of vias spots u) bits
    → ReadsJust (blocks_of p predictors_at_start 0 (turns_of vias spots (block_at arrays))) bits
    (map (λ s. after_pass p (block_at arrays s) (u s)) spots)
unfolding turns_of
first-read p vias spots arrays u bits ready w =
    rw (map-map, map-map) at (takes-first p (map (turn_with vias arrays u) spots) predictors_at_start 0 bits
    start-predicts
    (all-map (IsReadyAt p vias arrays u) (IsReady p) (turn_with vias arrays u) spots (λ s is. is.at) ready)
    (rw (map-map) w))

-- all of them are the first
all-first : (p : Pass) (predictors : List ℤ) (run : ℕ) (turns : List (Via × Block)) (bits : List Bool)
    → WritesBlocks p predictors run turns bits → WritesFirst p predictors run turns bits
all-first p predictors run [] bits (done preds) = no_more predictors 0
all-first p predictors run (t ∷ turns) bits (block preds run' after via u more dc ac left next wd wa w) =
    next_block predictors run after via u turns dc ac left next wd wa
    (all-first p (set predictors via.component next) after turns left w)

-- the first blocks of an interval, put back
pub first-taken : (p : Pass) (vias : List Via) (spots : List Spot) (arrays : Arrays) (u : Spot → Block)
    (bits : List Bool) → AreApart spots → AllByRecursion (IsReadyAt p vias arrays u) spots
    → WritesFirst p predictors_at_start 0 (turns_of vias spots u) bits
    → ReadsJust (λ t. arrays_in (turns_from p vias spots (at_start arrays) t)) bits (after_blocks p u spots arrays)
first-taken p vias spots arrays u bits apart ready w = record {
  read = λ rest following e.
      in-turn p vias spots arrays predictors_at_start 0 (text (bits ++ rest) following e) apart
      ∙ ap (put_in spots arrays) ((first-read p vias spots arrays u bits ready w).read rest following e);
}

takes-stopping : (p : Pass) (vias : List Via) (spots : List Spot) (arrays : Arrays) (u : Spot → Block)
    (bits : List Bool) → AreApart spots → AllByRecursion (IsReadyAt p vias arrays u) spots
    → WritesBlocks p predictors_at_start 0 (turns_of vias spots u) bits
    → ReadsJust (stopping_read p vias spots arrays) bits (after_blocks p u spots arrays)
takes-stopping p vias spots arrays u bits apart ready w = record {
  read = λ rest following e. ap (restored e)
      ((first-taken p vias spots arrays u bits apart ready (all-first p predictors_at_start 0 _ bits w)).read rest
      following (closed Nothing e));
}

-- what an interval's blocks reach
abbrev reached_so : Pass → List Via → List Spot → Arrays → List ℕ → After
reached_so p vias spots arrays bytes = reached_from p vias spots (at_start arrays) (stopping bytes)

-- blocks that are read so are reached
read-reached : (p : Pass) (vias : List Via) (spots : List Spot) (arrays : Arrays) (bytes : List ℕ)
    (r : Arrays × Text) → stopping_read p vias spots arrays (text_at bytes) ≡ Ok r
    → ((reached_so p vias spots arrays bytes).reached.arrays ≡ r.0)
    × ((reached_so p vias spots arrays bytes).rest ≡ Ok r.1.bits)
read-reached p vias spots arrays bytes r h =
    go (turns_from p vias spots (at_start arrays) (stopping bytes)) h
    (blocks-same p vias spots (at_start arrays) (stopping bytes))
  where
    go : (o : Result (Reached × Text) Fault) → restored (text_at bytes).ending (arrays_in o) ≡ Ok r
        → IsReached (reached_so p vias spots arrays bytes).reached (reached_so p vias spots arrays bytes).rest o
        → ((reached_so p vias spots arrays bytes).reached.arrays ≡ r.0)
        × ((reached_so p vias spots arrays bytes).rest ≡ Ok r.1.bits)
    go (Err g) e is = absurd (err-ok g r e)
    go (Ok s) e is =
        let same = ok-same _ r e in (
          ap (λ (x : Reached). x.arrays) is.0 ∙ ap (λ (y : Arrays × Text). y.0) same,
          is.1 ∙ ap (λ (y : Arrays × Text). Ok y.1.bits) same,
        )

-- An interval that is read so up to its end is reached.
interval-stopping : (p : Pass) (vias : List Via) (spots : List Spot) (arrays : Arrays) (bytes : List ℕ)
    (y : (Arrays × Option Marker) × List ℕ) → interval (stopping_read p vias spots arrays) bytes ≡ Ok y
    → both (interval_reached p vias spots arrays bytes) ≡ (y.0.0, Ok (y.0.1, y.1))
unfolding interval interval_reached
interval-stopping p vias spots arrays bytes y h =
    let t = text_at bytes in
    let r = bind-ok (stopping_read p vias spots arrays t) _ y h in
    let left = r.0.1.bits in
    let m = bind-ok (end_after (length t.bits - length left) bytes left t.ending) _ y r.2 in
    let is = read-reached p vias spots arrays bytes r.0 r.1 in
    ap₂ (λ (a : Arrays) (o : Outcome (Option Marker)). (a, o)) is.0 (ap (stopped bytes) is.1 ∙ m.1)
    ∙ ap (λ (z : (Arrays × Option Marker) × List ℕ). (z.0.0, Ok (z.0.1, z.1)))
    (ok-same ((r.0.0, m.0.0), m.0.1) y m.2)

pub interval-written : (p : Pass) (vias : List Via) (spots : List Spot) (arrays : Arrays) (u : Spot → Block)
    (bytes : List ℕ) (fill code : ℕ) (m : Marker) (rest : List ℕ) → AreApart spots
    → AllByRecursion (IsReadyAt p vias arrays u) spots → IsMarker code m
    → WritesInterval (WritesBlocks p predictors_at_start 0 (turns_of vias spots u)) bytes
    → both (interval_reached p vias spots arrays (bytes ++ marker fill code rest))
    ≡ (after_blocks p u spots arrays, Ok (Some m, rest))
interval-written p vias spots arrays u bytes fill code m rest apart ready is w =
    interval-stopping p vias spots arrays (bytes ++ marker fill code rest)
    ((after_blocks p u spots arrays, Some m), rest)
    (reads-interval (stopping_read p vias spots arrays) (WritesBlocks p predictors_at_start 0 (turns_of vias spots u))
    (after_blocks p u spots arrays) (λ bits c. takes-stopping p vias spots arrays u bits apart ready c) bytes fill code
    m rest is w)

-- ---- a scan

rst : (n : ℕ) → n < 8 → marker_of (0xD0 + n) ≡ Some (RST n)
unfolding marker_of
rst n h = grind (arith, nat_tests)

pub rst-marker : (k : ℕ) → IsMarker (0xD0 + k % 8) (RST (k % 8))
rst-marker k = record { is = rst (k % 8) (omega arith) }

-- where RST k is met, the next interval begins after it
pub restart-met : (k : ℕ) (rest : List ℕ) → after_interval k (Some (RST (k % 8)), rest) ≡ Ok rest
restart-met k rest = rw (eq-eqb (k % 8) (k % 8) refl) refl

-- the other blocks stay ready
pub stays-ready : (p : Pass) (vias : List Via) (spots others : List Spot) (arrays : Arrays) (u : Spot → Block)
    → AreApart (spots ++ others) → ((s : Spot) → IsIn s (spots ++ others) → IsReadyAt p vias arrays u s) → (s : Spot)
    → IsIn s others → IsReadyAt p vias (after_blocks p u spots arrays) u s
stays-ready p vias spots others arrays u apart ready s t =
    let kept = others-kept spots (map (λ s. after_pass p (block_at arrays s) (u s)) spots) arrays s
    (λ here. apart-between s spots others apart here t) in
    let is = (ready s (in-back s spots others t)).at in
    record {
      at = record {
        dc_good = is.dc_good;
        ac_good = is.ac_good;
        suits = subst (λ (b : Block). Suits p b (u s)) (sym kept) is.suits;
      };
    }

-- after an interval that ends with its restart marker
pub one-more : (k : ℕ) (r : BlocksTo (Option Marker)) (x : Arrays) (rest : List ℕ)
    (reached : Arrays → List ℕ → BlocksTo (Option Marker)) (unread : Option Spot)
    → both r ≡ (x, Ok (Some (RST (k % 8)), rest))
    → next_reached reached r.reached unread (outcomes.◌>>=◌ r.rest (after_interval k)) ≡ reached x rest
one-more k r x rest reached unread e =
    ap (λ (q : Arrays × Outcome (Option Marker)).
    next_reached reached q.0 unread (outcomes.◌>>=◌ q.1 (after_interval k))) e
    ∙ ap (next_reached reached x unread) (restart-met k rest)

-- Written intervals are reached up to the marker after them.
pub intervals-written : (p : Pass) (vias : List Via) (u : Spot → Block) (fill code : ℕ) (m : Marker) (rest : List ℕ)
    (y : Option Marker × List ℕ) → IsMarker code m → after_restarts (suc (length rest)) (Some m) rest ≡ Ok y
    → (k : ℕ) (spots : List Spot) (groups : List (List Spot)) (arrays : Arrays) (bytes : List ℕ)
    → AreApart (spots ++ all_of groups)
    → ((s : Spot) → IsIn s (spots ++ all_of groups) → IsReadyAt p vias arrays u s)
    → WritesIntervals (WritesBlocks p predictors_at_start 0) k (turns_of vias spots u)
    (map (λ (g : List Spot). turns_of vias g u) groups) bytes
    → (intervals_reached p vias k spots groups arrays (bytes ++ marker fill code rest)).rest ≡ Ok y
unfolding intervals_reached
intervals-written p vias u fill code m rest y is ends k spots [] arrays bytes apart ready (last k' one bytes' w) =
    ap (λ (q : Arrays × Outcome (Option Marker)). outcomes.◌>>=◌ q.1 after_intervals)
    (interval-written p vias spots arrays u bytes fill code m rest (apart-front spots [] apart)
    (all-in (IsReadyAt p vias arrays u) spots (λ s t. ready s (in-front s spots [] t))) is w)
    ∙ ends
intervals-written p vias u fill code m rest y is ends k spots (next ∷ groups) arrays bytes apart ready
    (another k' fill' one next' more' first after w ws) =
    let others = all_of (next ∷ groups) in
    let now = after_blocks p u spots arrays in
    let left = after ++ marker fill code rest in
    let parts : (first ++ marker fill' (0xD0 + k % 8) after) ++ marker fill code rest
    ≡ first ++ marker fill' (0xD0 + k % 8) left
    = append_assoc first (marker fill' (0xD0 + k % 8) after) (marker fill code rest)
    ∙ ap (λ (l : List ℕ). first ++ l) (marker-append fill' (0xD0 + k % 8) after (marker fill code rest)) in
    ap (λ (q : BlocksTo (Option Marker)). q.rest)
    (one-more k (interval_reached p vias spots arrays (bytes ++ marker fill code rest)) now left
    (intervals_reached p vias (suc k) next groups)
    (or_first (interval_reached p vias spots arrays (bytes ++ marker fill code rest)).unread next)
    (ap (λ (l : List ℕ). both (interval_reached p vias spots arrays l)) parts
    ∙ interval-written p vias spots arrays u first fill' (0xD0 + k % 8) (RST (k % 8)) left
    (apart-front spots others apart)
    (all-in (IsReadyAt p vias arrays u) spots (λ s t. ready s (in-front s spots others t))) (rst-marker k) w))
    ∙ (intervals-written p vias u fill code m rest y is ends (suc k) next groups now after
    (apart-back spots others apart)
    (stays-ready p vias spots others arrays u apart ready) ws)

-- the groups of a scan's turns are the turns of the groups of its spots
pub groups-are : (vias : List Via) (spots : List Spot) (u : Spot → Block) (n : ℕ)
    → ◌≡◌ {A = List (Via × Block) × List (List (Via × Block))}
    (first_group n (turns_of vias spots u), other_groups n (turns_of vias spots u))
    (turns_of vias (first_group n spots) u, map (λ (g : List Spot). turns_of vias g u) (other_groups n spots))
unfolding turns_of
groups-are vias spots u n =
    let turn : Spot → Via × Block = λ s. (via_at vias s.slot, u s) in
    ap₂ (λ (one : List (Via × Block)) (more : List (List (Via × Block))). (one, more)) (sym (first-map turn n spots))
    (sym (others-map turn n spots))

-- the intervals of a scan are those of its groups of spots
pub groups-coded : (vias : List Via) (spots : List Spot) (u : Spot → Block) (p : Pass) (n : ℕ) (bytes : List ℕ)
    → WritesIntervals (WritesBlocks p predictors_at_start 0) 0 (first_group n (turns_of vias spots u))
    (other_groups n (turns_of vias spots u)) bytes
    → WritesIntervals (WritesBlocks p predictors_at_start 0) 0 (turns_of vias (first_group n spots) u)
    (map (λ (g : List Spot). turns_of vias g u) (other_groups n spots)) bytes
groups-coded vias spots u p n bytes w =
    subst (λ (g : List (Via × Block) × List (List (Via × Block))).
    WritesIntervals (WritesBlocks p predictors_at_start 0) 0 g.0 g.1 bytes) (groups-are vias spots u n) w

-- A written scan is reached up to the marker after it.
pub scan-written : (p : Pass) (n : ℕ) (vias : List Via) (u : Spot → Block) (spots : List Spot) (arrays : Arrays)
    (bytes : List ℕ) (fill code : ℕ) (m : Marker) (rest : List ℕ) (y : Option Marker × List ℕ) → IsMarker code m
    → after_restarts (suc (length rest)) (Some m) rest ≡ Ok y → AreApart spots
    → ((s : Spot) → IsIn s spots → IsReadyAt p vias arrays u s)
    → WritesIntervals (WritesBlocks p predictors_at_start 0) 0 (first_group n (turns_of vias spots u))
    (other_groups n (turns_of vias spots u)) bytes
    → (scan_reached p n vias spots arrays (bytes ++ marker fill code rest)).rest ≡ Ok y
scan-written p n vias u spots arrays bytes fill code m rest y is ends apart ready w =
    let all = all-groups n spots in
    intervals-written p vias u fill code m rest y is ends 0 (first_group n spots) (other_groups n spots) arrays bytes
    (subst AreApart (sym all) apart)
    (λ s t. ready s (subst (λ (l : List Spot). IsIn s l) all t))
    (groups-coded vias spots u p n bytes w)

pub eoi_code : marker_of 217 ≡ Some EOI
unfolding marker_of
eoi_code = refl

pub eoi_ends : after_restarts 1 (Some EOI) [] ≡ Ok (Some EOI, [])
unfolding after_restarts
eoi_ends = refl

-- the arrays after a written scan
pub whole-reached : (p : Pass) (n : ℕ) (vias : List Via) (u : Spot → Block) (spots : List Spot) (arrays : Arrays)
    (bytes : List ℕ) → AreApart spots → ((s : Spot) → IsIn s spots → IsReadyAt p vias arrays u s)
    → WritesIntervals (WritesBlocks p predictors_at_start 0) 0 (first_group n (turns_of vias spots u))
    (other_groups n (turns_of vias spots u)) bytes
    → (scan_reached p n vias spots arrays (bytes ++ marker 0 217 [])).reached ≡ after_blocks p u spots arrays
whole-reached p n vias u spots arrays bytes apart ready w =
    let is : IsMarker 217 EOI = record { is = eoi_code } in
    let r = reached_are_read p n vias spots arrays (bytes ++ marker 0 217 []) (Some EOI, []) apart
    (scan-written p n vias u spots arrays bytes 0 217 EOI [] (Some EOI, []) is eoi_ends apart ready w) in
    let q = reads-arrays p n vias spots arrays u bytes 0 217 EOI []
    (all-in (IsReadyAt p vias arrays u) spots (λ s t. ready s t)) is w in
    ap (λ (y : (Arrays × Option Marker) × List ℕ). y.0.0) (ok-same _ _ (sym r.2 ∙ q))

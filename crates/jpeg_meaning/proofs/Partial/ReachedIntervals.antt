-- Where the blocks of intervals are reached without a fault, they are read.
use Rattle.std.proofs.Common.{rules, ◌≡◌, ℕ, suc, Bool, true, List, [], ◌∷◌, drop, Option, Some, Result, Ok, Err, refl}
use Rattle.std.proofs.Common.{sym, ap, ◌∙◌, arith}
use Rattle.std.proofs.lemmas.Grind.{common_steps}
use Rattle.jpeg_bits.specs.Reading.{Outcome, Fault, ◌>>=◌}
use Rattle.jpeg_bits.specs.Entropy.{Text, Ending, advance, closed, fresh, marker_from, text_at, upcoming}
use Rattle.jpeg_bits.specs.Intervals.{is_restart}
use Rattle.jpeg_bits.specs.Readers.{text}
use Rattle.jpeg_bits.specs.Passes.{Pass, Via}
use Rattle.jpeg_bits.specs.declared.beyond.Beyond.TheVariants.{Nothing}
use Rattle.jpeg_bits.specs.declared.marker.Marker.{Marker}
use Rattle.jpeg_bits.proofs.EndLemmas.{ends-so, ends-within}
use Rattle.jpeg_bits.proofs.TakenTexts.{IsStrict, TakesBits, bind-takes, block-takes, gives-takes, stopping-strict}
use Rattle.jpeg_segments.proofs.Codecs.{err-ok, ok-same, bind-ok}
use Rattle.jpeg_lossless.proofs.ReachedRows.{IsRead, IsReached, strict-read}
use Rattle.jpeg_meaning.proofs.Order.CountedScans.{shut}
use Rattle.jpeg_meaning.specs.Brought.{BlocksTo, Through, after_interval, after_intervals, interval_reached}
use Rattle.jpeg_meaning.specs.Brought.{intervals_reached, or_first, reached_from, stopped, stopping}
use Rattle.jpeg_meaning.specs.InTurn.{Reached, at_start, interval_from, intervals_from, next_interval, turn_from}
use Rattle.jpeg_meaning.specs.InTurn.{turns_from}
use Rattle.jpeg_meaning.specs.Order.{Spot}
use Rattle.jpeg_meaning.specs.Scans.{Arrays}

-- ---- blocks

pub turn-takes : (p : Pass) (vias : List Via) (s : Spot) (old : Reached) → TakesBits (turn_from p vias s old)
unfolding turn_from
turn-takes p vias s old = search (rules, bind-takes, block-takes, gives-takes)

pub turns-take : (p : Pass) (vias : List Via) (spots : List Spot) (old : Reached)
    → TakesBits (turns_from p vias spots old)
unfolding turns_from
turns-take p vias [] old = gives-takes old
turns-take p vias (s ∷ spots) old =
    bind-takes (turn_from p vias s old) (turns_from p vias spots) (turn-takes p vias s old) (turns-take p vias spots)

-- Of these bits the blocks are read before any end, and these bits are left.
abbrev pub AreRead : Pass → List Via → List Spot → Reached → List Bool → Reached → List Bool → Type 0
AreRead p vias spots old bits new left = IsRead (turns_from p vias spots old) bits new left

-- what is reached after the next block
abbrev pub after_turn : Pass → List Via → Spot → List Spot → Reached → Result (Reached × Text) Fault
    → Through Reached (List Bool)
after_turn p vias s spots old o = elim o [
  | Ok r ↦ reached_from p vias spots r.0 r.1
  | Err fault ↦ record { reached = old; unread = Some s; rest = Err fault }
]

pub blocks-same : (p : Pass) (vias : List Via) (spots : List Spot) (old : Reached) (t : Text)
    → IsReached (reached_from p vias spots old t).reached (reached_from p vias spots old t).rest
    (turns_from p vias spots old t)
unfolding reached_from turns_from
blocks-same p vias [] old t = (refl, refl)
blocks-same p vias (s ∷ spots) old t = search (rules, blocks-same p vias spots)

-- Where all blocks at some spots are reached of bits that no other follows, they are read of these bits before any end.
pub reached-read : (p : Pass) (vias : List Via) (spots : List Spot) (old : Reached) (bits left : List Bool)
    (ps : List (List ℕ)) (e : Ending) → IsStrict e → (reached_from p vias spots old (text bits ps e)).rest ≡ Ok left
    → AreRead p vias spots old bits (reached_from p vias spots old (text bits ps e)).reached left
reached-read p vias spots old bits left ps e strict h =
    let r = reached_from p vias spots old (text bits ps e) in
    strict-read (turns_from p vias spots old) bits left ps e r.reached r.rest (turns-take p vias spots old) strict
    (blocks-same p vias spots old (text bits ps e)) h

-- ---- an interval

-- An interval that is reached up to its end is read up to it.
pub interval-read : (p : Pass) (vias : List Via) (spots : List Spot) (arrays : Arrays) (bytes : List ℕ)
    (x : Option Marker × List ℕ) → (interval_reached p vias spots arrays bytes).rest ≡ Ok x
    → interval_from p vias spots arrays bytes ≡ Ok (((interval_reached p vias spots arrays bytes).reached, x.0), x.1)
unfolding interval_reached interval_from upcoming
interval-read p vias spots arrays bytes x h =
    let t = text_at bytes in
    let reached = reached_from p vias spots (at_start arrays) (stopping bytes) in
    let left = bind-ok reached.rest _ x h in
    let r = reached-read p vias spots (at_start arrays) t.bits left.0 t.following (closed Nothing t.ending)
    (stopping-strict t.ending) left.1 in
    closes (turns_from p vias spots (at_start arrays) (upcoming fresh bytes)) reached.reached
    (advance r.taken (upcoming fresh bytes)) (r.read t.ending (drop 56 t.following))
    (ends-so r.taken bytes ∙ sym (ends-within r.taken t.bits bytes t.ending)
    ∙ ap (λ (l : List Bool). stopped bytes (Ok l)) (sym r.rest) ∙ left.2)
  where
    closes : (o : Result (Reached × Text) Fault) (new : Reached) (t : Text) → o ≡ Ok (new, t) → marker_from t ≡ Ok x
        → shut o ≡ Ok ((new.arrays, x.0), x.1)
    closes o new t a b = rw (a, b) refl

-- ---- intervals

-- after an interval its restart marker stands
pub restart-stands : (number : ℕ) (m : Option Marker × List ℕ) (b : List ℕ) → after_interval number m ≡ Ok b
    → (is_restart number m.0 ≡ true) × (m.1 ≡ b)
restart-stands number m b h = grind (arith, common_steps, err-ok, ok-same)

-- a is read, and this stands after it, where restart markers at the end of a scan are passed over
abbrev pub ReadsTo : {A : Type 0} → Outcome (A × Option Marker) → A → Option Marker × List ℕ → Type 0
ReadsTo o a x = (m : Option Marker × List ℕ) × (o ≡ Ok ((a, m.0), m.1)) × (after_intervals m ≡ Ok x)

abbrev pub Scanned : Type 0
Scanned = BlocksTo (Option Marker)

-- after an interval: the others, or its fault
abbrev pub next_reached : (Arrays → List ℕ → Scanned) → Arrays → Option Spot → Result (List ℕ) Fault → Scanned
next_reached others arrays unread o = elim o [
  | Ok rest ↦ others arrays rest
  | Err fault ↦ record { reached = arrays; unread = unread; rest = Err fault }
]

pub interval-next : (number : ℕ) (arrays : Arrays) (o : Outcome (Arrays × Option Marker))
    (more : Arrays → List ℕ → Outcome (Arrays × Option Marker)) (m : Option Marker × List ℕ) (b : List ℕ)
    → o ≡ Ok ((arrays, m.0), m.1) → after_interval number m ≡ Ok b → (o >>= next_interval number more) ≡ more arrays b
interval-next number arrays o more m b a e = grind (arith, common_steps, restart-stands)

-- an interval, and the others after its restart marker
next-intervals : (number : ℕ) (one : Outcome (Arrays × Option Marker)) (r : Scanned) (unread : Option Spot)
    (reached : Arrays → List ℕ → Scanned) (more : Arrays → List ℕ → Outcome (Arrays × Option Marker))
    (x : Option Marker × List ℕ)
    → ((m : Option Marker × List ℕ) → r.rest ≡ Ok m → one ≡ Ok ((r.reached, m.0), m.1))
    → ((b : List ℕ) → (reached r.reached b).rest ≡ Ok x → ReadsTo (more r.reached b) (reached r.reached b).reached x)
    → (o : Result (List ℕ) Fault) → (r.rest >>= after_interval number) ≡ o
    → (next_reached reached r.reached unread o).rest ≡ Ok x
    → ReadsTo (one >>= next_interval number more) (next_reached reached r.reached unread o).reached x
next-intervals number one r unread reached more x first others o e h =
    grind (arith, common_steps, err-ok, interval-next)

-- Intervals that are reached up to the marker after the scan are read up to it.
pub intervals-read : (p : Pass) (vias : List Via) (number : ℕ) (spots : List Spot) (more : List (List Spot))
    (arrays : Arrays) (bytes : List ℕ) (x : Option Marker × List ℕ)
    → (intervals_reached p vias number spots more arrays bytes).rest ≡ Ok x
    → ReadsTo (intervals_from p vias number spots more arrays bytes)
    (intervals_reached p vias number spots more arrays bytes).reached x
unfolding intervals_reached intervals_from
intervals-read p vias number spots [] arrays bytes x h =
    let m = bind-ok (interval_reached p vias spots arrays bytes).rest after_intervals x h in
    (m.0, interval-read p vias spots arrays bytes m.0 m.1, m.2)
intervals-read p vias number spots (next ∷ more) arrays bytes x h =
    let r = interval_reached p vias spots arrays bytes in
    next-intervals number (interval_from p vias spots arrays bytes) r (or_first r.unread next)
    (intervals_reached p vias (suc number) next more) (intervals_from p vias (suc number) next more) x
    (λ m e. interval-read p vias spots arrays bytes m e)
    (λ b e. intervals-read p vias (suc number) next more r.reached b x e) (r.rest >>= after_interval number) refl h

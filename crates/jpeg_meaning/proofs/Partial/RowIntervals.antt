-- Where the rows of MCUs of intervals are reached without a fault, they are read.
use Rattle.std.proofs.Common.{◌≡◌, ℕ, suc, Bool, List, [], ◌∷◌, ◌++◌, Option, Result, Ok, Err, refl, sym, ap, ◌∙◌}
use Rattle.std.proofs.Common.{arith}
use Rattle.std.proofs.lemmas.Grind.{common_steps}
use Rattle.std.specs.Prelude.{if◌then◌else◌}
use Rattle.jpeg_bits.specs.Reading.{Outcome, Fault, Malformed, ◌>>=◌}
use Rattle.jpeg_bits.specs.Codes.{Table}
use Rattle.jpeg_bits.specs.Entropy.{Text, closed, text_at}
use Rattle.jpeg_bits.specs.Intervals.{interval, intervals, is_restart}
use Rattle.jpeg_bits.specs.Readers.{gives, read_on}
use Rattle.jpeg_bits.specs.declared.beyond.Beyond.TheVariants.{Nothing}
use Rattle.jpeg_bits.specs.declared.marker.Marker.{Marker}
use Rattle.jpeg_bits.proofs.TakenTexts.{stopping-strict}
use Rattle.jpeg_segments.proofs.Codecs.{err-ok, bind-ok}
use Rattle.jpeg_lossless.specs.Differences.{interval_rows}
use Rattle.jpeg_lossless.specs.RowsReached.{rows_reached}
use Rattle.jpeg_lossless.proofs.LineSums.{Grid, Grids}
use Rattle.jpeg_lossless.proofs.ReachedRows.{rows-are-read}
use Rattle.jpeg_meaning.specs.Brought.{after_interval, after_intervals, interval_rows_reached, scan_rows_reached}
use Rattle.jpeg_meaning.specs.Brought.{stopped, stopping}
use Rattle.jpeg_meaning.proofs.Partial.ReachedIntervals.{ReadsTo, restart-stands}

-- ---- an interval

-- an interval of these rows
abbrev pub as_interval : Grid → Grids
as_interval new = new ∷ []

-- rows that are read, and the end of their interval
abbrev ended : List ℕ → Result (Grid × Text) Fault → Outcome (Grids × Option Marker)
ended bytes o = read_on (λ (rows : Grid). gives (as_interval rows)) o
    >>= λ r. stopped bytes (Ok r.1.bits) >>= λ m. Ok ((r.0, m.0), m.1)

-- An interval whose rows are reached up to its end is read up to it.
pub interval-rows-read : (rows : List (List Table)) (bytes : List ℕ) (x : Option Marker × List ℕ)
    → (interval_rows_reached rows bytes).1 ≡ Ok x
    → interval (interval_rows rows) bytes ≡ Ok ((as_interval (interval_rows_reached rows bytes).0, x.0), x.1)
unfolding interval_rows_reached interval interval_rows
interval-rows-read rows bytes x h =
    let t = text_at bytes in
    let all = as_interval (rows_reached rows (stopping bytes)).0 in
    let left = bind-ok (rows_reached rows (stopping bytes)).1 _ x h in
    let r = rows-are-read rows t.bits left.0 t.following (closed Nothing t.ending) (stopping-strict t.ending) left.1 in
    ap (ended bytes) (r.read t.ending t.following)
    ∙ ap (λ (o : Outcome (Option Marker)). o >>= λ m. Ok ((all, m.0), m.1))
    (ap (λ (l : List Bool). stopped bytes (Ok l)) (sym r.rest) ∙ left.2)

-- ---- intervals

abbrev pub Scanned : Type 0
Scanned = Grids × Outcome (Option Marker)

-- after an interval: the others, or its fault
abbrev pub next_reached : (List ℕ → Scanned) → Grid → Result (List ℕ) Fault → Scanned
next_reached others new o = elim o [
  | Ok rest ↦ (new ∷ (others rest).0, (others rest).1)
  | Err fault ↦ (new ∷ [], Err fault)
]

-- an interval that is read, and the others after its restart marker
abbrev pub with_others : ℕ → (List ℕ → Outcome (Grids × Option Marker)) → (Grids × Option Marker) × List ℕ
    → Outcome (Grids × Option Marker)
with_others number others r =
    if is_restart number r.0.1 then (others r.1 >>= λ s. Ok ((r.0.0 ++ s.0.0, s.0.1), s.1)) else Err Malformed

interval-next : (number : ℕ) (new : Grid) (o : Outcome (Grids × Option Marker))
    (more : List ℕ → Outcome (Grids × Option Marker)) (m : Option Marker × List ℕ) (b : List ℕ)
    → o ≡ Ok ((as_interval new, m.0), m.1) → after_interval number m ≡ Ok b
    → (o >>= with_others number more) ≡ (more b >>= λ s. Ok ((new ∷ s.0.0, s.0.1), s.1))
interval-next number new o more m b a e = grind (arith, common_steps, restart-stands)

next-intervals : (number : ℕ) (one : Outcome (Grids × Option Marker)) (r : Grid × Outcome (Option Marker))
    (reached : List ℕ → Scanned) (more : List ℕ → Outcome (Grids × Option Marker)) (x : Option Marker × List ℕ)
    → ((m : Option Marker × List ℕ) → r.1 ≡ Ok m → one ≡ Ok ((as_interval r.0, m.0), m.1))
    → ((b : List ℕ) → (reached b).1 ≡ Ok x → ReadsTo (more b) (reached b).0 x)
    → (o : Result (List ℕ) Fault) → (r.1 >>= after_interval number) ≡ o → (next_reached reached r.0 o).1 ≡ Ok x
    → ReadsTo (one >>= with_others number more) (next_reached reached r.0 o).0 x
next-intervals number one r reached more x first others o e h =
    grind (arith, common_steps, err-ok, interval-next)

-- Intervals whose rows are reached up to the marker after the scan are read up to it.
pub scan-rows-read : (number : ℕ) (rows : List (List Table)) (more : List (List (List Table))) (bytes : List ℕ)
    (x : Option Marker × List ℕ) → (scan_rows_reached number rows more bytes).1 ≡ Ok x
    → ReadsTo (intervals interval_rows number rows more bytes) (scan_rows_reached number rows more bytes).0 x
unfolding scan_rows_reached intervals
scan-rows-read number rows [] bytes x h =
    let m = bind-ok (interval_rows_reached rows bytes).1 after_intervals x h in
    (m.0, interval-rows-read rows bytes m.0 m.1, m.2)
scan-rows-read number rows (next ∷ more) bytes x h =
    let r = interval_rows_reached rows bytes in
    next-intervals number (interval (interval_rows rows) bytes) r (scan_rows_reached (suc number) next more)
    (intervals interval_rows (suc number) next more) x (λ m e. interval-rows-read rows bytes m e)
    (λ b e. scan-rows-read (suc number) next more b x e) (r.1 >>= after_interval number) refl h

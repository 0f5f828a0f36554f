-- The data of a scan of blocks, after which restart markers are passed over, as far as they go.
use Rattle.std.proofs.Common.{◌≡◌, ℕ, List, Option, Result, Ok, Err, ap}
use Rattle.std.specs.Prelude.{IfErr, IfOk}
use Rattle.jpeg_bits.specs.Reading.{Answers, Outcome, ◌>>=◌}
use Rattle.jpeg_bits.specs.Stream.{Stream}
use Rattle.jpeg_bits.specs.declared.error.Error.{Error}
use Rattle.jpeg_bits.specs.declared.marker.Marker.{Marker}
use Rattle.jpeg_bits.proofs.Loops.{Continues-answers}
use Rattle.jpeg_meaning.specs.Brought.{after_intervals}
use Rattle.jpeg_meaning.specs.States.{OnTold}
use Rattle.jpeg_decoder.specs.Reaching.{DataBrought, UnlessRefused}
use Rattle.jpeg_decoder.specs.Steps.{after_all}
use Rattle.jpeg_decoder.proofs.Partial.Refused.{if-refused-as, told-any, unless}
use Rattle.jpeg_decoder.proofs.Scans.ScanData.{answers-err}

-- what data bring, and the marker after the restart markers after them
abbrev pub passed : DataBrought → DataBrought
passed d = record { found = d.found; rows = d.rows; met = d.met >>= after_intervals }

-- A call read the data from `old` to `mid`. Where they were not refused, another passed over restart markers up to `new`.
pub passed-unless : (P : Type 0) (mid new : Stream) (read reached : Result (Option Marker) Error)
    → IfErr read (λ e. (reached ≡ Err e) × (new ≡ mid)) → UnlessRefused read P → UnlessRefused reached P
passed-unless P mid new (Ok m) reached h p = unless reached p
passed-unless P mid new (Err e) reached h p = rw h.0 p

pub passed-told : (P : Type 0) (old mid new : Stream) (read reached : Result (Option Marker) Error)
    → IfErr read (λ e. (reached ≡ Err e) × (new ≡ mid)) → OnTold old mid read P → OnTold old new reached P
passed-told P old mid new (Ok m) reached h p = told-any old new reached p
passed-told P old mid new (Err e) reached h p = rw (h.0, h.1) p

pub passed-met : (first : List ℕ → Outcome (Option Marker)) (old mid new : Stream)
    (read reached : Result (Option Marker) Error)
    → IfOk read (λ met. Answers (λ (m : Option Marker). m) (after_all met) mid reached new)
    → IfErr read (λ e. (reached ≡ Err e) × (new ≡ mid))
    → UnlessRefused read (Answers (λ (m : Option Marker). m) first old read mid)
    → UnlessRefused reached (Answers (λ (m : Option Marker). m) (λ bytes. first bytes >>= after_intervals) old reached new)
unfolding after_all
passed-met first old mid new (Ok met) reached after h a =
    unless reached (Continues-answers (λ (m : Option Marker). m) (λ bytes. first bytes >>= after_intervals)
    (after_all met) old mid new reached
    (a.0, λ k. ((a.1 k).0, ap (λ (o : Outcome (Option Marker)). o >>= after_intervals) (a.1 k).1)) after)
passed-met first old mid new (Err e) reached after h a =
    rw (h.0, h.1) (if-refused-as e (answers-err (λ (m : Option Marker). m) (λ (m : Option Marker). m) first
    (λ bytes. first bytes >>= after_intervals) old mid e
    (λ f is. ap (λ (o : Outcome (Option Marker)). o >>= after_intervals) is)) a)

-- What a walk over the bytes of a source brings is shown.
use Rattle.std.proofs.Common.{◌≡◌, ◌+◌, ◌<◌, ◌^◌, length, refl, subst, sym, Bool, List, Option, Result, Ok, Err}
use Rattle.std.proofs.Common.{ℕ, true, false}
use Rattle.std.specs.List.{concat}
use Rattle.std.specs.Prelude.{IfErr, IfOk, IfSome, Some}
use Rattle.std.specs.Result.{result_err}
use Rattle.jpeg_bits.specs.Reading.{Answers, Fault, IsGivenUp}
use Rattle.jpeg_bits.specs.Stream.{Stream}
use Rattle.jpeg_bits.specs.declared.beyond.Beyond.TheVariants.{Nothing}
use Rattle.jpeg_bits.specs.declared.error.Error.{Error}
use Rattle.jpeg_bits.specs.declared.error.Error.TheVariants as errors
use Rattle.jpeg_meaning.specs.Found.{Found}
use Rattle.jpeg_meaning.specs.Shown.{fault_in, rows_of_found, shown_of, shown_rest_within, whole_rows_rest}
use Rattle.jpeg_meaning.specs.States.{Decoding, IsOfBytes, OnTold, OnToldRefusal}
use Rattle.jpeg_meaning.specs.Stream.{Told, Walked, all_brought, told_of}
use Rattle.jpeg_meaning.specs.declared.settings.Settings.{Settings}
use Rattle.jpeg_decoder.specs.Reaching.{NamesFault, UnlessRefused, is_out_of_memory, walk_end}
use Rattle.jpeg_decoder.specs.Shows.{CountsRows, GivesUp, IsShown}
use Rattle.jpeg_decoder.specs.Walks.{IsEndOfWalk, IsKnownIf, Leaves, ShowsWalk, known_if, steps_over, walked_to}
use Rattle.jpeg_decoder.specs.declared.picture.partial.PartialLines.{PartialLines}
use Rattle.jpeg_decoder.specs.declared.scan.work.Walk.{Walk}
use Rattle.jpeg_decoder.specs.declared.stream.state.Step.{Step}
use Rattle.jpeg_decoder.proofs.Partial.Refused.{if-refused-as, on-told, unless}
use Rattle.jpeg_decoder.proofs.Partial.ShownBegun.{RestShown}
use Rattle.jpeg_decoder.proofs.Partial.ShownFaults.{end-alone, of-bytes, rest-given-up, rest-shown, told-holds}
use Rattle.jpeg_decoder.proofs.Partial.ShownRows.{rest-counted}
use Rattle.jpeg_decoder.proofs.Partial.ShownTold.{rest-told}

-- ---- a walk that has ended

-- what is read of these bytes alone
answers-at : (read : List ℕ → Result (Unit {0} × List ℕ) Fault) (old new : Stream) (r : Result (Unit {0}) Error)
    → Answers (λ (u : Unit {0}). tt) read old r new → Answers (λ (u : Unit {0}). tt) (λ bytes. read old.bytes) old r new
answers-at read old new (Ok u) a = a
answers-at read old new (Err e) a = a

end-at : (view : Unit {0} → Found) (walk : List ℕ → Walked) (old new : Stream) (r : Result (Unit {0}) Error)
    → UnlessRefused r (Answers view (λ bytes. walked_to (walk bytes)) old r new)
    → UnlessRefused r (Answers (λ (u : Unit {0}). tt) (λ bytes. walk_end (walk old.bytes)) old r new)
end-at view walk old new (Ok u) a =
    answers-at (λ bytes. walk_end (walk bytes)) old new (Ok u) (end-alone view walk old new (Ok u) a)
end-at view walk old new (Err e) a =
    if-refused-as e (λ b. answers-at (λ bytes. walk_end (walk bytes)) old new (Err e)
    (end-alone view walk old new (Err e) b)) a

pub walk-ended : (view : Unit {0} → Found) (walk : List ℕ → Walked) (old new : Stream) (r : Result (Unit {0}) Error)
    (found : Found) (left : Walk) → UnlessRefused r (Answers view (λ bytes. walked_to (walk bytes)) old r new)
    → OnTold old new r (Leaves Nothing found left.rows (walk old.bytes).found (walk old.bytes).rows)
    → OnTold old new r (left.budget.exceeded ≡ (walk old.bytes).exceeded)
    → IsEndOfWalk (walk old.bytes) old r found left new
walk-ended view walk old new r found left reads leaves exceeded =
    record { reads = end-at view walk old new r reads; leaves = leaves; exceeded = exceeded }

-- it was not refused for its state
pub walk-bytes : (view : Unit {0} → Found) (walk : List ℕ → Walked) (old new : Stream) (r : Result (Unit {0}) Error)
    → UnlessRefused r (Answers view (λ bytes. walked_to (walk bytes)) old r new) → IfErr r IsOfBytes
walk-bytes view walk old new (Ok u) a = tt
walk-bytes view walk old new (Err errors.OutOfMemory) a = tt
walk-bytes view walk old new (Err (errors.Format t)) a = tt
walk-bytes view walk old new (Err (errors.Unsupported f)) a = tt
walk-bytes view walk old new (Err (errors.Io e)) a = tt
walk-bytes view walk old new (Err (errors.Internal t)) a = of-bytes (errors.Internal t) old.failed new.failed a.0

pub fault-bytes : (r : Result (Unit {0}) Error) (fault : Option Error) → fault ≡ result_err r → IfErr r IsOfBytes
    → IfSome fault IsOfBytes
fault-bytes (Ok u) fault is h = subst (λ (o : Option Error). IfSome o IsOfBytes) (sym is) tt
fault-bytes (Err e) fault is h = subst (λ (o : Option Error). IfSome o IsOfBytes) (sym is) h

-- ---- what it shows

-- where memory runs out
pub memory-shows : (settings : Settings) (w : Walked) (old new : Stream) (told : Told) (exceeded : Bool)
    → ShowsWalk settings w old (Err errors.OutOfMemory) new told exceeded
memory-shows settings w old new told exceeded = record {
  shown = λ k l. tt;
  rows = λ k l. tt;
  tells = λ k l. tt;
  exceeds = λ k l. tt;
  given_up = λ k l. tt;
}

-- where what was found is shown
pub ended-shows : (settings : Settings) (w : Walked) (old new : Stream) (ended : Result (Unit {0}) Error) (f g : Found)
    (left : Walk) (fault : Option Error) (r : Result PartialLines Error) → is_out_of_memory ended ≡ false
    → IfErr ended (λ e. IsGivenUp e false → ⊥) → fault ≡ result_err ended → g ≡ f
    → ((end : Result (List ℕ) Fault) → NamesFault fault (fault_in end)
    → IsShown (shown_of settings g end) (λ p. concat p.lines) (λ p. p.fault) r (told_of g.said))
    → IfOk r (λ p. p.whole_rows ≡ rows_of_found left.rows g)
    → IfOk r (λ p. IfSome fault (λ e. p.fault ≡ Some e)) → IsEndOfWalk w old ended f left new
    → ShowsWalk settings w old r new (told_of g.said) left.budget.exceeded
ended-shows settings w old new ended f g left fault r m other is same shown counted first h =
    let found = on-told old new ended (λ l. l.0) h.leaves in
    record {
      shown = rest-shown {X = PartialLines} (λ p. concat p.lines) (λ p. p.fault) settings (λ bytes. w) f g old new ended
          fault r (told_of g.said) m h.reads found is same shown;
      rows = rest-counted {X = PartialLines} (λ p. p.whole_rows) (λ bytes. w) f g old new ended left.rows r m found
          (on-told old new ended (λ l. l.1) h.leaves) same counted;
      tells = rest-told {X = PartialLines} w f g old new ended r m found same;
      exceeds = λ k l. unless r (told-holds old new ended _ m h.exceeded k l);
      given_up = rest-given-up {X = PartialLines} (λ p. p.fault) (λ (u : Unit {0}). tt) (λ bytes. walk_end w) old new ended
          fault r m other h.reads is first;
    }

-- ---- of the rest of a stream

-- another source that is known, too
pub known-shows : (settings : Settings) (w : Walked) (old other new : Stream) (r : Result PartialLines Error) (told : Told)
    (exceeded : Bool) → old.known ≡ true → ShowsWalk settings w old r new told exceeded
    → ShowsWalk settings w other r new told exceeded
known-shows settings w old other new r told exceeded known h = record {
  shown = λ k. h.shown known;
  rows = λ k. h.rows known;
  tells = tells r h.tells;
  exceeds = λ k. h.exceeds known;
  given_up = given r h.given_up;
}
  where
    tells : (r : Result PartialLines Error) → OnToldRefusal old new r (told ≡ told_of w.found.said)
        → OnToldRefusal other new r (told ≡ told_of w.found.said)
    tells (Ok p) t = tt
    tells (Err e) t = λ k. t known

    given : (r : Result PartialLines Error) → GivesUp (λ p. p.fault) old r new → GivesUp (λ p. p.fault) other r new
    given (Ok p) g = λ k. g known
    given (Err e) g = λ k. g known

pub rest-of-walk : (settings : Settings) (found : Found) (old new : Stream) (r : Result PartialLines Error) (told : Told)
    (exceeded : Bool)
    → ShowsWalk settings (all_brought settings.max_blocks found old.bytes) old r new told exceeded
    → RestShown {X = PartialLines} (λ p. concat p.lines) (λ p. p.fault) told exceeded settings found old r new
unfolding shown_rest_within
rest-of-walk settings found old new r told exceeded h =
    record { shown = h.shown; tells = h.tells; exceeded = h.exceeds; given_up = h.given_up }

pub rows-of-walk : (settings : Settings) (found : Found) (old new : Stream) (r : Result PartialLines Error) (told : Told)
    (exceeded : Bool)
    → ShowsWalk settings (all_brought settings.max_blocks found old.bytes) old r new told exceeded
    → CountsRows {X = PartialLines} (λ p. p.whole_rows) (whole_rows_rest settings.max_blocks found) old r new
unfolding whole_rows_rest
rows-of-walk settings found old new r told exceeded h = h.rows

-- ---- after a checkpoint

-- What is walked after it is the rest of a stream after its header.
pub after-shows : (d : Decoding) (settings : Settings) (left : Option ℕ) (step : Step) (state found : Found) (mid : Stream)
    (rest : List ℕ) (r : Result PartialLines Error) (new : Stream) (told : Told) (exceeded : Bool)
    → settings ≡ d.settings
    → all_brought d.settings.max_blocks d.found d.source.bytes ≡ steps_over left Nothing found step rest
    → state ≡ found → mid.bytes ≡ rest → mid.known ≡ true → length rest + 1 < 2 ^ 64
    → ((k : Bool) → IsKnownIf k 1 mid
    → ShowsWalk settings (steps_over left Nothing state step mid.bytes) (known_if k mid) r new told exceeded)
    → ShowsWalk d.settings (all_brought d.settings.max_blocks d.found d.source.bytes) d.source r new told exceeded
after-shows d settings left step state found mid rest r new told exceeded set walks same bytes known short shows =
    let S : Settings → Walked → Type 0 = λ s w. ShowsWalk s w (known_if true mid) r new told exceeded in
    let h = shows true (λ _. (known, subst (λ (l : List ℕ). length l + 1 < 2 ^ 64) (sym bytes) short)) in
    known-shows d.settings _ (known_if true mid) d.source new r told exceeded refl
    (subst (S d.settings) (sym walks)
    (subst (λ (s : Settings). S s (steps_over left Nothing found step rest)) set
    (subst (λ (l : List ℕ). S settings (steps_over left Nothing found step l)) bytes
    (subst (λ (f : Found). S settings (steps_over left Nothing f step mid.bytes)) same h))))

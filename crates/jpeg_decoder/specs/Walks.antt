-- What the decoder's own clauses say of a walk over segments, by what follows the marker that ends
-- the data of a scan: zeros, where nothing of a scan with a fault counts; or nothing, where what is
-- read of it before its fault does.
use Rattle.std.specs.Prelude.{◌≡◌, ◌+◌, ◌<◌, ◌^◌, ℕ, suc, List, length, Bool, true, false, Option}
use Rattle.std.specs.Prelude.{None, Result, Ok, OnOk}
use Rattle.std.specs.List.{concat}
use Rattle.jpeg_bits.specs.Reading.{Answers, Outcome, ◌>>=◌}
use Rattle.jpeg_bits.specs.Stream.{Stream}
use Rattle.jpeg_bits.specs.declared.error.Error.{Error}
use Rattle.jpeg_meaning.specs.Found.{Found}
use Rattle.jpeg_meaning.specs.Shown.{rows_of_found, shown_of}
use Rattle.jpeg_meaning.specs.States.{OnTold, OnToldRefusal}
use Rattle.jpeg_meaning.specs.Stream.{Told, Walked, told_of, walk}
use Rattle.jpeg_meaning.specs.declared.settings.Settings.{Settings}
use Rattle.jpeg_meaning.specs.declared.before.Before.TheVariants.{Elsewhere}
use Rattle.jpeg_bits.specs.declared.beyond.Beyond.{Beyond}
use Rattle.jpeg_bits.specs.declared.beyond.Beyond.TheVariants.{Nothing, Zeros}
use Rattle.jpeg_decoder.specs.Reaching.{UnlessRefused, walk_end, without_tables}
use Rattle.jpeg_decoder.specs.Shows.{CountsRows, GivesUp, Knows, ShowsJust}
use Rattle.jpeg_decoder.specs.declared.picture.partial.PartialLines.{PartialLines}
use Rattle.jpeg_decoder.specs.declared.scan.work.Walk.{Walk}
use Rattle.jpeg_decoder.specs.declared.stream.state.Step.{Step}

-- What a result says of the bytes. Where what is read before a fault counts, memory may run out
-- after a fault of the reader.
abbrev pub OfWalk : {X : Type 0} → Beyond → Result X Error → Type 0 → Type 0
OfWalk Zeros result P = P
OfWalk Nothing result P = UnlessRefused result P

-- A fact of what is found after a call: after a refusal, too, where what is read before it counts.
abbrev pub AfterWalk : {X : Type 0} → Beyond → Result X Error → Type 0 → Type 0
AfterWalk Zeros result P = OnOk result P
AfterWalk Nothing result P = UnlessRefused result P

-- What is found is what was to be found, as far as a picture shows it, or as a caller is told.
abbrev pub IsLeft : Beyond → Found → Found → Type 0
IsLeft Zeros new found = told_of new.said ≡ told_of found.said
IsLeft Nothing new found = without_tables new ≡ without_tables found

-- the same, and the complete rows of the picture, where some lack
abbrev pub Leaves : Beyond → Found → Option ℕ → Found → Option ℕ → Type 0
Leaves beyond new rows found complete = IsLeft beyond new found × (rows ≡ complete)

-- no scan was refused for its blocks, or lacks some
abbrev pub IsGoing : Walk → Type 0
IsGoing w = (w.budget.exceeded ≡ false) × (w.rows ≡ None)

-- this many turns of a walk, and all
abbrev pub walk_for : Option ℕ → Beyond → ℕ → Bool → Found → List ℕ → Walked
walk_for left beyond turns header found bytes =
    walk left beyond turns header Elsewhere found None bytes

abbrev pub walk_over : Option ℕ → Beyond → Bool → Found → List ℕ → Walked
walk_over left beyond header found bytes =
    walk_for left beyond (suc (length bytes)) header found bytes

-- So many turns from a step on, and all: each takes a byte, or a restart marker that is met.
abbrev pub steps_for : Option ℕ → Beyond → ℕ → Found → Step → List ℕ → Walked
steps_for left beyond turns found step bytes =
    walk left beyond turns false step.before found step.met bytes

abbrev pub steps_over : Option ℕ → Beyond → Found → Step → List ℕ → Walked
steps_over left beyond found step bytes =
    steps_for left beyond (suc (suc (length bytes))) found step bytes

-- what is found by it, where it has no fault
abbrev pub walked_to : Walked → Outcome Found
walked_to w = w.rest >>= λ rest. Ok (w.found, rest)

-- A source that counts as known where this holds: it is known then, and some more bytes than it has
-- are fewer than 2 ^ 64.
abbrev pub known_if : Bool → Stream → Stream
known_if k s = record s { known = k }

abbrev pub IsKnownIf : Bool → ℕ → Stream → Type 0
IsKnownIf k more s = k ≡ true → (s.known ≡ true) × (length s.bytes + more < 2 ^ 64)

-- ---- what a walk shows

-- A walk over the bytes of a source has ended so, and has left what was found.
pub record IsEndOfWalk (w : Walked) (old : Stream) (ended : Result (Unit {0}) Error)
    (found : Found) (walk : Walk) (new : Stream) : Type 0 where
  pub reads : UnlessRefused ended
      (Answers (λ (u : Unit {0}). tt) (λ bytes. walk_end w) old ended new)
  pub leaves : OnTold old new ended (Leaves Nothing found walk.rows w.found w.rows)
  pub exceeded : OnTold old new ended (walk.budget.exceeded ≡ w.exceeded)

-- A call has shown what a walk over the bytes of a source brings up to its first fault.
pub record ShowsWalk (settings : Settings) (w : Walked) (old : Stream)
    (result : Result PartialLines Error) (new : Stream) (told : Told) (exceeded : Bool) : Type 0
  where
    pub shown : ShowsJust (λ bytes. shown_of settings w.found w.rest) (λ p. concat p.lines)
        (λ p. p.fault) old result new told
    pub rows : CountsRows (λ p. p.whole_rows) (λ bytes. rows_of_found w.rows w.found) old result new
    pub tells : OnToldRefusal old new result (told ≡ told_of w.found.said)
    pub exceeds : Knows old result new (exceeded ≡ w.exceeded)
    pub given_up : GivesUp (λ p. p.fault) old result new

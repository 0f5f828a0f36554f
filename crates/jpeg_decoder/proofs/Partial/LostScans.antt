-- Scans that end with an error after which nothing counts, and those of which what was read does.
use Rattle.std.proofs.Common.{◌≡◌, true, false, Result, Ok, Err, refl, sym}
use Rattle.std.proofs.lemmas.Bool.{false≢true}
use Rattle.std.specs.Prelude.{List, OnErr, OnOk, ℕ}
use Rattle.jpeg_bits.specs.Reading.{Answers, Fault, Outcome}
use Rattle.jpeg_bits.specs.Stream.{Stream}
use Rattle.jpeg_bits.specs.declared.beyond.Beyond.{Beyond}
use Rattle.jpeg_bits.specs.declared.beyond.Beyond.TheVariants.{Nothing, Zeros}
use Rattle.jpeg_bits.specs.declared.error.Error.{Error}
use Rattle.jpeg_bits.specs.declared.error.Error.TheVariants as errors
use Rattle.jpeg_meaning.specs.States.{OnTold}
use Rattle.jpeg_decoder.specs.Reaching.{is_out_of_memory, UnlessRefused}
use Rattle.jpeg_decoder.specs.Walks.{AfterWalk}
use Rattle.jpeg_decoder.proofs.Scans.ScanData.{answers-err}

-- ---- memory ran out

pub lost-unless : {X : Type 0} (P : Type 0) (r : Result X Error) → is_out_of_memory r ≡ true → UnlessRefused r P
lost-unless P (Ok x) h = absurd (false≢true h)
lost-unless P (Err errors.OutOfMemory) h = tt
lost-unless P (Err (errors.Format text)) h = absurd (false≢true h)
lost-unless P (Err (errors.Unsupported feature)) h = absurd (false≢true h)
lost-unless P (Err (errors.Io e)) h = absurd (false≢true h)
lost-unless P (Err (errors.Internal text)) h = absurd (false≢true h)

pub lost-told : {X : Type 0} (P : Type 0) (old new : Stream) (r : Result X Error) → is_out_of_memory r ≡ true → OnTold old new r P
lost-told P old new (Ok x) h = absurd (false≢true h)
lost-told P old new (Err errors.OutOfMemory) h = λ _ _. tt
lost-told P old new (Err (errors.Format text)) h = absurd (false≢true h)
lost-told P old new (Err (errors.Unsupported feature)) h = absurd (false≢true h)
lost-told P old new (Err (errors.Io e)) h = absurd (false≢true h)
lost-told P old new (Err (errors.Internal text)) h = absurd (false≢true h)

there-unless : {X P : Type 0} (r : Result X Error) → is_out_of_memory r ≡ false → UnlessRefused r P → P
there-unless (Ok x) h p = p
there-unless (Err errors.OutOfMemory) h p = absurd (false≢true (sym h))
there-unless (Err (errors.Format text)) h p = p
there-unless (Err (errors.Unsupported feature)) h p = p
there-unless (Err (errors.Io e)) h p = p
there-unless (Err (errors.Internal text)) h p = p

-- a refusal of the whole by a refusal of what is read
pub lost-answers : {X Y W : Type 0} (v : X → Y) (view : X → W) (read : List ℕ → Outcome Y) (whole : List ℕ → Outcome W)
    (old new : Stream) (r : Result X Error) → OnOk r ⊥
    → ((f : Fault) → read old.bytes ≡ Err f → whole old.bytes ≡ Err f) → Answers v read old r new
    → Answers view whole old r new
lost-answers v view read whole old new (Ok x) lost refused a = absurd lost
lost-answers v view read whole old new (Err e) lost refused a = answers-err v view read whole old new e refused a

-- ---- what holds after a scan

-- Where it counts, what holds after it holds.
pub after-there : {X P : Type 0} (b : Beyond) (r : Result X Error) → (b ≡ Zeros → OnErr r ⊥)
    → is_out_of_memory r ≡ false → AfterWalk b r P → P
after-there Zeros (Ok x) there memory p = p
after-there Zeros (Err e) there memory p = absurd (there refl)
after-there Nothing r there memory p = there-unless r memory p

pub unless-after : {X : Type 0} (P : Type 0) (b : Beyond) (r : Result X Error) → UnlessRefused r P → AfterWalk b r P
unless-after P Zeros (Ok x) h = h
unless-after P Zeros (Err e) h = tt
unless-after P Nothing r h = h

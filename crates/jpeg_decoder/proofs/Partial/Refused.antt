-- Facts of calls that were refused, unless memory ran out.
use Rattle.std.proofs.Common.{rules, ◌≡◌, true, Result, Ok, Err, ap, refl}
use Rattle.std.specs.Prelude.{OnOk}
use Rattle.jpeg_bits.specs.Reading.{Fault, Names}
use Rattle.jpeg_bits.specs.Stream.{Stream}
use Rattle.jpeg_bits.specs.declared.error.Error.{Error}
use Rattle.jpeg_bits.specs.declared.error.Error.TheVariants as errors
use Rattle.jpeg_meaning.specs.Found.{Found}
use Rattle.jpeg_meaning.specs.Sound.{IsSound}
use Rattle.jpeg_meaning.specs.States.{IfRefused, OnTold, OnToldRefusal}
use Rattle.jpeg_meaning.proofs.Soundness.{sound_kept}
use Rattle.jpeg_decoder.specs.Reaching.{OnFault, UnlessRefused, without_tables}

-- ---- a refusal

-- a fact that holds in any case
pub if-refused : {P : Type 0} (e : Error) → P → IfRefused e P
if-refused e h = search rules

-- a fact of a refusal leads to another
pub if-refused-as : {P Q : Type 0} (e : Error) → (P → Q) → IfRefused e P → IfRefused e Q
if-refused-as e f h = search rules

-- a fact of a refusal leads to another of it
pub refused-then : (e : Error) (P Q : Type 0) → (P → IfRefused e Q) → IfRefused e P → IfRefused e Q
refused-then e P Q f h = search rules

-- where memory didn't run out
pub if-there : (e : Error) (P : Type 0) → (e ≡ errors.OutOfMemory → ⊥) → IfRefused e P → P
if-there errors.OutOfMemory P h p = absurd (h refl)
if-there (errors.Format text) P h p = p
if-there (errors.Unsupported feature) P h p = p
if-there (errors.Io e) P h p = p
if-there (errors.Internal text) P h p = p

-- where an error names the fault of a reading
pub refused-at : {Y : Type 0} (e : Error) (outcome : Result Y Fault) (P Q : Type 0) → Names e outcome
    → ((f : Fault) → outcome ≡ Err f → P → Q) → IfRefused e P → IfRefused e Q
refused-at e outcome P Q n f h = search rules

-- ---- the result of a call

pub unless : {X P : Type 0} (r : Result X Error) → P → UnlessRefused r P
unless (Ok x) p = p
unless (Err e) p = if-refused e p

pub unless-so : {X : Type 0} (r : Result X Error) (P Q : Type 0) → (P → Q) → UnlessRefused r P → UnlessRefused r Q
unless-so (Ok x) P Q f h = f h
unless-so (Err e) P Q f h = if-refused-as e f h

pub told-any : {X P : Type 0} (old new : Stream) (r : Result X Error) → (old.known ≡ true → P) → OnTold old new r P
told-any old new (Ok x) h = h
told-any old new (Err e) h = λ k l. if-refused e (h k)

pub on-told : {X P Q : Type 0} (old new : Stream) (r : Result X Error) → (P → Q) → OnTold old new r P
    → OnTold old new r Q
on-told old new (Ok x) h p = λ k. h (p k)
on-told old new (Err e) h p = λ k l. if-refused-as e h (p k l)

pub refusal-any : {X : Type 0} (old new : Stream) (r : Result X Error) (P : Type 0) → P → OnToldRefusal old new r P
refusal-any old new (Ok x) P h = tt
refusal-any old new (Err e) P h = λ _ _. if-refused e h

pub on-refusal : {X P Q : Type 0} (old new : Stream) (r : Result X Error) → (P → Q) → OnTold old new r P
    → OnToldRefusal old new r Q
on-refusal old new (Ok x) h p = tt
on-refusal old new (Err e) h p = λ k l. if-refused-as e h (p k l)

-- ---- what is found but for the tables

-- What holds between segments is no matter of Huffman tables and restart intervals.
sound-without : (old new : Found) → without_tables new ≡ without_tables old → IsSound old → IsSound new
sound-without old new e sound =
    sound_kept old new sound (ap (λ (f : Found). f.said.frame) e) (ap (λ (f : Found). f.said.scanned) e)
    (ap (λ (f : Found). f.kept) e) (ap (λ (f : Found). f.planes) e) (ap (λ (f : Found). f.samples) e)

-- what holds after a call that changes at most the tables where it is refused
pub sound-unless : {X : Type 0} (r : Result X Error) (old new : Found) → IsSound old → OnOk r (IsSound new)
    → OnFault r (without_tables new ≡ without_tables old) → UnlessRefused r (IsSound new)
sound-unless (Ok x) old new sound p q = p
sound-unless (Err e) old new sound p q = if-refused-as e (λ s. sound-without old new s sound) q

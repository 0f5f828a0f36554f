-- What a call says of a walk, by what follows the marker after a scan's data; and a scan in it.
use Rattle.std.proofs.Common.{rules, ap, ◌≡◌, ℕ, false, true, Bool, List, None, Option, Result, Ok, Err, if◌then◌else◌, refl, subst, sym}
use Rattle.std.specs.Prelude.{IsErrAnd, OnErr, OnOk}
use Rattle.jpeg_bits.specs.Reading.{Answers, Malformed}
use Rattle.jpeg_bits.specs.Stream.{Stream}
use Rattle.jpeg_bits.specs.declared.error.Error.{Error}
use Rattle.jpeg_bits.specs.declared.error.Error.TheVariants as errors
use Rattle.jpeg_segments.specs.ScanHeader.{Scan}
use Rattle.jpeg_meaning.specs.Brought.{Brought, unbrought}
use Rattle.jpeg_meaning.specs.Found.{Found}
use Rattle.jpeg_meaning.specs.Segments.{Turn}
use Rattle.jpeg_meaning.specs.Sound.{IsSound}
use Rattle.jpeg_meaning.specs.States.{IfRefused, OnToldRefusal}
use Rattle.jpeg_meaning.specs.Stream.{scan_turn_at, scan_within, told_of}
use Rattle.jpeg_meaning.specs.Work.{is_above, work_of_header}
use Rattle.jpeg_bits.specs.declared.beyond.Beyond.{Beyond}
use Rattle.jpeg_bits.specs.declared.beyond.Beyond.TheVariants.{Nothing, Zeros}
use Rattle.jpeg_decoder.specs.Reaching.{OnFault, without_tables}
use Rattle.jpeg_decoder.specs.Steps.{header_within}
use Rattle.jpeg_decoder.specs.Walks.{AfterWalk, IsLeft, Leaves, OfWalk}
use Rattle.jpeg_decoder.specs.declared.stream.state.Step.{Step}
use Rattle.jpeg_decoder.proofs.Partial.Refused.{if-refused, if-refused-as, sound-unless, unless, unless-so}
use Rattle.jpeg_decoder.proofs.Partial.ReachedScans.{no-header, none-counted, none-reads, none-stays}
use Rattle.jpeg_decoder.proofs.Scans.ScanReads.{header-refused}

-- ---- results

pub of-walk : {X P : Type 0} (b : Beyond) (r : Result X Error) → P → OfWalk b r P
of-walk Zeros r p = p
of-walk Nothing r p = unless r p

pub of-walk-so : {X P Q : Type 0} (b : Beyond) (r : Result X Error) → (P → Q) → OfWalk b r P → OfWalk b r Q
of-walk-so Zeros r f p = f p
of-walk-so Nothing r f p = unless-so r _ _ f p

pub of-ok : {X P : Type 0} (b : Beyond) (x : X) → OfWalk {X = X} b (Ok x) P → P
of-ok Zeros x p = p
of-ok Nothing x p = p

pub of-err : (X P : Type 0) (b : Beyond) (e : Error) → OfWalk {X = X} b (Err e) P → IfRefused e P
of-err X P Zeros e p = if-refused e p
of-err X P Nothing e p = p

pub of-walk-err : (X Y : Type 0) {P Q : Type 0} (b : Beyond) (e : Error) → (P → Q) → OfWalk {X = X} b (Err e) P
    → OfWalk {X = Y} b (Err e) Q
of-walk-err X Y Zeros e f p = f p
of-walk-err X Y Nothing e f p = if-refused-as e f p

pub after-walk : {X P : Type 0} (b : Beyond) (r : Result X Error) → P → AfterWalk b r P
after-walk Zeros (Ok x) p = p
after-walk Zeros (Err e) p = tt
after-walk Nothing r p = unless r p

pub is-left : (b : Beyond) (found : Found) → IsLeft b found found
is-left Zeros found = refl
is-left Nothing found = refl

pub zeros-else : (b : Beyond) → (b ≡ Nothing → ⊥) → b ≡ Zeros
zeros-else Zeros other = refl
zeros-else Nothing other = absurd (other refl)

both-refused : {P Q R : Type 0} (e : Error) → (P → Q → R) → IfRefused e P → IfRefused e Q → IfRefused e R
both-refused errors.OutOfMemory f p q = tt
both-refused (errors.Format text) f p q = f p q
both-refused (errors.Unsupported feature) f p q = f p q
both-refused (errors.Io e) f p q = f p q
both-refused (errors.Internal text) f p q = f p q

pub both-told : {X P Q R : Type 0} (old new : Stream) (r : Result X Error) → (P → Q → R) → OnToldRefusal old new r P
    → OnToldRefusal old new r Q → OnToldRefusal old new r R
both-told old new (Ok x) f p q = tt
both-told old new (Err e) f p q = λ k l. both-refused e f (p k l) (q k l)

-- what a segment other than a scan leaves
pub segment-leaves : {X : Type 0} (b : Beyond) (old new : Stream) (r : Result X Error) (found next : Found)
    (rows : Option ℕ) → rows ≡ None → OnErr r (told_of next.said ≡ told_of found.said)
    → OnFault r (without_tables next ≡ without_tables found) → OnToldRefusal old new r (Leaves b next rows found None)
segment-leaves b old new (Ok x) found next rows none told kept = tt
segment-leaves Zeros old new (Err e) found next rows none told kept = λ k l. if-refused e (told, none)
segment-leaves Nothing old new (Err e) found next rows none told kept = λ k l. if-refused-as e (λ p. (p, none)) kept

pub segment-sound : {X : Type 0} (b : Beyond) (r : Result X Error) (found next : Found) → IsSound found
    → OnOk r (IsSound next) → OnFault r (without_tables next ≡ without_tables found) → AfterWalk b r (IsSound next)
segment-sound Zeros r found next sound p kept = p
segment-sound Nothing r found next sound p kept = sound-unless r found next sound p kept

-- ---- a scan with zeros after its data

-- nothing of it counts
pub scan-zeros : (left : Option ℕ) (found : Found) (bytes : List ℕ)
    → scan_within left Zeros found bytes ≡ unbrought found (scan_within left Zeros found bytes).turn
unfolding scan_turn_at
scan-zeros left found bytes = go (is_above left (work_of_header found bytes))
  where
    go : (above : Bool) → ◌≡◌ {A = Brought}
        (if above then unbrought found (Err Malformed) else scan_turn_at Zeros found bytes)
        (unbrought found (if above then unbrought found (Err Malformed) else scan_turn_at Zeros found bytes).turn)
    go true = refl
    go false = refl

zeros-leave : (left : Option ℕ) (found next : Found) (rows : Option ℕ) (bytes : List ℕ)
    → told_of next.said ≡ told_of found.said → rows ≡ None
    → let w = scan_within left Zeros found bytes in Leaves Zeros next rows w.found w.rows
zeros-leave left found next rows bytes told none =
    subst (λ (w : Brought). Leaves Zeros next rows w.found w.rows) (sym (scan-zeros left found bytes)) (told, none)

pub zeros-left : {X : Type 0} (b : Beyond) (left : Option ℕ) (found next : Found) (rows : Option ℕ) (old new : Stream)
    (r : Result X Error) → (b ≡ Nothing → ⊥) → told_of next.said ≡ told_of found.said → rows ≡ None
    → OnToldRefusal old new r (let w = scan_within left b found old.bytes in Leaves b next rows w.found w.rows)
zeros-left b left found next rows old new (Ok x) other told none = tt
zeros-left b left found next rows old new (Err e) other told none = λ k l.
    if-refused e (subst (λ (b : Beyond). let w = scan_within left b found old.bytes in Leaves b next rows w.found w.rows)
    (sym (zeros-else b other)) (zeros-leave left found next rows old.bytes told none))

pub zeros-sound : {X : Type 0} (P : Type 0) (b : Beyond) (r : Result X Error) → (b ≡ Nothing → ⊥) → OnOk r P
    → AfterWalk b r P
zeros-sound P b r other p = subst (λ (b : Beyond). AfterWalk b r P) (sym (zeros-else b other)) p

-- ---- a scan whose header is refused

pub unread-header : (b : Beyond) (v : Step → Turn) (left : Option ℕ) (found : Found) (old new : Stream)
    (r : Result Step Error) (e : Error) → IsErrAnd r (λ y. y ≡ e)
    → Answers (λ (s : Scan). s) (header_within left found) old (Err e) new
    → OfWalk b r (Answers v (λ bytes. (scan_within left b found bytes).turn) old r new)
unread-header Zeros v left found old new r e fails a = header-refused v left found old new r e fails a
unread-header Nothing v left found old new r e fails a =
    none-reads v found (scan_within left Nothing found) old new r e fails (no-header left found old new e a)

pub header-leaves : (b : Beyond) (left : Option ℕ) (found next : Found) (rows : Option ℕ) (old new : Stream)
    (r : Result Step Error) (e : Error) → IsErrAnd r (λ y. y ≡ e) → next ≡ found → rows ≡ None
    → Answers (λ (s : Scan). s) (header_within left found) old (Err e) new
    → OnToldRefusal old new r (let w = scan_within left b found old.bytes in Leaves b next rows w.found w.rows)
header-leaves Zeros left found next rows old new r e fails same none a =
    zeros-left Zeros left found next rows old new r (λ h. search rules) (ap (λ (f : Found). told_of f.said) same) none
header-leaves Nothing left found next rows old new r e fails same none a =
    let b = no-header left found old new e a in
    both-told old new r (λ f n. (ap without_tables f, n))
    (none-stays found next (scan_within left Nothing found) old new r e fails same b)
    (none-counted found (scan_within left Nothing found) rows old new r e fails none b)

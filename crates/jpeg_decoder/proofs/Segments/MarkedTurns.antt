-- A turn is read: the marker that begins it, and what stands after it.
use Rattle.std.proofs.Common.{rules, ◌≡◌, ◌-◌, ℕ, Bool, true, false, Option, Some, None, List, Result, Ok, Err, refl, ap, ap₂}
use Rattle.std.proofs.Common.{sym, ◌∙◌, arith, subst}
use Rattle.std.specs.Prelude.{OnOk}
use Rattle.jpeg_bits.specs.Marker.{found_or, next_marker}
use Rattle.jpeg_bits.specs.Reading.{Answers, Fault, Outcome}
use Rattle.jpeg_bits.specs.Stream.{Stream}
use Rattle.jpeg_bits.specs.declared.error.Error.{Error}
use Rattle.jpeg_bits.specs.declared.marker.Marker.{Marker}
use Rattle.jpeg_bits.specs.declared.marker.Marker.TheVariants.{SOS}
use Rattle.jpeg_bits.proofs.Loops.{Continues, Continues-err}
use Rattle.jpeg_meaning.specs.Brought.{Brought, unbrought}
use Rattle.jpeg_meaning.specs.Found.{Found}
use Rattle.jpeg_meaning.specs.Segments.{Turn}
use Rattle.jpeg_meaning.specs.States.{IfRefused, OnToldRefusal}
use Rattle.jpeg_meaning.specs.Stream.{brought_after, scan_within, segment_at, turn_at, turn_within}
use Rattle.jpeg_meaning.specs.Work.{brought_within, is_above, left_after, work_after, work_of_header, work_of_turn}
use Rattle.jpeg_meaning.specs.declared.before.Before.{Before}
use Rattle.jpeg_bits.specs.declared.beyond.Beyond.{Beyond}
use Rattle.jpeg_meaning.proofs.Refusals.{told-err}
use Rattle.jpeg_decoder.specs.Walks.{OfWalk}
use Rattle.jpeg_decoder.proofs.Partial.Refused.{if-refused, if-refused-as}
use Rattle.jpeg_decoder.proofs.Segments.WalkedScans.{of-walk-so}

-- ---- what stands after a marker

pub none-above : (left : Option ℕ) → is_above left 0 ≡ false
none-above left = search (rules, arith)

-- no blocks are within any limit
pub nothing-within : (left : Option ℕ) (found : Found) (b : Brought) → brought_within left 0 found b ≡ b
nothing-within left found b = rw (none-above left) refl

pub nothing-taken : (left : Option ℕ) → left_after left 0 ≡ left
nothing-taken None = refl
nothing-taken (Some n) = let e : n - 0 ≡ n = omega arith in ap Some e

pub work-other : (m : Marker) (found : Found) (bytes : List ℕ) → (m ≡ SOS → ⊥) → work_after m found bytes ≡ 0
work-other SOS found bytes other = absurd (other refl)
work-other m found bytes other = refl

pub segment-other : (beyond : Beyond) (m : Marker) (before : Before) (found : Found) (bytes : List ℕ) → (m ≡ SOS → ⊥)
    → brought_after beyond m before found bytes ≡ unbrought found (segment_at m before found bytes)
unfolding brought_after
segment-other beyond SOS before found bytes other = absurd (other refl)
segment-other beyond m before found bytes other = refl

-- what stands after a marker, within a limit
abbrev after_within : Option ℕ → Beyond → Marker → Before → Found → List ℕ → Brought
after_within left beyond m before found bytes =
    brought_within left (work_after m found bytes) found (brought_after beyond m before found bytes)

pub work-marked : (found : Found) (met : Option Marker) (bytes rest : List ℕ) (m : Marker)
    → found_or met bytes (next_marker bytes) ≡ Ok (m, rest)
    → work_of_turn found met bytes ≡ work_after m found rest
unfolding work_of_turn
work-marked found met bytes rest m e = rw (e, work_of_turn) refl

pub work-unmarked : (found : Found) (met : Option Marker) (bytes : List ℕ) (fault : Fault)
    → found_or met bytes (next_marker bytes) ≡ Err fault → work_of_turn found met bytes ≡ 0
unfolding work_of_turn
work-unmarked found met bytes fault e = rw (e, work_of_turn) refl

pub turn-marked : (left : Option ℕ) (beyond : Beyond) (before : Before) (found : Found) (met : Option Marker)
    (bytes rest : List ℕ) (m : Marker) → found_or met bytes (next_marker bytes) ≡ Ok (m, rest)
    → turn_within left beyond before found met bytes ≡ after_within left beyond m before found rest
unfolding turn_at work_of_turn
turn-marked left beyond before found met bytes rest m e = rw (e, turn_at, work_of_turn) refl

pub turn-unmarked : (left : Option ℕ) (beyond : Beyond) (before : Before) (found : Found) (met : Option Marker)
    (bytes : List ℕ) (fault : Fault) → found_or met bytes (next_marker bytes) ≡ Err fault
    → turn_within left beyond before found met bytes ≡ unbrought found (Err fault)
unfolding turn_at work_of_turn
turn-unmarked left beyond before found met bytes fault e = rw (e, turn_at, work_of_turn) (nothing-within left found _)

-- A turn that begins with this marker is what stands after it.
abbrev Begins : Option ℕ → Beyond → Before → Found → Option Marker → Stream → Marker → (List ℕ → Brought) → Type 0
Begins left beyond before found met old m after =
    (rest : List ℕ) → found_or met old.bytes (next_marker old.bytes) ≡ Ok (m, rest)
    → turn_within left beyond before found met old.bytes ≡ after rest

pub turn-scan : (left : Option ℕ) (beyond : Beyond) (before : Before) (found : Found) (met : Option Marker)
    (old : Stream) (m : Marker) → m ≡ SOS → Begins left beyond before found met old m (scan_within left beyond found)
unfolding brought_after
turn-scan left beyond before found met old m is rest e =
    turn-marked left beyond before found met old.bytes rest m e
    ∙ ap (λ (m : Marker). after_within left beyond m before found rest) is

pub turn-segment : (left : Option ℕ) (beyond : Beyond) (before : Before) (found : Found) (met : Option Marker)
    (old : Stream) (m : Marker) → (m ≡ SOS → ⊥)
    → Begins left beyond before found met old m (λ (bytes : List ℕ). unbrought found (segment_at m before found bytes))
turn-segment left beyond before found met old m other rest e =
    turn-marked left beyond before found met old.bytes rest m e
    ∙ ap₂ (λ (n : ℕ) (b : Brought). brought_within left n found b) (work-other m found rest other)
    (segment-other beyond m before found rest other)
    ∙ nothing-within left found _

-- what holds holds of an Ok, too
pub always : {X E P : Type 0} (r : Result X E) → P → OnOk r P
always (Ok x) p = p
always (Err e) p = tt

-- ---- the marker that begins a turn is read, and what stands after it

answers-after : {X Y : Type 0} (view : X → Y) (whole rest : List ℕ → Outcome Y) (old mid new : Stream)
    (r : Result X Error) → Continues whole old rest mid → Answers view rest mid r new → Answers view whole old r new
answers-after view whole rest old mid new (Ok x) p q = grind arith
answers-after view whole rest old mid new (Err e) p q = grind arith

pub refusal-after : {X : Type 0} (old mid new : Stream) (r : Result X Error) (P Q : Type 0)
    → (old.known ≡ true → (mid.known ≡ true) × (P → Q)) → OnToldRefusal mid new r P → OnToldRefusal old new r Q
refusal-after old mid new (Ok x) P Q f h = tt
refusal-after old mid new (Err e) P Q f h = λ k known. if-refused-as e (f k).1 (h (f k).0 known)

pub marked-answers : {X : Type 0} (view : X → Turn) (limit : Option ℕ) (beyond : Beyond) (before : Before) (found : Found)
    (met : Option Marker) (old mid new : Stream) (m : Marker) (after : List ℕ → Brought) (r : Result X Error)
    → Begins limit beyond before found met old m after
    → Answers (λ (m : Marker). m) (λ bytes. found_or met bytes (next_marker bytes)) old (Ok m) mid
    → Answers view (λ bytes. (after bytes).turn) mid r new
    → Answers view (λ bytes. (turn_within limit beyond before found met bytes).turn) old r new
marked-answers view limit beyond before found met old mid new m after r begins a h =
    answers-after view (λ bytes. (turn_within limit beyond before found met bytes).turn) (λ bytes. (after bytes).turn)
    old mid new r (a.0, λ k. ((a.1 k).0, ap (λ (b : Brought). b.turn) (begins mid.bytes (a.1 k).1))) h

pub marked-reads : {X : Type 0} (view : X → Turn) (limit : Option ℕ) (beyond : Beyond) (before : Before) (found : Found)
    (met : Option Marker) (old mid new : Stream) (m : Marker) (after : List ℕ → Brought) (r : Result X Error)
    → Begins limit beyond before found met old m after
    → Answers (λ (m : Marker). m) (λ bytes. found_or met bytes (next_marker bytes)) old (Ok m) mid
    → OfWalk beyond r (Answers view (λ bytes. (after bytes).turn) mid r new)
    → OfWalk beyond r (Answers view (λ bytes. (turn_within limit beyond before found met bytes).turn) old r new)
marked-reads view limit beyond before found met old mid new m after r begins a h =
    of-walk-so beyond r (marked-answers view limit beyond before found met old mid new m after r begins a) h

-- what holds of a refusal of what stands after it holds of the turn
pub marked-holds : {X : Type 0} (P : Brought → Type 0) (limit : Option ℕ) (beyond : Beyond) (before : Before) (found : Found)
    (met : Option Marker) (old mid new : Stream) (m : Marker) (after : List ℕ → Brought) (r : Result X Error)
    → Begins limit beyond before found met old m after
    → Answers (λ (m : Marker). m) (λ bytes. found_or met bytes (next_marker bytes)) old (Ok m) mid
    → OnToldRefusal mid new r (P (after mid.bytes))
    → OnToldRefusal old new r (P (turn_within limit beyond before found met old.bytes))
marked-holds P limit beyond before found met old mid new m after r begins a h =
    refusal-after old mid new r (P (after mid.bytes)) _
    (λ k. let read = a.1 k in (read.0, λ p. subst P (sym (begins mid.bytes read.1)) p)) h

-- ---- what a turn leaves of a limit

-- after a scan
pub left-scan : {X : Type 0} (r : Result X Error) (left next : Option ℕ) (found : Found) (met : Option Marker)
    (old mid : Stream) (m : Marker) → m ≡ SOS
    → Answers (λ (m : Marker). m) (λ bytes. found_or met bytes (next_marker bytes)) old (Ok m) mid
    → (mid.known ≡ true → OnOk r (next ≡ left_after left (work_of_header found mid.bytes)))
    → old.known ≡ true → OnOk r (next ≡ left_after left (work_of_turn found met old.bytes))
left-scan r left next found met old mid m is read taken k =
    let marked = read.1 k in
    subst (λ (n : ℕ). OnOk r (next ≡ left_after left n))
    (ap (λ (m : Marker). work_after m found mid.bytes) (sym is)
    ∙ sym (work-marked found met old.bytes mid.bytes m marked.1)) (taken marked.0)

-- after another segment
pub left-other : {X : Type 0} (r : Result X Error) (left : Option ℕ) (found : Found) (met : Option Marker)
    (old mid : Stream) (m : Marker) → (m ≡ SOS → ⊥)
    → Answers (λ (m : Marker). m) (λ bytes. found_or met bytes (next_marker bytes)) old (Ok m) mid
    → old.known ≡ true → OnOk r (left ≡ left_after left (work_of_turn found met old.bytes))
left-other r left found met old mid m other read k =
    always r (sym (ap (left_after left) (work-marked found met old.bytes mid.bytes m (read.1 k).1
    ∙ work-other m found mid.bytes other) ∙ nothing-taken left))

-- ---- no marker begins a turn

pub unmarked-reads : {X : Type 0} (view : X → Turn) (limit : Option ℕ) (beyond : Beyond) (before : Before) (found : Found)
    (met : Option Marker) (old new : Stream) (e : Error)
    → Answers (λ (m : Marker). m) (λ bytes. found_or met bytes (next_marker bytes)) old (Err e) new
    → Answers view (λ bytes. (turn_within limit beyond before found met bytes).turn) old (Err e) new
unmarked-reads {X} view limit beyond before found met old new e a =
    Continues-err {X = X} {Z = Marker} view (λ (m : Marker). m)
    (λ bytes. (turn_within limit beyond before found met bytes).turn) (λ bytes. (turn_within limit beyond before found met bytes).turn)
    (λ bytes. found_or met bytes (next_marker bytes)) old old new e
    (λ f q. ap (λ (b : Brought). b.turn) (turn-unmarked limit beyond before found met old.bytes f q)) (refl, λ k. (k, refl)) a

pub unmarked-holds : (P : Brought → Type 0) (limit : Option ℕ) (beyond : Beyond) (before : Before) (found : Found)
    (met : Option Marker) (old new : Stream) (e : Error) → ((fault : Fault) → P (unbrought found (Err fault)))
    → Answers (λ (m : Marker). m) (λ bytes. found_or met bytes (next_marker bytes)) old (Err e) new
    → old.known ≡ true → new.known ≡ true → IfRefused e (P (turn_within limit beyond before found met old.bytes))
unmarked-holds P limit beyond before found met old new e is a k known =
    told-err e (found_or met old.bytes (next_marker old.bytes)) _ (a.1 k known)
    (λ f q. subst P (sym (turn-unmarked limit beyond before found met old.bytes f q)) (is f))

-- ---- whether a turn exceeds a limit

pub exceeded-unmarked : (left : Option ℕ) (found : Found) (met : Option Marker) (old new : Stream) (e : Error)
    (exceeded : Bool) → exceeded ≡ false
    → Answers (λ (m : Marker). m) (λ bytes. found_or met bytes (next_marker bytes)) old (Err e) new
    → old.known ≡ true → new.known ≡ true
    → IfRefused e (exceeded ≡ is_above left (work_of_turn found met old.bytes))
exceeded-unmarked left found met old new e exceeded none a k known =
    told-err e (found_or met old.bytes (next_marker old.bytes)) _ (a.1 k known)
    (λ f q. none ∙ sym (ap (is_above left) (work-unmarked found met old.bytes f q) ∙ none-above left))

pub exceeded-scan : {X : Type 0} (r : Result X Error) (left : Option ℕ) (exceeded : Bool) (found : Found)
    (met : Option Marker) (old mid new : Stream) (m : Marker) → m ≡ SOS
    → Answers (λ (m : Marker). m) (λ bytes. found_or met bytes (next_marker bytes)) old (Ok m) mid
    → OnToldRefusal mid new r (exceeded ≡ is_above left (work_of_header found mid.bytes))
    → OnToldRefusal old new r (exceeded ≡ is_above left (work_of_turn found met old.bytes))
exceeded-scan r left exceeded found met old mid new m is read h =
    refusal-after old mid new r _ _ (λ k.
    let marked = read.1 k in (
      marked.0,
      λ p. p ∙ sym (ap (is_above left) (work-marked found met old.bytes mid.bytes m marked.1
          ∙ ap (λ (m : Marker). work_after m found mid.bytes) is)),
    )) h

pub exceeded-other : {X : Type 0} (r : Result X Error) (left : Option ℕ) (exceeded : Bool) (found : Found)
    (met : Option Marker) (old mid new : Stream) (m : Marker) → (m ≡ SOS → ⊥) → exceeded ≡ false
    → Answers (λ (m : Marker). m) (λ bytes. found_or met bytes (next_marker bytes)) old (Ok m) mid
    → OnToldRefusal old new r (exceeded ≡ is_above left (work_of_turn found met old.bytes))
exceeded-other (Ok x) left exceeded found met old mid new m other none read = tt
exceeded-other (Err e) left exceeded found met old mid new m other none read = λ k l.
    if-refused e (none ∙ sym (ap (is_above left) (work-marked found met old.bytes mid.bytes m (read.1 k).1
    ∙ work-other m found mid.bytes other) ∙ none-above left))

-- The segments before a scan, a turn at a time: what stands after a marker, unless it is that of a scan.
use Rattle.std.proofs.Common.{rules, ◌≡◌, ◌≤◌, ◌<◌, ◌+◌, ◌-◌, ◌⊎◌, ℕ, zero, suc, List, Result, Ok, Err, Bool, true}
use Rattle.std.proofs.Common.{false, inl, inr, Option, Some, None, ap, ap₂, sym, subst, refl, ◌∙◌, length, arith}
use Rattle.std.proofs.Common.{if◌then◌else◌}
use Rattle.std.proofs.lemmas.Grind.{common_steps}
use Rattle.jpeg_bits.specs.Reading.{Answers, Fault, Outcome, ◌>>=◌}
use Rattle.jpeg_bits.specs.Marker.{found_or, next_marker}
use Rattle.jpeg_bits.specs.Stream.{Stream}
use Rattle.jpeg_bits.specs.declared.beyond.Beyond.TheVariants.{Zeros}
use Rattle.jpeg_bits.specs.declared.error.Error.{Error}
use Rattle.jpeg_bits.specs.declared.marker.Marker.{Marker}
use Rattle.jpeg_bits.specs.declared.marker.Marker.TheVariants.{SOS}
use Rattle.jpeg_bits.proofs.Loops.{Continues, Continues-err}
use Rattle.jpeg_meaning.specs.Brought.{Brought, unbrought}
use Rattle.jpeg_meaning.specs.Found.{Found}
use Rattle.jpeg_meaning.specs.Segments.{Turn}
use Rattle.jpeg_meaning.specs.Stream.{Told, Walked, brought_after, segment_at, told_of, turn_within, walk}
use Rattle.jpeg_meaning.specs.Reported.{IsOfTurns}
use Rattle.jpeg_meaning.specs.States.{IfRefused}
use Rattle.jpeg_meaning.specs.Work.{brought_within, is_above, left_after, work_of_turn}
use Rattle.jpeg_meaning.specs.declared.before.Before.{Before}
use Rattle.jpeg_meaning.specs.declared.before.Before.TheVariants.{Elsewhere}
use Rattle.jpeg_meaning.proofs.Written.ReadTurns.{err-ok, ok-same, walk-end, walked, zeros-refused}
use Rattle.jpeg_meaning.proofs.Refusals.{told-err}
use Rattle.jpeg_decoder.specs.ByRows.{AreSameScans, GoesOnAtScan, scan_ahead, to_scan, to_scan_after, to_scan_of}
use Rattle.jpeg_decoder.specs.ByRows.{to_turn, to_turn_at, to_turn_of}
use Rattle.jpeg_decoder.specs.Steps.{turn_of}
use Rattle.jpeg_decoder.specs.Walks.{walk_for, walk_over}
use Rattle.jpeg_decoder.specs.declared.stream.state.Step.{Step}
use Rattle.jpeg_decoder.proofs.Segments.MarkedTurns.{nothing-taken, nothing-within, segment-other, turn-marked}
use Rattle.jpeg_decoder.proofs.Segments.MarkedTurns.{turn-unmarked, work-marked, work-other}
use Rattle.jpeg_decoder.proofs.Segments.PassedRestarts.{marker-takes}
use Rattle.jpeg_decoder.proofs.Segments.TurnLoops.{IsWalked, onward_step, walked-on, walked-whole}
use Rattle.jpeg_decoder.proofs.Segments.Turns.{turn-takes, turns-enough}
use Rattle.jpeg_decoder.proofs.Segments.LeftBytes.{left_at}

-- ---- a turn

abbrev given : Turn × List ℕ → Outcome (Option Turn)
given t = Ok (Some t.0, t.1)

pub scan-else : (m : Marker) → (m ≡ SOS) ⊎ (m ≡ SOS → ⊥)
scan-else m = search rules

pub other-after : (m : Marker) (before : Before) (found : Found) (bytes : List ℕ) → (m ≡ SOS → ⊥)
    → to_turn_at m before found bytes ≡ (segment_at m before found bytes >>= given)
unfolding to_turn_at
other-after SOS before found bytes other = absurd (other refl)
other-after m before found bytes other = refl

pub scan-after : (before : Before) (found : Found) (bytes : List ℕ) → to_turn_at SOS before found bytes
    ≡ Ok (None, bytes)
unfolding to_turn_at
scan-after before found bytes = refl

segment-given : (r : Outcome Turn) (t : Turn) (rest : List ℕ) → (r >>= given) ≡ Ok (Some t, rest) → r ≡ Ok (t, rest)
segment-given (Ok x) t rest e = grind (arith, common_steps)
segment-given (Err fault) t rest e = absurd (err-ok fault (Some t, rest) e)

segment-there : (r : Outcome Turn) (rest : List ℕ) → (r >>= given) ≡ Ok (None, rest) → ⊥
segment-there r rest e = grind (arith, common_steps)

segment-refused : (r : Outcome Turn) (fault : Fault) → (r >>= given) ≡ Err fault → r ≡ Err fault
segment-refused r fault e = grind (arith, common_steps)

turn-segment-at : (left : Option ℕ) (before : Before) (found : Found) (met : Option Marker) (bytes rest : List ℕ)
    (m : Marker) → found_or met bytes (next_marker bytes) ≡ Ok (m, rest) → (m ≡ SOS → ⊥)
    → turn_within left Zeros before found met bytes ≡ unbrought found (segment_at m before found rest)
turn-segment-at left before found met bytes rest m is other =
    turn-marked left Zeros before found met bytes rest m is
    ∙ ap₂ (λ (n : ℕ) (b : Brought). brought_within left n found b) (work-other m found rest other)
    (segment-other Zeros m before found rest other)
    ∙ nothing-within left found _

none-some : (t : Turn) (rest other : List ℕ) → ◌≡◌ {A = Outcome (Option Turn)} (Ok (None, other)) (Ok (Some t, rest))
    → ⊥
none-some t rest other e = grind (arith, common_steps)

ok-err : {A : Type 0} (x : A) (fault : Fault) → ◌≡◌ {A = Result A Fault} (Ok x) (Err fault) → ⊥
ok-err x fault e = grind (arith, common_steps)

same-fault : {A B : Type 0} (x y : Fault) → ◌≡◌ {A = Result A Fault} (Err x) (Err y)
    → ◌≡◌ {A = Result B Fault} (Err x) (Err y)
same-fault x y e = grind (arith, common_steps)

same-scan : (m : Marker × List ℕ) (rest : List ℕ) → m.0 ≡ SOS
    → ◌≡◌ {A = Outcome (Option Turn)} (Ok (None, m.1)) (Ok (None, rest))
    → ◌≡◌ {A = Outcome Marker} (Ok m) (Ok (SOS, rest))
same-scan (m, bytes) rest is e = grind (arith, common_steps)

-- A segment other than a scan is read: it is the turn, which takes nothing from a limit.
next-segment : (before : Before) (found : Found) (met : Option Marker) (bytes rest : List ℕ) (t : Turn)
    → to_turn before found met bytes ≡ Ok (Some t, rest) → (left : Option ℕ)
    → ((turn_within left Zeros before found met bytes).turn ≡ Ok (t, rest))
    × (left ≡ left_after left (work_of_turn found met bytes))
unfolding to_turn
next-segment before found met bytes rest t e left = go (found_or met bytes (next_marker bytes)) refl e
  where
    P : Type 0
    P = ((turn_within left Zeros before found met bytes).turn ≡ Ok (t, rest))
        × (left ≡ left_after left (work_of_turn found met bytes))

    at : (m : Marker × List ℕ) → found_or met bytes (next_marker bytes) ≡ Ok m
        → to_turn_at m.0 before found m.1 ≡ Ok (Some t, rest) → (m.0 ≡ SOS) ⊎ (m.0 ≡ SOS → ⊥) → P
    at m is q (inl scan) =
        absurd (none-some t rest m.1 (sym (scan-after before found m.1)
        ∙ ap (λ (x : Marker). to_turn_at x before found m.1) (sym scan) ∙ q))
    at m is q (inr other) = (
      ap (λ (b : Brought). b.turn) (turn-segment-at left before found met bytes m.1 m.0 is other)
          ∙ segment-given (segment_at m.0 before found m.1) t rest (sym (other-after m.0 before found m.1 other) ∙ q),
      sym (ap (left_after left) (work-marked found met bytes m.1 m.0 is ∙ work-other m.0 found m.1 other)
          ∙ nothing-taken left),
    )

    go : (o : Outcome Marker) → found_or met bytes (next_marker bytes) ≡ o
        → (o >>= (λ (m : Marker × List ℕ). to_turn_at m.0 before found m.1)) ≡ Ok (Some t, rest) → P
    go (Ok m) is q = at m is q (scan-else m.0)
    go (Err fault) is q = absurd (err-ok fault (Some t, rest) q)

-- a scan is next: its marker was read
next-scan : (before : Before) (found : Found) (met : Option Marker) (bytes rest : List ℕ)
    → to_turn before found met bytes ≡ Ok (None, rest) → found_or met bytes (next_marker bytes) ≡ Ok (SOS, rest)
unfolding to_turn
next-scan before found met bytes rest e = go (found_or met bytes (next_marker bytes)) e
  where
    at : (m : Marker × List ℕ) → to_turn_at m.0 before found m.1 ≡ Ok (None, rest) → (m.0 ≡ SOS) ⊎ (m.0 ≡ SOS → ⊥)
        → ◌≡◌ {A = Outcome Marker} (Ok m) (Ok (SOS, rest))
    at m q (inl scan) = same-scan m rest scan (sym (scan-after before found m.1)
        ∙ ap (λ (x : Marker). to_turn_at x before found m.1) (sym scan) ∙ q)
    at m q (inr other) =
        absurd (segment-there (segment_at m.0 before found m.1) rest (sym (other-after m.0 before found m.1 other) ∙ q))

    go : (o : Outcome Marker)
        → (o >>= (λ (m : Marker × List ℕ). to_turn_at m.0 before found m.1)) ≡ Ok (None, rest) → o ≡ Ok (SOS, rest)
    go (Ok m) q = at m q (scan-else m.0)
    go (Err fault) q = absurd (err-ok fault (None, rest) q)

-- a fault before a scan is that of the turn
next-refused : (before : Before) (found : Found) (met : Option Marker) (bytes : List ℕ) (fault : Fault)
    → to_turn before found met bytes ≡ Err fault → (left : Option ℕ)
    → (turn_within left Zeros before found met bytes).turn ≡ Err fault
unfolding to_turn
next-refused before found met bytes fault e left = go (found_or met bytes (next_marker bytes)) refl e
  where
    P : Type 0
    P = (turn_within left Zeros before found met bytes).turn ≡ Err fault

    at : (m : Marker × List ℕ) → found_or met bytes (next_marker bytes) ≡ Ok m
        → to_turn_at m.0 before found m.1 ≡ Err fault → (m.0 ≡ SOS) ⊎ (m.0 ≡ SOS → ⊥) → P
    at m is q (inl scan) =
        absurd (ok-err (None, m.1) fault (sym (scan-after before found m.1)
        ∙ ap (λ (x : Marker). to_turn_at x before found m.1) (sym scan) ∙ q))
    at m is q (inr other) =
        ap (λ (b : Brought). b.turn) (turn-segment-at left before found met bytes m.1 m.0 is other)
        ∙ segment-refused (segment_at m.0 before found m.1) fault (sym (other-after m.0 before found m.1 other) ∙ q)

    go : (o : Outcome Marker) → found_or met bytes (next_marker bytes) ≡ o
        → (o >>= (λ (m : Marker × List ℕ). to_turn_at m.0 before found m.1)) ≡ Err fault → P
    go (Ok m) is q = at m is q (scan-else m.0)
    go (Err other) is q =
        ap (λ (b : Brought). b.turn) (turn-unmarked left Zeros before found met bytes other is)
        ∙ same-fault other fault q

-- ---- a scan that is next

-- a marker that was met takes no byte, and the next one some
pub marker-leaves : (met : Option Marker) (bytes rest : List ℕ) (m : Marker)
    → found_or met bytes (next_marker bytes) ≡ Ok (m, rest) → length rest ≤ length bytes
marker-leaves None bytes rest m e = let less = marker-takes bytes (m, rest) e in omega (arith, less)
marker-leaves (Some n) bytes rest m e =
    let same = ap (λ (x : Marker × List ℕ). length x.1) (ok-same (n, bytes) (m, rest) e) in omega (arith, same)

-- It doesn't matter what stands before it.
same-turn : (left : Option ℕ) (before : Before) (found : Found) (met : Option Marker) (bytes rest : List ℕ)
    → found_or met bytes (next_marker bytes) ≡ Ok (SOS, rest)
    → turn_within left Zeros before found met bytes ≡ turn_within left Zeros Elsewhere found (Some SOS) rest
unfolding brought_after
same-turn left before found met bytes rest e =
    turn-marked left Zeros before found met bytes rest SOS e
    ∙ sym (turn-marked left Zeros Elsewhere found (Some SOS) rest rest SOS refl)

same-work : (found : Found) (met : Option Marker) (bytes rest : List ℕ)
    → found_or met bytes (next_marker bytes) ≡ Ok (SOS, rest)
    → work_of_turn found met bytes ≡ work_of_turn found (Some SOS) rest
same-work found met bytes rest e =
    work-marked found met bytes rest SOS e ∙ sym (work-marked found (Some SOS) rest rest SOS refl)

-- a walk after its first turn
walk_by : Option ℕ → ℕ → ℕ → Brought → Walked
walk_by limit n work b = elim b.turn [
  | Err fault ↦ record { found = b.found; rows = b.rows; exceeded = is_above limit work; rest = Err fault }
  | Ok t ↦ if t.0.ended then record { found = t.0.found; rows = None; exceeded = false; rest = Ok t.1 }
      else walk (left_after limit work) Zeros n false t.0.before t.0.found t.0.met t.1
]

walk-by : (limit : Option ℕ) (n : ℕ) (before : Before) (found : Found) (met : Option Marker) (bytes : List ℕ)
    → walk limit Zeros (suc n) false before found met bytes
    ≡ walk_by limit n (work_of_turn found met bytes) (turn_within limit Zeros before found met bytes)
unfolding walk walk_by
walk-by limit n before found met bytes = refl

-- So a walk goes on as one whose marker was met.
at-scan : (limit : Option ℕ) (before : Before) (found : Found) (met : Option Marker) (bytes rest : List ℕ)
    → found_or met bytes (next_marker bytes) ≡ Ok (SOS, rest) → (n : ℕ)
    → walk limit Zeros n false before found met bytes ≡ walk limit Zeros n false Elsewhere found (Some SOS) rest
unfolding walk
at-scan limit before found met bytes rest e zero = refl
at-scan limit before found met bytes rest e (suc n) =
    walk-by limit n before found met bytes
    ∙ ap₂ (walk_by limit n) (same-work found met bytes rest e) (same-turn limit before found met bytes rest e)
    ∙ sym (walk-by limit n Elsewhere found (Some SOS) rest)

-- ---- segments in turn

to-scan-at : (n : ℕ) (before : Before) (found : Found) (met : Option Marker) (bytes : List ℕ)
    (o : Outcome (Option Turn))
    → to_turn before found met bytes ≡ o
    → to_scan (suc n) before found met bytes
    ≡ (o >>= (λ (t : Option Turn × List ℕ). to_scan_after (to_scan n) found t.0 t.1))
unfolding to_scan
to-scan-at n before found met bytes o e =
    ap (λ (o : Outcome (Option Turn)). o >>= (λ (t : Option Turn × List ℕ). to_scan_after (to_scan n) found t.0 t.1)) e

segments-on : (n : ℕ) (before : Before) (found : Found) (met : Option Marker) (bytes rest : List ℕ) (t : Turn)
    → to_turn before found met bytes ≡ Ok (Some t, rest) → t.ended ≡ false
    → to_scan (suc n) before found met bytes ≡ to_scan n t.before t.found t.met rest
segments-on n before found met bytes rest t e on = to-scan-at n before found met bytes _ e ∙ rw on refl

segments-end : (n : ℕ) (before : Before) (found : Found) (met : Option Marker) (bytes rest : List ℕ) (t : Turn)
    → to_turn before found met bytes ≡ Ok (Some t, rest) → t.ended ≡ true
    → to_scan (suc n) before found met bytes ≡ Ok (to_scan_of t.found false, rest)
segments-end n before found met bytes rest t e ended = to-scan-at n before found met bytes _ e ∙ rw ended refl

segments-scan : (n : ℕ) (before : Before) (found : Found) (met : Option Marker) (bytes rest : List ℕ)
    → to_turn before found met bytes ≡ Ok (None, rest)
    → to_scan (suc n) before found met bytes ≡ Ok (to_scan_of found true, rest)
segments-scan n before found met bytes rest e = to-scan-at n before found met bytes _ e

segments-refused : (n : ℕ) (before : Before) (found : Found) (met : Option Marker) (bytes : List ℕ) (fault : Fault)
    → to_turn before found met bytes ≡ Err fault → to_scan (suc n) before found met bytes ≡ Err fault
segments-refused n before found met bytes fault e = to-scan-at n before found met bytes _ e

-- ---- a turn that is read

-- where no marker is read, nothing is
pub unmarked-next : {X : Type 0} (view : X → Option Turn) (before : Before) (found : Found) (met : Option Marker)
    (old new : Stream) (e : Error)
    → Answers (λ (m : Marker). m) (λ bytes. found_or met bytes (next_marker bytes)) old (Err e) new
    → Answers view (to_turn before found met) old (Err e) new
unfolding to_turn
unmarked-next {X} view before found met old new e a =
    Continues-err {X = X} {Z = Marker} view (λ (m : Marker). m) (to_turn before found met) (to_turn before found met)
    (λ bytes. found_or met bytes (next_marker bytes)) old old new e
    (λ f q. ap (λ (o : Outcome Marker). o >>= (λ (m : Marker × List ℕ). to_turn_at m.0 before found m.1)) q)
    (refl, λ k. (k, refl)) a

-- the marker of a scan
pub scan-next : (before : Before) (found : Found) (met : Option Marker) (old new : Stream) (m : Marker) → m ≡ SOS
    → Answers (λ (m : Marker). m) (λ bytes. found_or met bytes (next_marker bytes)) old (Ok m) new
    → (new.failed ≡ old.failed) × (old.known ≡ true → (new.known ≡ true)
    × (to_turn before found met old.bytes ≡ Ok (None, new.bytes)))
unfolding to_turn
scan-next before found met old new m is a = (
  a.0,
  λ k. (
    (a.1 k).0,
    ap (λ (o : Outcome Marker). o >>= (λ (m : Marker × List ℕ). to_turn_at m.0 before found m.1)) (a.1 k).1
        ∙ ap (λ (x : Marker). to_turn_at x before found new.bytes) is ∙ scan-after before found new.bytes,
  ),
)

-- another one, after which a segment stands
segment-follows : (before : Before) (found : Found) (met : Option Marker) (old mid : Stream) (m : Marker)
    → (m ≡ SOS → ⊥)
    → Answers (λ (m : Marker). m) (λ bytes. found_or met bytes (next_marker bytes)) old (Ok m) mid
    → Continues (to_turn before found met) old (λ bytes. segment_at m before found bytes >>= given) mid
unfolding to_turn
segment-follows before found met old mid m other a = (
  a.0,
  λ k. (
    (a.1 k).0,
    ap (λ (o : Outcome Marker). o >>= (λ (m : Marker × List ℕ). to_turn_at m.0 before found m.1)) (a.1 k).1
        ∙ other-after m before found mid.bytes other,
  ),
)

pub segment-next : (before : Before) (found : Found) (met : Option Marker) (old mid new : Stream) (m : Marker)
    (t : Turn)
    → (m ≡ SOS → ⊥)
    → Answers (λ (m : Marker). m) (λ bytes. found_or met bytes (next_marker bytes)) old (Ok m) mid
    → (new.failed ≡ mid.failed) × (mid.known ≡ true → (new.known ≡ true)
    × (segment_at m before found mid.bytes ≡ Ok (t, new.bytes)))
    → (new.failed ≡ old.failed) × (old.known ≡ true → (new.known ≡ true)
    × (to_turn before found met old.bytes ≡ Ok (Some t, new.bytes)))
segment-next before found met old mid new m t other a b =
    let follows = segment-follows before found met old mid m other a in (
      b.0 ∙ follows.0,
      λ k.
          let whole = follows.1 k in
          let part = b.1 whole.0 in
          (part.0, whole.1 ∙ ap (λ (o : Outcome Turn). o >>= given) part.1),
    )

pub segment-lacks : {X Y : Type 0} (view : X → Turn) (see : Y → Option Turn) (before : Before) (found : Found)
    (met : Option Marker) (old mid new : Stream) (m : Marker) (e : Error) → (m ≡ SOS → ⊥)
    → Answers (λ (m : Marker). m) (λ bytes. found_or met bytes (next_marker bytes)) old (Ok m) mid
    → Answers view (segment_at m before found) mid (Err e) new
    → Answers see (to_turn before found met) old (Err e) new
segment-lacks {X} {Y} view see before found met old mid new m e other a b =
    Continues-err {X = Y} {Z = X} see view (to_turn before found met)
    (λ bytes. segment_at m before found bytes >>= given) (segment_at m before found) old mid new e
    (λ f q. ap (λ (o : Outcome Turn). o >>= given) q) (segment-follows before found met old mid m other a) b

-- ---- a loop over them

-- After these turns, the bytes of old give before their next scan what those of new do, and a walk over them goes on.
pub record IsBeforeScan (found : Found) (old : Stream) (turns : ℕ) (last : Step) (now : Found) (cur : Stream) : Type 0
  where
    pub walked : (limit : Option ℕ) → IsWalked limit Zeros false onward_step found old turns limit last now cur
    pub ahead : old.known ≡ true → (m : ℕ) → to_scan (turns + m) Elsewhere found None old.bytes
        ≡ to_scan m last.before now last.met cur.bytes

-- a turn of the loop, which reads a segment or the marker of a scan
abbrev pub ReadsTurn : Found → Step → Found → Stream → Result (Option Step) Error → Stream → Type 0
ReadsTurn now last after cur result new =
    Answers (to_turn_of after) (to_turn last.before now last.met) cur result new

pub before-on : (found : Found) (old : Stream) (turns : ℕ) (last : Step) (now : Found) (cur new : Stream) (step : Step)
    (after : Found) → IsBeforeScan found old turns last now cur → step.ended ≡ false
    → ReadsTurn now last after cur (Ok (Some step)) new → IsBeforeScan found old (turns + 1) step after new
before-on found old turns last now cur new step after w on read = record {
  walked = λ limit.
      walked-on limit Zeros false onward_step found old turns limit last now cur new limit step after
      (w.walked limit) refl on
      (read.0, λ k. let r = read.1 k in (r.0, (segment r.1 limit).0)) (λ k. (segment (read.1 k).1 limit).1);
  ahead = λ k m.
      let one : turns + 1 + m ≡ turns + suc m = omega arith in
      ap (λ (n : ℕ). to_scan n Elsewhere found None old.bytes) one ∙ w.ahead k (suc m)
      ∙ segments-on m last.before now last.met cur.bytes new.bytes (turn_of after step)
      (read.1 ((w.walked None).known k)).1 on;
}
  where
    segment : to_turn last.before now last.met cur.bytes ≡ Ok (Some (turn_of after step), new.bytes)
        → (limit : Option ℕ)
        → ((turn_within limit Zeros last.before now last.met cur.bytes).turn ≡ Ok (turn_of after step, new.bytes))
        × (limit ≡ left_after limit (work_of_turn now last.met cur.bytes))
    segment = next-segment last.before now last.met cur.bytes new.bytes (turn_of after step)

-- a turn after which the image goes on takes a byte
pub segment-takes : (last : Step) (now : Found) (cur new : Stream) (step : Step) (after : Found) → step.ended ≡ false
    → ReadsTurn now last after cur (Ok (Some step)) new → cur.known ≡ true
    → left_at step.met new.bytes < left_at last.met cur.bytes
segment-takes last now cur new step after on read k =
    turn-takes None Zeros last.before now last.met cur.bytes (turn_of after step, new.bytes)
    (next-segment last.before now last.met cur.bytes new.bytes (turn_of after step) (read.1 k).1 None).0 on

-- Each turn took a byte: what is read before the scan is read from here on.
ahead-left : (found : Found) (old : Stream) (turns : ℕ) (last : Step) (now : Found) (cur : Stream)
    → IsBeforeScan found old turns last now cur → old.known ≡ true
    → scan_ahead found old.bytes
    ≡ to_scan (suc (length old.bytes - turns)) last.before now last.met cur.bytes
ahead-left found old turns last now cur w k =
    let few = (w.walked None).took k in
    let split : suc (length old.bytes) ≡ turns + suc (length old.bytes - turns) = omega (arith, few) in
    ap (λ (n : ℕ). to_scan n Elsewhere found None old.bytes) split ∙ w.ahead k (suc (length old.bytes - turns))

-- ---- its end

-- the end of the image
pub before-end : (found : Found) (old : Stream) (turns : ℕ) (last : Step) (now : Found) (cur new : Stream) (step : Step)
    (after : Found) → IsBeforeScan found old turns last now cur → step.ended ≡ true
    → ReadsTurn now last after cur (Ok (Some step)) new
    → (new.failed ≡ old.failed) × (old.known ≡ true → (new.known ≡ true)
    × (scan_ahead found old.bytes ≡ Ok (to_scan_of after false, new.bytes)))
before-end found old turns last now cur new step after w ended read = (
  read.0 ∙ (w.walked None).failed,
  λ k.
      let r = read.1 ((w.walked None).known k) in (
        r.0,
        ahead-left found old turns last now cur w k
            ∙ segments-end (length old.bytes - turns) last.before now last.met cur.bytes new.bytes
            (turn_of after step) r.1
            ended,
      ),
)

end-walked : (found : Found) (old : Stream) (turns : ℕ) (last : Step) (now : Found) (cur new : Stream) (step : Step)
    (after : Found) → IsBeforeScan found old turns last now cur → step.ended ≡ true
    → ReadsTurn now last after cur (Ok (Some step)) new → (limit : Option ℕ) → old.known ≡ true
    → walk_over limit Zeros false found old.bytes ≡ walked after (Ok new.bytes)
end-walked found old turns last now cur new step after w ended read limit k =
    let r = read.1 ((w.walked None).known k) in
    let turn = (next-segment last.before now last.met cur.bytes new.bytes (turn_of after step) r.1 limit).0 in
    walked-whole (suc (length old.bytes)) _ (omega arith) (w.walked limit)
    (λ n. walk-end limit Zeros n false last.before now last.met cur.bytes new.bytes
    (turn_of after step) refl turn ended) k

pub end-turns : (found : Found) (old : Stream) (turns : ℕ) (last : Step) (now : Found) (cur new : Stream) (step : Step)
    (after : Found) → IsBeforeScan found old turns last now cur → step.ended ≡ true
    → ReadsTurn now last after cur (Ok (Some step)) new → (limit : Option ℕ) → old.known ≡ true
    → IsOfTurns (λ n. told_of (walk_for limit Zeros n false found old.bytes).found.said) (told_of after.said)
unfolding IsOfTurns
end-turns found old turns last now cur new step after w ended read limit k = (
  suc (length old.bytes),
  ap (λ (w : Walked). told_of w.found.said)
      (sym (end-walked found old turns last now cur new step after w ended read limit k)),
)

-- a scan
pub before-scan : (found : Found) (old : Stream) (turns : ℕ) (last : Step) (now : Found) (cur new : Stream)
    (after : Found)
    → IsBeforeScan found old turns last now cur → after ≡ now → ReadsTurn now last after cur (Ok None) new
    → (new.failed ≡ old.failed) × (old.known ≡ true → (new.known ≡ true)
    × (scan_ahead found old.bytes ≡ Ok (to_scan_of after true, new.bytes)))
before-scan found old turns last now cur new after w same read = (
  read.0 ∙ (w.walked None).failed,
  λ k.
      let r = read.1 ((w.walked None).known k) in (
        r.0,
        ahead-left found old turns last now cur w k
            ∙ segments-scan (length old.bytes - turns) last.before now last.met cur.bytes new.bytes r.1
            ∙ ap (λ (f : Found). Ok (to_scan_of f true, new.bytes)) (sym same),
      ),
)

goes-on : (found : Found) (old : Stream) (turns : ℕ) (last : Step) (now : Found) (cur new : Stream)
    → IsBeforeScan found old turns last now cur
    → found_or last.met cur.bytes (next_marker cur.bytes) ≡ Ok (SOS, new.bytes) → (limit : Option ℕ) → old.known ≡ true
    → GoesOnAtScan limit found old.bytes now new.bytes
goes-on found old turns last now cur new w next limit k =
    let few = (w.walked None).took k in
    let less = marker-leaves last.met cur.bytes new.bytes SOS next in
    let left = suc (length old.bytes - turns) in
    let split : suc (length old.bytes) ≡ turns + left = omega (arith, few) in
    let same = at-scan limit last.before now last.met cur.bytes new.bytes next in
    record {
      turns = turns;
      walks = λ n. (w.walked limit).walks k n ∙ same n;
      whole = ap (λ (n : ℕ). walk limit Zeros n false Elsewhere found None old.bytes) split
          ∙ (w.walked limit).walks k left ∙ same left
          ∙ turns-enough limit Zeros left (suc (length new.bytes)) false Elsewhere now (Some SOS) new.bytes
          (omega (arith, few, less)) (omega arith);
    }

pub goes-on-at : (found : Found) (old : Stream) (turns : ℕ) (last : Step) (now : Found) (cur new : Stream)
    (after : Found)
    → IsBeforeScan found old turns last now cur → after ≡ now → ReadsTurn now last after cur (Ok None) new
    → (limit : Option ℕ) → old.known ≡ true → GoesOnAtScan limit found old.bytes after new.bytes
goes-on-at found old turns last now cur new after w same read limit k =
    subst (λ (f : Found). GoesOnAtScan limit found old.bytes f new.bytes) (sym same)
    (goes-on found old turns last now cur new w
    (next-scan last.before now last.met cur.bytes new.bytes (read.1 ((w.walked None).known k)).1) limit k)

-- so far
pub before-turns : (found : Found) (old : Stream) (turns : ℕ) (last : Step) (now : Found) (cur : Stream) (told : Told)
    → IsBeforeScan found old turns last now cur → told ≡ told_of now.said → (limit : Option ℕ) → old.known ≡ true
    → IsOfTurns (λ n. told_of (walk_for limit Zeros n false found old.bytes).found.said) told
unfolding IsOfTurns walk
before-turns found old turns last now cur told w same limit k = (
  turns + 0,
  same ∙ ap (λ (w : Walked). told_of w.found.said) (sym ((w.walked limit).walks k 0)),
)

-- a fault
pub before-refused : (found : Found) (old : Stream) (turns : ℕ) (last : Step) (now : Found) (cur new : Stream)
    (e : Error)
    (after : Found) → IsBeforeScan found old turns last now cur → ReadsTurn now last after cur (Err e) new
    → Answers (to_scan_of after) (scan_ahead found) old (Err e) new
before-refused found old turns last now cur new e after w read =
    let n = suc (length old.bytes - turns) in
    Continues-err {X = Bool} {Z = Option Step} (to_scan_of after) (to_turn_of after) (scan_ahead found)
    (to_scan n last.before now last.met) (to_turn last.before now last.met) old cur new e
    (λ f q. segments-refused (length old.bytes - turns) last.before now last.met cur.bytes f q)
    ((w.walked None).failed, λ k. ((w.walked None).known k, ahead-left found old turns last now cur w k)) read

pub refused-told : (found : Found) (old : Stream) (turns : ℕ) (last : Step) (now : Found) (cur new : Stream) (e : Error)
    (after : Found) → IsBeforeScan found old turns last now cur → ReadsTurn now last after cur (Err e) new
    → told_of after.said ≡ told_of now.said → (limit : Option ℕ) → old.known ≡ true → new.known ≡ true
    → IfRefused e (told_of after.said ≡ told_of (walk_over limit Zeros false found old.bytes).found.said)
refused-told found old turns last now cur new e after w read kept limit k known =
    told-err e (to_turn last.before now last.met cur.bytes) _ (read.1 ((w.walked None).known k) known) (λ f q.
    kept ∙ ap (λ (w : Walked). told_of w.found.said) (sym (walked-whole (suc (length old.bytes)) _ (omega arith)
    (w.walked limit) (λ n. zeros-refused limit n false last.before now last.met cur.bytes f refl
    (next-refused last.before now last.met cur.bytes f q limit)) k)))

pub same-scans : (a b c : Found) → AreSameScans a b → AreSameScans b c → AreSameScans a c
same-scans a b c p q = (q.0 ∙ p.0, q.1 ∙ p.1, q.2 ∙ p.2, q.3 ∙ p.3, q.4 ∙ p.4)

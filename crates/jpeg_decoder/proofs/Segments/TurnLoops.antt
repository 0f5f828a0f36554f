-- A loop over the segments of a stream, a turn at a time.
use Rattle.std.proofs.Common.{◌≡◌, ◌≤◌, ◌<◌, ◌+◌, ◌-◌, ℕ, suc, List, Result, Ok, Err, Bool, true, false, Option}
use Rattle.std.proofs.Common.{None, ap, sym, ◌∙◌, arith, ◌&&◌, is_some}
use Rattle.jpeg_bits.specs.Reading.{Answers, Fault, Outcome, ◌>>=◌}
use Rattle.jpeg_bits.specs.Stream.{Stream}
use Rattle.jpeg_bits.specs.declared.error.Error.{Error}
use Rattle.jpeg_bits.proofs.Loops.{Continues-err}
use Rattle.jpeg_meaning.specs.declared.before.Before.TheVariants.{Elsewhere}
use Rattle.jpeg_bits.specs.declared.beyond.Beyond.{Beyond}
use Rattle.jpeg_meaning.specs.Found.{Found}
use Rattle.jpeg_meaning.specs.Segments.{Turn}
use Rattle.jpeg_meaning.specs.States.{IfRefused}
use Rattle.jpeg_meaning.specs.Stream.{Walked, turn_within, walk}
use Rattle.jpeg_meaning.specs.Work.{is_above, left_after, work_of_turn}
use Rattle.jpeg_decoder.specs.Steps.{turn_of}
use Rattle.jpeg_decoder.specs.Walks.{known_if}
use Rattle.jpeg_decoder.specs.declared.stream.state.Step.{Step}
use Rattle.jpeg_meaning.proofs.Written.ReadTurns.{refused_walk, walk-on, walk-refused}
use Rattle.jpeg_decoder.proofs.Partial.Refused.{refused-at, refused-then}
use Rattle.jpeg_decoder.proofs.Segments.LeftBytes.{left_at}
use Rattle.jpeg_decoder.proofs.Segments.Turns.{turn-takes}

-- a walk from a step on
abbrev pub walk_from : Option ℕ → Beyond → ℕ → Bool → Step → Found → List ℕ → Walked
walk_from limit beyond turns header first found bytes =
    walk limit beyond turns header first.before found first.met bytes

-- the step at the start of a stream
abbrev pub onward_step : Step
onward_step = record { before = Elsewhere; met = None; ended = false }

-- After these turns, the walk over the bytes of old from a step on is one over those of new, with what is left of its
-- limit.
pub record IsWalked (limit : Option ℕ) (beyond : Beyond) (header : Bool) (first : Step) (found : Found) (old : Stream)
    (turns : ℕ) (left : Option ℕ) (last : Step) (now : Found) (new : Stream) : Type 0 where
  pub failed : new.failed ≡ old.failed
  pub known : old.known ≡ true → new.known ≡ true
  pub walks : old.known ≡ true → (m : ℕ) → walk_from limit beyond (turns + m) header first found old.bytes
      ≡ walk_from left beyond m header last now new.bytes
  pub took : old.known ≡ true → left_at last.met new.bytes + turns ≤ left_at first.met old.bytes

-- where the source counts as known by a condition
pub walked-if : {limit : Option ℕ} {beyond : Beyond} {header : Bool} {first : Step} {found : Found} {old : Stream}
    {turns : ℕ} {left : Option ℕ} {last : Step} {now : Found} {new : Stream} (k : Bool)
    → (k ≡ true → old.known ≡ true) → IsWalked limit beyond header first found old turns left last now new
    → IsWalked limit beyond header first found (known_if k old) turns left last now new
walked-if k h w = record {
  failed = w.failed;
  known = λ e. w.known (h e);
  walks = λ e. w.walks (h e);
  took = λ e. w.took (h e);
}

-- one more turn
pub walked-on : (limit : Option ℕ) (beyond : Beyond) (header : Bool) (first : Step) (found : Found) (old : Stream)
    (turns : ℕ) (left : Option ℕ) (last : Step) (now : Found) (cur new : Stream) (next : Option ℕ) (step : Step)
    (after : Found)
    → IsWalked limit beyond header first found old turns left last now cur
    → (header && is_some now.said.frame) ≡ false → step.ended ≡ false
    → (new.failed ≡ cur.failed) × (cur.known ≡ true → (new.known ≡ true)
    × ((turn_within left beyond last.before now last.met cur.bytes).turn ≡ Ok (turn_of after step, new.bytes)))
    → (cur.known ≡ true → next ≡ left_after left (work_of_turn now last.met cur.bytes))
    → IsWalked limit beyond header first found old (turns + 1) next step after new
walked-on limit beyond header first found old turns left last now cur new next step after w none on read charged =
    record {
      failed = read.0 ∙ w.failed;
      known = λ k. (read.1 (w.known k)).0;
      walks = λ k m.
          let one : turns + 1 + m ≡ turns + suc m = omega arith in
          ap (λ (n : ℕ). walk_from limit beyond n header first found old.bytes) one ∙ w.walks k (suc m)
          ∙ walk-on left beyond m header last.before now last.met cur.bytes new.bytes (turn_of after step) none
          (read.1 (w.known k)).1 on
          ∙ ap (λ (l : Option ℕ). walk_from l beyond m header step after new.bytes) (sym (charged (w.known k)));
      took = λ k. omega (arith, w.took k, takes k);
    }
  where
    takes : old.known ≡ true → left_at step.met new.bytes < left_at last.met cur.bytes
    takes k =
        turn-takes left beyond last.before now last.met cur.bytes (turn_of after step, new.bytes) (read.1 (w.known k)).1 on

-- Each turn took a byte, or a restart marker that was met: where there are more turns, the walk goes on.
walk-left : {limit : Option ℕ} {beyond : Beyond} {header : Bool} {first : Step} {found : Found} {old : Stream}
    {turns : ℕ} {left : Option ℕ} {last : Step} {now : Found} {cur : Stream} (all : ℕ)
    → left_at first.met old.bytes < all → IsWalked limit beyond header first found old turns left last now cur
    → old.known ≡ true
    → walk_from limit beyond all header first found old.bytes
    ≡ walk_from left beyond (suc (all - suc turns)) header last now cur.bytes
walk-left {limit} {beyond} {header} {first} {found} {old} {turns} all enough w k =
    let few = w.took k in
    let split : all ≡ turns + suc (all - suc turns) = omega (arith, few, enough) in
    ap (λ (n : ℕ). walk_from limit beyond n header first found old.bytes) split ∙ w.walks k (suc (all - suc turns))

-- what the whole walk gives
pub walked-whole : {limit : Option ℕ} {beyond : Beyond} {header : Bool} {first : Step} {found : Found} {old : Stream}
    {turns : ℕ} {left : Option ℕ} {last : Step} {now : Found} {cur : Stream} (all : ℕ) (end : Walked)
    → left_at first.met old.bytes < all → IsWalked limit beyond header first found old turns left last now cur
    → ((n : ℕ) → walk_from left beyond (suc n) header last now cur.bytes ≡ end) → old.known ≡ true
    → walk_from limit beyond all header first found old.bytes ≡ end
walked-whole {turns = turns} all end enough w is k = walk-left all enough w k ∙ is (all - suc turns)

-- ---- a turn is refused

-- what the walk gives then
pub walked-refused : (limit : Option ℕ) (beyond : Beyond) (header : Bool) (first : Step) (found : Found) (old : Stream)
    (turns : ℕ) (left : Option ℕ) (last : Step) (now : Found) (cur : Stream) (all : ℕ) (fault : Fault)
    → left_at first.met old.bytes < all → IsWalked limit beyond header first found old turns left last now cur
    → (header && is_some now.said.frame) ≡ false
    → (turn_within left beyond last.before now last.met cur.bytes).turn ≡ Err fault → old.known ≡ true
    → walk_from limit beyond all header first found old.bytes
    ≡ refused_walk (is_above left (work_of_turn now last.met cur.bytes))
    (turn_within left beyond last.before now last.met cur.bytes) fault
walked-refused limit beyond header first found old turns left last now cur all fault enough w none e k =
    walked-whole all _ enough w
    (λ n. walk-refused left beyond n header last.before now last.met cur.bytes fault none e) k

-- what is read by a walk is refused where the walk is
pub end-refused : {Y : Type 0} (f : Found → List ℕ → Y × List ℕ) (w : Walked) (fault : Fault) → w.rest ≡ Err fault
    → (w.rest >>= λ (rest : List ℕ). Ok (f w.found rest)) ≡ Err fault
end-refused {Y} f w fault e = ap (λ (o : Result (List ℕ) Fault). o >>= λ (rest : List ℕ). Ok (f w.found rest)) e

-- a refusal of a turn is that of the walk, of so many turns for so many bytes
pub walked-err : {X Y : Type 0} (view : X → Turn) (see : Unit {0} → Y) (end : Walked → Outcome Y) (limit : Option ℕ)
    (beyond : Beyond) (header : Bool) (first : Step) (found : Found) (old : Stream) (turns : ℕ) (left : Option ℕ)
    (last : Step) (now : Found) (cur new : Stream) (all : List ℕ → ℕ) (e : Error)
    → left_at first.met old.bytes < all old.bytes
    → IsWalked limit beyond header first found old turns left last now cur
    → (header && is_some now.said.frame) ≡ false
    → ((w : Walked) (fault : Fault) → w.rest ≡ Err fault → end w ≡ Err fault)
    → Answers view (λ bytes. (turn_within left beyond last.before now last.met bytes).turn) cur (Err e) new
    → Answers see (λ bytes. end (walk_from limit beyond (all bytes) header first found bytes)) old (Err e) new
walked-err {X} view see end limit beyond header first found old turns left last now cur new all e enough w none ends a =
    let n = all old.bytes - suc turns in
    Continues-err {X = Unit {0}} {Z = X} see view
    (λ bytes. end (walk_from limit beyond (all bytes) header first found bytes))
    (λ bytes. end (walk_from left beyond (suc n) header last now bytes))
    (λ bytes. (turn_within left beyond last.before now last.met bytes).turn) old cur new e
    (λ f q. ends _ f (ap (λ (w : Walked). w.rest)
    (walk-refused left beyond n header last.before now last.met cur.bytes f none q)))
    (w.failed, λ k. (w.known k, ap end (walk-left (all old.bytes) enough w k))) a

-- what holds of a turn that is refused leads to what holds of the walk
pub told-refused : {X : Type 0} (view : X → Turn) (limit : Option ℕ) (beyond : Beyond) (header : Bool) (first : Step)
    (found : Found) (old : Stream) (turns : ℕ) (left : Option ℕ) (last : Step) (now : Found) (cur new : Stream)
    (e : Error) (P Q : Type 0) → IsWalked limit beyond header first found old turns left last now cur
    → IfRefused e (Answers view (λ bytes. (turn_within left beyond last.before now last.met bytes).turn) cur (Err e) new)
    → (cur.known ≡ true → new.known ≡ true → IfRefused e P)
    → (old.known ≡ true → (fault : Fault) → (turn_within left beyond last.before now last.met cur.bytes).turn ≡ Err fault
    → P → Q)
    → old.known ≡ true → new.known ≡ true → IfRefused e Q
told-refused view limit beyond header first found old turns left last now cur new e P Q w a p h k known =
    refused-then e _ _ (λ read. refused-at e (turn_within left beyond last.before now last.met cur.bytes).turn P Q
    (read.1 (w.known k) known) (h k) (p (w.known k) known)) a

use Rattle.std.proofs.Common.{◌≡◌, ◌-◌, ◌^◌, ℕ, List, [], ◌∷◌, Option, arith, length, min, refl, subst, sym}
use Rattle.jpeg_decoder.specs.Fed.{IsCheckpoint}
use Rattle.jpeg_decoder.proofs.Checkpoints.{checkpoint-on}
use Rattle.jpeg_decoder.proofs.fed.checkpoint.read_all.Goals as goal

pub loop-preserved : goal.loop-preserved
loop-preserved c =
    let l = c.loop in
    let read = c.in_ok-last.ensures.reads.1 l.invariant.known in
    record {
      reads = λ limit bytes h.
          subst (λ (left : Option ℕ). IsCheckpoint limit bytes left c.in_ok-last.last c.read_turn.new.state
          c.read_turn.new.source.bytes) (sym (c.in_ok-last.ensures.left l.invariant.known))
          (checkpoint-on limit bytes l.walk.budget.left l.last l.state l.source.bytes c.in_ok-last.last
          c.read_turn.new.state c.read_turn.new.source.bytes (l.invariant.reads limit bytes h) read.1 c.if-last.false);
      known = read.0;
      going = c.in_ok-last.ensures.going;
      sound = c.in_ok-last.ensures.steps.sound l.invariant.sound;
    }

-- no byte is left
none-left : (n : ℕ) (bytes : List ℕ) → n ≡ min (length bytes) (2 ^ 64 - 1) → n ≡ 0 → bytes ≡ []
none-left n [] e z = refl
none-left n (b ∷ bytes) e z = absurd (omega arith)

pub returns-then-left-eq0-clause-reads : goal.returns-then-left-eq0-clause-reads
returns-then-left-eq0-clause-reads c limit bytes h =
    let l = c.loop in
    subst (λ (rest : List ℕ). IsCheckpoint limit bytes l.walk.budget.left l.last l.state rest)
    (none-left c.unread.result l.source.bytes (c.unread.ensures l.invariant.known) c.if-left-eq0.true)
    (l.invariant.reads limit bytes h)

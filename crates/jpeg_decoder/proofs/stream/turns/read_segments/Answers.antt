use Rattle.std.proofs.lemmas.Grind.{common_steps}
use Rattle.std.proofs.Common.{◌≡◌, ◌∙◌, ◌+◌, ◌<◌, ◌^◌, suc, true, Err, Ok, sym, ap, arith, length, subst}
use Rattle.std.proofs.lemmas.Result.{err_from_is_err_and}
use Rattle.jpeg_meaning.specs.Reported.{IsOfTurns}
use Rattle.jpeg_meaning.specs.Stream.{Walked, told_of, walk}
use Rattle.jpeg_meaning.proofs.Refusals.{short-step, never-met}
use Rattle.jpeg_meaning.proofs.Written.ReadTurns.{walk-end, walk-stop, walked}
use Rattle.jpeg_decoder.specs.Steps.{turn_of}
use Rattle.jpeg_decoder.specs.Walks.{Leaves, walk_over, walked_to}
use Rattle.jpeg_decoder.specs.declared.stream.state.Step.{Step}
use Rattle.jpeg_decoder.proofs.Segments.Turns.{not-framed, turn-takes}
use Rattle.jpeg_decoder.proofs.Segments.TurnLoops.{end-refused, onward_step, told-refused, walked-err, walked-on}
use Rattle.jpeg_decoder.proofs.Segments.TurnLoops.{walked-refused, walked-whole}
use Rattle.jpeg_decoder.proofs.Segments.WalkedScans.{after-walk, is-left, of-err, of-ok, of-walk, of-walk-err}
use Rattle.jpeg_decoder.proofs.stream.turns.read_segments.Given.{Over}
use Rattle.jpeg_decoder.proofs.stream.turns.read_segments.Goals as goal
use Rattle.jpeg_decoder.proofs.stream.turns.read_segments.Goals.{else-loop-test}
use Rattle.jpeg_decoder.proofs.stream.turns.read_segments.Goals.{then-loop-test+else-is_read_for+in_ok-last+else-last+else-counter-lt18446744073709551615}

-- ---- a turn that is refused

pub returns-in_err-last-clause-reads : goal.returns-in_err-last-clause-reads
returns-in_err-last-clause-reads g c =
    let p = err_from_is_err_and c.from_residual.result c.from_residual.ensures.1 in
    let l = c.loop in
    rw (p.1, p.2) (of-walk-err Step (Unit {0}) c.args.beyond _ (λ a. walked-err (turn_of c.read_turn.new.state)
    (λ (u : Unit {0}). c.read_turn.new.state) walked_to
    c.args.walk.now.budget.left c.args.beyond c.args.header onward_step c.args.state.now c.args.source.now l.counter
    l.walk.budget.left l.last l.state l.source c.read_turn.new.source (λ bytes. suc (length bytes)) _ (omega arith)
    l.invariant.walked (sym c.if-is_read_for.ensures)
    (end-refused (λ f rest. (f, rest))) a) c.in_err-last.ensures.reads)

pub returns-in_err-last-clause-leaves : goal.returns-in_err-last-clause-leaves
returns-in_err-last-clause-leaves g c =
    let p = err_from_is_err_and c.from_residual.result c.from_residual.ensures.1 in
    let l = c.loop in
    rw (p.1, p.2) (told-refused (turn_of c.read_turn.new.state) c.args.walk.now.budget.left c.args.beyond c.args.header
    onward_step c.args.state.now c.args.source.now l.counter l.walk.budget.left l.last l.state l.source
    c.read_turn.new.source
    c.in_err-last.field-0.0 _ _ l.invariant.walked (of-err Step _ c.args.beyond _ c.in_err-last.ensures.reads)
    c.in_err-last.ensures.leaves
    (λ k f q is. subst (λ (w : Walked). Leaves c.args.beyond c.read_turn.new.state c.read_turn.new.walk.rows w.found w.rows)
    (sym (walked-refused c.args.walk.now.budget.left c.args.beyond c.args.header onward_step c.args.state.now
    c.args.source.now l.counter l.walk.budget.left l.last l.state l.source _ f (omega arith) l.invariant.walked
    (sym c.if-is_read_for.ensures) q k)) is))

pub returns-in_err-last-clause-turns : goal.returns-in_err-last-clause-turns
unfolding IsOfTurns walk
returns-in_err-last-clause-turns g c k = (
  c.loop.counter + 0,
  c.in_err-last.ensures.steps.kept ∙ ap (λ (w : Walked). told_of w.found.said) (sym (c.loop.invariant.walked.walks k 0)),
)

pub returns-in_err-last-clause-exceeded : goal.returns-in_err-last-clause-exceeded
returns-in_err-last-clause-exceeded g c =
    let p = err_from_is_err_and c.from_residual.result c.from_residual.ensures.1 in
    let l = c.loop in
    rw (p.1, p.2) (told-refused (turn_of c.read_turn.new.state) c.args.walk.now.budget.left c.args.beyond c.args.header
    onward_step c.args.state.now c.args.source.now l.counter l.walk.budget.left l.last l.state l.source
    c.read_turn.new.source
    c.in_err-last.field-0.0 _ _ l.invariant.walked (of-err Step _ c.args.beyond _ c.in_err-last.ensures.reads)
    c.in_err-last.ensures.exceeded
    (λ k f q is. is ∙ ap (λ (w : Walked). w.exceeded) (sym (walked-refused c.args.walk.now.budget.left c.args.beyond
    c.args.header onward_step c.args.state.now c.args.source.now l.counter l.walk.budget.left l.last l.state l.source _
    f
    (omega arith) l.invariant.walked (sym c.if-is_read_for.ensures) q k))))

-- ---- a header that is read

stopped : (g : Over) (c : goal.Then-is_read_for g) → c.args.source.now.known ≡ true
    → walk_over c.args.walk.now.budget.left c.args.beyond c.args.header c.args.state.now c.args.source.now.bytes
    ≡ walked c.loop.state (Ok c.loop.source.bytes)
stopped g c k = walked-whole _ _ (omega arith) c.loop.invariant.walked
    (λ n. walk-stop c.loop.walk.budget.left c.args.beyond (suc n) _ _ _ _ _ (omega arith) (sym c.if-is_read_for.ensures)) k

pub returns-then-is_read_for-clause-reads : goal.returns-then-is_read_for-clause-reads
returns-then-is_read_for-clause-reads g c =
    let walked = c.loop.invariant.walked in
    of-walk c.args.beyond (Ok tt) (walked.failed, λ k. (walked.known k, ap walked_to (stopped g c k)))

pub returns-then-is_read_for-clause-leaves : goal.returns-then-is_read_for-clause-leaves
returns-then-is_read_for-clause-leaves g c k =
    subst (λ (w : Walked). Leaves c.args.beyond c.loop.state c.loop.walk.rows w.found w.rows) (sym (stopped g c k))
    (is-left c.args.beyond c.loop.state, c.loop.invariant.going.1)

pub returns-then-is_read_for-clause-turns : goal.returns-then-is_read_for-clause-turns
unfolding IsOfTurns
returns-then-is_read_for-clause-turns g c k = (_, ap (λ (w : Walked). told_of w.found.said) (sym (stopped g c k)))

pub returns-then-is_read_for-clause-exceeded : goal.returns-then-is_read_for-clause-exceeded
returns-then-is_read_for-clause-exceeded g c k =
    c.loop.invariant.going.0 ∙ ap (λ (w : Walked). w.exceeded) (sym (stopped g c k))

pub returns-then-is_read_for-clause-sound : goal.returns-then-is_read_for-clause-sound
returns-then-is_read_for-clause-sound g c = after-walk c.args.beyond (Ok tt) c.loop.invariant.sound

-- ---- the end of the image

ended : (g : Over) (c : goal.Then-last g) → c.args.source.now.known ≡ true
    → walk_over c.args.walk.now.budget.left c.args.beyond c.args.header c.args.state.now c.args.source.now.bytes
    ≡ walked c.read_turn.new.state (Ok c.read_turn.new.source.bytes)
ended g c k =
    let walked = c.loop.invariant.walked in
    walked-whole _ _ (omega arith) walked
    (λ n. walk-end c.loop.walk.budget.left c.args.beyond n _ _ _ _ _ _ _ (sym c.if-is_read_for.ensures)
    ((of-ok c.args.beyond c.in_ok-last.last c.in_ok-last.ensures.reads).1 (walked.known k)).1 c.if-last.true) k

pub returns-then-last-clause-reads : goal.returns-then-last-clause-reads
returns-then-last-clause-reads g c =
    let walked = c.loop.invariant.walked in
    let read = of-ok c.args.beyond c.in_ok-last.last c.in_ok-last.ensures.reads in
    of-walk c.args.beyond (Ok tt) (read.0 ∙ walked.failed, λ k. ((read.1 (walked.known k)).0, ap walked_to (ended g c k)))

pub returns-then-last-clause-leaves : goal.returns-then-last-clause-leaves
returns-then-last-clause-leaves g c k =
    subst (λ (w : Walked). Leaves c.args.beyond c.read_turn.new.state c.read_turn.new.walk.rows w.found w.rows)
    (sym (ended g c k)) (is-left c.args.beyond c.read_turn.new.state, c.in_ok-last.ensures.going.1)

pub returns-then-last-clause-turns : goal.returns-then-last-clause-turns
unfolding IsOfTurns
returns-then-last-clause-turns g c k = (_, ap (λ (w : Walked). told_of w.found.said) (sym (ended g c k)))

pub returns-then-last-clause-exceeded : goal.returns-then-last-clause-exceeded
returns-then-last-clause-exceeded g c k =
    c.in_ok-last.ensures.going.0 ∙ ap (λ (w : Walked). w.exceeded) (sym (ended g c k))

pub returns-then-last-clause-sound : goal.returns-then-last-clause-sound
returns-then-last-clause-sound g c =
    after-walk c.args.beyond (Ok tt) (c.in_ok-last.ensures.steps.sound c.loop.invariant.sound)

-- ---- one more turn

pub loop-preserved : goal.loop-preserved
loop-preserved g c =
    let l = c.loop in
    record {
      walked = walked-on c.args.walk.now.budget.left c.args.beyond c.args.header onward_step c.args.state.now
          c.args.source.now l.counter l.walk.budget.left l.last l.state l.source c.read_turn.new.source
          c.read_turn.new.walk.budget.left
          c.in_ok-last.last c.read_turn.new.state l.invariant.walked (sym c.if-is_read_for.ensures) c.if-last.false
          (of-ok c.args.beyond c.in_ok-last.last c.in_ok-last.ensures.reads) c.in_ok-last.ensures.left;
      going = c.in_ok-last.ensures.going;
      short = λ _. short-step l.counter l.last.met l.source c.args.source.now l.invariant.short
          l.invariant.first c.in_ok-last.ensures.short;
      stays = λ h. grind (arith, common_steps, l.invariant.stays h);
      sound = c.in_ok-last.ensures.steps.sound l.invariant.sound;
      unread = λ h e. c.in_ok-last.ensures.steps.unread (not-framed c.args.header l.state.said.frame
          (sym c.if-is_read_for.ensures) h) (l.invariant.unread h e);
      first = λ e. absurd (omega arith);
    }

-- a stream of known bytes has fewer segments than turns
never : (g : Over) (c : goal.After-format_error g) → c.args.source.now.known ≡ true → ⊥
never g c k =
    let some : 0 < c.loop.counter = grind (arith, common_steps) in
    let few : length c.args.source.now.bytes < 2 ^ 64 = c.loop.invariant.short some k in
    let walked = c.loop.invariant.walked in
    elim c.loop-test.branch [
      | else-loop-test w ↦ omega (arith, walked.took k)
      | then-loop-test+else-is_read_for+in_ok-last+else-last+else-counter-lt18446744073709551615 w ↦
          let less = turn-takes c.loop.walk.budget.left c.args.beyond c.loop.last.before c.loop.state c.loop.last.met
          c.loop.source.bytes (turn_of w.read_turn.new.state w.in_ok-last.last, w.read_turn.new.source.bytes)
          ((of-ok c.args.beyond w.in_ok-last.last w.in_ok-last.ensures.reads).1 (walked.known k)).1 w.if-last.false in
          omega (arith, walked.took k, less)
    ]

pub returns-clause-reads : goal.returns-clause-reads
returns-clause-reads g c =
    of-walk {X = Unit {0}} c.args.beyond (Err c.format_error.result) (never-met {X = Unit {0}} (λ _. c.loop-test.state)
    (λ bytes. walked_to (walk_over c.args.walk.now.budget.left c.args.beyond c.args.header c.args.state.now bytes))
    c.args.source.now c.loop-test.source c.format_error.result c.format_error.ensures
    (grind (arith, common_steps)) (never g c))

pub returns-clause-leaves : goal.returns-clause-leaves
returns-clause-leaves g c k = absurd (never g c k)

pub returns-clause-turns : goal.returns-clause-turns
unfolding IsOfTurns
returns-clause-turns g c k = absurd (never g c k)

pub returns-clause-exceeded : goal.returns-clause-exceeded
returns-clause-exceeded g c k = absurd (never g c k)

pub returns-clause-sound : goal.returns-clause-sound
returns-clause-sound g c = after-walk {X = Unit {0}} c.args.beyond (Err c.format_error.result) (grind (arith, common_steps))

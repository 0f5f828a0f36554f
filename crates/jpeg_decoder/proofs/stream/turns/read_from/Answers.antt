use Rattle.std.proofs.lemmas.Grind.{common_steps}
use Rattle.std.proofs.Common.{◌≡◌, ◌∙◌, ◌+◌, ◌<◌, ◌^◌, Bool, suc, true, false, Ok, refl, sym, ap, arith, length, Err, subst}
use Rattle.std.proofs.lemmas.Result.{err_from_is_err_and}
use Rattle.jpeg_meaning.specs.Reported.{IsOfTurns}
use Rattle.jpeg_meaning.specs.Stream.{Walked, told_of, walk}
use Rattle.jpeg_meaning.proofs.Refusals.{never-met}
use Rattle.jpeg_meaning.proofs.Written.ReadTurns.{walk-end, walked}
use Rattle.jpeg_decoder.specs.Steps.{turn_of}
use Rattle.jpeg_decoder.specs.Walks.{IsKnownIf, Leaves, known_if, steps_over, walked_to}
use Rattle.jpeg_decoder.specs.declared.stream.state.Step.{Step}
use Rattle.jpeg_decoder.proofs.Segments.LeftBytes.{left-most}
use Rattle.jpeg_decoder.proofs.Segments.Turns.{turn-takes}
use Rattle.jpeg_decoder.proofs.Segments.TurnLoops.{end-refused, told-refused, walked-err, walked-if, walked-on}
use Rattle.jpeg_decoder.proofs.Segments.TurnLoops.{walked-refused, walked-whole}
use Rattle.jpeg_decoder.proofs.Segments.WalkedScans.{after-walk, is-left, of-err, of-ok, of-walk, of-walk-err}
use Rattle.jpeg_decoder.proofs.stream.turns.read_from.Given.{Over}
use Rattle.jpeg_decoder.proofs.stream.turns.read_from.Goals as goal
use Rattle.jpeg_decoder.proofs.stream.turns.read_from.Goals.{else-loop-test}
use Rattle.jpeg_decoder.proofs.stream.turns.read_from.Goals.{then-loop-test+in_ok-last+else-last+else-counter-lt18446744073709551615}

-- ---- a turn that is refused

pub returns-in_err-last-clause-reads : goal.returns-in_err-last-clause-reads
returns-in_err-last-clause-reads g c k h =
    let p = err_from_is_err_and c.from_residual.result c.from_residual.ensures.1 in
    let l = c.loop in
    let old = known_if k c.args.source.now in
    let w = walked-if k (λ e. (h e).0) l.invariant.walked in
    rw (p.1, p.2) (of-walk-err Step (Unit {0}) c.args.beyond _ (λ a. walked-err (turn_of c.read_turn.new.state)
    (λ (u : Unit {0}). c.read_turn.new.state) walked_to
    c.args.walk.now.budget.left c.args.beyond false c.args.first c.args.state.now old l.counter
    l.walk.budget.left l.last l.state l.source c.read_turn.new.source (λ bytes. suc (suc (length bytes))) _
    (left-most c.args.first.met c.args.source.now.bytes) w refl
    (end-refused (λ f rest. (f, rest))) a) c.in_err-last.ensures.reads)

pub returns-in_err-last-clause-leaves : goal.returns-in_err-last-clause-leaves
returns-in_err-last-clause-leaves g c k h =
    let p = err_from_is_err_and c.from_residual.result c.from_residual.ensures.1 in
    let l = c.loop in
    let old = known_if k c.args.source.now in
    let w = walked-if k (λ e. (h e).0) l.invariant.walked in
    rw (p.1, p.2) (told-refused (turn_of c.read_turn.new.state) c.args.walk.now.budget.left c.args.beyond false
    c.args.first c.args.state.now old l.counter l.walk.budget.left l.last l.state l.source
    c.read_turn.new.source c.in_err-last.field-0.0 _ _ w
    (of-err Step _ c.args.beyond _ c.in_err-last.ensures.reads) c.in_err-last.ensures.leaves
    (λ e f q is. subst (λ (w : Walked). Leaves c.args.beyond c.read_turn.new.state c.read_turn.new.walk.rows w.found
    w.rows) (sym (walked-refused c.args.walk.now.budget.left c.args.beyond
    false c.args.first c.args.state.now old l.counter l.walk.budget.left l.last l.state l.source _ f
    (left-most c.args.first.met c.args.source.now.bytes) w refl q e)) is))

pub returns-in_err-last-clause-turns : goal.returns-in_err-last-clause-turns
unfolding IsOfTurns walk
returns-in_err-last-clause-turns g c k h is = (
  c.loop.counter + 0,
  c.in_err-last.ensures.steps.kept
      ∙ ap (λ (w : Walked). told_of w.found.said) (sym (c.loop.invariant.walked.walks (h is).0 0)),
)

pub returns-in_err-last-clause-exceeded : goal.returns-in_err-last-clause-exceeded
returns-in_err-last-clause-exceeded g c k h =
    let p = err_from_is_err_and c.from_residual.result c.from_residual.ensures.1 in
    let l = c.loop in
    let old = known_if k c.args.source.now in
    let w = walked-if k (λ e. (h e).0) l.invariant.walked in
    rw (p.1, p.2) (told-refused (turn_of c.read_turn.new.state) c.args.walk.now.budget.left c.args.beyond false
    c.args.first c.args.state.now old l.counter l.walk.budget.left l.last l.state l.source
    c.read_turn.new.source c.in_err-last.field-0.0 _ _ w
    (of-err Step _ c.args.beyond _ c.in_err-last.ensures.reads) c.in_err-last.ensures.exceeded
    (λ e f q is. is ∙ ap (λ (w : Walked). w.exceeded) (sym (walked-refused c.args.walk.now.budget.left c.args.beyond
    false c.args.first c.args.state.now old l.counter l.walk.budget.left l.last l.state l.source _ f
    (left-most c.args.first.met c.args.source.now.bytes) w refl q e))))

-- ---- the end of the image

ended : (g : Over) (c : goal.Then-last g) → c.args.source.now.known ≡ true
    → steps_over c.args.walk.now.budget.left c.args.beyond c.args.state.now c.args.first c.args.source.now.bytes
    ≡ walked c.read_turn.new.state (Ok c.read_turn.new.source.bytes)
ended g c k =
    let w = c.loop.invariant.walked in
    walked-whole _ _ (left-most c.args.first.met c.args.source.now.bytes) w
    (λ n. walk-end c.loop.walk.budget.left c.args.beyond n _ _ _ _ _ _ _ refl
    ((of-ok c.args.beyond c.in_ok-last.last c.in_ok-last.ensures.reads).1 (w.known k)).1 c.if-last.true) k

pub returns-then-last-clause-reads : goal.returns-then-last-clause-reads
returns-then-last-clause-reads g c k h =
    let w = c.loop.invariant.walked in
    let read = of-ok c.args.beyond c.in_ok-last.last c.in_ok-last.ensures.reads in
    of-walk c.args.beyond (Ok tt)
    (read.0 ∙ w.failed, λ e. ((read.1 (w.known (h e).0)).0, ap walked_to (ended g c (h e).0)))

pub returns-then-last-clause-leaves : goal.returns-then-last-clause-leaves
returns-then-last-clause-leaves g c k h is =
    subst (λ (w : Walked). Leaves c.args.beyond c.read_turn.new.state c.read_turn.new.walk.rows w.found w.rows)
    (sym (ended g c (h is).0)) (is-left c.args.beyond c.read_turn.new.state, c.in_ok-last.ensures.going.1)

pub returns-then-last-clause-sound : goal.returns-then-last-clause-sound
returns-then-last-clause-sound g c =
    after-walk c.args.beyond (Ok tt) (c.in_ok-last.ensures.steps.sound c.loop.invariant.sound)

pub returns-then-last-clause-turns : goal.returns-then-last-clause-turns
unfolding IsOfTurns
returns-then-last-clause-turns g c k h is =
    (_, ap (λ (w : Walked). told_of w.found.said) (sym (ended g c (h is).0)))

pub returns-then-last-clause-exceeded : goal.returns-then-last-clause-exceeded
returns-then-last-clause-exceeded g c k h is =
    c.in_ok-last.ensures.going.0 ∙ ap (λ (w : Walked). w.exceeded) (sym (ended g c (h is).0))

-- ---- one more turn

pub loop-preserved : goal.loop-preserved
loop-preserved g c =
    let l = c.loop in
    record {
      walked = walked-on c.args.walk.now.budget.left c.args.beyond false c.args.first c.args.state.now c.args.source.now
          l.counter
          l.walk.budget.left l.last l.state l.source c.read_turn.new.source c.read_turn.new.walk.budget.left
          c.in_ok-last.last c.read_turn.new.state l.invariant.walked refl c.if-last.false
          (of-ok c.args.beyond c.in_ok-last.last c.in_ok-last.ensures.reads) c.in_ok-last.ensures.left;
      going = c.in_ok-last.ensures.going;
      stays = λ h. grind (arith, common_steps, l.invariant.stays h);
      sound = c.in_ok-last.ensures.steps.sound l.invariant.sound;
    }

-- a stream of known bytes has fewer segments than turns
never : (g : Over) (c : goal.After-format_error g) (k : Bool) → IsKnownIf k 1 c.args.source.now → k ≡ true → ⊥
never g c k h is =
    let few : length c.args.source.now.bytes + 1 < 2 ^ 64 = (h is).1 in
    let most = left-most c.args.first.met c.args.source.now.bytes in
    let w = c.loop.invariant.walked in
    elim c.loop-test.branch [
      | else-loop-test u ↦ omega (arith, w.took (h is).0, most, few)
      | then-loop-test+in_ok-last+else-last+else-counter-lt18446744073709551615 u ↦
          let less = turn-takes c.loop.walk.budget.left c.args.beyond c.loop.last.before c.loop.state c.loop.last.met
          c.loop.source.bytes (turn_of u.read_turn.new.state u.in_ok-last.last, u.read_turn.new.source.bytes)
          ((of-ok c.args.beyond u.in_ok-last.last u.in_ok-last.ensures.reads).1 (w.known (h is).0)).1 u.if-last.false in
          omega (arith, w.took (h is).0, less, most, few)
    ]

pub returns-clause-reads : goal.returns-clause-reads
returns-clause-reads g c k h =
    of-walk {X = Unit {0}} c.args.beyond (Err c.format_error.result) (never-met {X = Unit {0}}
    (λ _. c.loop-test.state)
    (λ bytes. walked_to (steps_over c.args.walk.now.budget.left c.args.beyond c.args.state.now c.args.first bytes))
    (known_if k c.args.source.now) c.loop-test.source c.format_error.result c.format_error.ensures
    (grind (arith, common_steps)) (never g c k h))

pub returns-clause-leaves : goal.returns-clause-leaves
returns-clause-leaves g c k h is = absurd (never g c k h is)

pub returns-clause-sound : goal.returns-clause-sound
returns-clause-sound g c = after-walk {X = Unit {0}} c.args.beyond (Err c.format_error.result) (grind (arith, common_steps))

pub returns-clause-turns : goal.returns-clause-turns
unfolding IsOfTurns
returns-clause-turns g c k h is = absurd (never g c k h is)

pub returns-clause-exceeded : goal.returns-clause-exceeded
returns-clause-exceeded g c k h is = absurd (never g c k h is)

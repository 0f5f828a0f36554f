use Rattle.std.proofs.lemmas.Grind.{common_steps}
use Rattle.std.proofs.Common.{rules, ◌≡◌, ◌∙◌, ◌<◌, ◌^◌, true, Bool, Ok, None, Option, ap, arith, length, subst}
use Rattle.std.specs.Prelude.{IfSome}
use Rattle.std.proofs.lemmas.Result.{err_from_is_err_and}
use Rattle.jpeg_bits.specs.Stream.{Stream}
use Rattle.jpeg_meaning.specs.Found.{Found}
use Rattle.jpeg_meaning.specs.Reported.{IsOfTurns}
use Rattle.jpeg_meaning.specs.Stream.{told_of}
use Rattle.jpeg_meaning.proofs.Refusals.{never-met, short-step}
use Rattle.jpeg_decoder.specs.ByRows.{scan_ahead, to_scan_of}
use Rattle.jpeg_decoder.specs.Steps.{IsStep}
use Rattle.jpeg_decoder.specs.declared.stream.state.Step.{Step}
use Rattle.jpeg_decoder.proofs.Segments.TurnsToScan.{ReadsTurn, before-end, before-on, before-refused, before-scan}
use Rattle.jpeg_decoder.proofs.Segments.TurnsToScan.{before-turns, end-turns, goes-on-at, refused-told, same-scans}
use Rattle.jpeg_decoder.proofs.Segments.TurnsToScan.{segment-takes}
use Rattle.jpeg_decoder.proofs.stream.turns.read_to_scan.Given.{Over}
use Rattle.jpeg_decoder.proofs.stream.turns.read_to_scan.Goals as goal
use Rattle.jpeg_decoder.proofs.stream.turns.read_to_scan.Goals.{else-loop-test}
use Rattle.jpeg_decoder.proofs.stream.turns.read_to_scan.Goals.{then-loop-test+in_ok-step+in-Some+else-step+else-counter-lt18446744073709551615}

-- ---- a turn that is refused

pub returns-in_err-step-clause-reads : goal.returns-in_err-step-clause-reads
returns-in_err-step-clause-reads g c =
    let p = err_from_is_err_and c.from_residual.result c.from_residual.ensures.1 in
    let l = c.loop in
    rw (p.1, p.2) (before-refused c.args.state.now c.args.source.now l.counter l.last l.state l.source
    c.read_to_turn.new.source _ c.read_to_turn.new.state l.invariant.before c.in_err-step.ensures.reads)

pub returns-in_err-step-clause-told : goal.returns-in_err-step-clause-told
returns-in_err-step-clause-told g c limit =
    let p = err_from_is_err_and c.from_residual.result c.from_residual.ensures.1 in
    let l = c.loop in
    rw (p.1, p.2) (refused-told c.args.state.now c.args.source.now l.counter l.last l.state l.source
    c.read_to_turn.new.source _ c.read_to_turn.new.state l.invariant.before c.in_err-step.ensures.reads
    c.in_err-step.ensures.kept limit)

pub returns-in_err-step-clause-turns : goal.returns-in_err-step-clause-turns
returns-in_err-step-clause-turns g c limit k =
    let l = c.loop in
    before-turns c.args.state.now c.args.source.now l.counter l.last l.state l.source
    (told_of c.read_to_turn.new.state.said) l.invariant.before c.in_err-step.ensures.kept limit k

-- ---- a scan

met : (g : Over) (c : goal.In_default g) → (c.read_to_turn.new.state ≡ c.loop.state)
    × ReadsTurn c.loop.state c.loop.last c.read_to_turn.new.state c.loop.source (Ok None) c.read_to_turn.new.source
met g c =
    let none : c.in_ok-step.field-0 ≡ None = search rules in
    let l = c.loop in
    let new = c.read_to_turn.new in (
      c.in_ok-step.ensures.scan (ap Ok none),
      subst (λ (o : Option Step). ReadsTurn l.state l.last new.state l.source (Ok o) new.source) none
          c.in_ok-step.ensures.reads,
    )

pub returns-in_default-clause-reads : goal.returns-in_default-clause-reads
returns-in_default-clause-reads g c =
    let l = c.loop in
    let m = met g c in
    before-scan c.args.state.now c.args.source.now l.counter l.last l.state l.source c.read_to_turn.new.source
    c.read_to_turn.new.state l.invariant.before m.0 m.1

pub returns-in_default-clause-turns : goal.returns-in_default-clause-turns
returns-in_default-clause-turns g c limit k =
    let l = c.loop in
    before-turns c.args.state.now c.args.source.now l.counter l.last l.state l.source
    (told_of c.read_to_turn.new.state.said) l.invariant.before
    (ap (λ (f : Found). told_of f.said) (met g c).0) limit k

pub returns-in_default-clause-before : goal.returns-in_default-clause-before
returns-in_default-clause-before g c limit k scan =
    let l = c.loop in
    let m = met g c in
    goes-on-at c.args.state.now c.args.source.now l.counter l.last l.state l.source c.read_to_turn.new.source
    c.read_to_turn.new.state l.invariant.before m.0 m.1 limit k

-- ---- the end of the image

pub returns-then-step-clause-reads : goal.returns-then-step-clause-reads
returns-then-step-clause-reads g c =
    let l = c.loop in
    let new = c.read_to_turn.new in
    let read = subst (λ (o : Option Step). ReadsTurn l.state l.last new.state l.source (Ok o) new.source) c.in-Some.is
    c.in_ok-step.ensures.reads in
    before-end c.args.state.now c.args.source.now l.counter l.last l.state l.source new.source c.in-Some.step
    new.state l.invariant.before c.if-step.true read

pub returns-then-step-clause-turns : goal.returns-then-step-clause-turns
returns-then-step-clause-turns g c limit k =
    let l = c.loop in
    let new = c.read_to_turn.new in
    let read = subst (λ (o : Option Step). ReadsTurn l.state l.last new.state l.source (Ok o) new.source) c.in-Some.is
    c.in_ok-step.ensures.reads in
    end-turns c.args.state.now c.args.source.now l.counter l.last l.state l.source new.source c.in-Some.step
    new.state l.invariant.before c.if-step.true read limit k

-- ---- one more turn

pub loop-preserved : goal.loop-preserved
loop-preserved g c =
    let l = c.loop in
    let new = c.read_to_turn.new in
    let read = subst (λ (o : Option Step). ReadsTurn l.state l.last new.state l.source (Ok o) new.source) c.in-Some.is
    c.in_ok-step.ensures.reads in
    let is = subst (λ (o : Option Step). IfSome o (λ (s : Step). IsStep l.state (Ok s) new.state)) c.in-Some.is
    c.in_ok-step.ensures.steps in
    record {
      before = before-on c.args.state.now c.args.source.now l.counter l.last l.state l.source new.source c.in-Some.step
          new.state l.invariant.before c.if-step.false read;
      short = λ _. short-step l.counter l.last.met l.source c.args.source.now l.invariant.short l.invariant.first
          c.in_ok-step.ensures.short;
      stays = λ h. grind (arith, common_steps, l.invariant.stays h, is);
      sound = is.sound l.invariant.sound;
      decoded = same-scans c.args.state.now l.state new.state l.invariant.decoded c.in_ok-step.ensures.decoded;
      first = λ e. absurd (omega arith);
    }

-- a stream of known bytes has fewer segments than turns
never : (g : Over) (c : goal.After-format_error g) → c.args.source.now.known ≡ true → ⊥
never g c k =
    let some : 0 < c.loop.counter = grind (arith, common_steps) in
    let few : length c.args.source.now.bytes < 2 ^ 64 = c.loop.invariant.short some k in
    let w = c.loop.invariant.before.walked None in
    elim c.loop-test.branch [
      | else-loop-test u ↦ omega (arith, w.took k)
      | then-loop-test+in_ok-step+in-Some+else-step+else-counter-lt18446744073709551615 u ↦
          let l = c.loop in
          let new = u.read_to_turn.new in
          let read = subst (λ (o : Option Step). ReadsTurn l.state l.last new.state l.source (Ok o) new.source)
          u.in-Some.is u.in_ok-step.ensures.reads in
          let less = segment-takes l.last l.state l.source new.source u.in-Some.step new.state u.if-step.false read
          (w.known k) in
          omega (arith, w.took k, less)
    ]

unfailed : (g : Over) (c : goal.After-format_error g) → c.loop-test.source.failed ≡ c.args.source.now.failed
unfailed g c =
    let w = c.loop.invariant.before.walked None in
    elim c.loop-test.branch [
      | else-loop-test u ↦ ap (λ (s : Stream). s.failed) u.source-is ∙ w.failed
      | then-loop-test+in_ok-step+in-Some+else-step+else-counter-lt18446744073709551615 u ↦
          ap (λ (s : Stream). s.failed) u.source-is ∙ u.in_ok-step.ensures.reads.0 ∙ w.failed
    ]

pub returns-clause-reads : goal.returns-clause-reads
returns-clause-reads g c =
    never-met {X = Bool} (to_scan_of c.loop-test.state) (scan_ahead c.args.state.now)
    c.args.source.now c.loop-test.source c.format_error.result c.format_error.ensures
    (unfailed g c) (never g c)

pub returns-clause-told : goal.returns-clause-told
returns-clause-told g c limit k = absurd (never g c k)

pub returns-clause-turns : goal.returns-clause-turns
unfolding IsOfTurns
returns-clause-turns g c limit k = absurd (never g c k)

use Rattle.std.proofs.Common.{◌≡◌, ◌≢◌, ◌≤◌, ℕ, refl, sym, ap, ◌∙◌, subst}
use Rattle.std.proofs.lemmas.Result.{IfOk-weaker}
use Rattle.zaxbriar_strict.specs.Heads.{is_progressive_process, number_of}
use Rattle.zaxbriar_strict.specs.Members.{NotesScan, Predicts, SendsAll}
use Rattle.zaxbriar_strict.specs.declared.frame.Process.{Process}
use Rattle.zaxbriar_strict.specs.declared.scan.Member.{Member}
use Rattle.zaxbriar_strict.proofs.NotedScans.{all-noted, next-noted, none-noted}
use Rattle.zaxbriar_strict.proofs.SameFrames.{same-precision}
use Rattle.zaxbriar_strict.proofs.scan.Scan.note.Goals as goal

pub loop-member-init : goal.loop-member-init
loop-member-init c = none-noted c.args.self.now c.args.frame.now

pub loop-member-preserved : goal.loop-member-preserved
loop-member-preserved c =
    let none : Member = record { component = 0; dc = 0; ac = 0 } in
    let noted = c.in_ok-note_component.ensures in
    next-noted c.args.self.now c.members-member-items.result.now c.loop-member.member-index none c.in-Some.component.now
    c.note_component.new.component c.args.frame.now c.loop-member.frame _ c.loop-member-test.true
    c.loop-member.invariant (record {
      within = c.in-Some.ensures.item.3.0;
      is = c.in-Some.ensures.value;
      items = refl;
      process = refl;
      precision = refl;
      width = refl;
      height = refl;
      across = refl;
      down = refl;
      factors = noted.factors;
      unsent = λ once.
          noted.unsent (subst (λ (p : Process). number_of p ≢ 2) c.loop-member.invariant.same.process once);
      sent = noted.sent;
      kept = noted.kept;
      noted = λ e.
          let first = ap is_progressive_process (sym c.loop-member.invariant.same.process) ∙ e in
          noted.noted first (c.in_ok-check_part.ensures first);
    })

pub returns : goal.returns
returns c =
    let old = c.args.frame.now in
    let s = c.args.self.now in
    let precision = same-precision c.loop-member.invariant.same in
    IfOk-weaker c.check_band.result
    (λ _. (number_of old.process ≤ 1 → SendsAll s)
    × (number_of old.process ≡ 3 → Predicts c.loop-member.frame.precision s))
    (λ _. NotesScan s old c.loop-member.frame)
    (λ _ band. all-noted s c.members-member-items.result.now c.loop-member.member-index old c.loop-member.frame
    c.members-member-items.ensures c.loop-member-test.false c.loop-member.invariant
    c.in_ok-check_selectors.ensures band.0 c.in_ok-check_part.ensures
    (λ lossless. subst (λ (n : ℕ). Predicts n s) precision (band.1 lossless)))
    c.check_band.ensures

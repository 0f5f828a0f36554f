use Rattle.std.proofs.Common.{◌≤◌, ℕ, ap, ◌∙◌, arith}
use Rattle.std.specs.Prelude.{◌==◌, nat_lt}
use Rattle.zaxbriar_strict.proofs.Codings.{member-installed}
use Rattle.zaxbriar_strict.proofs.Contexts.{element}
use Rattle.zaxbriar_strict.proofs.transform.check_member.Goals as goal

pub returns-clause-tables : goal.returns-clause-tables
returns-clause-tables c = λ p made within first last dc ac.
    let f = c.args.frame.now in
    let m = c.args.member in
    let low : 0 ≤ 1 = omega arith in
    let high : 1 ≤ 1 = omega arith in
    let x = element f.components.items m.component within in
    member-installed p c.args.tables.now f m x.0 made x.1 (c.in_ok-check_steps_at.ensures.installed x.0 x.1)
    (λ e. c.in_ok-has_categories.ensures (c.has_dc.ensures ∙ ap (λ (n : ℕ). n == 0) first ∙ e) low dc)
    (λ e. c.in_ok-check_sent_codes.ensures (c.has_ac.ensures ∙ ap (λ (n : ℕ). nat_lt 0 n) last ∙ e) high ac)

use Rattle.std.proofs.Common.{refl, sym, ◌∙◌}
use Rattle.std.proofs.lemmas.Bool.{false≢true}
use Rattle.zaxbriar_strict.proofs.WalkStates.{finishes}
use Rattle.zaxbriar_strict.proofs.walk.Walk.finish.Goals as goal

pub returns-then-not-is_progressive : goal.returns-then-not-is_progressive
returns-then-not-is_progressive c =
    finishes c.args.self.now c.in-Some.frame c.lacks_scan.result c.is_sent.result c.in-Some.is c.lacks_scan.ensures
    c.if-lacks_scan.false c.is_sent.ensures c.if-not-is_sent.false
    (λ e. absurd (false≢true (sym c.if-not-is_progressive.true ∙ c.is_progressive.ensures ∙ e)))

pub returns : goal.returns
returns c =
    finishes c.args.self.now c.in-Some.frame c.lacks_scan.result c.is_sent.result c.in-Some.is c.lacks_scan.ensures
    c.if-lacks_scan.false c.is_sent.ensures c.if-not-is_sent.false (λ e. record {
      in_range = c.if-not-is_in_range.ensures.eight refl;
      inner = c.if-not-is_in_range.ensures.inner refl;
      whole = c.if-not-is_whole.ensures refl;
    })

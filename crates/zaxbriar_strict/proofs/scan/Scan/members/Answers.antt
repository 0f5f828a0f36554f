use Rattle.std.proofs.Common.{sym, ◌∙◌}
use Rattle.zaxbriar_strict.proofs.Fronts.{all-front, range-front}
use Rattle.zaxbriar_strict.proofs.scan.Scan.members.Goals as goal

pub returns-in-Some : goal.returns-in-Some
returns-in-Some c = c.in-Some.ensures.lookup.0.2 ∙ range-front c.args.self.now.members c.args.self.now.count

pub returns-in-None : goal.returns-in-None
returns-in-None c =
    c.as_slice.ensures ∙ sym (all-front c.args.self.now.members c.args.self.now.count c.in-None.ensures.lookup.0)

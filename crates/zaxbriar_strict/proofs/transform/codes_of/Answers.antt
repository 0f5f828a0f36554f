use Rattle.std.proofs.Common.{sym}
use Rattle.zaxbriar_strict.proofs.transform.codes_of.Goals as goal

pub returns-in-Some : goal.returns-in-Some
returns-in-Some c = λ small near. sym (c.in-Some.ensures small near)

use Rattle.std.proofs.Common.{ap, sym}
use Rattle.zaxbriar_strict.specs.Heads.{is_progressive_process}
use Rattle.zaxbriar_strict.proofs.transform.is_progressive.Goals as goal

pub returns-in-Progressive : goal.returns-in-Progressive
returns-in-Progressive c = sym (ap (λ p. is_progressive_process p) c.in-Progressive.is)

use Rattle.std.proofs.Common.{take}
use Rattle.zaxbriar_strict.specs.Members.{HaveTables}
use Rattle.zaxbriar_strict.proofs.scan.have_tables.Given as goal

abbrev pub invariant-loop-member : goal.invariant-loop-member
invariant-loop-member l = HaveTables l.most (take l.member-index l.members)

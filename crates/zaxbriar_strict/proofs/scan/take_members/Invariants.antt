use Rattle.std.proofs.Common.{◌≡◌, length, take}
use Rattle.zaxbriar_strict.proofs.Members.{TakesMembers}
use Rattle.zaxbriar_strict.proofs.scan.take_members.Given as goal

abbrev pub invariant-loop-place : goal.invariant-loop-place
invariant-loop-place l = record {
  sized : length l.members ≡ 4;
  taken : TakesMembers l.frame l.least l.total (take l.place l.members) l.fn.part.rest.now l.part.rest.now;
}

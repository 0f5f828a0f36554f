use Rattle.std.proofs.Common.{refl}
use Rattle.zaxbriar_strict.proofs.walk.Walk.read_scan.Goals as goal

pub returns : goal.returns
returns c = record {
  frame = c.in-Some.frame;
  last = c.read_scan.new.frame;
  was = c.in-Some.is;
  is = refl;
  some = c.scans_after-self.ensures;
  tables = refl;
  read = c.in_ok-rest.ensures;
}

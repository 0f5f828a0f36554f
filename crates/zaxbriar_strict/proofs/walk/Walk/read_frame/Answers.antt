use Rattle.std.proofs.Common.{refl}
use Rattle.zaxbriar_strict.proofs.WalkStates.{no-frame}
use Rattle.zaxbriar_strict.proofs.walk.Walk.read_frame.Goals as goal

pub returns : goal.returns
returns c = record {
  frame = c.in_ok-frame.frame;
  first = no-frame c.args.self.now.frame c.is_some.result c.is_some.ensures c.if-is_some.false;
  is = refl;
  read = c.in_ok-frame.ensures;
  tables = refl;
}

use Rattle.zaxbriar_strict.proofs.Taken.{sixteen-of-fewer, sixteen-of-more}
use Rattle.zaxbriar_strict.proofs.bits.Bits.next_sixteen.Goals as goal

pub returns-then-self-ge16 : goal.returns-then-self-ge16
returns-then-self-ge16 c = sixteen-of-more c.args.self.now.left c.args.self.now.window c.if-self-ge16.true

pub returns-else-self-ge16 : goal.returns-else-self-ge16
returns-else-self-ge16 c = sixteen-of-fewer c.args.self.now.left c.args.self.now.window c.if-self-ge16.false

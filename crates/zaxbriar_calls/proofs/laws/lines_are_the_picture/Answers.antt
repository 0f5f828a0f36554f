use Rattle.zaxbriar_calls.proofs.AllLines.{lines-are-meaning}
use Rattle.zaxbriar_calls.proofs.laws.lines_are_the_picture.Goals as goal

pub returns : goal.returns
returns c = lines-are-meaning

use Rattle.std.proofs.Common.{rules, refl}
use Rattle.zaxbriar_samples.specs.Samples.{byte_at}
use Rattle.zaxbriar_samples.proofs.Greatest.{greatest-more, greatest-none}
use Rattle.zaxbriar_samples.proofs.samples.greatest_byte.Goals as goal

pub loop-index-init : goal.loop-index-init
loop-index-init c = rw (greatest-none (byte_at c.args.pixels.now)) refl

pub loop-index-preserved : goal.loop-index-preserved
loop-index-preserved c = search (rules, greatest-more)

use Rattle.std.proofs.Common.{rules}
use Rattle.zaxbriar_samples.proofs.Greatest.{bytes-most, samples-most}
use Rattle.zaxbriar_samples.proofs.netpbm.greatest_value.Goals as goal

pub returns-then-greatest_sample-whole-clause-most : goal.returns-then-greatest_sample-whole-clause-most
returns-then-greatest_sample-whole-clause-most c = search (rules, samples-most)

pub returns-clause-most : goal.returns-clause-most
returns-clause-most c = search (rules, samples-most, bytes-most)

use Rattle.std.proofs.Common.{rules}
use Rattle.jpeg_segments.proofs.ScaleLemmas.{factor-at}
use Rattle.jpeg_segments.proofs.sizes.scale_components.Goals as goal

pub scale_component-requires-clause-horizontal : goal.scale_component-requires-clause-horizontal
scale_component-requires-clause-horizontal c = search (rules, factor-at (λ c. c.factors.horizontal))

pub scale_component-requires-clause-vertical : goal.scale_component-requires-clause-vertical
scale_component-requires-clause-vertical c = search (rules, factor-at (λ c. c.factors.vertical))

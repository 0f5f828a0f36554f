use Rattle.std.proofs.Common.{rules, refl, ◌∙◌, ◌+◌, ◌*◌, ◌<◌, length}
use Rattle.zaxbriar_samples.specs.Netpbm.{first_turned}
use Rattle.zaxbriar_samples.proofs.Turned.{one-more}
use Rattle.zaxbriar_samples.proofs.netpbm.put_higher_first.Goals as goal

pub loop-index-init : goal.loop-index-init
unfolding first_turned
loop-index-init c = (refl, refl)

pub loop-index-preserved : goal.loop-index-preserved
loop-index-preserved c =
    let room : 2 * c.loop-index.index + 1 < length c.args.samples.now = search rules in (
      rw (c.swap.ensures.after, c.loop-index.invariant.0) (one-more c.loop-index.index
          c.args.samples.now room),
      c.swap.ensures.len ∙ c.loop-index.invariant.1,
    )

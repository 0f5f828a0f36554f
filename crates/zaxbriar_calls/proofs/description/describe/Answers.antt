use Rattle.std.proofs.Common.{◌∙◌}
use Rattle.zaxbriar_calls.proofs.Headers.{describes, exceeds-described, one-size}
use Rattle.zaxbriar_calls.proofs.description.describe.Goals as goal

pub returns-then-exceeds_limits-clause-large : goal.returns-then-exceeds_limits-clause-large
returns-then-exceeds_limits-clause-large g c known is =
    let read = c.in_ok-header.ensures in (
      describes c.args.options.now c.args.decoder.now c.read_header.new.decoder c.in_ok-header.header
          c.in_ok-lines.lines c.args.density c.picture_of.result read.reads known read.info read.precision read.oriented
          read.sampling read.planes read.transform read.bytes c.in_ok-lines.ensures.lines (c.requires.dense known)
          c.picture_of.ensures,
      exceeds-described c.args.options.now c.in_ok-header.header c.in_ok-lines.lines c.args.density
          c.picture_of.result c.exceeds_limits.result c.in_ok-lines.ensures.lines c.picture_of.ensures
          c.exceeds_limits.ensures ∙ c.if-exceeds_limits.true,
    )

pub returns-clause-within : goal.returns-clause-within
returns-clause-within g c known =
    let read = c.in_ok-header.ensures in (
      describes c.args.options.now c.args.decoder.now c.read_header.new.decoder c.in_ok-header.header
          c.in_ok-lines.lines c.args.density c.picture_of.result read.reads known read.info read.precision read.oriented
          read.sampling read.planes read.transform read.bytes c.in_ok-lines.ensures.lines (c.requires.dense known)
          c.picture_of.ensures,
      exceeds-described c.args.options.now c.in_ok-header.header c.in_ok-lines.lines c.args.density
          c.picture_of.result c.exceeds_limits.result c.in_ok-lines.ensures.lines c.picture_of.ensures
          c.exceeds_limits.ensures ∙ c.if-exceeds_limits.false,
    )

pub returns-clause-limited : goal.returns-clause-limited
returns-clause-limited g c known size large =
    one-size c.args.options.now c.args.decoder.now.source.bytes c.picture_of.result size (returns-clause-within g c known)
    large

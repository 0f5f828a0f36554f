use Rattle.std.proofs.Common.{rules, length}
use Rattle.jpeg_pixels.proofs.UpsampledRows.{run_sample, run_end}
use Rattle.jpeg_pixels.proofs.upsample_rows.write_runs.Goals as goal

pub loop-k-preserved : goal.loop-k-preserved
loop-k-preserved c =
    run_sample c.args.line.now c.loop-k.output c.args.times c.loop-i.i c.loop-k.k c.loop-k-test.true (search rules)
    c.loop-k.invariant

pub loop-x-preserved : goal.loop-x-preserved
loop-x-preserved c =
    run_end c.args.line.now c.loop-x.output c.args.times (length c.args.output.now) c.loop-x.x c.requires.some
    (search rules) (search rules) (search rules) c.loop-x.invariant

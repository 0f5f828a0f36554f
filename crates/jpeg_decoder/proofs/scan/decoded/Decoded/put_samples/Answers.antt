use Rattle.std.proofs.Common.{rules, arith}
use Rattle.jpeg_decoder.proofs.LosslessFrames.LosslessReads.{put-all, put-step}
use Rattle.jpeg_decoder.proofs.scan.decoded.Decoded.put_samples.Goals as goal
use Rattle.std.proofs.lemmas.Grind.{common_steps}

pub loop-slot-preserved : goal.loop-slot-preserved
loop-slot-preserved c = grind (arith, common_steps, put-step)

pub returns-clause-samples : goal.returns-clause-samples
returns-clause-samples c =
    let l = c.loop-slot in
    put-all c.args.indices.now l.slot _ _ _ (search rules) l.invariant.samples

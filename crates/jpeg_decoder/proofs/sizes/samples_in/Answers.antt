use Rattle.std.proofs.Common.{arith}
use Rattle.std.proofs.lemmas.Grind.{common_steps}
use Rattle.std.proofs.lemmas.List.{length-map}
use Rattle.std.proofs.lemmas.List.Sums.{sum_by_more}
use Rattle.jpeg_segments.specs.FrameView.{component_in}
use Rattle.jpeg_lossless.proofs.RowLoops.{mapped-at}
use Rattle.jpeg_decoder.proofs.sizes.samples_in.Goals as goal

pub loop-i-preserved : goal.loop-i-preserved
loop-i-preserved c =
    let cs = c.args.frame.now.components.items in
    let at = mapped-at component_in cs c.loop-i.i c.index.result.now c.index.ensures in
    grind (arith, common_steps, sum_by_more, length-map cs component_in)

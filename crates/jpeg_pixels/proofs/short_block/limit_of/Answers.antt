use Rattle.jpeg_pixels.proofs.LongDivision.{goes, stays}
use Rattle.jpeg_pixels.proofs.short_block.limit_of.Goals.{then-rest-divisor, else-rest-divisor}
use Rattle.jpeg_pixels.proofs.short_block.limit_of.Goals as goal

pub loop-step-preserved : goal.loop-step-preserved
loop-step-preserved c =
    let l = c.loop-step in
    let i = l.invariant in
    let lt = c.loop-step-test.true in
    elim c.if-rest-divisor.branch [
      | then-rest-divisor w ↦
          let d = goes l.limit c.max-divisor.result l.rest l.step lt (i.whole, i.less, i.small, i.little) w.if-rest-divisor.true in
          rw (w.limit-is, w.rest-is) record { whole = d.0; less = d.1; small = d.2; little = d.3 }
      | else-rest-divisor w ↦
          let d = stays l.limit c.max-divisor.result l.rest l.step lt (i.whole, i.less, i.small, i.little) w.if-rest-divisor.false in
          rw (w.limit-is, w.rest-is) record { whole = d.0; less = d.1; small = d.2; little = d.3 }
    ]

use Rattle.std.proofs.Common.{◌∙◌}
use Rattle.jpeg_bits.proofs.MarkerSearch.{passed-more}
use Rattle.jpeg_bits.proofs.source.buffer.unmarked.Goals as goal

pub loop-i-preserved : goal.loop-i-preserved
loop-i-preserved c = record {
  same = λ rest. c.loop-i.invariant.same rest
      ∙ passed-more c.args.bytes.now rest c.loop-i.i c.loop-i.previous c.loop-i-test.true
      (c.is_marked.ensures c.if-is_marked.false);
}

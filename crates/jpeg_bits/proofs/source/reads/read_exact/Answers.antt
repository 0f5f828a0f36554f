use Rattle.std.proofs.Common.{rules}
use Rattle.jpeg_bits.proofs.Filled.{filled-more}
use Rattle.jpeg_bits.proofs.source.reads.read_exact.Goals as goal

pub loop-filled-preserved : goal.loop-filled-preserved
loop-filled-preserved g c =
    let inv = c.loop-filled.invariant in
    record {
      long = search rules;
      within = search rules;
      read = filled-more _ c.loop-filled.source c.read_some.new.self _ _ _ c.loop-filled.buffer c.read_some.new.buffer
          inv.within inv.read
          (c.in_ok-filled.ensures.some).1;
    }

use Rattle.jpeg_bits.specs.Turns.{Interruptions}
use Rattle.jpeg_decoder.specs.Writes.{write_fails}
use Rattle.std.specs.Io.KnownBytes.{Keeps}
use Rattle.jpeg_decoder.proofs.run.writes.write_by_turns.Given as goal

abbrev pub invariant-loop-turn : goal.invariant-loop-turn
invariant-loop-turn g l = record {
  interrupted : Interruptions (write_fails g.W.Offered.answers) l._turn l.fn.writer l.writer;
  kept : Keeps (g.W.Write.contents l.fn.writer) (g.W.Write.contents l.writer);
}

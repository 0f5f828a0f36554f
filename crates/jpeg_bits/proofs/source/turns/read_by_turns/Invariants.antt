use Rattle.jpeg_bits.specs.Turns.{Interruptions, read_fails}
use Rattle.std.specs.Io.KnownBytes.{Keeps}
use Rattle.jpeg_bits.proofs.source.turns.read_by_turns.Given as goal

abbrev pub invariant-loop-turn : goal.invariant-loop-turn
invariant-loop-turn g l = record {
  interrupted : Interruptions (read_fails g.R.Asked.answers) l._turn l.fn.reader l.reader;
  kept : Keeps (g.R.Read.remaining l.fn.reader) (g.R.Read.remaining l.reader);
}

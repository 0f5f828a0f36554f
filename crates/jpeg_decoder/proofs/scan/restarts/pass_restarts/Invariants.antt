use Rattle.std.proofs.Common.{◌≡◌, ◌<◌}
use Rattle.jpeg_bits.specs.Reading.{IsShort}
use Rattle.jpeg_bits.proofs.Loops.{Continues, Took}
use Rattle.jpeg_decoder.specs.Steps.{after_all}
use Rattle.jpeg_decoder.proofs.scan.restarts.pass_restarts.Given as goal

abbrev pub invariant-loop : goal.invariant-loop
invariant-loop g l = record {
  reads : Continues (after_all l.fn.met) l.fn.source (after_all l.met) l.source;
  took : Took l.fn.source l.counter l.source;
  short : 0 < l.counter → IsShort l.fn.source;
  first : l.counter ≡ 0 → l.source ≡ l.fn.source;
}

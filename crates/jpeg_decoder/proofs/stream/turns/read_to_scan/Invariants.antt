use Rattle.std.proofs.Common.{◌≡◌, ◌<◌, true, None, is_some}
use Rattle.jpeg_bits.specs.Reading.{IsShort}
use Rattle.jpeg_meaning.specs.Sound.{IsSound}
use Rattle.jpeg_decoder.specs.ByRows.{AreSameScans}
use Rattle.jpeg_decoder.proofs.Segments.TurnsToScan.{IsBeforeScan}
use Rattle.jpeg_decoder.proofs.stream.turns.read_to_scan.Given as goal

abbrev pub invariant-loop : goal.invariant-loop
invariant-loop g l = record {
  before : IsBeforeScan l.fn.state l.fn.source l.counter l.last l.state l.source;
  short : 0 < l.counter → IsShort l.fn.source;
  stays : is_some l.fn.state.said.frame ≡ true → l.state.said.frame ≡ l.fn.state.said.frame;
  sound : IsSound l.state;
  decoded : AreSameScans l.fn.state l.state;
  first : l.counter ≡ 0 → (l.last.met ≡ None) × (l.source ≡ l.fn.source);
}

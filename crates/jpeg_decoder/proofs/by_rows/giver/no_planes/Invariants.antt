use Rattle.jpeg_decoder.specs.Givers.{IsEmpty}
use Rattle.jpeg_decoder.proofs.by_rows.giver.no_planes.Given as goal

abbrev pub invariant-loop : goal.invariant-loop
invariant-loop l = IsEmpty l.counter l.planes.items

use Rattle.std.proofs.Common.{None, map}
use Rattle.std.specs.Prelude.{slice_index_or}
use Rattle.jpeg_segments.specs.Checks.{needed}
use Rattle.jpeg_segments.proofs.Gathered.{Gathers}
use Rattle.jpeg_decoder.proofs.scan.lossless.tables_of.Given as goal

abbrev pub invariant-loop-slot : goal.invariant-loop-slot
invariant-loop-slot l =
    Gathers (λ d. needed (slice_index_or l.said.huffman.dc d None)) l.header.dc_destinations l.slot
    (map (λ t. t.now) l.tables.items)

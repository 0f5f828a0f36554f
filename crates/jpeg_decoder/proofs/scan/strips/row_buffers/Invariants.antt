use Rattle.std.proofs.Common.{◌≡◌, map, take}
use Rattle.jpeg_decoder.specs.Scanning.{sizes_of}
use Rattle.jpeg_decoder.specs.Steps.{coding_in}
use Rattle.jpeg_decoder.specs.Strips.{row_sizes}
use Rattle.jpeg_decoder.proofs.scan.strips.row_buffers.Given as goal

abbrev pub invariant-loop-coded : goal.invariant-loop-coded
invariant-loop-coded l = sizes_of l.rows.items ≡ row_sizes (map coding_in (take l.coded-index l.codings))

use Rattle.std.proofs.Common.{◌≡◌}
use Rattle.jpeg_decoder.specs.Scanning.{arrays_in, sizes_of}
use Rattle.jpeg_decoder.specs.Strips.{zeros_of}
use Rattle.jpeg_meaning.proofs.InPlace.{patched}
use Rattle.jpeg_decoder.proofs.scan.strips.clear_rows.Given as goal

abbrev pub invariant-loop-row : goal.invariant-loop-row
invariant-loop-row l =
    (sizes_of l.row-items ≡ sizes_of l.fn.rows.items)
    × (arrays_in l.row-items ≡ patched l.row-index (zeros_of (sizes_of l.fn.rows.items)) (arrays_in l.fn.rows.items))

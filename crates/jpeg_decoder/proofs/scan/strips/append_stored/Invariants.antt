use Rattle.std.proofs.Common.{◌≡◌, ◌++◌, ◌*◌, drop}
use Rattle.jpeg_pixels.specs.Planes.{plane_of}
use Rattle.jpeg_decoder.specs.Scanning.{filled}
use Rattle.jpeg_decoder.proofs.Strips.StripRows.{block_in}
use Rattle.jpeg_decoder.proofs.scan.strips.append_stored.Given as goal

abbrev pub invariant-loop : goal.invariant-loop
invariant-loop l =
    (l.rest ≡ drop (l.counter * l.wide) l.blocks)
    × (l.plane.items ≡ l.fn.plane.items
    ++ plane_of l.component.dct_scale l.table l.wide l.counter
    (block_in l.wide (filled (l.component.block_size.height * l.wide) l.blocks)))

use Rattle.std.proofs.Common.{◌≡◌, map}
use Rattle.jpeg_decoder.specs.Scanning.{arrays_in}
use Rattle.jpeg_decoder.specs.Steps.{coding_in}
use Rattle.jpeg_decoder.specs.Strips.{plane_lists, with_strips}
use Rattle.jpeg_meaning.proofs.InPlace.{patched}
use Rattle.jpeg_decoder.proofs.scan.strips.append_to_each.Given as goal

abbrev pub invariant-loop-slot : goal.invariant-loop-slot
invariant-loop-slot l = plane_lists l.planes ≡ patched l.slot
    (with_strips (map coding_in l.codings) (arrays_in l.rows) (plane_lists l.fn.planes))
    (plane_lists l.fn.planes)

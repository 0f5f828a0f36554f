use Rattle.std.proofs.Common.{◌≡◌, map}
use Rattle.jpeg_segments.specs.FrameView.{component_in}
use Rattle.jpeg_meaning.proofs.InPlace.{patched}
use Rattle.jpeg_decoder.specs.ByRows.{below}
use Rattle.jpeg_decoder.specs.Strips.{plane_lists}
use Rattle.jpeg_decoder.proofs.by_rows.window.keep_last.Given as goal

abbrev pub invariant-loop-index : goal.invariant-loop-index
invariant-loop-index l = plane_lists l.planes ≡ patched l.index
    (below 1 (map component_in l.components) (plane_lists l.fn.planes)) (plane_lists l.fn.planes)

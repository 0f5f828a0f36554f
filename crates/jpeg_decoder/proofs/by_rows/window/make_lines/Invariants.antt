-- Lines that a window makes are made one by one.
use Rattle.std.proofs.Common.{◌≡◌, ◌*◌, length}
use Rattle.jpeg_segments.specs.FrameView.{frame_in}
use Rattle.jpeg_decoder.specs.ByRows.{AreLines}
use Rattle.jpeg_decoder.specs.Strips.{plane_lists}
use Rattle.jpeg_decoder.proofs.by_rows.window.make_lines.Given as goal

abbrev pub invariant-loop-index : goal.invariant-loop-index
invariant-loop-index l = record {
  lines : AreLines (frame_in l.fn.frame) l.fn.window.convert (plane_lists l.fn.planes)
      l.fn.window.above l.fn.window.rows l.fn.window.first l.index l.lines.items;
  whole : length l.lines.items
      ≡ l.index * (length (frame_in l.fn.frame).components * (frame_in l.fn.frame).output_width);
}

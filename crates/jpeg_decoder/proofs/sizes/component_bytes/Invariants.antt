use Rattle.std.proofs.Common.{◌≡◌, ◌≤◌, ◌*◌, ◌^◌, sum_by, take}
use Rattle.jpeg_segments.specs.FrameView.{frame_in}
use Rattle.jpeg_decoder.specs.ByRows.{strip_size}
use Rattle.jpeg_decoder.specs.Bytes.{coefficient_bytes, plane_bytes}
use Rattle.jpeg_decoder.proofs.sizes.component_bytes.Given as goal

abbrev pub invariant-loop-i : goal.invariant-loop-i
invariant-loop-i l = record {
  coefficients : l.coefficients
      ≡ sum_by (coefficient_bytes l.frame.coding_process) (take l.i (frame_in l.frame).components);
  planes : l.planes ≡ sum_by (plane_bytes l.frame.coding_process) (take l.i (frame_in l.frame).components);
  strips : l.strips ≡ sum_by strip_size (take l.i (frame_in l.frame).components);
  most_coefficients : l.coefficients ≤ l.i * 2 ^ 39;
  most_planes : l.planes ≤ l.i * 2 ^ 38;
  most_strips : l.strips ≤ l.i * 2 ^ 38;
}

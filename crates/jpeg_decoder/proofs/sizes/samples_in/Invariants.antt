use Rattle.std.proofs.Common.{◌≡◌, ◌≤◌, ◌*◌, ◌^◌, sum_by, take}
use Rattle.jpeg_segments.specs.FrameView.{frame_in}
use Rattle.jpeg_decoder.proofs.sizes.samples_in.Given as goal

abbrev pub invariant-loop-i : goal.invariant-loop-i
invariant-loop-i l = record {
  samples : l.samples ≡ sum_by (λ c. c.width * c.height) (take l.i (frame_in l.frame).components);
  most : l.samples ≤ l.i * 2 ^ 32;
}

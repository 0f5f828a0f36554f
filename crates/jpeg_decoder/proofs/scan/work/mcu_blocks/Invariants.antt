use Rattle.std.proofs.Common.{◌≡◌, ◌≤◌, ◌+◌, ◌*◌, length}
use Rattle.jpeg_segments.specs.FrameView.{frame_in}
use Rattle.jpeg_decoder.proofs.Scans.CountedWork.{size_left}
use Rattle.jpeg_decoder.proofs.scan.work.mcu_blocks.Given as goal

abbrev pub invariant-loop-slot : goal.invariant-loop-slot
invariant-loop-slot l = record {
  most : l.slot ≤ length l.indices;
  sum : l.blocks + size_left (frame_in l.frame) l.slot l.indices ≡ size_left (frame_in l.frame) 0 l.indices;
  few : l.blocks ≤ l.slot * 65025;
}

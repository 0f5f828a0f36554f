use Rattle.std.proofs.Common.{◌≡◌, length}
use Rattle.jpeg_segments.specs.FrameView.{frame_in}
use Rattle.jpeg_meaning.specs.ScanSegments.{codings_of}
use Rattle.jpeg_decoder.proofs.Scans.ScanCodings.{front, codings_left}
use Rattle.jpeg_decoder.proofs.scan.codings.codings_of.Given as goal

abbrev pub invariant-loop-slot : goal.invariant-loop-slot
invariant-loop-slot l = record {
  whole : codings_of l.said (frame_in l.frame) l.header
      ≡ front l.codings (codings_left l.said (frame_in l.frame) l.header
      l.slot);
  count : length l.codings ≡ l.slot;
}

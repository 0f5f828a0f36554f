use Rattle.std.proofs.Common.{◌≡◌, length, map, take}
use Rattle.jpeg_segments.specs.FrameView.{selector_of}
use Rattle.jpeg_segments.proofs.scan_header.header_of.Given as goal

abbrev pub invariant-loop-i : goal.invariant-loop-i
invariant-loop-i l = record {
  components : take l.i l.components ≡ map (λ s. s.component) (map selector_of (take l.i l.selectors));
  dc : take l.i l.dc_destinations ≡ map (λ s. s.dc) (map selector_of (take l.i l.selectors));
  ac : take l.i l.ac_destinations ≡ map (λ s. s.ac) (map selector_of (take l.i l.selectors));
  components_length : length l.components ≡ 4;
  dc_length : length l.dc_destinations ≡ 4;
  ac_length : length l.ac_destinations ≡ 4;
}

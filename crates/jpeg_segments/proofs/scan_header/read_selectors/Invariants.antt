use Rattle.std.proofs.Common.{All, ◌≡◌, ◌-◌, ℕ, List, [], map, length, take}
use Rattle.jpeg_segments.specs.ScanHeader.{IsSelectorOf, selectors_from}
use Rattle.jpeg_segments.specs.FrameView.{frame_in, selector_of}
use Rattle.jpeg_segments.specs.Parts.{HasBlocks}
use Rattle.jpeg_bits.proofs.Loops.{Continues}
use Rattle.jpeg_segments.proofs.ScanLemmas.{RisesTo}
use Rattle.jpeg_segments.proofs.scan_header.read_selectors.Given as goal

abbrev pub invariant-loop-i : goal.invariant-loop-i
invariant-loop-i g l = record {
  rest : Continues (selectors_from (frame_in l.frame) (length l.initial.selectors) [] 0) l.fn.source
      (λ (bs : List ℕ). selectors_from (frame_in l.frame) (length l.initial.selectors - l.i)
      (map selector_of (take l.i l.selectors)) l.least bs) l.source;
  length : length l.selectors ≡ length l.initial.selectors;
  rising : RisesTo (map (λ s. s.component) (map selector_of (take l.i l.selectors))) l.least;
  indices : All (IsSelectorOf (frame_in l.frame)) (map selector_of (take l.i l.selectors));
  blocks : All (HasBlocks (frame_in l.frame)) (take l.i l.selectors);
}

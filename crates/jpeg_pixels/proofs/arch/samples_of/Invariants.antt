use Rattle.std.proofs.Common.{◌≡◌, pos, [], slice_index_or, length, replicate}
use Rattle.std.specs.Int.{int_shr}
use Rattle.jpeg_pixels.specs.Samples.{clamped}
use Rattle.jpeg_pixels.specs.Blocks.{WritesBlock}
use Rattle.jpeg_pixels.proofs.arch.samples_of.Given as goal

abbrev pub invariant-loop-y : goal.invariant-loop-y
invariant-loop-y l = record {
  len : length l.samples ≡ 64;
  block : WritesBlock 8 l.y 8 (λ x y. clamped (int_shr (slice_index_or (slice_index_or l.sums y []) x (pos 0)) 17))
      (replicate 64 0) l.samples;
}

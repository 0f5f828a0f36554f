use Rattle.std.proofs.Common.{◌≡◌, ℕ, ◌<◌, ◌++◌, length, get_or, take}
use Rattle.std.specs.List.{flat_map}
use Rattle.jpeg_segments.specs.WrittenSegments.{value_bytes}
use Rattle.zaxbriar_strict.specs.Quantizations.{precision_of}
use Rattle.zaxbriar_strict.proofs.quantization.take_steps.Given as goal

abbrev pub invariant-loop-place : goal.invariant-loop-place
invariant-loop-place l = record {
  size : length l.steps ≡ 64;
  bytes : l.fn.cursor.rest.now
      ≡ flat_map (value_bytes (precision_of l.is_wide)) (take l.place l.steps) ++ l.cursor.rest.now;
  some : (k : ℕ) → k < l.place → 0 < get_or l.steps k 0;
}

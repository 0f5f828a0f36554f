use Rattle.std.proofs.Common.{◌≡◌, ℕ, ◌<◌, ◌/◌, pos, length, slice_index_or, slice_index}
use Rattle.std.specs.Prelude.{min, max}
use Rattle.jpeg_pixels.proofs.short_block.short_table.Given as goal

abbrev pub invariant-loop-k : goal.invariant-loop-k
invariant-loop-k l =
    (length l.values ≡ 64) × (length l.limits ≡ 64)
    × ((j : ℕ) → j < l.k
    → slice_index_or l.values j (pos 0) ≡ pos (min (slice_index l.quantization_table j) 1095))
    × ((j : ℕ) → j < l.k
    → slice_index_or l.limits j (pos 0) ≡ pos (1095 / max (slice_index l.quantization_table j) 1))

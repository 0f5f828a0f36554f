use Rattle.std.proofs.Common.{◌≡◌, ◌≤◌, ◌<◌, ◌-◌, ℕ, get_or, length}
use Rattle.jpeg_decoder.specs.Scanning.{arrays_in, sizes_of, IsFull}
use Rattle.jpeg_decoder.proofs.Kept.BlockArrays.{Held}
use Rattle.jpeg_decoder.proofs.scan.block_array.fill_all.Given as goal

abbrev pub invariant-loop-slot : goal.invariant-loop-slot
invariant-loop-slot l = record {
  within : l.slot ≤ length l.arrays.items;
  arrays : arrays_in l.arrays.items ≡ arrays_in l.fn.arrays.items;
  sizes : sizes_of l.arrays.items ≡ sizes_of l.fn.arrays.items;
  full : (k : ℕ) (d : Held) → k < l.slot → IsFull (get_or l.arrays.items k d);
}

abbrev pub decreases-loop-slot : goal.decreases-loop-slot
decreases-loop-slot l = length l.arrays.items - l.slot

use Rattle.std.proofs.Common.{◌≡◌, take}
use Rattle.jpeg_decoder.specs.Scanning.{arrays_in}
use Rattle.jpeg_decoder.proofs.scan.block_array.copied_arrays.Given as goal

abbrev pub invariant-loop-array : goal.invariant-loop-array
invariant-loop-array l = arrays_in l.copies.items ≡ arrays_in (take l.array-index l.arrays)

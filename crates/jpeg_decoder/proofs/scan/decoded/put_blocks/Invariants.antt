use Rattle.std.proofs.Common.{◌≡◌, ◌≤◌, ◌-◌, drop, length, map}
use Rattle.jpeg_decoder.specs.Scanning.{arrays_in}
use Rattle.jpeg_decoder.specs.Steps.{coding_in}
use Rattle.jpeg_meaning.specs.ScanSegments.{put_arrays}
use Rattle.jpeg_decoder.proofs.scan.decoded.put_blocks.Given as goal

abbrev pub invariant-loop-slot : goal.invariant-loop-slot
invariant-loop-slot l = record {
  within : l.slot ≤ length l.codings;
  arrays : length l.arrays.items ≡ length l.codings;
  length : length l.kept.items ≡ length l.fn.kept.items;
  put : put_arrays (drop l.slot (map coding_in l.codings)) (drop l.slot (arrays_in l.arrays.items))
      (arrays_in l.kept.items) ≡ put_arrays (map coding_in l.codings) (arrays_in l.fn.arrays.items)
      (arrays_in l.fn.kept.items);
}

abbrev pub decreases-loop-slot : goal.decreases-loop-slot
decreases-loop-slot l = length l.codings - l.slot

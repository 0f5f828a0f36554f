use Rattle.std.proofs.Common.{◌≡◌, length, map, take}
use Rattle.jpeg_decoder.specs.Scanning.{arrays_in}
use Rattle.jpeg_decoder.specs.Steps.{blocks_at, coding_in, without_blocks}
use Rattle.jpeg_decoder.proofs.scan.decoded.take_blocks.Given as goal

abbrev pub invariant-loop-coded : goal.invariant-loop-coded
invariant-loop-coded l = record {
  taken : arrays_in l.taken.items
      ≡ blocks_at (map coding_in (take l.coded-index l.codings)) (arrays_in l.fn.kept.items);
  left : arrays_in l.kept.items ≡ without_blocks (map coding_in (take l.coded-index l.codings))
      (arrays_in l.fn.kept.items);
  length : length l.kept.items ≡ length l.fn.kept.items;
}

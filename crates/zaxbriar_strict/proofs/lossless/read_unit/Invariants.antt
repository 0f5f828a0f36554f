use Rattle.std.proofs.Common.{◌≡◌, map, take}
use Rattle.zaxbriar_strict.specs.Loaded.{data_of}
use Rattle.zaxbriar_strict.specs.ScanSamples.{ArePlaced, ReadsDifferences, share_of, unit_tables}
use Rattle.zaxbriar_strict.proofs.lossless.read_unit.Given as goal

abbrev pub invariant-loop-slot : goal.invariant-loop-slot
invariant-loop-slot l = record {
  kept : map share_of l.all.items ≡ map share_of l.fn.all.items;
  read : ArePlaced (map share_of l.fn.all.items) → ReadsDifferences
      (unit_tables l.tables (take l.slot (map share_of l.fn.all.items))) (data_of l.fn.bits) (data_of l.bits);
}

use Rattle.std.proofs.Common.{◌≡◌, ◌-◌, map}
use Rattle.jpeg_lossless.specs.Differences.{row_tables}
use Rattle.zaxbriar_strict.specs.Loaded.{data_of}
use Rattle.zaxbriar_strict.specs.ScanSamples.{ArePlaced, ReadsDifferences, share_of, unit_tables}
use Rattle.zaxbriar_strict.proofs.lossless.read_row.Given as goal

abbrev pub invariant-loop-column : goal.invariant-loop-column
invariant-loop-column l = record {
  kept : map share_of l.all.items ≡ map share_of l.fn.all.items;
  every : l.intervals.every ≡ l.fn.intervals.every;
  left : l.intervals.left ≡ l.fn.intervals.left - l.column;
  next : l.intervals.next ≡ l.fn.intervals.next;
  read : ArePlaced (map share_of l.fn.all.items) → ReadsDifferences
      (row_tables l.column (unit_tables l.tables (map share_of l.fn.all.items))) (data_of l.fn.intervals.bits)
      (data_of l.intervals.bits);
}

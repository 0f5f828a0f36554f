use Rattle.std.proofs.Common.{◌≡◌, ℕ, List, map}
use Rattle.jpeg_lossless.specs.Differences.{row_tables}
use Rattle.zaxbriar_strict.specs.SampleRows.{IsAfterRows}
use Rattle.zaxbriar_strict.specs.ScanSamples.{ArePlaced, share_of, unit_tables}
use Rattle.zaxbriar_strict.proofs.lossless.read_scan.Given as goal

abbrev pub invariant-loop-row : goal.invariant-loop-row
invariant-loop-row l = record {
  kept : map share_of l.all.items ≡ map share_of l.initial.all.items;
  read : ArePlaced (map share_of l.initial.all.items) → (every : ℕ) (bytes : List ℕ)
      → IsAfterRows (row_tables l.columns (unit_tables l.tables (map share_of l.initial.all.items))) l.columns every bytes
      0 l.initial.intervals
      → IsAfterRows (row_tables l.columns (unit_tables l.tables (map share_of l.initial.all.items))) l.columns every bytes
      l.row l.intervals;
}

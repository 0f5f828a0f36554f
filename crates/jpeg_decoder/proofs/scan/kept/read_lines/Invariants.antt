use Rattle.std.proofs.Common.{◌≡◌, ◌≤◌, ◌-◌, ◌∷◌, length}
use Rattle.jpeg_bits.proofs.BandLoop.{Leaves}
use Rattle.jpeg_meaning.specs.InTurn.{blocks_from}
use Rattle.jpeg_meaning.specs.Scans.{Arrays}
use Rattle.jpeg_decoder.specs.Scanning.{blocks_in, counted, scan_vias}
use Rattle.jpeg_decoder.specs.Walk.{rows_spots}
use Rattle.jpeg_decoder.proofs.scan.kept.read_lines.Given as goal

abbrev pub invariant-loop-row : goal.invariant-loop-row
invariant-loop-row g l = record {
  most : l.row ≤ l.fn.grid.own_high;
  four : length l.interval.carried.predictors ≡ 4;
  size : length (blocks_in l.array) ≡ length (blocks_in l.fn.array);
  blocks : (others : Arrays) → Leaves (blocks_from l.fn.scan.pass
      (scan_vias l.fn.scan) l.fn.scan.restart_interval
      (rows_spots l.fn.grid 0 l.fn.grid.own_high) (counted l.fn.interval (blocks_in l.fn.array ∷ others)))
      l.fn.interval.decoder l.fn.source
      (blocks_from l.fn.scan.pass (scan_vias l.fn.scan) l.fn.scan.restart_interval
      (rows_spots l.fn.grid l.row (l.fn.grid.own_high - l.row)) (counted l.interval (blocks_in l.array ∷ others)))
      l.interval.decoder l.source;
}

abbrev pub decreases-loop-row : goal.decreases-loop-row
decreases-loop-row g l = l.fn.grid.own_high - l.row

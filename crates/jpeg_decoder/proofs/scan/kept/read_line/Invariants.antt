use Rattle.std.proofs.Common.{◌≡◌, ◌≤◌, ◌+◌, ◌-◌, ◌∷◌, length}
use Rattle.jpeg_bits.proofs.BandLoop.{Leaves}
use Rattle.jpeg_meaning.specs.InTurn.{blocks_from}
use Rattle.jpeg_meaning.specs.Scans.{Arrays}
use Rattle.jpeg_decoder.specs.Scanning.{blocks_in, counted, scan_vias}
use Rattle.jpeg_decoder.specs.Walk.{line_spots}
use Rattle.jpeg_decoder.proofs.scan.kept.read_line.Given as goal

abbrev pub invariant-loop-at : goal.invariant-loop-at
invariant-loop-at g l = record {
  from : l.fn.first ≤ l.at;
  most : l.at ≤ l.fn.first + l.fn.wide;
  four : length l.interval.carried.predictors ≡ 4;
  size : length (blocks_in l.array) ≡ length (blocks_in l.fn.array);
  blocks : (others : Arrays) → Leaves (blocks_from l.fn.scan.pass
      (scan_vias l.fn.scan) l.fn.scan.restart_interval (line_spots l.fn.first l.fn.wide)
      (counted l.fn.interval (blocks_in l.fn.array ∷ others)))
      l.fn.interval.decoder l.fn.source
      (blocks_from l.fn.scan.pass (scan_vias l.fn.scan) l.fn.scan.restart_interval
      (line_spots l.at (l.fn.first + l.fn.wide - l.at)) (counted l.interval (blocks_in l.array ∷ others)))
      l.interval.decoder l.source;
}

abbrev pub decreases-loop-at : goal.decreases-loop-at
decreases-loop-at g l = l.fn.first + l.fn.wide - l.at

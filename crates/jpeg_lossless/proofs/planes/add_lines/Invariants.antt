use Rattle.std.proofs.Common.{◌≡◌, ◌≤◌, ◌+◌, ◌*◌, map, take}
use Rattle.jpeg_lossless.specs.Codings.{part_in}
use Rattle.jpeg_lossless.specs.Differences.{strands}
use Rattle.jpeg_lossless.specs.Rows.{own_strands, with_lines}
use Rattle.jpeg_lossless.proofs.planes.add_lines.Given as goal

abbrev pub invariant-loop-left : goal.invariant-loop-left
invariant-loop-left l = record {
  within : l.index + l.left * l.across ≤ l.row.size;
  lines : with_lines l.row.prediction.predictor l.row.prediction.start l.is_first l.plane.items
      (map (take l.part.width) (strands l.left l.row.count l.row.size l.index l.part.across
      l.row.differences.now))
      ≡ with_lines l.row.prediction.predictor l.row.prediction.start l.row.is_first l.fn.plane.items
      (own_strands (part_in l.part) l.row.count l.row.size l.from l.row.differences.now);
}

abbrev pub decreases-loop-left : goal.decreases-loop-left
decreases-loop-left l = l.left

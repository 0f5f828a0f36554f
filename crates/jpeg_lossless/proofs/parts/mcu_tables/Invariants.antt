use Rattle.std.proofs.Common.{◌≡◌, ◌+◌, ◌++◌, map, drop, replicate}
use Rattle.jpeg_lossless.specs.Codings.{part_in}
use Rattle.jpeg_lossless.specs.Differences.{mcu_tables}
use Rattle.jpeg_lossless.proofs.parts.mcu_tables.Given as goal

abbrev pub invariant-loop-i : goal.invariant-loop-i
invariant-loop-i l = map (λ t. t.now) l.tables.items ++ mcu_tables (drop l.i (map part_in l.parts))
    ≡ mcu_tables (map part_in l.parts)

abbrev pub invariant-loop-left : goal.invariant-loop-left
invariant-loop-left l = (map (λ t. t.now) l.tables.items ++ replicate l.left l.part.table.now)
    ++ mcu_tables (drop (l.i + 1) (map part_in l.parts)) ≡ mcu_tables (map part_in l.parts)

abbrev pub decreases-loop-left : goal.decreases-loop-left
decreases-loop-left l = l.left

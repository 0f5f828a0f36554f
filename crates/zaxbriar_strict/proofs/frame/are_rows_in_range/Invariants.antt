use Rattle.std.proofs.Common.{◌≡◌, false, take}
use Rattle.std.specs.List.{AllByRecursion}
use Rattle.jpeg_meaning.specs.Levels.{Is8Bit}
use Rattle.zaxbriar_strict.specs.Bands.{block_in}
use Rattle.zaxbriar_strict.proofs.frame.are_rows_in_range.Given as goal

abbrev pub invariant-loop-row : goal.invariant-loop-row
invariant-loop-row l = l.is_deep ≡ false → AllByRecursion (λ r. AllByRecursion (λ b. Is8Bit (block_in b)) r.items) (take l.row-index l.rows)

use Rattle.std.proofs.Common.{◌≡◌, false, take}
use Rattle.std.specs.List.{AllByRecursion}
use Rattle.jpeg_meaning.specs.Levels.{Is8Bit}
use Rattle.zaxbriar_strict.specs.Bands.{block_in}
use Rattle.zaxbriar_strict.proofs.frame.is_row_in_range.Given as goal

abbrev pub invariant-loop-block : goal.invariant-loop-block
invariant-loop-block l = l.is_deep ≡ false → AllByRecursion (λ b. Is8Bit (block_in b)) (take l.block-index l.row)

use Rattle.std.proofs.Common.{◌≡◌, length}
use Rattle.std.specs.List.{concat}
use Rattle.zaxbriar_calls.specs.Upright.{Writes, turned_byte}
use Rattle.zaxbriar_calls.proofs.TurnedLines.{AreAbove}
use Rattle.zaxbriar_calls.proofs.lines.put_turned_lines.Given as goal

pub record AreTurned (l : goal.Live-loop-index) : Type 0 where
  pub pixels : Writes l.lines (turned_byte l.lines (concat l.initial.picture) l.initial.pixels)
      (AreAbove l.lines l.index) l.initial.pixels l.pixels
  pub picture : l.picture ≡ l.initial.picture
  pub row : length l.row ≡ length l.initial.row
  pub band : length l.band ≡ length l.initial.band

abbrev pub invariant-loop-index : goal.invariant-loop-index
invariant-loop-index l = AreTurned l

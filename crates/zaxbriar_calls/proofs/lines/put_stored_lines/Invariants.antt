use Rattle.std.proofs.Common.{◌≡◌, ◌*◌, length}
use Rattle.std.specs.List.{concat}
use Rattle.zaxbriar_calls.specs.Layouts.{layout_line}
use Rattle.zaxbriar_calls.proofs.Laid.{laid_so_far}
use Rattle.zaxbriar_calls.proofs.lines.put_stored_lines.Given as goal

pub record Written (l : goal.Live-loop-y) : Type 0 where
  pub lines : l.pixels ≡ laid_so_far
      (layout_line l.lines.conversion l.lines.stored l.lines.turn.width)
      (l.lines.turn.width * l.lines.stored) l.lines.stride l.lines.bottom_up l.lines.height l.y
      (concat l.initial.picture) l.initial.pixels
  pub picture : l.picture ≡ l.initial.picture
  pub row : length l.row ≡ length l.initial.row

abbrev pub invariant-loop-y : goal.invariant-loop-y
invariant-loop-y l = Written l

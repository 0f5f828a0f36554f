use Rattle.std.proofs.Common.{◌≡◌, length}
use Rattle.zaxbriar_calls.specs.Upright.{AreLines}
use Rattle.zaxbriar_calls.proofs.lines.read_band.Given as goal

pub record IsRead (l : goal.Live-loop-index) : Type 0 where
  pub lines : AreLines l.lines l.initial.picture l.first l.index l.band
  pub picture : l.picture ≡ l.initial.picture
  pub row : length l.row ≡ length l.initial.row

abbrev pub invariant-loop-index : goal.invariant-loop-index
invariant-loop-index l = IsRead l

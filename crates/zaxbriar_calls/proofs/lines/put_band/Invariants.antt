use Rattle.std.proofs.Common.{◌+◌, ◌<◌, ◌≤◌, ℕ}
use Rattle.zaxbriar_calls.specs.Upright.{AreMeant, Writes}
use Rattle.zaxbriar_calls.proofs.lines.put_band.Given as goal

abbrev pub invariant-loop-x : goal.invariant-loop-x
invariant-loop-x l = (meant : ℕ → ℕ) → AreMeant l.lines meant l.first l.count l.band
    → Writes l.lines meant (λ column line. (column < l.x) × (l.first ≤ line)
    × (line < l.first + l.count))
    l.initial.pixels l.pixels

abbrev pub invariant-loop-index : goal.invariant-loop-index
invariant-loop-index l = (meant : ℕ → ℕ) → AreMeant l.lines meant l.first l.count l.band
    → Writes l.lines meant (λ column line. (column < l.lines.turn.width) × (l.first ≤ line)
    × (line < l.first + l.index))
    l.initial.pixels l.pixels

use Rattle.std.proofs.Common.{◌≡◌, ◌∙◌, ◌*◌, ℕ, List, ap, arith, length, subst}
use Rattle.zaxbriar_calls.specs.Layouts.{layout_line}
use Rattle.zaxbriar_calls.proofs.Laid.{each-byte, kept-line}
use Rattle.zaxbriar_calls.proofs.lines.put_line.Goals as goal

pub returns-then-is_stored-clause-line : goal.returns-then-is_stored-clause-line
returns-then-is_stored-clause-line c =
    let lines = c.args.lines in
    let new : List ℕ = c.write_line.new.line in
    let is = c.write_line.ensures.line in
    let long : length new ≡ lines.turn.width * lines.stored = ap (λ (l : List ℕ). length l) is ∙ c.requires.stored in
    let bytes = each-byte new (λ k. (c.type_inv.line k).fits) in
    subst (λ (l : List ℕ). new ≡ layout_line lines.conversion lines.stored lines.turn.width l) is
    (kept-line lines.conversion lines.stored lines.turn.width new (grind arith) c.requires.fits long bytes)

use Rattle.std.proofs.Common.{arith, ◌≡◌, ◌∙◌, ◌+◌, ◌-◌, drop, take}
use Rattle.zaxbriar_calls.proofs.TakenSteps.{puts-line}
use Rattle.zaxbriar_calls.proofs.rows.RowReader.put_line.Goals as goal

pub returns : goal.returns
returns c =
    let r = c.args.self.now in
    let size : (r.taken + r.line_bytes) - r.taken ≡ r.line_bytes = omega arith in
    puts-line r c.args.line.now c.copy_from_slice.new.self c.requires.there c.requires.room
    (c.copy_from_slice.ensures.after ∙ (λ i. take (size i) (drop r.taken (c.lines-lines.ensures i))))

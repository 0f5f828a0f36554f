use Rattle.std.proofs.Common.{arith, ◌≡◌, ◌∙◌, ◌+◌, ◌-◌, drop, take}
use Rattle.zaxbriar_calls.proofs.FedLines.{puts-size}
use Rattle.zaxbriar_calls.proofs.fed_rows.FedRowReader.put_line.Goals as goal

pub returns-clause-puts : goal.returns-clause-puts
returns-clause-puts c =
    let r = c.args.self.now in
    let size = c.line_bytes-size.result in
    let count : (r.taken + size) - r.taken ≡ size = omega arith in
    puts-size r size c.args.line.now c.copy_from_slice.new.self c.line_bytes-size.ensures c.requires.there
    c.if-line-size.false
    (c.copy_from_slice.ensures.after ∙ (λ i. take (count i) (drop r.taken (c.lines-lines.ensures.lines i))))

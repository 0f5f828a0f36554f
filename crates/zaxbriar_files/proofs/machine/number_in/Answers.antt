use Rattle.std.proofs.Common.{◌≡◌, ◌∙◌, ◌+◌, ap, drop, get_or, rules, sym, ℕ}
use Rattle.zaxbriar_files.specs.Machine.{number_from, with_digit}
use Rattle.zaxbriar_files.proofs.MachineNumbers.{at-byte, at-end, at-line_end}
use Rattle.zaxbriar_files.proofs.machine.number_in.Goals as goal
use Rattle.zaxbriar_files.proofs.machine.number_in.Goals.{else-is_ascii_digit, then-is_ascii_digit}

pub loop-byte-preserved : goal.loop-byte-preserved
loop-byte-preserved c =
    let text = c.args.text.now in
    let next : c.if-is_ascii_digit.number
    ≡ with_digit c.loop-byte.number (get_or c.args.text.now c.loop-byte.byte-index 0)
    = elim c.if-is_ascii_digit.branch [
      | then-is_ascii_digit w ↦ search rules
      | else-is_ascii_digit w ↦ search rules
    ] in
    ap (λ (n : ℕ). number_from n (drop (c.loop-byte.byte-index + 1) c.args.text.now)) next
    ∙ sym (at-byte c.loop-byte.number c.args.text.now c.loop-byte.byte-index c.loop-byte-test.true
    c.if-byte-eq10.false)
    ∙ c.loop-byte.invariant

pub returns-after-loop-byte : goal.returns-after-loop-byte
returns-after-loop-byte c =
    sym (at-end c.loop-byte.number c.args.text.now c.loop-byte.byte-index c.loop-byte-test.false)
    ∙ c.loop-byte.invariant

pub returns-then-byte-eq10 : goal.returns-then-byte-eq10
returns-then-byte-eq10 c =
    sym (at-line_end c.loop-byte.number c.args.text.now c.loop-byte.byte-index c.loop-byte-test.true
    c.if-byte-eq10.true)
    ∙ c.loop-byte.invariant

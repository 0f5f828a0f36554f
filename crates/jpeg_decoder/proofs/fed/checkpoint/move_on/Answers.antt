use Rattle.std.proofs.Common.{◌≡◌, ◌≤◌, ◌-◌, ◌∙◌, Ok, ap, arith, drop, length, length-drop, length-take, rules, sym, take}
use Rattle.std.proofs.Common.{ℕ, None}
use Rattle.std.proofs.lemmas.List.{take_all}
use Rattle.jpeg_decoder.proofs.FedBytes.{at-moved}
use Rattle.jpeg_decoder.proofs.fed.checkpoint.move_on.Goals as goal

pub returns-clause-at : goal.returns-clause-at
returns-clause-at c =
    let b = c.in-Some.checkpoint in
    let bytes = c.args.bytes.now in
    let h = c.in-Some.ensures in
    let read = c.in_ok-before.ensures in
    let rest = take (length bytes - b.offset) (drop b.offset bytes) in
    let whole = c.min-whole.result in
    let left : length (drop b.offset bytes) ≡ length bytes - b.offset = length-drop b.offset bytes in
    let same : rest ≡ drop b.offset bytes = take_all (length bytes - b.offset) (drop b.offset bytes) (omega (arith, left)) in
    let long : length rest ≡ length bytes - b.offset = ap length same ∙ left in
    let fits : whole ≤ length rest = omega (arith, c.min-whole.ensures, c.in_ok-length.ensures.within) in
    let size : length (take whole rest) ≡ whole = omega (arith, fits, length-take whole rest) in
    let none : Ok c.in_ok-before.field-0 ≡ Ok None = search rules in
    at-moved c.args.max_blocks bytes (take whole rest) b.offset _ h.begun h.within
    (omega (arith, size, read.offset))
    (ap (λ (n : ℕ). take n rest) (sym size) ∙ ap (take (length (take whole rest))) same)
    (omega (arith, size, fits, long, h.within))
    (read.sound none)
    (read.reads none c.args.max_blocks (take b.offset bytes) h.reads)

use Rattle.std.proofs.Common.{◌≡◌, ◌∙◌, ◌+◌, ◌%◌, ◌^◌, ℕ, ap, false, get_or, length, sym, true}
use Rattle.zaxbriar_samples.specs.Samples.{is_wide}
use Rattle.zaxbriar_samples.proofs.Boxings.{narrow-room, narrow-sample, wide-room, wide-sample}
use Rattle.zaxbriar_samples.proofs.boxes.add_line.Goals as goal

pub returns-then-is_wide : goal.returns-then-is_wide
returns-then-is_wide c long i low =
    let wide : is_wide c.args.precision ≡ true = sym c.is_wide.ensures ∙ c.if-is_wide.true in
    c.add_pairs.ensures i low
    (wide-room c.args.precision (length c.args.sums.now) (length c.args.line.now) i wide long low)
    ∙ ap (λ (n : ℕ). (get_or c.args.sums.now i 0 + n) % 2 ^ 32) (sym (wide-sample c.args.precision c.args.line.now i wide))

pub returns-else-is_wide : goal.returns-else-is_wide
returns-else-is_wide c long i low =
    let narrow : is_wide c.args.precision ≡ false = sym c.is_wide.ensures ∙ c.if-is_wide.false in
    c.add_bytes.ensures i low
    (narrow-room c.args.precision (length c.args.sums.now) (length c.args.line.now) i narrow long low)
    ∙ ap (λ (n : ℕ). (get_or c.args.sums.now i 0 + n) % 2 ^ 32) (sym (narrow-sample c.args.precision c.args.line.now i narrow))

use Rattle.std.proofs.Common.{◌≡◌, ◌∙◌, ◌*◌, ◌+◌, ◌-◌, arith, drop, sym, take}
use Rattle.zaxbriar_calls.proofs.Smaller.{cut-line}
use Rattle.zaxbriar_calls.proofs.boxed.SmallPicture.write_line.Goals as goal

pub returns : goal.returns
returns c =
    let p = c.args.self.now in
    let start = c.args.row * p.line_bytes in
    let bytes : start + p.line_bytes - start ≡ p.line_bytes = omega arith in
    c.copy_from_slice.ensures.after
    ∙ (λ i. take (bytes i) (drop start (c.deref.ensures.value i)))
    ∙ sym (cut-line p.line_bytes p.height c.args.row p.pixels.items c.requires.row)

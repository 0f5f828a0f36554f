use Rattle.std.proofs.Common.{◌≡◌, ◌-◌, ◌∙◌, sym, ap, arith, length, take}
use Rattle.jpeg_bits.proofs.PlainBytes.{slice-length, taken-into}
use Rattle.jpeg_bits.proofs.source.buffer.Buffer.take_several.Goals as goal

pub returns-clause-taken : goal.returns-clause-taken
returns-clause-taken c =
    let s = c.self.inside in
    let n = c.min-count.result in
    let same = ap length c.as_slice-ahead.ensures in
    let long : length c.args.self.now ≡ s.end - s.start
    = ap length (sym c.self.view_is) ∙ slice-length s.bytes.items s.start s.end c.self.invariant.1 in
    taken-into s.bytes.items c.args.self.now c.copy_from_slice.new.self c.args.buffer.now s.start s.end n
    (omega (arith, c.min-count.ensures, same, long, c.self.invariant.0)) (sym c.self.view_is)
    (omega (arith, c.min-count.ensures, same))
    (c.copy_from_slice.ensures.after ∙ ap (take n) c.as_slice-ahead.ensures)

use Rattle.std.proofs.Common.{arith, refl}
use Rattle.jpeg_bits.specs.Entropy.{Ahead, met_of}
use Rattle.jpeg_bits.proofs.BufferedBits.{zero_next}
use Rattle.jpeg_bits.proofs.huffman.ahead.BufferedBits.is_past_marker.Goals as goal

pub returns-then-len-eq0 : goal.returns-then-len-eq0
returns-then-len-eq0 c is bytes =
    let beyond = c.self.inside.beyond in
    let end = c.self.inside.end in
    let b : Ahead = record { bits = c.self.inside.bits; met = met_of beyond end } in
    zero_next c.args.self.now b beyond end bytes c.self.view_is refl
    (omega (arith, c.if-len-eq0.true, c.len.ensures.count)) (c.is_marker.ensures is)

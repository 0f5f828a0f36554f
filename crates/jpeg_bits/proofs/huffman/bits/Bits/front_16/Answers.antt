use Rattle.std.proofs.Common.{◌∙◌, sym, ap, arith}
use Rattle.jpeg_bits.specs.Codes.{next_16}
use Rattle.jpeg_bits.proofs.Reservoirs.{front_bits}
use Rattle.jpeg_bits.proofs.huffman.bits.Bits.front_16.Goals as goal

pub returns : goal.returns
returns c =
    let s = c.self.inside in
    sym (front_bits _ _ _ c.self.invariant.0 (omega arith) c.self.invariant.2) ∙ ap next_16 c.self.view_is

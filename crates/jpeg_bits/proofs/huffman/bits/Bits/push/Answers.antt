use Rattle.std.proofs.Common.{◌≤◌, ◌<◌, ◌+◌, ℕ, arith, sym, subst}
use Rattle.jpeg_bits.specs.Reservoir.{IsReservoir}
use Rattle.jpeg_bits.proofs.WrittenBits.{length_low_bits}
use Rattle.jpeg_bits.proofs.Reservoirs.{byte_zeros, byte_buffered, byte_fits, byte_shifted}
use Rattle.jpeg_bits.proofs.huffman.bits.Bits.push.Goals as goal
use Rattle.jpeg_bits.proofs.huffman.bits.Bits.push.Goals.{After-self}
use Rattle.std.proofs.lemmas.Grind.{common_steps}

few : (c : After-self) → c.self.inside.count ≤ 56
few c = grind (arith, common_steps, length_low_bits)

pub overflow_sub-self : goal.overflow_sub-self
overflow_sub-self c = few c

pub overflow_add-self : goal.overflow_add-self
overflow_add-self c =
    let s = c.self.inside in
    let b = c.from.result in
    let small : b < 256 = omega (arith, c.from.ensures, c.ranges.byte.fits) in
    let fits = byte_fits s.word s.count b (few c) c.self.invariant.2 c.self.invariant.1 small in
    omega (arith, fits, byte_shifted s.count b (few c) small)

pub invariant_of-self : goal.invariant_of-self
invariant_of-self c =
    let s = c.self.inside in
    let b = c.from.result in
    let i = c.self.invariant in
    let small : b < 256 = omega (arith, c.from.ensures, c.ranges.byte.fits) in
    let few = few (goal.at.invariant_of-self c).After-self in
    subst (λ (k : ℕ). IsReservoir (s.word + k) (s.count + 8)) (sym (byte_shifted s.count b few small))
    (omega arith, byte_fits _ _ _ few i.2 i.1 small, byte_zeros _ _ _ few i.2)

pub returns : goal.returns
returns c =
    let s = c.self.inside in
    let b = c.from.result in
    let i = c.self.invariant in
    let small : b < 256 = omega (arith, c.from.ensures, c.ranges.byte.fits) in
    let few = few (goal.at.returns c).After-self in
    grind (arith, byte_shifted, few, byte_buffered)

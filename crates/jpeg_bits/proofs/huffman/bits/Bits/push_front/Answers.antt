use Rattle.std.proofs.Common.{◌≤◌, ◌<◌, ◌+◌, ◌-◌, ◌*◌, ◌/◌, ◌^◌, ◌≡◌, ℕ, arith, sym, subst}
use Rattle.jpeg_bits.specs.Reservoir.{IsReservoir}
use Rattle.jpeg_bits.proofs.WrittenBits.{length_low_bits}
use Rattle.jpeg_bits.proofs.Reservoirs.{front_zeros, front_buffered, front_fits, front_shifted, front_small}
use Rattle.jpeg_bits.proofs.huffman.bits.Bits.push_front.Goals as goal
use Rattle.jpeg_bits.proofs.huffman.bits.Bits.push_front.Goals.{After-self}
use Rattle.std.proofs.lemmas.Grind.{common_steps}

room : (c : After-self) → c.self.inside.count + 8 * c.args.count ≤ 64
room c = grind (arith, common_steps, length_low_bits)

small : (c : After-self) → c.args.word / 2 ^ (64 - 8 * c.args.count) < 2 ^ (8 * c.args.count)
small c =
    let n = 8 * c.args.count in
    let e : n + (64 - n) ≡ 64 = omega (arith, c.requires.most) in
    front_small c.args.word n (64 - n) (subst (λ (k : ℕ). c.args.word < 2 ^ k) (sym e) c.ranges.word.fits)

pub overflow_sub-self-2 : goal.overflow_sub-self-2
overflow_sub-self-2 c = room c

pub overflow_add-self : goal.overflow_add-self
overflow_add-self c =
    let s = c.self.inside in
    let i = c.self.invariant in
    let n = 8 * c.args.count in
    let front = c.args.word / 2 ^ (64 - n) in
    let fits = front_fits s.word s.count n front (room c) i.2 (small c) i.1 in
    omega (arith, fits, front_shifted s.word s.count n front (room c) i.2 (small c))

pub invariant_of-self : goal.invariant_of-self
invariant_of-self c =
    let a = (goal.at.invariant_of-self c).After-self in
    let s = c.self.inside in
    let i = c.self.invariant in
    let n = 8 * c.args.count in
    let front = c.args.word / 2 ^ (64 - n) in
    subst (λ (k : ℕ). IsReservoir (s.word + k) (s.count + n))
    (sym (front_shifted s.word s.count n front (room a) i.2 (small a))) (
      room a,
      front_fits s.word s.count n front (room a) i.2 (small a) i.1,
      front_zeros s.word s.count n front (room a) i.2 (small a),
    )

pub returns : goal.returns
returns c =
    let a = (goal.at.returns c).After-self in
    let s = c.self.inside in
    let i = c.self.invariant in
    let n = 8 * c.args.count in
    let front = c.args.word / 2 ^ (64 - n) in
    let shifted = front_shifted s.word s.count n front (room a) i.2 (small a) in
    let buffered = front_buffered s.word s.count n front (room a) i.2 (small a) in
    grind (arith, shifted, buffered)

use Rattle.std.proofs.Common.{arith}
use Rattle.std.proofs.lemmas.Int.{ints}
use Rattle.jpeg_pixels.proofs.LaneSums.{residue_bits, wrapping, wrapped_list4}
use Rattle.jpeg_pixels.proofs.idct.kernel_x.Goals as goal

pub returns : goal.returns
returns c =
    let b0 = residue_bits c.args.s0 c.ranges.s0 in
    let b2 = residue_bits c.args.s2 c.ranges.s2 in
    let b4 = residue_bits c.args.s4 c.ranges.s4 in
    let b6 = residue_bits c.args.s6 c.ranges.s6 in
    let bx = residue_bits c.args.x_scale c.ranges.x_scale in
    simp (b0, b2, b4, b6, bx, wrapping) (wrapped_list4 (omega (arith, ints)) (omega (arith, ints)) (omega (arith, ints))
    (omega (arith, ints)))

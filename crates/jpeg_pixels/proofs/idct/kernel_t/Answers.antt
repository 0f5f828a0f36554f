use Rattle.std.proofs.Common.{arith}
use Rattle.std.proofs.lemmas.Int.{ints}
use Rattle.jpeg_pixels.proofs.LaneSums.{residue_bits, wrapping, wrapped_list4}
use Rattle.jpeg_pixels.proofs.idct.kernel_t.Goals as goal

pub returns : goal.returns
returns c =
    let b1 = residue_bits c.args.s1 c.ranges.s1 in
    let b3 = residue_bits c.args.s3 c.ranges.s3 in
    let b5 = residue_bits c.args.s5 c.ranges.s5 in
    let b7 = residue_bits c.args.s7 c.ranges.s7 in
    simp (b1, b3, b5, b7, wrapping) (wrapped_list4 (omega (arith, ints)) (omega (arith, ints)) (omega (arith, ints))
    (omega (arith, ints)))

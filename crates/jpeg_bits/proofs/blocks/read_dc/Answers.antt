use Rattle.jpeg_bits.proofs.blocks.read_dc.Goals as goal
use Rattle.std.proofs.Common.{◌≡◌, ◌+ℤ◌, ◌*ℤ◌, ◌^◌, ◌<◌, pos, length, set, FitsSigned, sym, ap, ◌∙◌, w16, rules, arith}
use Rattle.std.proofs.lemmas.Int.{to_z-of_z}
use Rattle.std.proofs.lemmas.List.{get_or-set_same}
use Rattle.jpeg_bits.specs.Bands.{wrapped}
use Rattle.jpeg_bits.specs.Passes.{or_bit}
use Rattle.jpeg_bits.specs.BlockView.{dc_in}
use Rattle.jpeg_bits.proofs.BlockParts.{dc_first, dc_refined}
use Rattle.jpeg_bits.proofs.PieceWalks.{or_none}

pub returns-then-pass-clause-part : goal.returns-then-pass-clause-part
returns-then-pass-clause-part g c =
    let k = c.args.coding.now in
    let block = c.args.block.now in
    let s = to_z-of_z w16 c.wrapped_sum.result (record { sfits = c.wrapped_sum.type_inv }) in
    let v = to_z-of_z w16 c.shifted.result (record { sfits = c.shifted.type_inv }) in
    let predictor : FitsSigned w16 c.args.predictor.now = search rules in
    let q = to_z-of_z w16 c.args.predictor.now predictor in
    let fits : FitsSigned w16 c.in-Some.difference = search rules in
    let added = to_z-of_z w16 c.in-Some.difference fits in
    let sum : c.wrapped_sum.result ≡ wrapped (c.args.predictor.now +ℤ c.in-Some.difference) =
    rw (q, added) at c.wrapped_sum.ensures in
    let value : c.shifted.result ≡ wrapped (c.wrapped_sum.result *ℤ pos (2 ^ k.pass.al)) =
    rw (s, s) at c.shifted.ensures in
    let some : 0 < length block = rw c.told-block (omega arith) in
    let put : dc_in (set block 0 c.shifted.result) ≡ c.shifted.result =
    get_or-set_same block 0 _ (pos 0) some in
    let d = c.in-Some.ensures.difference in
    rw (s, v, put) (
      d.0,
      λ known. ((d.1 known).0, dc_first _ _ _ _ _ _ _ _ _ (omega arith) c.if-pass.true sum value (d.1 known).1),
    )

pub returns-then-bit-gt0-clause-part : goal.returns-then-bit-gt0-clause-part
returns-then-bit-gt0-clause-part g c =
    let k = c.args.coding.now in
    let block = c.args.block.now in
    let v = to_z-of_z w16 c.with_bit.result (record { sfits = c.with_bit.type_inv }) in
    let fits : FitsSigned w16 (dc_in block) = search rules in
    let q = to_z-of_z w16 (dc_in block) fits in
    let one : 1 ≡ c.in-Some-take_number.bit =
    omega (arith, c.if-bit-gt0.true, c.in-Some-take_number.ensures.small) in
    let is : c.with_bit.result ≡ or_bit k.pass.al (dc_in block) c.in-Some-take_number.bit =
    (rw q at c.with_bit.ensures) ∙ ap (or_bit k.pass.al (dc_in block)) one in
    let some : 0 < length block = rw c.told-block (omega arith) in
    let put : dc_in (set block 0 c.with_bit.result) ≡ c.with_bit.result =
    get_or-set_same block 0 _ (pos 0) some in
    let b = c.in-Some-take_number.ensures.bits in
    rw (v, put)
    (b.0, λ known. ((b.1 known).0, dc_refined _ _ _ _ _ _ _ _ (omega arith) c.if-pass.false is (b.1 known).1))

pub returns-else-bit-gt0-clause-part : goal.returns-else-bit-gt0-clause-part
returns-else-bit-gt0-clause-part g c =
    let none : c.in-Some-take_number.bit ≡ 0 = omega (arith, c.if-bit-gt0.false) in
    let same = sym (or_none c.args.coding.now.pass.al (dc_in c.args.block.now) c.in-Some-take_number.bit none) in
    let b = c.in-Some-take_number.ensures.bits in
    (b.0, λ known. ((b.1 known).0, dc_refined _ _ _ _ _ _ _ _ (omega arith) c.if-pass.false same (b.1 known).1))

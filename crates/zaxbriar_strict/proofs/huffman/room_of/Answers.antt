use Rattle.std.proofs.Common.{◌≡◌, ℕ, ◌+◌, ◌^◌, ◌<◌, ◌≤◌, length, get_or, arith, ap, subst}
use Rattle.jpeg_bits.specs.ShortCodes.{value_after}
use Rattle.jpeg_bits.proofs.BufferedBits.{pow_more}
use Rattle.jpeg_bits.proofs.CodeLemmas.{value-more}
use Rattle.zaxbriar_strict.proofs.Codes.{codes-exist}
use Rattle.zaxbriar_strict.proofs.huffman.room_of.Goals as goal

pub loop-place-preserved : goal.loop-place-preserved
loop-place-preserved c =
    let i = c.loop-place.invariant in
    let l = c.loop-place.place in
    let counts = c.args.counts.now in
    let lt : l < length counts = omega (arith, c.told-counts, c.loop-place-test.true) in
    let byte : get_or counts l 0 < 256 = c.fits-counts l in
    let v = value-more counts l lt in
    let q = pow_more (l + 8) in
    let t : l + 1 + 8 ≡ l + 8 + 1 = omega arith in
    let r = ap (λ (k : ℕ). 2 ^ k) t in
    record {
      room = omega (arith, v, c.from.ensures, i.room);
      short = omega (arith, q, r, byte, c.from.ensures, i.short);
    }

pub returns : goal.returns
returns c = λ room.
    let counts = c.args.counts.now in
    let i = c.loop-place.invariant in
    let end : c.loop-place.place ≡ 16 = omega (arith, c.loop-place-test.false, c.loop-place.auto.place-end) in
    let some : value_after counts c.loop-place.place ≤ 65536 = omega (arith, i.room, room) in
    codes-exist counts c.told-counts (subst (λ (k : ℕ). value_after counts k ≤ 65536) end some)

use Rattle.jpeg_bits.proofs.huffman.codes.fill_rows.Goals as goal
use Rattle.std.proofs.Common.{◌≡◌, ◌+◌, ◌*◌, ◌^◌, ◌<◌, get_or, length, arith, ap, ℕ}
use Rattle.jpeg_bits.specs.ShortCodes.{row_at, no_row, value_after}
use Rattle.jpeg_bits.specs.declared.huffman.codes.Row.{Row}
use Rattle.jpeg_bits.proofs.BufferedBits.{pow_more}
use Rattle.jpeg_bits.proofs.ShortLemmas.{set_next, length_set}
use Rattle.jpeg_bits.proofs.CodeLemmas.{value-more, index-more, same_row}

pub loop-i-preserved : goal.loop-i-preserved
loop-i-preserved c =
    let i = c.loop-i.invariant in
    let l = c.loop-i.i in
    let counts = c.args.counts.now in
    let lt : l < length counts = omega (arith, c.told-counts, c.loop-i-test.true) in
    let byte : get_or counts l 0 < 256 = c.fits-counts l in
    let v = value-more counts l lt in
    let s = index-more counts l lt in
    let q = pow_more (l + 8) in
    let t : l + 1 + 8 ≡ l + 8 + 1 = omega arith in
    let r = ap (λ (k : ℕ). 2 ^ k) t in
    let row : Row = record {
      end = 2 * c.loop-i.end + c.from-count.result;
      first = 2 * c.loop-i.end;
      index = c.loop-i.index;
    } in
    let end : 2 * c.loop-i.end + c.from-count.result ≡ value_after counts (l + 1) =
    omega (arith, v, c.from-count.ensures, i.end) in
    let first : 2 * c.loop-i.end ≡ 2 * value_after counts l = omega (arith, i.end) in
    record {
      size = length_set c.loop-i.rows l row 16 i.size;
      end = end;
      index = omega (arith, s, c.from-count.ensures, i.index);
      short = omega (arith, q, r, byte, c.from-count.ensures, i.short);
      few = omega (arith, byte, c.from-count.ensures, i.few);
      rows = set_next c.loop-i.rows l row no_row (row_at counts) (omega (arith, i.size, c.loop-i-test.true)) i.rows
          (same_row _ _ _ _ _ _ end first i.index);
    }

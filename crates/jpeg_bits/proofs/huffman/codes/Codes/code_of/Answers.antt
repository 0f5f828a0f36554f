use Rattle.jpeg_bits.proofs.huffman.codes.Codes.code_of.Goals as goal
use Rattle.std.proofs.Common.{◌<◌, arith}
use Rattle.jpeg_bits.proofs.CodeLemmas.{first_le, index_within, row_found, none_found, passed-none}

pub returns-then-i-eq16-clause-code : goal.returns-then-i-eq16-clause-code
returns-then-i-eq16-clause-code c =
    let t = c.args.self.now in
    let p = passed-none t.counts.now t.rows.now c.args.bits c.requires.counted c.requires.rows c.ranges.bits.fits
    c.first_row.result c.first_row.ensures.within (c.first_row.ensures.passed c.requires.passed) in
    grind (arith, none_found)

pub overflow_sub-index : goal.overflow_sub-index
overflow_sub-index c =
    let t = c.args.self.now in
    let lt : c.first_row.result < 16 = omega (arith, c.if-i-eq16.false, c.first_row.ensures.within) in
    let p = passed-none t.counts.now t.rows.now c.args.bits c.requires.counted c.requires.rows c.ranges.bits.fits
    c.first_row.result c.first_row.ensures.within (c.first_row.ensures.passed c.requires.passed) in
    grind (arith, first_le)

pub overflow_add-index : goal.overflow_add-index
overflow_add-index c =
    let t = c.args.self.now in
    let lt : c.first_row.result < 16 = omega (arith, c.if-i-eq16.false, c.first_row.ensures.within) in
    let p = passed-none t.counts.now t.rows.now c.args.bits c.requires.counted c.requires.rows c.ranges.bits.fits
    c.first_row.result c.first_row.ensures.within (c.first_row.ensures.passed c.requires.passed) in
    grind (arith, index_within)

pub bounds-self-index : goal.bounds-self-index
bounds-self-index c =
    let t = c.args.self.now in
    let lt : c.first_row.result < 16 = omega (arith, c.if-i-eq16.false, c.first_row.ensures.within) in
    let p = passed-none t.counts.now t.rows.now c.args.bits c.requires.counted c.requires.rows c.ranges.bits.fits
    c.first_row.result c.first_row.ensures.within (c.first_row.ensures.passed c.requires.passed) in
    grind (arith, index_within)

pub returns-clause-code : goal.returns-clause-code
returns-clause-code c =
    let t = c.args.self.now in
    let lt : c.first_row.result < 16 = omega (arith, c.if-i-eq16.false, c.first_row.ensures.within) in
    let p = passed-none t.counts.now t.rows.now c.args.bits c.requires.counted c.requires.rows c.ranges.bits.fits
    c.first_row.result c.first_row.ensures.within (c.first_row.ensures.passed c.requires.passed) in
    grind (arith, row_found)

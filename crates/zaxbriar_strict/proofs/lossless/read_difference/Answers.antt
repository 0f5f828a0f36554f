use Rattle.std.proofs.Common.{sym, ◌∙◌, ◌≤◌, rules, w32, to_z-of_z, SFits, arith, pos}
use Rattle.jpeg_bits.specs.declared.huffman.codes.HuffmanTableClass.TheVariants.{DC}
use Rattle.jpeg_lossless.specs.Prediction.{residue}
use Rattle.zaxbriar_strict.specs.Tables.{codes_in}
use Rattle.zaxbriar_strict.proofs.SampleDifferences.{by-installed, greatest-written, none-written, some-written}
use Rattle.zaxbriar_strict.proofs.lossless.read_difference.Goals as goal

pub returns-then-category-eq0 : goal.returns-then-category-eq0
returns-then-category-eq0 c = λ placed.
    let own = c.in_ok-table.table.now in
    by-installed c.args.tables.now c.args.member own (residue (pos 0)) (c.in_ok-table.ensures (omega arith) placed)
    (none-written (codes_in DC own) c.in_ok-symbol.field-0 (sym c.from-category.ensures ∙ c.if-category-eq0.true)
    (c.in_ok-symbol.ensures DC))

pub returns-then-category-eq16 : goal.returns-then-category-eq16
returns-then-category-eq16 c = λ placed.
    let own = c.in_ok-table.table.now in
    by-installed c.args.tables.now c.args.member own (residue (pos 32768)) (c.in_ok-table.ensures (omega arith) placed)
    (greatest-written (codes_in DC own) c.in_ok-symbol.field-0 (sym c.from-category.ensures ∙ c.if-category-eq16.true)
    (c.in_ok-symbol.ensures DC))

pub returns : goal.returns
returns c = λ placed.
    let own = c.in_ok-table.table.now in
    let d = c.in_ok-difference.difference in
    let fits : SFits w32 d = search rules in
    let same = c.from-category.ensures in
    let low = c.if-category-gt16.false in
    let other = c.if-category-eq16.false in
    let few : c.in_ok-symbol.field-0 ≤ 15 = omega (arith, same, low, other) in
    rw (to_z-of_z fits)
    (by-installed c.args.tables.now c.args.member own (residue d) (c.in_ok-table.ensures (omega arith) placed)
    (some-written (codes_in DC own) c.in_ok-symbol.field-0 d few
    (rw c.from-category.ensures at c.in_ok-difference.ensures.category) (c.in_ok-symbol.ensures DC)
    (rw c.from-category.ensures at c.in_ok-difference.ensures.bits)))

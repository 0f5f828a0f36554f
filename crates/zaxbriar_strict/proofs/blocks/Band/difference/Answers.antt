use Rattle.std.proofs.Common.{sym, ◌∙◌, rules, w32, to_z-of_z, SFits}
use Rattle.zaxbriar_strict.specs.Tables.{codes_in}
use Rattle.zaxbriar_strict.proofs.Bands.{none-difference, some-difference}
use Rattle.zaxbriar_strict.proofs.blocks.Band.difference.Goals as goal

pub returns-then-category-eq0 : goal.returns-then-category-eq0
returns-then-category-eq0 c = λ class.
    none-difference (codes_in class c.args.table.now) c.in_ok-symbol.field-0
    (sym c.from-category.ensures ∙ c.if-category-eq0.true) (c.in_ok-symbol.ensures class)

pub returns : goal.returns
returns c = λ class.
    let d = c.in_ok-difference.difference in
    let fits : SFits w32 d = search rules in
    rw (to_z-of_z fits)
    (some-difference (codes_in class c.args.table.now) c.in_ok-symbol.field-0 d
    (rw c.from-category.ensures at c.in_ok-difference.ensures.category) (c.in_ok-symbol.ensures class)
    (rw c.from-category.ensures at c.in_ok-difference.ensures.bits))

use Rattle.std.proofs.Common.{arith}
use Rattle.jpeg_meaning.proofs.InPlace.{small-side}
use Rattle.jpeg_decoder.proofs.ByRows.Windows.{no_component, scale-at, scale-small, units-all}
use Rattle.jpeg_decoder.proofs.by_rows.window.unit_lines.Goals as goal

pub overflow_mul-result : goal.overflow_mul-result
overflow_mul-result c =
    let small = scale-small _ (scale-at c.args.components.now 0 no_component c.requires (omega arith)) in
    let most = c.loop-component.invariant.small in
    let product = small-side c.from.result _ (omega arith) small in
    record { fits = omega arith }

pub returns-in-len1-up : goal.returns-in-len1-up
returns-in-len1-up c =
    units-all c.args.components.now c.from.result c.loop-component.most c.loop-component.component-index
    c.in-len1-up.len_at_least c.loop-component-test.false c.loop-component.invariant.some
    c.loop-component.invariant.same c.from.ensures

use Rattle.std.proofs.Common.{◌∙◌, ◌*◌, ap, arith, sym}
use Rattle.jpeg_decoder.proofs.ByRows.Windows.{components-long, kept-all, kept-next, no_component, scale-at, strip-next}
use Rattle.jpeg_decoder.proofs.by_rows.window.keep_last.Goals as goal

pub bounds-components-index : goal.bounds-components-index
bounds-components-index c =
    omega (arith, components-long c.args.components.now c.args.planes.now c.requires.rows)

pub strip_size-requires : goal.strip_size-requires
strip_size-requires c =
    let long = components-long c.args.components.now c.args.planes.now c.requires.rows in
    scale-at c.args.components.now c.loop-index.index no_component c.requires.scales (omega arith)

pub remove_strip-requires : goal.remove_strip-requires
remove_strip-requires c =
    strip-next c.args.components.now c.args.planes.now c.requires.rows c.loop-index.planes c.loop-index.index
    c.index-planes-index.result no_component c.loop-index-test.true c.loop-index.invariant
    ∙ ap (λ n. 2 * n) (sym c.strip_size.ensures)

pub loop-index-preserved : goal.loop-index-preserved
loop-index-preserved c =
    kept-next c.args.components.now c.args.planes.now c.requires.rows c.loop-index.planes c.loop-index.index
    c.index-planes-index.result c.remove_strip.new.plane no_component c.loop-index-test.true c.loop-index.invariant
    c.strip_size.result c.strip_size.ensures c.remove_strip.ensures

pub returns : goal.returns
returns c =
    kept-all c.args.components.now c.args.planes.now c.requires.rows c.loop-index.planes c.loop-index.index
    c.loop-index-test.false c.loop-index.invariant

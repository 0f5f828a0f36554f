use Rattle.jpeg_decoder.proofs.ByRows.Windows.{no_component, scale-at}
use Rattle.jpeg_decoder.proofs.by_rows.window.window_components.Goals as goal

pub window_component-requires : goal.window_component-requires
window_component-requires c =
    scale-at c.args.components.now c.loop-component.component-index no_component c.requires
    c.loop-component-test.true

use Rattle.std.proofs.Common.{◌∙◌, ◌++◌, [], ◌∷◌, ap, ap₂, refl, ℕ, List}
use Rattle.jpeg_segments.specs.FrameView.{frame_in}
use Rattle.jpeg_meaning.specs.declared.grids.Grid.{Grid}
use Rattle.jpeg_decoder.specs.declared.scan.spots.Member.{Member}
use Rattle.jpeg_decoder.proofs.Orders.ScanOrders.{alone-of}
use Rattle.jpeg_decoder.proofs.scan.order.ScanOrder.alone.Goals as goal

pub returns : goal.returns
returns c =
    let grid = c.grid_of-grid.ensures in
    alone-of (frame_in c.args.frame.now) c.args.scan.now.codings _ c.args.scan.now.restart_interval _ c.requires.one
    c.component-component.ensures.component
    (c.in_ok-push.ensures.items
    ∙ ap₂ (λ (xs : List Member) (d : ℕ). xs ++ record { slot = 0; first = 0; across = 1; down = d } ∷ [])
    c.new-members.ensures.items (c.from.ensures ∙ ap (λ (g : Grid). g.wide) grid))
    (ap (λ (g : Grid). g.own_wide) grid) (ap (λ (g : Grid). g.own_high) grid) refl refl (c.from-2.ensures ∙ c.restart_interval.ensures)

use Rattle.std.proofs.Common.{◌≤◌, ◌<◌, ◌*◌, ◌∙◌, ap, arith, get_or, length}
use Rattle.std.proofs.lemmas.List.{length-map}
use Rattle.jpeg_segments.specs.FrameView.{component_in, frame_in}
use Rattle.jpeg_meaning.specs.declared.grids.Grid.{Grid}
use Rattle.jpeg_meaning.specs.Order.{grid_of, mcu_size}
use Rattle.jpeg_meaning.specs.Work.{components_at}
use Rattle.jpeg_meaning.proofs.Soundness.{scale-bounds}
use Rattle.jpeg_decoder.proofs.LosslessFrames.LosslessReads.{component-at}
use Rattle.jpeg_decoder.proofs.Scans.CodedScales.{scale-at}
use Rattle.jpeg_decoder.proofs.Scans.CountedWork.{alone-blocks, several-blocks}
use Rattle.jpeg_decoder.proofs.scan.work.block_mcus.Goals.{After-index}
use Rattle.jpeg_decoder.proofs.scan.work.block_mcus.Goals as goal

-- the index of the component alone
inside : (c : After-index) → get_or c.args.indices.now 0 0 < length c.args.frame.now.components.items
inside c =
    let within = c.requires.within 0 0 (omega (arith, c.requires.some)) in
    omega (arith, within, length-map c.args.frame.now.components.items component_in)

-- its scale
bounds : (c : After-index) → (0 < c.index.result.now.dct_scale) × (c.index.result.now.dct_scale ≤ 8)
bounds c =
    let items = c.args.frame.now.components.items in
    let r = c.index.result.now in
    scale-bounds r.dct_scale
    (scale-at items (get_or c.args.indices.now 0 0) r (inside c) c.index.ensures c.requires.scale)

pub grid_of-grid-requires-clause-some : goal.grid_of-grid-requires-clause-some
grid_of-grid-requires-clause-some c = omega (arith, (bounds c).0)

pub grid_of-grid-requires-clause-most : goal.grid_of-grid-requires-clause-most
grid_of-grid-requires-clause-most c = (bounds c).1

pub returns-then-indices-eq1 : goal.returns-then-indices-eq1
returns-then-indices-eq1 c =
    let frame = frame_in c.args.frame.now in
    let indices = c.args.indices.now in
    let at = component-at c.args.frame.now.components.items (get_or indices 0 0) c.index.result.now
    (inside (goal.at.returns-then-indices-eq1 c).After-index) c.index.ensures in
    ap (λ (g : Grid). (g.own_high * g.own_wide) * mcu_size (components_at frame indices))
    (c.grid_of-grid.ensures ∙ ap grid_of at)
    ∙ alone-blocks frame indices c.if-indices-eq1.true c.requires.within

pub returns : goal.returns
returns c =
    several-blocks (frame_in c.args.frame.now) c.args.indices.now c.requires.some c.if-indices-eq1.false
    c.requires.within

use Rattle.std.proofs.Common.{length, arith}
use Rattle.jpeg_pixels.proofs.PlaneRows.{rows_next, row_has_room}
use Rattle.jpeg_pixels.proofs.plane.write_strips.Goals as goal

pub slice_bounds-write_strip-end : goal.slice_bounds-write_strip-end
slice_bounds-write_strip-end c =
    let s = c.args.scale in
    let room = row_has_room s c.args.blocks_wide c.loop-row.row c.args.rows (length c.loop-row.strips)
    (length c.args.blocks.now) c.loop-row-test.true (omega arith) c.requires.blocks in
    omega (arith, room.0)

pub loop-row-preserved : goal.loop-row-preserved
loop-row-preserved c =
    let s = c.args.scale in
    let blocks = c.args.blocks.now in
    let room = row_has_room s c.args.blocks_wide c.loop-row.row c.args.rows (length c.loop-row.strips)
    (length c.args.blocks.now) c.loop-row-test.true (omega arith) c.requires.blocks in
    rows_next s c.args.table.now blocks c.args.blocks_wide c.loop-row.row _ _ c.loop-row.strips
    c.write_strip.new.strip
    c.loop-row.invariant (omega (arith, room.0)) (omega arith) (omega arith) room.1 c.write_strip.ensures

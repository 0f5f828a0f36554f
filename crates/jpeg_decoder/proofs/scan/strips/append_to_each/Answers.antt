use Rattle.std.proofs.Common.{arith, rules}
use Rattle.jpeg_decoder.specs.Strips.{samples_of}
use Rattle.jpeg_decoder.proofs.Strips.RowBuffers.{planes-all, planes-long, planes-next}
use Rattle.jpeg_decoder.proofs.Strips.RowBuffers.{row-full, row-size, table-here, tables-long}
use Rattle.jpeg_decoder.proofs.scan.strips.append_to_each.Goals as goal
use Rattle.std.proofs.lemmas.Grind.{common_steps}

pub bounds-planes-slot : goal.bounds-planes-slot
bounds-planes-slot c = grind (arith, common_steps, planes-long)

pub bounds-tables-slot : goal.bounds-tables-slot
bounds-tables-slot c =
    omega (arith, tables-long c.args.codings.now c.args.tables.now (c.requires.tables (search rules)))

pub offset_bounds-tables-slot : goal.offset_bounds-tables-slot
offset_bounds-tables-slot c =
    let long = tables-long c.args.codings.now c.args.tables.now (c.requires.tables (search rules)) in
    search rules

pub append_rows-requires-clause-size : goal.append_rows-requires-clause-size
append_rows-requires-clause-size c =
    let full = row-full c.args.codings.now c.args.rows.now c.requires.sizes c.loop-slot.slot c.index-rows-slot.result
    c.requires.full (search rules) (search rules) in
    grind (arith, common_steps, row-size)

pub loop-slot-preserved : goal.loop-slot-preserved
unfolding samples_of
loop-slot-preserved c =
    let table = table-here c.args.codings.now c.args.tables.now c.loop-slot.slot c.index-codings-slot.result
    c.index-tables-slot.result (c.requires.tables (search rules)) (search rules) (search rules) (search rules) in
    planes-next c.args.codings.now c.args.rows.now c.args.planes.now c.requires.sizes (search rules) c.loop-slot.planes
    c.loop-slot.slot c.index-codings-slot.result c.index-rows-slot.result c.index-planes-slot.result
    c.append_rows.new.plane (search rules) (search rules) (search rules) c.loop-slot.invariant (search rules)
    (rw (← table) (search rules))
    (row-full c.args.codings.now c.args.rows.now c.requires.sizes c.loop-slot.slot c.index-rows-slot.result
    c.requires.full (search rules) (search rules))

pub returns : goal.returns
returns c = grind (arith, common_steps, planes-all)

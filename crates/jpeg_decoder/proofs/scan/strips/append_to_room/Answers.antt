use Rattle.std.proofs.Common.{arith, rules}
use Rattle.jpeg_decoder.specs.Strips.{samples_of}
use Rattle.jpeg_decoder.proofs.Strips.RowBuffers.{room-all, room-next, row-full, row-size, table-here, tables-long}
use Rattle.jpeg_decoder.proofs.scan.strips.append_to_room.Goals as goal
use Rattle.std.proofs.lemmas.Grind.{common_steps}

pub bounds-tables-slot : goal.bounds-tables-slot
bounds-tables-slot c = omega (arith, tables-long c.args.codings.now c.args.tables.now c.requires.tables)

pub offset_bounds-tables-slot : goal.offset_bounds-tables-slot
offset_bounds-tables-slot c =
    let long = tables-long c.args.codings.now c.args.tables.now c.requires.tables in
    search rules

pub append_rows-requires-clause-size : goal.append_rows-requires-clause-size
append_rows-requires-clause-size c =
    let full = row-full c.args.codings.now c.args.rows.now c.requires.sizes c.loop-slot.slot c.index-rows-slot.result
    c.requires.full (search rules) (search rules) in
    grind (arith, common_steps, row-size)

pub loop-slot-preserved : goal.loop-slot-preserved
unfolding samples_of
loop-slot-preserved c =
    let l = c.loop-slot in
    let table = table-here c.args.codings.now c.args.tables.now l.slot c.index-codings-slot.result
    c.index-tables-slot.result c.requires.tables (search rules) (search rules) (search rules) in
    room-next c.args.codings.now c.args.rows.now c.requires.sizes l.slot c.index-codings-slot.result
    c.index-rows-slot.result c.args.samples.now.items l.samples.items _ (search rules)
    (search rules) (search rules) l.invariant (rw (← table) (search rules))
    (row-full c.args.codings.now c.args.rows.now c.requires.sizes l.slot c.index-rows-slot.result
    c.requires.full (search rules) (search rules))

pub returns : goal.returns
returns c =
    let l = c.loop-slot in
    room-all c.args.codings.now c.args.rows.now c.requires.sizes l.slot c.args.samples.now.items
    l.samples.items (search rules) l.invariant

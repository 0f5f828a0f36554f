use Rattle.std.proofs.Common.{◌∙◌, ap, arith, sym, Option}
use Rattle.std.specs.Prelude.{option_map}
use Rattle.jpeg_decoder.specs.Scanning.{arrays_in}
use Rattle.jpeg_decoder.specs.Through.{cleared}
use Rattle.jpeg_decoder.specs.Walk.{spot_of}
use Rattle.jpeg_decoder.specs.declared.scan.spots.Spot as taken
use Rattle.jpeg_decoder.proofs.Kept.ClearedBlocks.{clear-past, clear-stored, clear-unstored}
use Rattle.jpeg_decoder.proofs.Kept.KeptBlocks.{sizes-set}
use Rattle.jpeg_decoder.proofs.scan.rows.clear_block.Goals as goal
use Rattle.jpeg_decoder.proofs.scan.rows.clear_block.Goals.{else-spot-len-via-else-spot-len}
use Rattle.jpeg_decoder.proofs.scan.rows.clear_block.Goals.{else-spot-len-via-then-spot-len+else-spot-len-2}

pub returns-then-spot-len-2-clause-sizes : goal.returns-then-spot-len-2-clause-sizes
returns-then-spot-len-2-clause-sizes c =
    sizes-set c.args.rows.now.items c.in-Some.spot.slot c.in-Some.spot.index c.index_mut.result.now _
    c.index_mut.ensures.value

pub returns-then-spot-len-2-clause-arrays : goal.returns-then-spot-len-2-clause-arrays
returns-then-spot-len-2-clause-arrays c =
    let arrays = arrays_in c.args.rows.now.items in
    clear-stored c.args.rows.now.items c.in-Some.spot.slot c.in-Some.spot.index c.index_mut.result.now
    c.index.result.now (omega arith) c.index_mut.ensures.value c.index.ensures (omega arith)
    ∙ sym (ap (λ (o : Option taken.Spot). cleared (option_map spot_of o) arrays) c.in-Some.is)

pub returns-else-spot-len-clause-arrays : goal.returns-else-spot-len-clause-arrays
returns-else-spot-len-clause-arrays c =
    let vs = c.args.rows.now.items in
    let s = c.in-Some.spot in
    sym (ap (λ (o : Option taken.Spot). cleared (option_map spot_of o) (arrays_in vs)) c.in-Some.is
    ∙ elim c.else-spot-len.branch [
      | else-spot-len-via-then-spot-len+else-spot-len-2 w ↦
          clear-unstored vs s.slot s.index w.index.result.now (omega arith) w.index.ensures (omega arith)
      | else-spot-len-via-else-spot-len w ↦ clear-past vs s.slot s.index (omega arith)
    ])

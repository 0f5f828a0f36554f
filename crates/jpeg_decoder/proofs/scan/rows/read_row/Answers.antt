use Rattle.std.proofs.Common.{length, sym, subst, ℕ, List}
use Rattle.std.specs.List.{AllByRecursion}
use Rattle.jpeg_meaning.specs.Order.{Spot}
use Rattle.jpeg_bits.specs.Entropy.{upcoming}
use Rattle.jpeg_decoder.specs.Scanning.{IsSpotOf, arrays_in, scan_vias, sizes_of}
use Rattle.jpeg_decoder.specs.Walk.{walk_of_row}
use Rattle.jpeg_decoder.proofs.Strips.RefusedRows.{reached-cleared}
use Rattle.jpeg_decoder.proofs.scan.rows.read_row.Goals as goal

pub read_mcus-requires : goal.read_mcus-requires
read_mcus-requires g c =
    let cs = c.args.scan.now.codings in
    record {
      spots = subst (λ (x : List Spot). AllByRecursion (IsSpotOf (length cs) (sizes_of c.clear_rows.new.rows.items)) x)
          (sym c.row-spots.ensures)
          (subst (λ (x : List ℕ). AllByRecursion (IsSpotOf (length cs) x)
          (walk_of_row c.args.order.now c.args.row)) (sym c.clear_rows.ensures.sizes) c.requires.spots);
    }

pub returns-in-Err-clause-reached : goal.returns-in-Err-clause-reached
returns-in-Err-clause-reached g c here there k l =
    let s = c.args.scan.now in
    reached-cleared s.pass (scan_vias s) c.args.order.now.interval c.args.interval.now c.row-spots.result
    (walk_of_row c.args.order.now c.args.row) (arrays_in c.clear_rows.new.rows.items) (sizes_of c.args.rows.now.items)
    (upcoming c.args.interval.now.decoder c.args.source.now.bytes) c.in-Err.e (arrays_in c.read_mcus.new.arrays.items)
    (arrays_in c.clear_block.new.rows.items) c.read_mcus.new.interval.unread c.row-spots.ensures
    c.clear_rows.ensures.zeros c.requires.apart c.clear_block.ensures.arrays (c.in-Err.ensures.reached here there k l)

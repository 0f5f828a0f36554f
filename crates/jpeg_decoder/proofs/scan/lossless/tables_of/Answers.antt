use Rattle.std.proofs.lemmas.Grind.{common_steps}
use Rattle.std.proofs.Common.{None, map, rules, arith}
use Rattle.std.specs.Prelude.{slice_index_or}
use Rattle.std.proofs.lemmas.List.{map-append}
use Rattle.std.proofs.lemmas.Result.{err_from_is_err_and}
use Rattle.jpeg_bits.specs.Reading.{Malformed}
use Rattle.jpeg_segments.specs.Checks.{needed}
use Rattle.jpeg_segments.proofs.Gathered.{gathers-all, gathers-err, gathers-more, gathers-none}
use Rattle.jpeg_decoder.proofs.Scans.SlotCodings.{format-refuses}
use Rattle.jpeg_decoder.proofs.scan.lossless.tables_of.Goals as goal

pub returns-in_err-needed : goal.returns-in_err-needed
returns-in_err-needed c =
    let lacks = gathers-err (λ d. needed (slice_index_or c.args.said.now.huffman.dc d None))
    c.args.header.now.dc_destinations c.loop-slot.slot 0 Malformed (map (λ t. t.now) c.loop-slot.tables.items) in
    grind (arith, common_steps, err_from_is_err_and, format-refuses, lacks)

pub loop-slot-preserved : goal.loop-slot-preserved
loop-slot-preserved c = grind (arith, common_steps, gathers-more, map-append)

pub loop-slot-init : goal.loop-slot-init
loop-slot-init c = search (rules, gathers-none)

pub returns : goal.returns
returns c = search (rules, arith, gathers-all)

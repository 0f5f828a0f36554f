use Rattle.std.proofs.Common.{◌<◌, ◌==◌, ◌∙◌, ap, sym, arith, length, map}
use Rattle.std.proofs.lemmas.Grind.{common_steps}
use Rattle.std.proofs.lemmas.List.{length-map}
use Rattle.std.proofs.lemmas.List.Elements.{recursion_from_All}
use Rattle.std.proofs.lemmas.Result.{err_from_is_err_and}
use Rattle.jpeg_bits.specs.Reading.{Fault}
use Rattle.jpeg_segments.specs.FrameView.{frame_in}
use Rattle.jpeg_lossless.specs.Scans.{is_of_rows}
use Rattle.jpeg_lossless.specs.declared.scan.Coding.{Coding}
use Rattle.jpeg_meaning.specs.Found.{Said}
use Rattle.jpeg_decoder.specs.LosslessParts.{mcus_high, mcus_wide, parts_at}
use Rattle.jpeg_decoder.proofs.LosslessFrames.LosslessReads.{AreCodings, HasMcus, codings-by-tables, codings-count, has-mcus}
use Rattle.jpeg_decoder.proofs.Pictures.PicturesOfPlanes.{decoded-factors}
use Rattle.jpeg_decoder.proofs.LosslessFrames.SampleScans.{broken-codings, no-codings}
use Rattle.jpeg_decoder.proofs.Scans.SlotCodings.{format-refuses}
use Rattle.jpeg_decoder.proofs.scan.lossless.sample_scan_of.Goals.{After-deref}
use Rattle.jpeg_decoder.proofs.scan.lossless.sample_scan_of.Goals as goal

-- the components of the scan, with their tables
coded : (c : After-deref) → let scan = c.args.header.now in
    AreCodings c.args.said.now.huffman.dc (frame_in c.args.frame.now) scan.components
    scan.dc_destinations (map (λ t. t.now) c.in_ok-tables.tables.items)
coded c = grind (arith, common_steps, codings-by-tables, recursion_from_All)

-- their MCUs
mcus : (c : After-deref) → let frame = frame_in c.args.frame.now in
    let indices = c.args.header.now.components in
    HasMcus (mcus_wide frame indices) (mcus_high frame indices) (parts_at (length indices == 1)
    frame.components indices (map (λ t. t.now) c.in_ok-tables.tables.items))
mcus c = has-mcus _ _ _ _ _ (coded c) c.requires.frame c.requires.process

pub returns-in_err-tables-clause-refused : goal.returns-in_err-tables-clause-refused
returns-in_err-tables-clause-refused c =
    let frame = frame_in c.args.frame.now in
    let scan = c.args.header.now in
    let within = recursion_from_All (λ index. index < length frame.components) scan.components
    c.requires.legal.components in
    let lacking = λ (f : Fault). no-codings c.args.said.now frame scan f within c.requires.legal.dc_length in
    grind (arith, common_steps, err_from_is_err_and, lacking)

pub parts_of-requires-clause-count : goal.parts_of-requires-clause-count
parts_of-requires-clause-count c =
    let count = codings-count _ _ _ _ _ (coded (goal.at.parts_of-requires-clause-count c).After-deref) in
    grind (arith, common_steps, length-map)

pub coding_of-coding-requires-clause-sampling : goal.coding_of-coding-requires-clause-sampling
coding_of-coding-requires-clause-sampling c = decoded-factors _ c.requires.frame

pub rows_of_interval-requires-clause-wide : goal.rows_of_interval-requires-clause-wide
rows_of_interval-requires-clause-wide c =
    rw c.coding_of-coding.ensures (mcus (goal.at.rows_of_interval-requires-clause-wide c).After-deref).some_wide

pub rows_of_interval-requires-clause-high : goal.rows_of_interval-requires-clause-high
rows_of_interval-requires-clause-high c =
    rw c.coding_of-coding.ensures (mcus (goal.at.rows_of_interval-requires-clause-high c).After-deref).some_high

pub returns-in_default-clause-refused : goal.returns-in_default-clause-refused
returns-in_default-clause-refused c =
    let frame = frame_in c.args.frame.now in
    let indices = c.args.header.now.components in
    format-refuses c.format_error_of.result _ c.format_error_of.ensures
    (broken-codings c.args.said.now (frame_in c.args.frame.now) c.args.header.now _
    (coded (goal.at.returns-in_default-clause-refused c).After-deref)
    (ap (λ (s : Said). is_of_rows (mcus_wide frame indices) (mcus_high frame indices) s.restart) (sym c.said.view_is)
    ∙ ap (λ (k : Coding). is_of_rows k.wide k.high k.restart_interval) (sym c.coding_of-coding.ensures)
    ∙ c.in_default.ensures.none))

use Rattle.std.proofs.Common.{List, ◌≡◌, ◌∙◌, ◌*◌, ◌==◌, ◌/◌, ap, sym, length, min, ℕ, Some}
use Rattle.std.specs.Prelude.{slice_get}
use Rattle.std.proofs.lemmas.List.{length-map}
use Rattle.jpeg_segments.specs.FrameView.{component_in, frame_in}
use Rattle.jpeg_decoder.specs.Scanning.{scan_components}
use Rattle.jpeg_decoder.specs.Steps.{coding_in}
use Rattle.jpeg_meaning.specs.ScanSegments.{Coding, components_of}
use Rattle.jpeg_meaning.specs.WholeRows.{rows_apart}
use Rattle.jpeg_decoder.proofs.Partial.RowsAbove.{above-line, slot-component}
use Rattle.jpeg_decoder.proofs.scan.whole_rows.rows_above.Goals as goal

pub returns : goal.returns
returns c =
    let frame = frame_in c.args.frame.now in
    let cs = scan_components c.args.scan.now in
    let coded = c.in-Some.coded.now in
    let part = component_in coded.component.now in
    let n = c.lines_above-lines.result in
    let found = c.in-Some.ensures.lookup in
    let seen = c.components-codings.result.now in
    let same = c.components-codings.ensures.codings in
    let count : length cs ≡ length seen =
    length-map c.args.scan.now.codings (λ (k : Coding). k.component)
    ∙ sym (ap (λ (l : List Coding). length l) same) ∙ length-map seen coding_in in
    let component : slice_get cs c.args.spot.slot ≡ Some part =
    slot-component c.args.scan.now.codings seen c.args.spot.slot coded same found.3.0 found.1 in
    let line = c.args.spot.index / part.blocks_wide in
    rw component (
    c.rows_apart.ensures
    ∙ ap (λ (l : List Coding). rows_apart frame (components_of l) c.rows_of_lines-rows.result) same
    ∙ ap (rows_apart frame cs) (c.rows_of_lines-rows.ensures
    ∙ ap (min frame.output_height) (above-line frame cs part line n
    (λ e. c.lines_above-lines.ensures.alone (ap (λ (k : ℕ). k == 1) (sym count) ∙ e) ∙ c.lines_before-line.ensures)
    (λ e. c.lines_above-lines.ensures.others (ap (λ (k : ℕ). k == 1) (sym count) ∙ e)
    ∙ ap (λ (l : ℕ). l / part.factors.vertical * part.factors.vertical) c.lines_before-line.ensures))))

use Rattle.std.proofs.Common.{◌≡◌, ◌∙◌, ◌*◌, ◌/◌, ap, ap₂, rules, sym, List, map, min, ℕ}
use Rattle.jpeg_segments.specs.Frame.{greatest, most_down}
use Rattle.jpeg_segments.specs.FrameView.{component_in, factors_in, frame_in}
use Rattle.jpeg_segments.specs.declared.frame.Component.{Component as Given}
use Rattle.jpeg_segments.proofs.ScaleLemmas.{factors-seen}
use Rattle.jpeg_decoder.proofs.Partial.RowsAbove.{saturated}
use Rattle.jpeg_decoder.proofs.scan.whole_rows.rows_of_lines.Goals as goal

pub returns : goal.returns
returns c =
    let frame = frame_in c.args.frame.now in
    let most : c.greatest_of-greatest.result.1 ≡ most_down frame.components =
    c.greatest_of-greatest.ensures.vertical
    ∙ ap (λ (l : List Given). greatest (λ f. f.vertical) (map factors_in l)) c.deref.ensures.value
    ∙ ap (greatest (λ f. f.vertical)) (sym (factors-seen c.args.frame.now.components.items)) in
    c.rows_by.ensures
    ∙ ap₂ (λ (lines n : ℕ). min frame.output_height (lines * n / c.args.component.now.vertical_sampling_factor))
    c.saturating_mul-lines.ensures most
    ∙ saturated frame (component_in c.args.component.now) (c.args.lines * c.args.side) (search rules) (search rules)

use Rattle.std.proofs.Common.{◌∙◌, ap, arith, map, subst, sym}
use Rattle.std.specs.Prelude.{min}
use Rattle.jpeg_segments.specs.FrameView.{component_in, frame_in}
use Rattle.jpeg_pixels.specs.Pictures.{is_blended}
use Rattle.jpeg_decoder.specs.ByRows.{HaveScales, unit_lines}
use Rattle.jpeg_decoder.proofs.ByRows.Windows.{any-mapped, decided-early, decided-last, else-apart, rows-fit}
use Rattle.jpeg_decoder.proofs.ByRows.Windows.{then-apart}
use Rattle.jpeg_decoder.proofs.Pictures.EndedPlanes.{decoded-scales}
use Rattle.jpeg_decoder.proofs.by_rows.window.lines_decided.Goals as goal
use Rattle.jpeg_decoder.proofs.by_rows.window.lines_decided.Goals.{then-has_blended, else-has_blended}

pub returns-then-rows-frame : goal.returns-then-rows-frame
returns-then-rows-frame c = decided-last (frame_in c.args.frame.now) c.args.rows c.if-rows-frame.true

pub unit_lines-requires : goal.unit_lines-requires
unit_lines-requires c =
    subst (λ l. HaveScales (map component_in l)) (sym c.deref.ensures.value)
    (decoded-scales (frame_in c.args.frame.now) c.requires)

pub overflow_mul-lines : goal.overflow_mul-lines
overflow_mul-lines c =
    let rows = c.ranges.rows.fits in
    let fit = rows-fit (frame_in c.args.frame.now) c.args.rows c.from.result c.unit_lines.result c.requires
    (omega arith) c.from.ensures
    (c.unit_lines.ensures ∙ ap (λ l. unit_lines (map component_in l)) c.deref.ensures.value) in
    record { fits = omega arith }

pub returns : goal.returns
returns c =
    let f = frame_in c.args.frame.now in
    let apart = c.if-has_blended.apart in
    decided-early f c.args.rows c.from.result c.unit_lines.result apart c.min.result c.has_blended.result
    c.if-rows-frame.false c.from.ensures
    (c.unit_lines.ensures ∙ ap (λ l. unit_lines (map component_in l)) c.deref.ensures.value)
    (c.has_blended.ensures ∙ any-mapped (is_blended f) c.args.frame.now.components.items)
    (elim c.if-has_blended.branch [
      | then-has_blended w ↦ then-apart _ apart w.saturating_sub-apart.result c.has_blended.result
          w.if-has_blended.true w.apart-is w.saturating_sub-apart.ensures
      | else-has_blended w ↦ else-apart _ apart c.has_blended.result w.if-has_blended.false w.apart-is
    ])
    (c.min.ensures ∙ ap (λ n. min n apart) c.from-2.ensures)

-- The lines that are made are those of the picture, by the sources of a window.
use Rattle.std.proofs.Common.{◌≡◌, ◌+◌, ◌-◌, ◌*◌, ◌<◌, ◌≤◌, ◌∙◌, ◌++◌, ℕ, List, length, map, refl, rules, sym, ap, subst, arith}
use Rattle.std.proofs.lemmas.List.{length-append, length-map}
use Rattle.std.proofs.Math.Nat.{add-mul, one-mul}
use Rattle.std.proofs.lemmas.Result.{err_from_is_err_and}
use Rattle.jpeg_segments.specs.Frame.{AllHaveSampling}
use Rattle.jpeg_segments.specs.FrameView.{component_in, frame_in}
use Rattle.jpeg_pixels.specs.Pictures.{picture_line}
use Rattle.jpeg_pixels.specs.PicturesView.{IsFor}
use Rattle.jpeg_decoder.specs.ByRows.{AreLines, unit_lines, window_component}
use Rattle.jpeg_decoder.specs.Strips.{plane_lists}
use Rattle.jpeg_decoder.proofs.ByRows.LinesOfWindows.{Upsamples, few-lines, few-rows, line-below, line-covered}
use Rattle.jpeg_decoder.proofs.ByRows.LinesOfWindows.{no-lines, one-more, only-memory}
use Rattle.jpeg_decoder.proofs.ByRows.LinesOfWindows.{sources-given, upsamples, window-ready}
use Rattle.jpeg_decoder.proofs.ByRows.WindowLines.{IsWindow, window_height}
use Rattle.jpeg_decoder.proofs.ByRows.Windows.{have-count}
use Rattle.jpeg_decoder.proofs.Pictures.EndedPlanes.{decoded-scales}
use Rattle.jpeg_decoder.proofs.by_rows.window.make_lines.Goals as goal
use Rattle.jpeg_decoder.proofs.by_rows.window.make_lines.Goals.{After-deref-3, After-min-height, After-upsampler}

-- ---- before the lines

pub window_components-requires : goal.window_components-requires
window_components-requires c =
    rw c.deref.ensures.value (decoded-scales (frame_in c.args.frame.now) c.requires.frame)

pub unit_lines-unit-requires : goal.unit_lines-unit-requires
unit_lines-unit-requires c =
    rw c.deref-2.ensures.value (decoded-scales (frame_in c.args.frame.now) c.requires.frame)

pub overflow_mul-top : goal.overflow_mul-top
overflow_mul-top c =
    let f = frame_in c.args.frame.now in
    let unit : c.unit_lines-unit.result ≡ unit_lines f.components =
    c.unit_lines-unit.ensures ∙ ap (λ l. unit_lines (map component_in l)) c.deref-2.ensures.value in
    let small : c.args.window.above < 65536 = omega arith in
    let few = few-lines f c.requires.frame c.args.window.above small in
    rw (c.from.ensures, unit) (omega (arith, few))

pub overflow_mul-from : goal.overflow_mul-from
overflow_mul-from c =
    let f = frame_in c.args.frame.now in
    let unit : c.unit_lines-unit.result ≡ unit_lines f.components =
    c.unit_lines-unit.ensures ∙ ap (λ l. unit_lines (map component_in l)) c.deref-2.ensures.value in
    let small : c.args.window.rows < 65536 = omega arith in
    let few = few-lines f c.requires.frame c.args.window.rows small in
    rw (c.from-3.ensures, unit) (omega (arith, few))

pub overflow_cast-height : goal.overflow_cast-height
overflow_cast-height c =
    let f = frame_in c.args.frame.now in
    let unit : c.unit_lines-unit.result ≡ unit_lines f.components =
    c.unit_lines-unit.ensures ∙ ap (λ l. unit_lines (map component_in l)) c.deref-2.ensures.value in
    let few = few-rows f c.requires.frame c.args.window.above c.args.window.rows c.requires.rows in
    let all : c.from-3.result * c.unit_lines-unit.result ≡ c.args.window.rows * unit_lines f.components =
    rw (c.from-3.ensures, unit) refl in
    let least = c.min-height.ensures in
    omega (arith, few, all, least)

-- what is known of the components of the window
ready : (c : After-deref-3)
    → map component_in c.deref-3.result.now ≡ map (window_component c.args.window.above c.args.window.rows)
    (frame_in c.args.frame.now).components
ready c =
    ap (map component_in) c.deref-3.ensures.value ∙ c.in_ok-components.ensures
    ∙ ap (λ l. map (window_component c.args.window.above c.args.window.rows) (map component_in l)) c.deref.ensures.value

asked : (c : After-deref-3)
    → (1 ≤ length c.deref-3.result.now)
    × ((length c.deref-3.result.now ≤ 4) × AllHaveSampling (map component_in c.deref-3.result.now))
asked c =
    window-ready (frame_in c.args.frame.now) c.requires.frame c.args.window.above c.args.window.rows
    (length c.deref-3.result.now) (map component_in c.deref-3.result.now) (ready c)
    (sym (length-map c.deref-3.result.now component_in))

pub new-requires-clause-some : goal.new-requires-clause-some
new-requires-clause-some c = (asked c).0

pub new-requires-clause-most : goal.new-requires-clause-most
new-requires-clause-most c = (asked c).1.0

pub new-requires-clause-factors : goal.new-requires-clause-factors
new-requires-clause-factors c = (asked c).1.1

-- the height of the window
high : (c : After-min-height)
    → c.min-height.result ≡ window_height (frame_in c.args.frame.now) c.args.window.above c.args.window.rows
high c =
    let f = frame_in c.args.frame.now in
    let unit : c.unit_lines-unit.result ≡ unit_lines f.components =
    c.unit_lines-unit.ensures ∙ ap (λ l. unit_lines (map component_in l)) c.deref-2.ensures.value in
    rw (c.min-height.ensures, c.saturating_sub-height.ensures, c.from-2.ensures, c.from.ensures, c.from-3.ensures, unit)
    refl

pub returns-in_err-upsampler-clause-err : goal.returns-in_err-upsampler-clause-err
returns-in_err-upsampler-clause-err c =
    let f = frame_in c.args.frame.now in
    let p = err_from_is_err_and c.from_residual-in_err-upsampler.result c.from_residual-in_err-upsampler.ensures.1 in
    let w : IsWindow f c.args.window.above c.args.window.rows =
    record { shape = c.requires.rows; within = c.requires.within } in
    let is = sources-given f c.requires.frame _ c.args.window.above c.args.window.rows f.output_width
    c.min-height.result w (ready (goal.at.returns-in_err-upsampler-clause-err c).After-deref-3) refl
    (high (goal.at.returns-in_err-upsampler-clause-err c).After-min-height) in
    rw (p.1, p.2) (only-memory c.in_err-upsampler.field-0.0 _ _ is c.in_err-upsampler.ensures)

-- ---- the lines

pub loop-index-init : goal.loop-index-init
loop-index-init c =
    let f = frame_in c.args.frame.now in
    let w = c.args.window in
    record {
      lines = subst (λ (l : List ℕ). AreLines f w.convert (plane_lists c.args.planes.now) w.above w.rows w.first 0 l)
          (sym c.clear.ensures.items) (no-lines f w.above w.rows w.first w.convert (plane_lists c.args.planes.now));
      whole = ap length c.clear.ensures.items ∙ omega arith;
    }

up : (c : After-upsampler)
    → Upsamples (frame_in c.args.frame.now) c.args.window.above c.args.window.rows c.in_ok-upsampler.upsampler
up c =
    let f = frame_in c.args.frame.now in
    let w : IsWindow f c.args.window.above c.args.window.rows =
    record { shape = c.requires.rows; within = c.requires.within } in
    let is : map component_in c.deref-3.result.now
    ≡ map (window_component c.args.window.above c.args.window.rows) f.components =
    ap (map component_in) c.deref-3.ensures.value ∙ c.in_ok-components.ensures
    ∙ ap (λ l. map (window_component c.args.window.above c.args.window.rows) (map component_in l))
    c.deref.ensures.value in
    let unit : c.unit_lines-unit.result ≡ unit_lines f.components =
    c.unit_lines-unit.ensures ∙ ap (λ l. unit_lines (map component_in l)) c.deref-2.ensures.value in
    let height : c.min-height.result ≡ window_height f c.args.window.above c.args.window.rows =
    rw (c.min-height.ensures, c.saturating_sub-height.ensures, c.from-2.ensures, c.from.ensures, c.from-3.ensures, unit)
    refl in
    upsamples f c.requires.frame (map component_in c.deref-3.result.now) c.in_ok-upsampler.upsampler c.args.window.above
    c.args.window.rows f.output_width c.min-height.result w is refl height c.in_ok-upsampler.ensures

-- the lines above the window
top : (c : After-upsampler)
    → c.from.result * c.unit_lines-unit.result
    ≡ c.args.window.above * unit_lines (frame_in c.args.frame.now).components
top c =
    let unit : c.unit_lines-unit.result ≡ unit_lines (frame_in c.args.frame.now).components =
    c.unit_lines-unit.ensures ∙ ap (λ l. unit_lines (map component_in l)) c.deref-2.ensures.value in
    rw (c.from.ensures, unit) refl

pub overflow_sub-row : goal.overflow_sub-row
overflow_sub-row c =
    let f = frame_in c.args.frame.now in
    let w = c.args.window in
    let t = top (goal.at.overflow_sub-row c).After-upsampler in
    let u = up (goal.at.overflow_sub-row c).After-upsampler in
    let from = c.requires.first in
    let to = c.requires.last in
    let lt = c.loop-index-test.true in
    let end = c.loop-index.auto.index-end in
    let low = line-below f c.requires.frame w.above w.rows (w.first + c.loop-index.index) u.window (omega arith)
    (omega arith) in
    let a = c.from-in-loop-index.ensures in
    let b = c.from-in-loop-index-2.ensures in
    omega (arith, t, low, a, b)

pub upsample_and_interleave_row-requires-clause-planes : goal.upsample_and_interleave_row-requires-clause-planes
upsample_and_interleave_row-requires-clause-planes c =
    let u = up (goal.at.upsample_and_interleave_row-requires-clause-planes c).After-upsampler in
    sym (length-map c.args.planes.now (λ v. v.items))
    ∙ have-count c.args.window.rows (frame_in c.args.frame.now).components (plane_lists c.args.planes.now)
    c.requires.planes ∙ sym u.count

pub upsample_and_interleave_row-requires-clause-cover : goal.upsample_and_interleave_row-requires-clause-cover
upsample_and_interleave_row-requires-clause-cover c =
    let f = frame_in c.args.frame.now in
    let w = c.args.window in
    let t = top (goal.at.upsample_and_interleave_row-requires-clause-cover c).After-upsampler in
    let u = up (goal.at.upsample_and_interleave_row-requires-clause-cover c).After-upsampler in
    let from = c.requires.first in
    let to = c.requires.last in
    let lt = c.loop-index-test.true in
    let end = c.loop-index.auto.index-end in
    let a = c.from-in-loop-index.ensures in
    let b = c.from-in-loop-index-2.ensures in
    rw c.from-in-loop-index-3.ensures (line-covered f w.above w.rows (w.first + c.loop-index.index) _
    c.in_ok-upsampler.upsampler (plane_lists c.args.planes.now) u c.requires.planes (omega arith) (omega arith)
    (omega (arith, t, a, b)))

pub upsample_and_interleave_row-requires-clause-fits : goal.upsample_and_interleave_row-requires-clause-fits
upsample_and_interleave_row-requires-clause-fits c =
    let u = up (goal.at.upsample_and_interleave_row-requires-clause-fits c).After-upsampler in
    subst (λ (n : ℕ). IsFor n c.args.window.convert) (sym u.count) c.requires.convert

pub upsample_and_interleave_row-requires-clause-room : goal.upsample_and_interleave_row-requires-clause-room
upsample_and_interleave_row-requires-clause-room c =
    let u = up (goal.at.upsample_and_interleave_row-requires-clause-room c).After-upsampler in
    c.loop-index.auto.line ∙ c.requires.line
    ∙ ap (λ (n : ℕ). n * c.args.frame.now.output_size.width) (sym u.count)
    ∙ ap (λ (n : ℕ). length c.in_ok-upsampler.upsampler * n) (sym c.from-in-loop-index-3.ensures)

-- the lines so far
pub loop-index-preserved : goal.loop-index-preserved
loop-index-preserved c =
    let f = frame_in c.args.frame.now in
    let w = c.args.window in
    let t = top (goal.at.loop-index-preserved c).After-upsampler in
    let u = up (goal.at.loop-index-preserved c).After-upsampler in
    let from = c.requires.first in
    let to = c.requires.last in
    let lt = c.loop-index-test.true in
    let end = c.loop-index.auto.index-end in
    let a = c.from-in-loop-index.ensures in
    let b = c.from-in-loop-index-2.ensures in
    let row = c.from-in-loop-index.result + c.from-in-loop-index-2.result - c.from.result * c.unit_lines-unit.result in
    let made : c.upsample_and_interleave_row.new.output ≡ picture_line w.convert c.in_ok-upsampler.upsampler
    (plane_lists c.args.planes.now) f.output_width row =
    c.in_ok-upsample_and_interleave_row.ensures.line
    ∙ ap (λ (n : ℕ). picture_line w.convert c.in_ok-upsampler.upsampler (plane_lists c.args.planes.now) n row)
    c.from-in-loop-index-3.ensures in
    let added : c.extend_from_slice.new.self.items ≡ c.loop-index.lines.items ++ c.upsample_and_interleave_row.new.output
    = search rules in
    let long : length c.upsample_and_interleave_row.new.output ≡ length f.components * f.output_width = search rules in
    record {
      lines = subst (λ (l : List ℕ). AreLines f w.convert (plane_lists c.args.planes.now) w.above w.rows w.first
          (c.loop-index.index + 1) l) (sym added) (one-more f w.above w.rows w.first c.loop-index.index w.convert c.in_ok-upsampler.upsampler
          (plane_lists c.args.planes.now) row c.upsample_and_interleave_row.new.output
          c.loop-index.lines.items u (omega arith) (omega arith) (omega (arith, t, a, b)) made
          c.loop-index.invariant.lines);
      whole = ap length added ∙ length-append c.loop-index.lines.items _
          ∙ omega (
            arith,
            c.loop-index.invariant.whole,
            long,
            add-mul c.loop-index.index 1 (length f.components * f.output_width),
            one-mul (length f.components * f.output_width),
          );
    }

pub returns-clause-lines : goal.returns-clause-lines
returns-clause-lines c =
    let end = c.loop-index.auto.index-end in
    let over = c.loop-index-test.false in
    let all : c.loop-index.index ≡ c.args.window.count = omega arith in
    subst (λ (n : ℕ). AreLines (frame_in c.args.frame.now) c.args.window.convert (plane_lists c.args.planes.now)
    c.args.window.above c.args.window.rows c.args.window.first n c.loop-index.lines.items) all
    c.loop-index.invariant.lines

pub returns-clause-whole : goal.returns-clause-whole
returns-clause-whole c =
    let end = c.loop-index.auto.index-end in
    let over = c.loop-index-test.false in
    let all : c.loop-index.index ≡ c.args.window.count = omega arith in
    subst (λ (n : ℕ). length c.loop-index.lines.items
    ≡ n * (length (frame_in c.args.frame.now).components * (frame_in c.args.frame.now).output_width)) all
    c.loop-index.invariant.whole

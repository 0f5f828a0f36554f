use Rattle.std.proofs.Common.{◌≡◌, ◌∙◌, ◌<◌, ℕ, List, [], ap, length, refl, rules, sym}
use Rattle.std.proofs.lemmas.List.{with_items_is}
use Rattle.std.proofs.lemmas.Result.{err_from_is_err_and, on_ok_weaker}
use Rattle.std.specs.List.{concat}
use Rattle.std.specs.Prelude.{slice_index_or}
use Rattle.std.specs.Vec.{with_items}
use Rattle.jpeg_decoder.proofs.Pictures.LinesTogether.{line-long}
use Rattle.zaxbriar_samples.proofs.PngSteps.{cut_line, has-all, has-more, has-none}
use Rattle.zaxbriar_pictures.proofs.PictureLines.{line-cut}
use Rattle.zaxbriar_pictures.proofs.WriterErrors.{of-writer, refused-of-writer}
use Rattle.zaxbriar_pictures.proofs.lines.write_png.Goals as goal

pub loop-row-init : goal.loop-row-init
loop-row-init g c =
    let size : length c.in_ok-line.line.items ≡ c.line_bytes.result = search rules in
    record {
      same = refl;
      long = rw size c.line_bytes.ensures;
      written = has-none c.args.info c.args.precision (concat c.args.lines) c.in_ok-file.file
          (g.W.Write.contents c.args.writer.now) (g.W.Write.contents c.begin.new.writer)
          c.in_ok-file.ensures.file c.in_ok-file.ensures.written;
    }

pub write_line-requires-clause-row : goal.write_line-requires-clause-row
write_line-requires-clause-row g c =
    let low : c.loop-row.row < length c.args.lines = search rules in
    rw c.loop-row.invariant.same low

pub write_line-requires-clause-room : goal.write_line-requires-clause-room
write_line-requires-clause-room g c =
    let low : c.loop-row.row < length c.args.lines = search rules in
    let long : length (slice_index_or c.args.lines c.loop-row.row []) ≡ length c.loop-row.line.items =
    line-long (length c.loop-row.line.items) c.loop-row.row c.args.lines [] c.loop-row.invariant.long low in
    rw (c.loop-row.invariant.same, long) (search rules)

pub loop-row-preserved : goal.loop-row-preserved
loop-row-preserved g c =
    let kept = c.loop-row.invariant in
    let lines : List (List ℕ) = c.args.lines in
    let line : List ℕ = c.write_line.new.line in
    let row : ℕ = c.loop-row.row in
    let low : row < length lines = search rules in
    let is : line ≡ slice_index_or lines row [] = c.write_line.ensures.line
    ∙ ap (λ (l : List (List ℕ)). slice_index_or l row []) kept.same in
    let long : length line ≡ length c.loop-row.line.items = ap (λ (l : List ℕ). length l) is
    ∙ line-long (length c.loop-row.line.items) row lines [] kept.long low in
    let items : (with_items c.loop-row.line line).items ≡ line =
    with_items_is c.loop-row.line line (long ∙ sym c.loop-row.line.ok.0) in
    let cut : c.as_slice.result.now ≡ cut_line c.args.info c.args.precision (concat lines) row =
    c.as_slice.ensures.value ∙ items ∙ is ∙ line-cut c.args.info c.args.precision row lines c.requires.bytes low in
    record {
      same = c.write_line.ensures.same ∙ kept.same;
      long = rw (items, long) kept.long;
      written = has-more c.args.info c.args.precision (concat lines) row c.loop-row.file
          c.write_line-in-loop-row.new.self (g.W.Write.contents c.args.writer.now)
          (g.W.Write.contents c.loop-row.writer)
          (g.W.Write.contents c.write_line-in-loop-row.new.writer) c.as_slice.result.now kept.written
          c.write_line-in-loop-row.ensures.same c.in_ok-write_line.ensures.sums
          c.in_ok-write_line.ensures.written cut;
    }

pub returns-clause-written : goal.returns-clause-written
returns-clause-written g c =
    let all : c.loop-row.row ≡ c.args.info.height = search rules in
    on_ok_weaker c.end.result (λ tail. has-all c.args.info c.args.precision (concat c.args.lines)
    c.loop-row.row c.loop-row.file (g.W.Write.contents c.args.writer.now)
    (g.W.Write.contents c.loop-row.writer) (g.W.Write.contents c.end.new.writer)
    c.loop-row.invariant.written all tail) c.end.ensures.written

-- ---- errors

pub returns-in_err-file-clause-refused : goal.returns-in_err-file-clause-refused
returns-in_err-file-clause-refused g c =
    let p = err_from_is_err_and c.from_residual-in_err-file.result c.from_residual-in_err-file.ensures.1 in
    rw (p.1, p.2) (of-writer _ c.in_err-file.ensures.refused)

pub returns-in_err-write_line-clause-refused : goal.returns-in_err-write_line-clause-refused
returns-in_err-write_line-clause-refused g c =
    let p = err_from_is_err_and c.from_residual-in_err-write_line.result
    c.from_residual-in_err-write_line.ensures.1 in
    rw (p.1, p.2) (of-writer _ c.in_err-write_line.ensures.refused)

pub returns-clause-refused : goal.returns-clause-refused
returns-clause-refused g c = refused-of-writer c.end.result c.end.ensures.refused

use Rattle.std.proofs.Common.{◌≡◌, ◌∙◌, ◌+◌, ◌-◌, ◌<◌, ◌≤◌, ℕ, List, [], ◌++◌, ap, length, rules, sym, take}
use Rattle.std.specs.List.{concat}
use Rattle.std.specs.Prelude.{slice_index_or}
use borrow.Rule.Slice.PartMut.{put_mid}
use Rattle.jpeg_decoder.proofs.Pictures.LinesTogether.{line-long}
use Rattle.std.proofs.lemmas.Result.{err_from_is_err_and, on_err_weaker}
use Rattle.jpeg_decoder.proofs.Pictures.WrittenLines.{appends-more, begun, full, gathered, line-fits, one-more-fits}
use Rattle.jpeg_decoder.proofs.Pictures.WrittenLines.{written-full}
use Rattle.jpeg_decoder.proofs.run.lines.write_through.Goals as goal
use Rattle.jpeg_decoder.proofs.run.lines.write_through.Goals.{else-filled-piece, then-filled-piece+in_ok-write_fully}

pub loop-row-preserved : goal.loop-row-preserved
loop-row-preserved g c =
    let size : ℕ = c.args.size in
    let filled : ℕ = c.loop-row.filled in
    let row : ℕ = c.loop-row.row in
    let piece : List ℕ = c.loop-row.piece in
    let line : List ℕ = c.write_line.new.line in
    let lines : List (List ℕ) = c.args.lines.now in
    let kept = c.loop-row.invariant in
    let same : c.write_line.new.self ≡ lines = c.write_line.ensures.same ∙ kept.same in
    let low : row < length lines = search rules in
    let is : line ≡ slice_index_or lines row [] = c.write_line.ensures.line
    ∙ ap (λ (l : List (List ℕ)). slice_index_or l row []) kept.same in
    let long : length line ≡ size = ap (λ (l : List ℕ). length l) is ∙ line-long size row lines [] c.requires.size low in
    let fits : filled + size ≤ length piece =
    line-fits kept.piece.0 kept.piece.1 size (length piece) filled kept.piece.2 kept.piece.3
    kept.piece.4 in
    let room : filled ≤ length piece = search rules in
    let before : kept.written.0 ++ take filled piece ≡ concat (take row lines) = kept.written.2
    ∙ ap (λ (l : List (List ℕ)). concat (take row l)) kept.same in
    let n : ℕ = filled + size - filled in
    let new : List ℕ = put_mid filled n piece line in
    let as-long : length new ≡ length piece = search rules in
    let more : kept.written.0 ++ take (filled + size) new ≡ concat (take (row + 1) c.write_line.new.self) =
    gathered filled size n row piece line kept.written.0 lines room long low is before
    ∙ ap (λ (l : List (List ℕ)). concat (take (row + 1) l)) (sym same) in
    record {
      same = same;
      piece = elim c.if-filled-piece.branch [
        | then-filled-piece+in_ok-write_fully w ↦
            (kept.piece.0, 0, as-long ∙ kept.piece.2, search rules, search rules)
        | else-filled-piece w ↦ (
          kept.piece.0,
          kept.piece.1 + 1,
          as-long ∙ kept.piece.2,
          search rules,
          one-more-fits kept.piece.0 kept.piece.1 size (length piece) filled kept.piece.2
              kept.piece.3 kept.piece.4 (search rules),
        )
      ];
      written = elim c.if-filled-piece.branch [
        | then-filled-piece+in_ok-write_fully w ↦
            (kept.written.0 ++ new, search (rules, appends-more), search (rules, written-full))
        | else-filled-piece w ↦
            (kept.written.0, search rules, search (rules, more))
      ];
    }

pub returns-in_err-write_fully-clause-err : goal.returns-in_err-write_fully-clause-err
returns-in_err-write_fully-clause-err g c =
    let size : ℕ = c.args.size in
    let filled : ℕ = c.loop-row.filled in
    let row : ℕ = c.loop-row.row in
    let piece : List ℕ = c.loop-row.piece in
    let line : List ℕ = c.write_line.new.line in
    let lines : List (List ℕ) = c.args.lines.now in
    let kept = c.loop-row.invariant in
    let low : row < length lines = search rules in
    let is : line ≡ slice_index_or lines row [] = c.write_line.ensures.line
    ∙ ap (λ (l : List (List ℕ)). slice_index_or l row []) kept.same in
    let long : length line ≡ size = ap (λ (l : List ℕ). length l) is ∙ line-long size row lines [] c.requires.size low in
    let fits : filled + size ≤ length piece =
    line-fits kept.piece.0 kept.piece.1 size (length piece) filled kept.piece.2 kept.piece.3
    kept.piece.4 in
    let room : filled ≤ length piece = search rules in
    let before : kept.written.0 ++ take filled piece ≡ concat (take row lines) = kept.written.2
    ∙ ap (λ (l : List (List ℕ)). concat (take row l)) kept.same in
    let n : ℕ = filled + size - filled in
    let new : List ℕ = put_mid filled n piece line in
    let as-long : length new ≡ length piece = search rules in
    let more : kept.written.0 ++ take (filled + size) new ≡ concat (take (row + 1) lines) =
    gathered filled size n row piece line kept.written.0 lines room long low is before in
    let whole : filled + size ≡ length new = search rules in
    let p = err_from_is_err_and c.from_residual.result c.from_residual.ensures.1 in
    rw p.1 (begun (g.W.Write.contents c.args.writer.now) _ _ kept.written.0 new (row + 1) lines kept.written.1
    c.in_err-write_fully.ensures.err (full (filled + size) new kept.written.0 _ whole more))

pub returns-clause-err : goal.returns-clause-err
returns-clause-err g c =
    let kept = c.loop-row.invariant in
    let row : ℕ = c.loop-row.row in
    let before : kept.written.0 ++ take c.loop-row.filled c.loop-row.piece ≡ concat (take row c.args.lines.now) = kept.written.2
    ∙ ap (λ (l : List (List ℕ)). concat (take row l)) kept.same in
    on_err_weaker c.write_fully-2.result (λ h. begun (g.W.Write.contents c.args.writer.now) _ _ kept.written.0 _ row
    c.args.lines.now kept.written.1 h before) c.write_fully-2.ensures.err

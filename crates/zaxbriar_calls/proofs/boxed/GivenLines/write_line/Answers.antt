use Rattle.std.proofs.Common.{◌≡◌, ◌∙◌, ◌*◌, ◌<◌, List, [], ℕ, ap, length, slice_index_or, subst, sym}
use Rattle.jpeg_decoder.proofs.Pictures.LinesTogether.{line-long}
use Rattle.zaxbriar_calls.proofs.Smaller.{cut-bytes, cut-height}
use Rattle.zaxbriar_calls.specs.BoxedLines.{IsWhole, cut_in_lines, lines_from}
use Rattle.zaxbriar_calls.specs.declared.boxed.LineSource.{LineSource}
use Rattle.zaxbriar_calls.proofs.boxed.GivenLines.write_line.Goals as goal

pub write_line-requires-in-Smaller-clause-row : goal.write_line-requires-in-Smaller-clause-row
write_line-requires-in-Smaller-clause-row c =
    let p = c.in-Smaller.picture in
    let view : lines_from c.self.inside.source ≡ c.args.self.now = c.self.view_is in
    let lines : cut_in_lines p.line_bytes p.height p.pixels.items ≡ c.args.self.now =
    sym (ap (λ (s : LineSource). lines_from s) c.in-Smaller.is) ∙ view in
    subst (λ n. c.args.row < n) (sym (ap (λ (l : List (List ℕ)). length l) lines)
    ∙ cut-height p.line_bytes p.height p.pixels.items) c.requires.row

pub write_line-requires-in-Smaller-clause-room : goal.write_line-requires-in-Smaller-clause-room
write_line-requires-in-Smaller-clause-room c =
    let p = c.in-Smaller.picture in
    let view : lines_from c.self.inside.source ≡ c.args.self.now = c.self.view_is in
    let lines : cut_in_lines p.line_bytes p.height p.pixels.items ≡ c.args.self.now =
    sym (ap (λ (s : LineSource). lines_from s) c.in-Smaller.is) ∙ view in
    let whole : length p.pixels.items ≡ p.height * p.line_bytes =
    subst (λ (s : LineSource). IsWhole s) c.in-Smaller.is c.self.invariant in
    c.requires.room ∙ ap (λ (l : List (List ℕ)). length (slice_index_or l c.args.row [])) (sym lines)
    ∙ line-long p.line_bytes c.args.row (cut_in_lines p.line_bytes p.height p.pixels.items) []
    (cut-bytes p.line_bytes p.height p.pixels.items whole)
    (subst (λ (l : List (List ℕ)). c.args.row < length l) (sym lines) c.requires.row)

use Rattle.std.proofs.Common.{rules, ◌≡◌, ◌∙◌, []}
use Rattle.std.proofs.lemmas.Result.{on_ok_weaker}
use Rattle.jpeg_decoder.specs.FedRows.{TakesRow, all_unread}
use Rattle.jpeg_decoder.specs.declared.fed_rows.Ahead.TheVariants as ahead
use Rattle.jpeg_decoder.proofs.ByRows.FedLines.{at-state, fed-none, fed-row, none-some, row-some, scan-of}
use Rattle.jpeg_decoder.proofs.ByRows.FedLines.{unread-left}
use Rattle.jpeg_decoder.proofs.ByRows.LaterRows.{has-scan, scan-anywhere}
use Rattle.jpeg_decoder.proofs.fed_rows.FedRows.try_row.Goals as goal

pub try_lines-requires-clause-scan : goal.try_lines-requires-clause-scan
try_lines-requires-clause-scan c =
    let s = c.self.inside in
    has-scan s.settings s.state c.args.rows.now c.tried.result.now
    (scan-anywhere s.settings s.state c.args.rows.now [] c.tried.result.now
    (scan-of c.args.self.now _ c.args.rows.now c.self.view_is c.requires.scan))

pub returns-in_default-clause-scan : goal.returns-in_default-clause-scan
returns-in_default-clause-scan c =
    let s = c.self.inside in
    on_ok_weaker c.widen_more.result (λ _.
    none-some s.settings s.state c.args.rows.now c.try_lines.new.rows c.clear.new.self [] c.clear.ensures.items
    (c.in_ok-left.ensures.none c.in_default.is)
    (scan-of c.args.self.now _ c.args.rows.now c.self.view_is c.requires.scan)) c.widen_more.ensures.same

pub returns-in_default-clause-gives : goal.returns-in_default-clause-gives
returns-in_default-clause-gives c =
    let s = c.self.inside in
    on_ok_weaker c.widen_more.result (λ same fed given h.
    fed-none s.settings s.has_ended s.state c.args.rows.now c.try_lines.new.rows c.clear.new.self (all_unread s.unread)
    (all_unread c.widen_more.new.self) fed given c.clear.ensures.items (same ∙ c.in_ok-widen.ensures.same)
    (c.in_ok-left.ensures.none c.in_default.is)
    (at-state c.args.self.now _ fed given (ahead.Scan c.args.rows.now) c.self.view_is h)) c.widen_more.ensures.same

pub returns-clause-scan : goal.returns-clause-scan
returns-clause-scan c =
    let s = c.self.inside in
    let takes : TakesRow s.state c.args.rows.now c.try_lines.new.rows c.tried.result.now c.in-Some.left.items
    = search rules in
    row-some s.settings s.state c.args.rows.now c.try_lines.new.rows c.tried.result.now c.in-Some.left.items []
    takes (scan-of c.args.self.now _ c.args.rows.now c.self.view_is c.requires.scan)

pub returns-clause-gives : goal.returns-clause-gives
returns-clause-gives c fed given h =
    let s = c.self.inside in
    let takes : TakesRow s.state c.args.rows.now c.try_lines.new.rows c.tried.result.now c.in-Some.left.items
    = search rules in
    unread-left s.settings s.has_ended s.state c.args.rows.now c.try_lines.new.rows s.unread c.widen.new.self
    c.leave.new.self c.tried.result.now c.in-Some.left.items fed given c.in_ok-widen.ensures.same c.tried.ensures
    c.leave.ensures takes
    (at-state c.args.self.now _ fed given (ahead.Scan c.args.rows.now) c.self.view_is h)

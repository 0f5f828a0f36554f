use Rattle.std.proofs.Common.{rules, ◌≤◌, [], length}
use Rattle.jpeg_decoder.specs.FedRows.{BeginsScan, all_unread}
use Rattle.jpeg_decoder.specs.declared.fed_rows.Ahead.TheVariants as ahead
use Rattle.jpeg_decoder.proofs.ByRows.FedLines.{all-tried, at-state, begun-calls, begun-fed, begun-some, first-less, put-all}
use Rattle.jpeg_decoder.proofs.fed_rows.FedRows.begin.Goals as goal

pub invariant_of-self-2 : goal.invariant_of-self-2
invariant_of-self-2 c =
    let s = c.self.inside in
    let start = c.in-Some.start in
    let begins : BeginsScan s.settings c.tried.result.now c.begin_scan.new.state start.left.items start.rows =
    search rules in
    begun-some s.settings c.begin_scan.new.state start.rows c.put_ahead-2.new.place c.tried.result.now
    start.left.items c.put_ahead-2.ensures begins

pub returns-clause-gives : goal.returns-clause-gives
returns-clause-gives c fed given h =
    let s = c.self.inside in
    let start = c.in-Some.start in
    let begins : BeginsScan s.settings c.tried.result.now c.begin_scan.new.state start.left.items start.rows =
    search rules in
    begun-fed s.settings s.has_ended c.begin_scan.new.state start.rows c.put_ahead-2.new.place (all_unread s.unread)
    c.tried.result.now start.left.items (all_unread c.put_back.new.self) fed given
    (all-tried s.unread c.widen_to_all.new.self c.tried.result.now c.in_ok-widen_to_all.ensures.all c.tried.ensures)
    (put-all start.left.items c.put_back.new.self c.put_back.ensures) c.put_ahead-2.ensures begins (at-state c.args.self.now _ fed given ahead.Start c.self.view_is h)

pub returns-clause-fewer : goal.returns-clause-fewer
returns-clause-fewer c =
    let s = c.self.inside in
    let start = c.in-Some.start in
    let most : length start.left.items ≤ length c.tried.result.now = search rules in
    let less = begun-calls start.rows c.put_ahead-2.new.place s.unread c.widen_to_all.new.self c.put_back.new.self
    c.tried.result.now start.left.items c.put_ahead-2.ensures c.in_ok-widen_to_all.ensures.all c.tried.ensures
    c.put_back.ensures most in
    λ _. first-less c.args.self.now _ _ c.self.view_is less

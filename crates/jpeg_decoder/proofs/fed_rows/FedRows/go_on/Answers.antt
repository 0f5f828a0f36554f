use Rattle.std.proofs.Common.{rules, ◌≡◌, [], ◌++◌, List, ℕ}
use Rattle.jpeg_decoder.specs.FedRows.{HasScan, all_unread, fed_start}
use Rattle.jpeg_decoder.specs.declared.fed_rows.Ahead.TheVariants as ahead
use Rattle.jpeg_decoder.proofs.ByRows.FedLines.{all-tried, at-state, ended-refused, fed-end, fed-last, last-fed, left-all}
use Rattle.jpeg_decoder.proofs.ByRows.FedLines.{cleared, ended-fed, gives-scan, none-goes, ready-scan, scan-of, some-goes}
use Rattle.jpeg_decoder.proofs.ByRows.FedLines.{some-shown, waits-scan}
use Rattle.jpeg_decoder.proofs.ByRows.LaterRows.{scan-anywhere}
use Rattle.jpeg_decoder.proofs.fed_rows.FedRows.go_on.Goals as goal

pub read_on-requires : goal.read_on-requires
read_on-requires c =
    let s = c.self.inside in
    record {
      scan = scan-anywhere s.settings s.state c.args.rows [] c.tried.result.now
          (scan-of c.args.self.now _ c.args.rows c.self.view_is c.requires.scan);
    }

pub returns-then-not-self-clause-gives : goal.returns-then-not-self-clause-gives
returns-then-not-self-clause-gives c fed given h =
    let s = c.self.inside in
    let lines = c.clear.new.self in
    waits-scan s.settings s.has_ended s.state (all_unread s.unread) fed given c.args.rows lines
    c.put_ahead-then-not-self.new.place c.if-not-self.true c.put_ahead-then-not-self.ensures c.clear.ensures.items
    (at-state c.args.self.now _ fed given (ahead.Scan c.args.rows) c.self.view_is h)

pub invariant_of-self : goal.invariant_of-self
invariant_of-self c =
    let s = c.self.inside in
    ready-scan s.settings s.state (cleared c.args.rows c.clear.new.self) [] c.put_ahead-then-not-self.new.place
    c.put_ahead-then-not-self.ensures (some-shown s.settings s.state c.args.rows c.clear.new.self []
    c.clear.ensures.items (scan-of c.args.self.now _ c.args.rows c.self.view_is c.requires.scan))

pub returns-in-Err-clause-gives : goal.returns-in-Err-clause-gives
returns-in-Err-clause-gives c fed given h =
    let s = c.self.inside in
    ended-refused c.in-Err.error s.settings s.has_ended fed given
    c.read_on.new.rows.walk.budget.exceeded c.if-not-self.false
    (c.in-Err.ensures.goes (fed_start s.settings fed) given
    (fed-last s.settings s.state c.args.rows (all_unread s.unread) c.tried.result.now fed given
    (all-tried s.unread c.widen_to_all.new.self c.tried.result.now c.in_ok-widen_to_all.ensures.all c.tried.ensures)
    (fed-end s.settings s.has_ended s.state (all_unread s.unread) fed given (ahead.Scan c.args.rows)
    (at-state c.args.self.now _ fed given (ahead.Scan c.args.rows) c.self.view_is h))))

pub returns-in_default-clause-gives : goal.returns-in_default-clause-gives
returns-in_default-clause-gives c fed given h =
    let s = c.self.inside in (
      c.if-not-self.false,
      none-goes (fed_start s.settings fed) s.settings given c.in-Ok.read c.read_on.new.state c.read_on.new.rows
          (search rules) (c.in-Ok.ensures.goes (fed_start s.settings fed) given
          (fed-last s.settings s.state c.args.rows (all_unread s.unread) c.tried.result.now fed given
          (all-tried s.unread c.widen_to_all.new.self c.tried.result.now c.in_ok-widen_to_all.ensures.all c.tried.ensures)
          (fed-end s.settings s.has_ended s.state (all_unread s.unread) fed given (ahead.Scan c.args.rows)
          (at-state c.args.self.now _ fed given (ahead.Scan c.args.rows) c.self.view_is h)))),
    )

pub invariant_of-self-2 : goal.invariant_of-self-2
invariant_of-self-2 c =
    let s = c.self.inside in
    let scan : HasScan s.settings c.read_on.new.state c.read_on.new.rows c.in-Some.left.items = search rules in
    ready-scan s.settings c.read_on.new.state c.read_on.new.rows c.in-Some.left.items c.put_ahead-2.new.place
    c.put_ahead-2.ensures scan

pub returns-clause-gives : goal.returns-clause-gives
returns-clause-gives c fed given h =
    let s = c.self.inside in
    let found = c.read_on.new.state in
    let rows = c.read_on.new.rows in
    let left = c.in-Some.left in
    let all = given ++ rows.giver.lines.items in
    gives-scan s.settings s.has_ended found (all_unread c.leave.new.self) (left.items ++ []) fed given rows
    c.put_ahead-2.new.place
    (left-all s.unread c.widen_to_all.new.self c.leave.new.self left.items c.in_ok-widen_to_all.ensures.all
    c.leave.ensures) c.put_ahead-2.ensures
    (ended-fed s.settings s.has_ended found (left.items ++ []) fed all (ahead.Scan rows) c.if-not-self.false
    (last-fed s.settings found rows left.items fed all
    (some-goes (fed_start s.settings fed) s.settings given c.in-Ok.read found rows left (search rules)
    (c.in-Ok.ensures.goes (fed_start s.settings fed) given
    (fed-last s.settings s.state c.args.rows (all_unread s.unread) c.tried.result.now fed given
    (all-tried s.unread c.widen_to_all.new.self c.tried.result.now c.in_ok-widen_to_all.ensures.all c.tried.ensures)
    (fed-end s.settings s.has_ended s.state (all_unread s.unread) fed given (ahead.Scan c.args.rows)
    (at-state c.args.self.now _ fed given (ahead.Scan c.args.rows) c.self.view_is h)))))))

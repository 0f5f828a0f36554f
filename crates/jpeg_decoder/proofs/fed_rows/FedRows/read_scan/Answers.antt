use Rattle.std.proofs.Common.{rules, ◌≡◌, ◌∙◌, ◌++◌, [], ap, append-nil, inl, List, Ok, refl, subst, ℕ}
use Rattle.std.proofs.lemmas.Result.{err_from_is_err_and}
use Rattle.jpeg_decoder.specs.FedRows.{all_unread}
use Rattle.jpeg_decoder.specs.declared.fed_rows.Ahead.TheVariants as ahead
use Rattle.jpeg_decoder.proofs.ByRows.FedLines.{FedAhead, at-state, gives-scan, scan-of}
use Rattle.jpeg_decoder.proofs.fed_rows.FedRows.read_scan.Goals as goal
use Rattle.jpeg_decoder.proofs.fed_rows.FedRows.read_scan.Goals.{else-not-self-via-then-not-self+else-len-self}
use Rattle.jpeg_decoder.proofs.fed_rows.FedRows.read_scan.Goals.{else-not-self-via-else-not-self}

pub returns-then-not-has_more-clause-gives : goal.returns-then-not-has_more-clause-gives
returns-then-not-has_more-clause-gives c fed given h =
    c.go_on.ensures.gives fed given (at-state c.args.self.now _ fed given (ahead.Scan c.args.rows) c.self.view_is h)

pub returns-then-len-self-clause-gives : goal.returns-then-len-self-clause-gives
returns-then-len-self-clause-gives c fed given h =
    c.go_on-then-len-self.ensures.gives fed given
    (at-state c.args.self.now _ fed given (ahead.Scan c.args.rows) c.self.view_is h)

pub try_row-requires-clause-scan : goal.try_row-requires-clause-scan
try_row-requires-clause-scan c = elim c.else-not-self.branch [
  | else-not-self-via-then-not-self+else-len-self w ↦ scan-of _ c.else-not-self.self c.args.rows w.self-is
      (scan-of c.args.self.now _ c.args.rows c.self.view_is c.requires.scan)
  | else-not-self-via-else-not-self w ↦ scan-of _ c.else-not-self.self c.args.rows w.self-is
      (scan-of c.args.self.now _ c.args.rows c.self.view_is c.requires.scan)
]

pub returns-in_err-try_row-clause-gives : goal.returns-in_err-try_row-clause-gives
returns-in_err-try_row-clause-gives c fed given h =
    let p = err_from_is_err_and c.from_residual.result c.from_residual.ensures.1 in
    rw (p.1, p.2) (inl c.in_err-try_row.ensures.err)

pub returns-then-branch-clause-gives : goal.returns-then-branch-clause-gives
returns-then-branch-clause-gives c fed given h =
    let t = c.self-2.inside in
    let rows = c.try_row.new.rows in
    let was : FedAhead c.else-not-self.self fed given (ahead.Scan c.args.rows) = elim c.else-not-self.branch [
      | else-not-self-via-then-not-self+else-len-self w ↦ at-state _ c.else-not-self.self fed given
          (ahead.Scan c.args.rows) w.self-is
          (at-state c.args.self.now _ fed given (ahead.Scan c.args.rows) c.self.view_is h)
      | else-not-self-via-else-not-self w ↦ at-state _ c.else-not-self.self fed given
          (ahead.Scan c.args.rows) w.self-is
          (at-state c.args.self.now _ fed given (ahead.Scan c.args.rows) c.self.view_is h)
    ] in
    gives-scan t.settings t.has_ended t.state (all_unread t.unread) (all_unread t.unread) fed given rows
    c.put_ahead-then-branch.new.place refl c.put_ahead-then-branch.ensures
    (at-state c.try_row.new.self _ fed (given ++ rows.giver.lines.items) (ahead.Scan rows) c.self-2.view_is
    (c.in_ok-try_row.ensures.gives fed given was))

pub returns-clause-gives : goal.returns-clause-gives
returns-clause-gives c fed given h =
    let rows = c.try_row.new.rows in
    let was : FedAhead c.else-not-self.self fed given (ahead.Scan c.args.rows) = elim c.else-not-self.branch [
      | else-not-self-via-then-not-self+else-len-self w ↦ at-state _ c.else-not-self.self fed given
          (ahead.Scan c.args.rows) w.self-is
          (at-state c.args.self.now _ fed given (ahead.Scan c.args.rows) c.self.view_is h)
      | else-not-self-via-else-not-self w ↦ at-state _ c.else-not-self.self fed given
          (ahead.Scan c.args.rows) w.self-is
          (at-state c.args.self.now _ fed given (ahead.Scan c.args.rows) c.self.view_is h)
    ] in
    let none : rows.giver.lines.items ≡ [] = c.in_ok-try_row.ensures.none (ap Ok c.if-branch.false) in
    c.go_on-2.ensures.gives fed given (at-state c.try_row.new.self _ fed given (ahead.Scan rows) c.self-2.view_is
    (subst (λ (g : List ℕ). FedAhead c.try_row.new.self fed g (ahead.Scan rows))
    (ap (λ (l : List ℕ). given ++ l) none ∙ append-nil given) (c.in_ok-try_row.ensures.gives fed given was)))

use Rattle.std.proofs.Common.{◌++◌}
use Rattle.std.proofs.lemmas.Result.{err_from_is_err_and}
use Rattle.jpeg_decoder.specs.Bytes.{shape_in}
use Rattle.jpeg_decoder.proofs.ByRows.NextRows.{at-decoder, gives-none, gives-row, giving-row, giving-whole}
use Rattle.jpeg_decoder.proofs.ByRows.WholeLines.{no-line}
use Rattle.jpeg_decoder.proofs.rows.Rows.read_scan.Goals as goal

-- ---- a refusal

pub returns-in_err-read_lines-clause-gives : goal.returns-in_err-read_lines-clause-gives
returns-in_err-read_lines-clause-gives g c =
    let p = err_from_is_err_and c.from_residual.result c.from_residual.ensures.1 in
    rw (p.1, p.2) (λ start bytes h. c.in_err-read_lines.ensures.gives start bytes
    (at-decoder c.args.self.now c.self.inside.decoder c.self.inside.ahead c.args.rows start bytes c.self.view_is h))

-- ---- the end

pub returns-then-not-branch-clause-gives : goal.returns-then-not-branch-clause-gives
returns-then-not-branch-clause-gives g c start bytes h =
    gives-none start bytes c.in_ok-read_lines.field-0 _ c.read_lines.new.rows c.if-not-branch.true
    (c.in_ok-read_lines.ensures.gives start bytes (at-decoder c.args.self.now c.self.inside.decoder
    c.self.inside.ahead c.args.rows start bytes c.self.view_is h))

-- ---- a row

pub invariant_of-self-2 : goal.invariant_of-self-2
invariant_of-self-2 g c =
    giving-row c.requires.giving.start (c.requires.giving.bytes ++ c.read_lines.new.rows.giver.lines.items) _ _
    (gives-row c.requires.giving.start c.requires.giving.bytes c.in_ok-read_lines.field-0 _ c.read_lines.new.rows
    c.if-not-branch.false (c.in_ok-read_lines.ensures.gives c.requires.giving.start c.requires.giving.bytes
    (at-decoder c.args.self.now c.self.inside.decoder c.self.inside.ahead c.args.rows c.requires.giving.start
    c.requires.giving.bytes c.self.view_is c.requires.giving.is)))

pub returns-clause-gives : goal.returns-clause-gives
returns-clause-gives g c start bytes h =
    gives-row start bytes c.in_ok-read_lines.field-0 _ c.read_lines.new.rows c.if-not-branch.false
    (c.in_ok-read_lines.ensures.gives start bytes (at-decoder c.args.self.now c.self.inside.decoder
    c.self.inside.ahead c.args.rows start bytes c.self.view_is h))

-- ---- whole lines

pub returns-in_err-read_lines-clause-whole : goal.returns-in_err-read_lines-clause-whole
returns-in_err-read_lines-clause-whole g c =
    let p = err_from_is_err_and c.from_residual.result c.from_residual.ensures.1 in
    rw p.1 tt

pub returns-then-not-branch-clause-whole : goal.returns-then-not-branch-clause-whole
returns-then-not-branch-clause-whole g c = no-line (shape_in c.read_lines.new.self)

pub returns-clause-whole : goal.returns-clause-whole
returns-clause-whole g c =
    giving-whole c.requires.giving.start c.read_lines.new.self c.read_lines.new.rows
    (c.requires.giving.bytes ++ c.read_lines.new.rows.giver.lines.items)
    (gives-row c.requires.giving.start c.requires.giving.bytes c.in_ok-read_lines.field-0 _ c.read_lines.new.rows
    c.if-not-branch.false (c.in_ok-read_lines.ensures.gives c.requires.giving.start c.requires.giving.bytes
    (at-decoder c.args.self.now c.self.inside.decoder c.self.inside.ahead c.args.rows c.requires.giving.start
    c.requires.giving.bytes c.self.view_is c.requires.giving.is)))

use Rattle.std.proofs.Common.{rules, ◌+◌, ℕ, ◌∙◌, subst, Option}
use Rattle.zaxbriar_strict.specs.Heads.{pass_in}
use Rattle.zaxbriar_strict.specs.Progress.{NotesBand}
use Rattle.zaxbriar_strict.proofs.NotedBands.{level-given, pass-noted, spans}
use Rattle.zaxbriar_strict.proofs.scan.Scan.note_progress.Goals as goal

pub returns-clause-noted : goal.returns-clause-noted
returns-clause-noted c = λ part.
    let x = c.args.self.now in
    let p = pass_in x in
    let old = c.args.component.now.lowest in
    let new = c.note_band.new.lowest in
    let same = c.level_before-before.ensures ∙ level-given x.high x.low part.high in
    pass-noted p old new part.banded (search rules) (search rules)
    (subst (λ (o : Option ℕ). NotesBand x.first (x.last + 1) o x.low old new) same
    (c.in_ok-note_band.ensures (spans p part.banded)))

use Rattle.std.proofs.Common.{◌∙◌, sym}
use Rattle.std.specs.List.{concat}
use Rattle.zaxbriar_calls.proofs.Parts.{lacks-rest}
use Rattle.zaxbriar_calls.proofs.decode.read_part.Goals as goal

pub returns-else-has_read_failed-clause-named : goal.returns-else-has_read_failed-clause-named
returns-else-has_read_failed-clause-named c known =
    lacks-rest (λ p. concat p.lines) (λ p. p.fault) c.args.decoder.now c.show_part.new.decoder c.in-Err.error
    c.refusal_of.result c.requires.read (sym c.has_read_failed.ensures ∙ c.if-has_read_failed.false)
    c.refusal_of.ensures c.in-Err.ensures.shows
    c.in-Err.ensures.shows.given_up known

use Rattle.std.proofs.Common.{◌∙◌, None, rules, sym, ap}
use Rattle.jpeg_meaning.specs.Stream.{told_of}
use Rattle.jpeg_meaning.specs.Reported.{IsOfTurns}
use Rattle.jpeg_meaning.specs.Found.{Found, nothing_found}
use Rattle.jpeg_meaning.proofs.Soundness.{nothing-framed}
use Rattle.jpeg_meaning.proofs.Refusals.{told-through, turns-none}
use Rattle.jpeg_decoder.proofs.Partial.Refused.{on-told}
use Rattle.jpeg_decoder.proofs.Segments.Turns.{told-start}
use Rattle.jpeg_decoder.proofs.picture.whole.read_header.Goals as goal

pub returns-clause-told : goal.returns-clause-told
returns-clause-told g c =
    let told = on-told c.read_start.new.source c.read_segments.new.source c.read_segments.result (λ l. l.0)
    c.read_segments.ensures.leaves in
    search (rules, told-through, told-start, told)

pub returns-in_err-read_start-clause-turns : goal.returns-in_err-read_start-clause-turns
unfolding IsOfTurns nothing_found
returns-in_err-read_start-clause-turns g c k = (0, ap (λ (f : Found). told_of f.said) c.requires ∙ sym (turns-none None _ _))

pub returns-clause-unread : goal.returns-clause-unread
returns-clause-unread g c = search (rules, nothing-framed)

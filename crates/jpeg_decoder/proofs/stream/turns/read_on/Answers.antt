use Rattle.jpeg_decoder.specs.Walks.{known_if}
use Rattle.jpeg_decoder.proofs.Partial.Refused.{on-refusal}
use Rattle.jpeg_decoder.proofs.stream.turns.read_on.Goals as goal

pub returns-clause-told : goal.returns-clause-told
returns-clause-told g c k h =
    on-refusal (known_if k c.args.source.now) c.read_from.new.source c.read_from.result (λ l. l.0)
    (c.read_from.ensures.leaves k h)

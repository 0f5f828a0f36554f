use Rattle.zaxbriar_calls.proofs.metadata.read_metadata.Goals as goal

pub returns-clause-unsaid : goal.returns-clause-unsaid
returns-clause-unsaid c = rw c.in_ok-decoder.ensures.bytes at c.copy_told.ensures.unsaid

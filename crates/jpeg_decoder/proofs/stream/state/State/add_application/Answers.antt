use Rattle.std.proofs.Common.{arith}
use Rattle.std.proofs.lemmas.Grind.{common_steps}
use Rattle.jpeg_meaning.proofs.ProfileLemmas.{application-read}
use Rattle.jpeg_decoder.proofs.stream.state.State.add_application.Goals as goal

pub returns-clause-reads : goal.returns-clause-reads
returns-clause-reads g c = grind (arith, common_steps, application-read)

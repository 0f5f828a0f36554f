use Rattle.jpeg_evidence.proofs.Taken.TakenBits.{number_taken}
use Rattle.jpeg_evidence.proofs.Taken.TakenValues.{value_taken}
use Rattle.jpeg_evidence.proofs.read_back.bits_taken_are_written.Goals as goal

pub returns-clause-numbers : goal.returns-clause-numbers
returns-clause-numbers c = λ n bits v left. number_taken

pub returns-clause-values : goal.returns-clause-values
returns-clause-values c = λ s bits u left. value_taken

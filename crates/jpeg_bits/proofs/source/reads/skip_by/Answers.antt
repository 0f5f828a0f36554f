use Rattle.std.proofs.Common.{arith}
use Rattle.std.proofs.lemmas.Result.{err_from_is_err_and}
use Rattle.jpeg_bits.proofs.Filled.{skip-refused}
use Rattle.std.proofs.lemmas.Grind.{common_steps}
use Rattle.jpeg_bits.proofs.source.reads.skip_by.Goals as goal

pub returns-in_err-read_exact-clause-answers : goal.returns-in_err-read_exact-clause-answers
returns-in_err-read_exact-clause-answers g c = grind (arith, common_steps, err_from_is_err_and, skip-refused)

use Rattle.std.proofs.Common.{arith}
use Rattle.std.proofs.lemmas.Bool.Decides.{nat_tests}
use Rattle.jpeg_bits.proofs.PlainBytes.{no_ff}
use Rattle.jpeg_bits.proofs.source.buffer.has_no_ff.Goals as goal

pub returns : goal.returns
returns c = λ is. no_ff c.args.word c.ranges.word.fits (grind (arith, nat_tests))

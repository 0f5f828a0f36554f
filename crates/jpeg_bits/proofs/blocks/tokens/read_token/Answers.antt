use Rattle.std.proofs.Common.{rules, arith}
use Rattle.std.proofs.lemmas.Int.{to_z-of_z}
use Rattle.jpeg_bits.proofs.BufferedBits.{ok_unit}
use Rattle.jpeg_bits.proofs.WideTokens.{wide-taken, Token-of-code, Token-no-code}
use Rattle.std.proofs.lemmas.Grind.{common_steps}
use Rattle.jpeg_bits.proofs.blocks.tokens.read_token.Goals as goal

pub returns-then-has-clause-token : goal.returns-then-has-clause-token
returns-then-has-clause-token g c = grind (arith, common_steps, ok_unit, to_z-of_z, wide-taken)

pub returns-in_default-take_buffered_code-clause-token :
    goal.returns-in_default-take_buffered_code-clause-token
returns-in_default-take_buffered_code-clause-token g c = search (rules, Token-no-code)

pub returns-clause-token : goal.returns-clause-token
returns-clause-token g c = search (rules, Token-of-code)

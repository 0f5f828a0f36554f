use Rattle.jpeg_bits.specs.Codes.{code_lengths}
use Rattle.jpeg_bits.proofs.Tables.{all-rising, only-code, finds}
use Rattle.jpeg_bits.proofs.laws.codes_are_unique.Goals as goal

pub returns-clause-only : goal.returns-clause-only
returns-clause-only c = λ counts bits i j h long. only-code 1 16 (code_lengths counts) (all-rising counts h) bits long i
    j

pub returns-clause-found : goal.returns-clause-found
returns-clause-found c = λ counts bits i h long. finds 1 16 (code_lengths counts) (all-rising counts h) bits long i

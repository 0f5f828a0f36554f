use Rattle.jpeg_meaning.proofs.Pictures.PaddingUnseen.{taken-inside}
use Rattle.jpeg_decoder.proofs.laws.lossless.lossless_padding_is_not_seen.Goals as goal

pub returns-clause-taken : goal.returns-clause-taken
returns-clause-taken c = taken-inside

use Rattle.jpeg_meaning.proofs.Written.WrittenParts.{also-written, unseen-padding}
use Rattle.jpeg_decoder.proofs.laws.headline.padding_is_not_seen.Goals as goal

pub returns : goal.returns
returns c = record { written = also-written; pictured = unseen-padding }

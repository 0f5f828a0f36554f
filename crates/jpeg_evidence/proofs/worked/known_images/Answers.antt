use Rattle.std.proofs.Common.{refl}
use Rattle.jpeg_meaning.proofs.OnLiterals.{streams_on_literals}
use Rattle.jpeg_evidence.proofs.worked.known_images.Goals as goal

pub returns : goal.returns
unfolding streams_on_literals
returns c = record { grey = refl; colour = refl }

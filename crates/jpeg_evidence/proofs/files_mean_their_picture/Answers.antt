-- computed on the bytes of the files
use Rattle.std.proofs.Common.{refl}
use Rattle.jpeg_meaning.proofs.OnLiterals.{streams_on_literals}
use Rattle.jpeg_evidence.proofs.files_mean_their_picture.Goals as goal

pub returns : goal.returns
unfolding streams_on_literals
returns c = record { sequential = refl; progressive = refl }

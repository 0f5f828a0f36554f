-- What an answer unfolds to compute the definitions of all streams, those of lossless ones among them, on a literal.
use Rattle.std.specs.Prelude.{⊤}
use Rattle.jpeg_meaning.proofs.OnLiterals.{samples_on_literals, streams_on_literals}

unfoldable pub all_on_literals : ⊤
unfolding samples_on_literals streams_on_literals
all_on_literals = tt

use Rattle.std.proofs.Common.{refl}
use Rattle.jpeg_meaning.proofs.OnLiterals.{streams_on_literals}
use Rattle.jpeg_evidence.proofs.worked.known_orders.Goals as goal

pub returns : goal.returns
unfolding streams_on_literals
returns c = record { mcu = refl; own = refl; own_at_an_eighth = refl }

use Rattle.jpeg_meaning.proofs.Order.Apart.{spots-apart}
use Rattle.jpeg_meaning.proofs.Longer.LongerBlocks.{blocks_stay, reached_are_read}
use Rattle.jpeg_meaning.proofs.Longer.LongerScans.{longer_data_read_on}
use Rattle.jpeg_evidence.proofs.longer_streams.blocks_of_shorter_data_stay.Goals as goal

pub returns-clause-apart : goal.returns-clause-apart
returns-clause-apart c = spots-apart

pub returns-clause-stay : goal.returns-clause-stay
returns-clause-stay c =
    λ p n vias spots arrays bytes more apart. blocks_stay spots arrays _ _ apart
    (longer_data_read_on p n vias spots arrays bytes more)

pub returns-clause-meant : goal.returns-clause-meant
returns-clause-meant c = reached_are_read

use Rattle.jpeg_meaning.proofs.Longer.LongerTurns.{ended_streams_stay, longer_streams_go_on}
use Rattle.jpeg_evidence.proofs.longer_streams.longer_streams_go_on.Goals as goal

-- src/longer_streams.rt:40:1
pub returns-clause-ended : goal.returns-clause-ended
returns-clause-ended c = ended_streams_stay

-- src/longer_streams.rt:40:1
pub returns-clause-stopped : goal.returns-clause-stopped
returns-clause-stopped c = longer_streams_go_on

use Rattle.jpeg_evidence.proofs.Rows.FinalRows.{rows_are_final, streams_are_final}
use Rattle.jpeg_evidence.proofs.complete_rows.complete_rows_of_sequential_streams_are_final.Goals as goal

pub returns-clause-rest : goal.returns-clause-rest
returns-clause-rest c = rows_are_final

pub returns-clause-streams : goal.returns-clause-streams
returns-clause-streams c = streams_are_final

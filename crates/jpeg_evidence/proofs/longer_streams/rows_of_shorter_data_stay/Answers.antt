use Rattle.jpeg_meaning.proofs.Longer.LongerRows.{longer_rows_go_on}
use Rattle.jpeg_meaning.proofs.Longer.LongerSamples.{reached_rows_are_read, samples_go_on}
use Rattle.jpeg_evidence.proofs.longer_streams.rows_of_shorter_data_stay.Goals as goal

pub returns-clause-stay : goal.returns-clause-stay
returns-clause-stay c = longer_rows_go_on

pub returns-clause-samples : goal.returns-clause-samples
returns-clause-samples c = samples_go_on

pub returns-clause-meant : goal.returns-clause-meant
returns-clause-meant c = reached_rows_are_read

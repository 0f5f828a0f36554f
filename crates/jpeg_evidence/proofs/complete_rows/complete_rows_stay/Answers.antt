use Rattle.jpeg_evidence.proofs.Rows.StreamRows.{complete_rows_stay}
use Rattle.jpeg_evidence.proofs.complete_rows.complete_rows_stay.Goals as goal

pub returns : goal.returns
returns c = complete_rows_stay

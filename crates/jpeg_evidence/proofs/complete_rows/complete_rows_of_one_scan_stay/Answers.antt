use Rattle.jpeg_evidence.proofs.Rows.FinalRows.{rows_of_one_scan_stay}
use Rattle.jpeg_evidence.proofs.complete_rows.complete_rows_of_one_scan_stay.Goals as goal

pub returns : goal.returns
returns c = rows_of_one_scan_stay

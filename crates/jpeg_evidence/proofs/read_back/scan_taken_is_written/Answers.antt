use Rattle.jpeg_evidence.proofs.Taken.ReadScans.{interval_read}
use Rattle.jpeg_evidence.proofs.read_back.scan_taken_is_written.Goals as goal

pub returns-clause-interval : goal.returns-clause-interval
returns-clause-interval c = interval_read

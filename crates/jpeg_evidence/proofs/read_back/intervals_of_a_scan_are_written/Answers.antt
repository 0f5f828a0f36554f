use Rattle.jpeg_evidence.proofs.Taken.TakenScans.{another_interval}
use Rattle.jpeg_evidence.proofs.read_back.intervals_of_a_scan_are_written.Goals as goal

pub returns-clause-another : goal.returns-clause-another
returns-clause-another c = another_interval

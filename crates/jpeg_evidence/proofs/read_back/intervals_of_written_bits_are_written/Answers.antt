use Rattle.jpeg_evidence.proofs.Taken.TakenScans.{interval_taken}
use Rattle.jpeg_evidence.proofs.read_back.intervals_of_written_bits_are_written.Goals as goal

pub returns : goal.returns
returns c = interval_taken

-- tested on the bytes of the file
use Rattle.std.proofs.Common.{refl}
use Rattle.jpeg_meaning.proofs.Tested.TestedData.{given}
use Rattle.jpeg_meaning.proofs.Tested.TestedStreams.{samples_for, written_on_literals}
use Rattle.jpeg_evidence.specs.Files.{lines_of_file, lossless_file}
use Rattle.jpeg_evidence.proofs.lossless_file_is_written.Goals as goal

pub returns : goal.returns
unfolding written_on_literals lines_of_file
returns c = given (samples_for lines_of_file lossless_file) refl

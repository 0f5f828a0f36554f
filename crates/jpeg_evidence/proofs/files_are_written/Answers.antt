-- tested on the bytes of the files
use Rattle.std.proofs.Common.{ℕ, refl}
use Rattle.jpeg_meaning.specs.Levels.{Is8Bit}
use Rattle.jpeg_meaning.proofs.Tested.TestedData.{given}
use Rattle.jpeg_meaning.proofs.Tested.TestedStreams.{image_for, blocks-in, written_on_literals}
use Rattle.jpeg_evidence.specs.Files.{blocks_of_files, coefficients_of_files, progressive_file, sequential_file}
use Rattle.jpeg_evidence.proofs.files_are_written.Goals as goal

in-range : (index row column : ℕ) → Is8Bit (coefficients_of_files index row column)
unfolding coefficients_of_files
in-range = blocks-in blocks_of_files refl

pub returns : goal.returns
unfolding written_on_literals coefficients_of_files
returns c = record {
  sequential = given (image_for coefficients_of_files in-range sequential_file) refl;
  progressive = given (image_for coefficients_of_files in-range progressive_file) refl;
}

-- tested on the bytes of the streams
use Rattle.std.proofs.Common.{ℕ, refl}
use Rattle.jpeg_meaning.specs.Levels.{Is8Bit}
use Rattle.jpeg_meaning.proofs.Tested.TestedData.{given}
use Rattle.jpeg_meaning.proofs.Tested.TestedStreams.{image_for, blocks-in, written_on_literals}
use Rattle.jpeg_evidence.specs.Extremes.{extreme_array, extreme_blocks, extreme_progressive, extreme_sequential}
use Rattle.jpeg_evidence.proofs.extremes.extremes_are_written.Goals as goal

in-range : (index row column : ℕ) → Is8Bit (extreme_array index row column)
unfolding extreme_array
in-range = blocks-in extreme_blocks refl

pub returns : goal.returns
unfolding written_on_literals extreme_array
returns c = record {
  range = in-range;
  sequential = given (image_for extreme_array in-range extreme_sequential) refl;
  progressive = given (image_for extreme_array in-range extreme_progressive) refl;
}

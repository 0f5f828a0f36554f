-- tested on the bytes of the stream
use Rattle.std.proofs.Common.{[], ℕ, refl}
use Rattle.jpeg_meaning.specs.Levels.{Is8Bit}
use Rattle.jpeg_meaning.proofs.Tested.TestedData.{given}
use Rattle.jpeg_meaning.proofs.Tested.TestedStreams.{image_for, blocks-in, written_on_literals}
use Rattle.jpeg_evidence.specs.Departures.{code_of_ones, no_coefficients}
use Rattle.jpeg_evidence.proofs.departures.written_streams_may_depart.Goals as goal

in-range : (index row column : ℕ) → Is8Bit (no_coefficients index row column)
unfolding no_coefficients
in-range = blocks-in [] refl

pub returns : goal.returns
unfolding written_on_literals no_coefficients
returns c = given (image_for no_coefficients in-range code_of_ones) refl

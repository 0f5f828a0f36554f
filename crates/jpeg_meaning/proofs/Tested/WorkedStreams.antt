-- The streams that are worked by hand are written: their tests compute.
use Rattle.std.proofs.Common.{rules, ◌≡◌, zero, suc, ◌==◌, Bool, true, false, List, [], ◌∷◌, pos, negsuc, Option}
use Rattle.std.proofs.Common.{Some, None, refl}
use Rattle.std.proofs.lemmas.Bool.{eqb-true}
use Rattle.std.specs.Prelude.{drop, get_or, slice_get}
use Rattle.jpeg_bits.specs.Passes.{Block}
use Rattle.jpeg_segments.specs.Frame.{Component, Frame}
use Rattle.jpeg_meaning.specs.Order.{grid_of}
use Rattle.jpeg_meaning.specs.WorkedImages.{IsWhollyWritten, colour_array, colour_blocks, colour_bytes, flat_block}
use Rattle.jpeg_meaning.specs.WorkedImages.{grey_array, grey_blocks, grey_bytes, in_column}
use Rattle.jpeg_meaning.specs.WorkedSamples.{AreWritten, padded_bytes, padded_samples, three_bytes, three_samples}
use Rattle.jpeg_meaning.specs.WrittenParts.{AgreeOnOwn}
use Rattle.jpeg_meaning.specs.WrittenScans.{Coefficients}
use Rattle.jpeg_meaning.proofs.Tested.TestedData.{◌>>=◌, given, when}
use Rattle.jpeg_meaning.proofs.Tested.TestedStreams.{image_for, samples_for, lines-in, range-in, written_on_literals}
use Rattle.jpeg_meaning.proofs.Written.WrittenParts.{also-written}

pub grey-written : IsWhollyWritten grey_array grey_bytes
unfolding written_on_literals
grey-written = given (image_for grey_array (λ index row column. range-in grey_blocks refl column) grey_bytes) refl

-- ---- the padding that the colour stream sends

abbrev sent_blocks : List (List Block)
sent_blocks =
    (flat_block (pos 8) ∷ flat_block (negsuc 0) ∷ flat_block (pos 9) ∷ flat_block (negsuc 0) ∷ [])
    ∷ drop 1 colour_blocks

abbrev sent_array : Coefficients
sent_array index row column = in_column (get_or sent_blocks index []) column

-- three blocks of a component are its own in a line
abbrev has_three : Option Component → Bool
has_three None = false
has_three (Some c) = (grid_of c).own_wide == 3

agree : (frame : Frame) → has_three (slice_get frame.components 0) ≡ true → AgreeOnOwn frame sent_array colour_array
agree frame is zero row (suc (suc (suc column))) c e high wide = search (rules, eqb-true)
agree frame is index row column c e high wide = refl

abbrev colour_for : Option (IsWhollyWritten colour_array colour_bytes)
colour_for = do
  w ← image_for sent_array (λ index row column. lines-in sent_blocks refl index column) colour_bytes
  three ← when (has_three (slice_get w.frame.components 0))
  Some (record {
    final = w.final;
    last = w.last;
    frame = w.frame;
    written = also-written sent_array _ _ w.final w.last w.frame w.written w.framed (agree w.frame three);
    framed = w.framed;
    complete = w.complete;
  })

pub colour-written : IsWhollyWritten colour_array colour_bytes
unfolding written_on_literals
colour-written = given colour_for refl

-- ---- lossless streams

pub three-written : AreWritten three_samples three_bytes
unfolding written_on_literals three_samples
three-written = given (samples_for three_samples three_bytes) refl

pub padding-written : AreWritten padded_samples padded_bytes
unfolding written_on_literals padded_samples
padding-written = given (samples_for padded_samples padded_bytes) refl

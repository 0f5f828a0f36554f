-- What the calls do together that decode what a decoder has left, and give its lines: see `Rows`.
use Rattle.std.specs.Prelude.{◌≡◌, ℕ, List, OnOk, Result, true}
use Rattle.jpeg_bits.specs.Reading.{Answers}
use Rattle.jpeg_bits.specs.declared.error.Error.{Error}
use Rattle.jpeg_meaning.specs.DecodedImages.{DecodesImages}
use Rattle.jpeg_meaning.specs.States.{Decoding, IsReading, MovesToEnd, ahead}
use Rattle.jpeg_meaning.specs.Stream.{told_of}
use Rattle.jpeg_meaning.specs.declared.progress.Progress.TheVariants.{HeaderRead}
use Rattle.jpeg_decoder.specs.ByRows.{rows_ahead}
use Rattle.jpeg_decoder.specs.Bytes.{IsWhole, shape_in}
use Rattle.jpeg_decoder.specs.FirstLines.{GivesFirstIf, lines_ahead}
use Rattle.jpeg_decoder.specs.Decodes.{IsTold, IsToldInTurns, KeepsNothing, KnowsExceeded}

-- These bytes are the lines that were given.
pub record DecodesRows (old : Decoding) (result : Result (Unit {0}) Error) (new : Decoding)
    (bytes : List ℕ) : Type 0 where
  -- The state table: an Ok finishes the decoder, a refusal fails it.
  pub stage : MovesToEnd old.stage new.stage result
  -- For any bytes, an Ok says that the lines are all of the picture that the bytes mean by T.81, and
  -- an error names their fault: that of `decode`, or that colours are said late.
  pub reads : IsReading old.stage → Answers (λ u. (told_of new.found.said, bytes))
      (rows_ahead old.stage old.settings old.found) old.source result new.source
  -- Where the bytes are written for the coefficients of an image, the lines are its picture.
  pub images : OnOk result (DecodesImages (λ u. bytes) old result new)
  -- And then they are given, unless memory runs out or the reader fails, if no colours are said
  -- late.
  pub settled : rows_ahead old.stage old.settings old.found old.source.bytes
      ≡ ahead old.stage old.settings old.found old.source.bytes
      → DecodesImages (λ u. bytes) old result new
  -- For any bytes, before an error they are the lines that the first rows of MCUs decide.
  pub given : IsReading old.stage → old.source.known ≡ true → GivesFirstIf
      (λ rows. lines_ahead old.stage old.settings old.found old.source.bytes rows) result
      new.source.known bytes
  -- They are as many bytes as the frame says.
  pub whole : OnOk result (IsWhole (shape_in new) bytes)
  -- The settings stay, and so does the frame that was read before.
  pub settings : new.settings ≡ old.settings
  pub stays : old.stage ≡ HeaderRead → new.found.said.frame ≡ old.found.said.frame
  pub told : IsTold old result new
  pub turns : IsToldInTurns old new
  pub exceeded : KnowsExceeded old result new
  pub emptied : KeepsNothing old new

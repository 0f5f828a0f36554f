-- What a run prints where its reader gives a stream that is written for coefficients.
use Rattle.std.specs.Prelude.{◌≡◌, ℕ, ◌++◌, List, Option, option_map, Result, Ok, MatchResult}
use Rattle.std.specs.Io.KnownBytes.{Appends}
use Rattle.jpeg_bits.specs.declared.error.Error.{Error}
use Rattle.jpeg_meaning.specs.ArrayPictures.{picture_of_array}
use Rattle.jpeg_meaning.specs.Levels.{Is8Bit, Levels}
use Rattle.jpeg_meaning.specs.Output.{default_settings, header_line_of, IsOutsideOrMemory}
use Rattle.jpeg_meaning.specs.Output.{TakesBeginning, Tells}
use Rattle.jpeg_meaning.specs.Pixels.{info_of}
use Rattle.jpeg_meaning.specs.Found.{Said}
use Rattle.jpeg_meaning.specs.WrittenImages.{WritesImage}
use Rattle.jpeg_meaning.specs.WrittenScans.{Coefficients}

-- A text is written whole; or the reader, the writer or memory fails, and what was written is a
-- beginning of it.
abbrev pub Prints : {X : Type 0} →
    List ℕ → Option (List ℕ) → Result X Error → Option (List ℕ) → Type 0
Prints text old result new =
    MatchResult result
    (λ _. Appends old new text)
    (λ e. IsOutsideOrMemory e × TakesBeginning old new text)

-- A run whose reader gives a stream that is written for the coefficients of 8-bit samples, and
-- anything after it, where the default settings take their picture, prints the picture's size and
-- format and then the picture, cut at the bits that were sent.
abbrev pub PrintsImages : {X : Type 0} →
    Option (List ℕ) → Option (List ℕ) → Result X Error → Option (List ℕ) → Type 0
PrintsImages remaining old result new =
    (array : Coefficients) (image rest picture : List ℕ) (final : Said) (last : ℕ → Levels) →
    ((index row column : ℕ) → Is8Bit (array index row column)) →
    WritesImage array image final last →
    picture_of_array default_settings final array last ≡ Ok picture →
    Tells remaining (image ++ rest) →
    Prints (header_line_of (option_map info_of final.frame) ++ picture) old result new

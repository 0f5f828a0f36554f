-- A run that prints the meaning of a stream prints images.
use Rattle.std.proofs.Common.{arith, refl, ◌≡◌, ◌∙◌, ℕ, ◌++◌, List, Option, Some, Result, Ok, IsSome}
use Rattle.std.specs.Prelude.{IfErr, IsSomeAnd, OnOk, option_map}
use Rattle.std.specs.Io.KnownBytes.{Appends}
use Rattle.jpeg_bits.specs.declared.error.Error.{Error}
use Rattle.jpeg_meaning.specs.ArrayPictures.{picture_of_array}
use Rattle.jpeg_meaning.specs.Levels.{Is8Bit, Levels}
use Rattle.jpeg_meaning.specs.Output.{default_settings, header_line_of, output_of, IsOutsideOrMemory, TakesBeginning}
use Rattle.jpeg_meaning.specs.Output.{Tells}
use Rattle.jpeg_meaning.specs.PrintedImages.{PrintsImages}
use Rattle.jpeg_meaning.specs.Pixels.{info_of}
use Rattle.jpeg_meaning.specs.Found.{Said}
use Rattle.jpeg_meaning.specs.Stream.{told_of}
use Rattle.jpeg_meaning.specs.WrittenImages.{WritesImage}
use Rattle.jpeg_meaning.specs.WrittenScans.{Coefficients}
use Rattle.jpeg_meaning.proofs.Refusals.{output-some}
use Rattle.jpeg_meaning.proofs.Written.ReadTurns.{then-ok}
use Rattle.jpeg_meaning.proofs.Written.WrittenPictures.{stream-means}

-- what is written for a stream of an image
pub image-output : (array : Coefficients) (image rest picture : List ℕ) (final : Said) (last : ℕ → Levels)
    → ((index row column : ℕ) → Is8Bit (array index row column)) → WritesImage array image final
    last
    → picture_of_array default_settings final array last ≡ Ok picture
    → output_of (image ++ rest) ≡ Some (header_line_of (option_map info_of final.frame) ++ picture)
image-output array image rest picture final last range w is =
    output-some (image ++ rest) rest (told_of final) picture
    (stream-means default_settings array image rest final last range w ∙ then-ok _ _ picture _ is refl)

pub prints-images : {X : Type 0} (remaining old new : Option (List ℕ)) (result : Result X Error)
    → ((bytes : List ℕ) → Tells remaining bytes → OnOk result (IsSomeAnd (output_of bytes) (Appends old new)))
    → ((bytes : List ℕ) → Tells remaining bytes → (text : List ℕ) → output_of bytes ≡ Some text
    → TakesBeginning old new text)
    → ((bytes : List ℕ) → Tells remaining bytes → IsSome (output_of bytes) → IfErr result IsOutsideOrMemory)
    → PrintsImages remaining old result new
prints-images remaining old new result ok beginning refused array image rest picture final last range w is tells =
    grind (arith, image-output array image rest picture final last range w is)

-- What a call of `decode` gives where its source has a stream that is written for coefficients.
use Rattle.std.specs.Prelude.{◌≡◌, ℕ, ◌++◌, List, true, false, Result, IsOk, Ok, MatchResult}
use Rattle.jpeg_bits.specs.Reading.{Fault, IsGivenUp}
use Rattle.jpeg_bits.specs.Stream.{Stream}
use Rattle.jpeg_bits.specs.declared.error.Error.{Error}
use Rattle.jpeg_bits.specs.declared.error.Error.TheVariants.{OutOfMemory}
use Rattle.jpeg_segments.specs.declared.scale.Scale.{Scale}
use Rattle.jpeg_meaning.specs.ArrayPictures.{as_sent, picture_of_blocks}
use Rattle.jpeg_meaning.specs.Levels.{Is8Bit, Levels}
use Rattle.jpeg_meaning.specs.Limits.{IsWithinLimit, work_ahead}
use Rattle.jpeg_meaning.specs.States.{Decoding}
use Rattle.jpeg_meaning.specs.declared.progress.Progress.{Progress}
use Rattle.jpeg_meaning.specs.declared.progress.Progress.TheVariants.{Fresh, HeaderRead}
use Rattle.jpeg_meaning.specs.Stream.{header_at, scaled_to, sized_to, told_of}
use Rattle.jpeg_meaning.specs.Found.{Found, Said, with_said}
use Rattle.jpeg_meaning.specs.WrittenImages.{WritesImage}
use Rattle.jpeg_meaning.specs.WrittenScans.{Coefficients}

-- ---- what is left to read

-- The size of the picture: full, or by the least scale at which it is this wide or this high, or at
-- a scale.
pub data Size : Type 0 where
  FullSize : Size
  AtLeast : ℕ → ℕ → Size
  AtScale : Scale → Size

-- what was said, where the picture is to have a size
abbrev pub at_size : Size → Said → Said
at_size FullSize said = said
at_size (AtLeast width height) said = sized_to width height said
at_size (AtScale scale) said = scaled_to scale said

-- A decoder has a stream left: all of it, and then the picture is of full size; or what follows its
-- header, which was found, and then its frame may be at a scale.
abbrev pub HasLeft : Size → List ℕ → Progress → Found → List ℕ → Type 0
HasLeft FullSize bytes Fresh found left = left ≡ bytes
HasLeft size bytes HeaderRead found left =
    (header : Found) × (header_at bytes ≡ Ok (header, left))
    × (found ≡ with_said (at_size size) header)
HasLeft _ bytes _ found left = ⊥

-- ---- what is given

-- The picture is given, `final` is what a caller is given, and the bytes after the image are left;
-- or what else is shown of an image in place of its picture.
pub record GivesPicture {A : Type 0} (picture : Result A Fault) (rest : List ℕ) (final : Said)
    (given : A) (new : Decoding) : Type 0 where
  pub pixels : picture ≡ Ok given
  pub told : told_of new.found.said ≡ told_of final
  pub left : new.source.bytes ≡ rest
  pub known : new.source.known ≡ true

-- Where the bytes of the source are still known, memory is out; else its reader has failed, or was
-- interrupted without end.
pub record FailsOutside (e : Error) (source : Stream) : Type 0 where
  pub memory : source.known ≡ true → e ≡ OutOfMemory
  pub reader : source.known ≡ false → IsGivenUp e source.failed

-- A call on a decoder whose source has a stream that is written for the coefficients of 8-bit
-- samples, with no more blocks than its limit, if it has one, gives what is to be shown of them,
-- cut at the bits that were sent, and leaves what follows the image; or, where that is something,
-- it fails for lack of memory or by its reader.
abbrev pub DecodesCoefficients : {A X : Type 0} → (Said → Coefficients → Result A Fault) → (X → A)
    → Decoding → Result X Error → Decoding → Type 0
DecodesCoefficients show view old result new =
    (size : Size) (array : Coefficients) (image rest : List ℕ) (final : Said)
    (last : ℕ → Levels) →
    ((index row column : ℕ) → Is8Bit (array index row column)) →
    WritesImage array image final last →
    HasLeft size (image ++ rest) old.stage old.found old.source.bytes →
    IsWithinLimit old.settings.max_blocks
    (work_ahead old.stage old.found old.source.bytes) →
    old.source.known ≡ true →
    let shown = show (at_size size final) (as_sent array last) in
    MatchResult result
    (λ x. GivesPicture shown rest (at_size size final) (view x) new)
    (λ e. IsOk shown → FailsOutside e new.source)

-- It gives their picture, or fails so where the settings take that picture.
abbrev pub DecodesImages :
    {X : Type 0} → (X → List ℕ) → Decoding → Result X Error → Decoding → Type 0
DecodesImages bytes_of old result new =
    DecodesCoefficients (picture_of_blocks old.settings) bytes_of old result new

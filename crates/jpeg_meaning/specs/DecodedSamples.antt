-- What a call of `decode` gives where its source has a stream that is written for samples.
use Rattle.std.specs.Prelude.{◌≡◌, ℕ, ◌++◌, List, true, Result, Ok, IsOk, MatchResult}
use Rattle.jpeg_bits.specs.Reading.{Fault}
use Rattle.jpeg_bits.specs.declared.error.Error.{Error}
use Rattle.jpeg_meaning.specs.DecodedImages.{FailsOutside, GivesPicture, HasLeft, Size}
use Rattle.jpeg_meaning.specs.Limits.{IsWithinLimit, work_ahead}
use Rattle.jpeg_meaning.specs.States.{Decoding}
use Rattle.jpeg_meaning.specs.Found.{Said}
use Rattle.jpeg_meaning.specs.FoundPictures.{limited}
use Rattle.jpeg_meaning.specs.WrittenLossless.{picture_of_samples, Samples, WritesSamples}

-- A call on a decoder whose source has a lossless stream that is written for samples, of no more
-- blocks than its limit counts, if it has one, gives what is to be shown of the samples, at full
-- size whatever size was requested, and leaves what follows the image; or, where that is something,
-- an error is that memory is out, or the reader's own.
abbrev pub DecodesLossless : {A X : Type 0} → (Said → Samples → Result A Fault) → (X → A)
    → Decoding → Result X Error → Decoding → Type 0
DecodesLossless show view old result new =
    (size : Size) (samples : Samples) (image rest : List ℕ) (final : Said) →
    WritesSamples samples image final →
    HasLeft size (image ++ rest) old.stage old.found old.source.bytes →
    IsWithinLimit old.settings.max_blocks
    (work_ahead old.stage old.found old.source.bytes) →
    old.source.known ≡ true →
    let shown = show final samples in
    MatchResult result
    (λ x. GivesPicture shown rest final (view x) new)
    (λ e. IsOk shown → FailsOutside e new.source)

-- It gives their picture, or fails so where the limit takes that picture.
abbrev pub DecodesSamples :
    {X : Type 0} → (X → List ℕ) → Decoding → Result X Error → Decoding → Type 0
DecodesSamples bytes_of old result new = DecodesLossless
    (λ said samples. limited old.settings said (λ frame. Ok (picture_of_samples frame samples)))
    bytes_of old result new

-- A call that answers the meaning of what its source has left decodes samples.
use Rattle.std.proofs.Common.{◌≡◌, ℕ, List, ◌++◌, Result, Ok}
use Rattle.jpeg_bits.specs.Reading.{Answers, Fault, ◌>>=◌}
use Rattle.jpeg_bits.specs.declared.error.Error.{Error}
use Rattle.jpeg_meaning.specs.DecodedImages.{AtLeast, AtScale, FullSize, Size}
use Rattle.jpeg_meaning.specs.DecodedSamples.{DecodesLossless, DecodesSamples}
use Rattle.jpeg_meaning.specs.FoundPictures.{limited, picture_of}
use Rattle.jpeg_meaning.specs.FoundPlanes.{planes_of}
use Rattle.jpeg_meaning.specs.States.{Decoding, IsReading, ahead, ahead_showing}
use Rattle.jpeg_meaning.specs.Stream.{told_of}
use Rattle.jpeg_meaning.specs.Found.{Found, Said}
use Rattle.jpeg_meaning.specs.WrittenLossless.{picture_of_samples, Samples, WritesSamples}
use Rattle.jpeg_meaning.specs.declared.settings.Settings.{Settings}
use Rattle.jpeg_meaning.specs.WrittenPlanes.{planes_of_samples}
use Rattle.jpeg_meaning.proofs.Written.WrittenPlanes.{planes_given}
use Rattle.jpeg_decoder.proofs.Pictures.DecodedImages.{gives, left-reading, left-shows, shown_at}
use Rattle.jpeg_decoder.proofs.LosslessFrames.LosslessPixels.{lossless-means, lossless-scaled, lossless-sized}
use Rattle.jpeg_decoder.proofs.LosslessFrames.LosslessPlanes.{samples-mean, samples-mean_scaled, samples-mean_sized}

-- A call that answers what is to be shown of what its source has left decodes samples.
decodes-lossless : {A X : Type 0} (view : X → A) (show : Found → Result A Fault)
    (of : Said → Samples → Result A Fault) (old new : Decoding) (result : Result X Error)
    → ((size : Size) (samples : Samples) (image rest : List ℕ) (final : Said) → WritesSamples samples image final
    → shown_at size show (image ++ rest) ≡ (of final samples >>= (λ shown. Ok ((told_of final, shown), rest))))
    → (IsReading old.stage
    → Answers (λ x. (told_of new.found.said, view x))
    (ahead_showing old.settings.max_blocks show old.stage old.found) old.source result new.source)
    → DecodesLossless of view old result new
decodes-lossless view show of old new result means answers size samples image rest final w has within known =
    gives view (of final samples) rest final new
    (ahead_showing old.settings.max_blocks show old.stage old.found) old.source result
    (answers (left-reading size (image ++ rest) old.stage old.found old.source.bytes has))
    (left-shows size old.settings.max_blocks show (image ++ rest) old.stage old.found old.source.bytes _ has within
    (means size samples image rest final w)) known

means-samples : (settings : Settings) (size : Size) (samples : Samples) (image rest : List ℕ) (final : Said)
    → WritesSamples samples image final
    → shown_at size (picture_of settings) (image ++ rest)
    ≡ (limited settings final (λ f. Ok (picture_of_samples f samples))
    >>= (λ picture. Ok ((told_of final, picture), rest)))
means-samples settings FullSize = lossless-means settings
means-samples settings (AtLeast width height) = lossless-sized width height settings
means-samples settings (AtScale scale) = lossless-scaled scale settings

pub decodes-samples : {X : Type 0} (bytes_of : X → List ℕ) (old new : Decoding) (result : Result X Error)
    → (IsReading old.stage
    → Answers (λ x. (told_of new.found.said, bytes_of x))
    (ahead old.stage old.settings old.found) old.source result new.source)
    → DecodesSamples bytes_of old result new
decodes-samples bytes_of old new result answers =
    decodes-lossless bytes_of (picture_of old.settings)
    (λ said samples. limited old.settings said (λ frame. Ok (picture_of_samples frame samples))) old new result
    (means-samples old.settings) answers

-- that answers planes
planes-of-samples : (limit : ℕ) (size : Size) (samples : Samples) (image rest : List ℕ) (final : Said)
    → WritesSamples samples image final → shown_at size (planes_of limit) (image ++ rest)
    ≡ planes_given final rest (planes_of_samples limit final samples)
planes-of-samples limit FullSize = samples-mean limit
planes-of-samples limit (AtLeast width height) = samples-mean_sized width height limit
planes-of-samples limit (AtScale scale) = samples-mean_scaled scale limit

pub decodes-sample-planes : {X : Type 0} (view : X → List (List ℕ)) (old new : Decoding) (result : Result X Error)
    → (IsReading old.stage
    → Answers (λ x. (told_of new.found.said, view x))
    (ahead_showing old.settings.max_blocks (planes_of old.settings.limit) old.stage old.found) old.source result
    new.source)
    → DecodesLossless (planes_of_samples old.settings.limit) view old result new
decodes-sample-planes view old new result answers =
    decodes-lossless view (planes_of old.settings.limit) (planes_of_samples old.settings.limit) old new result
    (planes-of-samples old.settings.limit) answers

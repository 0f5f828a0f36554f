-- Lossless streams for the same samples mean the same picture.
use Rattle.std.proofs.Common.{◌≡◌, ℕ, ◌*◌, List, ◌++◌, map, length, Ok, sym, ap, ◌∙◌, arith}
use lib.ListN.{length-map}
use Rattle.jpeg_bits.specs.Reading.{◌>>=◌}
use Rattle.jpeg_segments.specs.Frame.{Frame}
use Rattle.jpeg_meaning.specs.declared.settings.Settings.{Settings}
use Rattle.jpeg_meaning.specs.Found.{Said}
use Rattle.jpeg_meaning.specs.FoundPictures.{limited}
use Rattle.jpeg_meaning.specs.FrameSamples.{sampling_of, ShowAlike}
use Rattle.jpeg_meaning.specs.Pixels.{samples_shown}
use Rattle.jpeg_meaning.specs.Stream.{told_of}
use Rattle.jpeg_meaning.specs.WrittenLossless.{picture_of_samples, Samples, WritesSamples}
use Rattle.jpeg_meaning.specs.WrittenParts.{picture_meant_by}
use Rattle.jpeg_meaning.proofs.Pictures.LimitedPictures.{limited-same, lossless-shown, samples_of}
use Rattle.jpeg_meaning.proofs.Pictures.LosslessSizes.{IsShaped}
use Rattle.jpeg_meaning.proofs.Pictures.SamplesAlike.{pictures-alike}
use Rattle.jpeg_meaning.proofs.Written.WrittenParts.{picture-alone}
use Rattle.jpeg_decoder.proofs.LosslessFrames.LosslessPixels.{lossless-means, sizes-kept}
use Rattle.jpeg_decoder.proofs.LosslessFrames.WrittenLosslessStreams.{IsSampled}
use Rattle.std.proofs.lemmas.Grind.{common_steps}

-- how many samples they have
counts-by : (n k : ℕ) (f g : Frame) → n ≡ length f.components → k ≡ length g.components → IsShaped f → IsShaped g
    → f.width ≡ g.width → f.height ≡ g.height → map sampling_of f.components ≡ map sampling_of g.components
    → n * (f.output_width * f.output_height) ≡ k * (g.output_width * g.output_height)
counts-by n k f g a b p q w h e = grind (arith, common_steps, length-map)

counts-same : (settings : Settings) (f g : Frame) → IsSampled f → IsSampled g → f.width ≡ g.width
    → f.height ≡ g.height → map sampling_of f.components ≡ map sampling_of g.components
    → samples_of settings f ≡ samples_of settings g
counts-same settings f g p q w h e =
    counts-by (samples_shown settings f) (samples_shown settings g) f g (lossless-shown settings f p.1)
    (lossless-shown settings g q.1) p.0 q.0 w h e

-- the picture that a stream for samples means
meant : (settings : Settings) (samples : Samples) (bytes rest : List ℕ) (final : Said)
    → WritesSamples samples bytes final
    → picture_meant_by settings (bytes ++ rest) ≡ limited settings final (λ f. Ok (picture_of_samples f samples))
meant settings samples bytes rest final w =
    ap (λ o. o >>= (λ m. Ok m.0.1)) (lossless-means settings samples bytes rest final w)
    ∙ picture-alone _ (told_of final) rest

pub samples-alike : (settings : Settings) (samples : Samples) (first second rest others : List ℕ) (a b : Said)
    → WritesSamples samples first a → WritesSamples samples second b → ShowAlike a b
    → picture_meant_by settings (first ++ rest) ≡ picture_meant_by settings (second ++ others)
samples-alike settings samples first second rest others a b u v same =
    meant settings samples first rest a u
    ∙ limited-same settings a b same.frame_a same.frame_b _ _ same.is_a same.is_b
    (counts-same settings same.frame_a same.frame_b (sizes-kept samples first a same.frame_a u same.is_a).0
    (sizes-kept samples second b same.frame_b v same.is_b).0 same.width same.height same.factors)
    (ap (λ (l : List ℕ). Ok l) (pictures-alike same.frame_a same.frame_b samples same.precision same.width same.height
    same.factors))
    ∙ sym (meant settings samples second others b v)

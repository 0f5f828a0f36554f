-- Lossless streams that are written give the planes of their samples.
use Rattle.std.proofs.Common.{◌≡◌, ℕ, List, ◌++◌, length, None, Ok, ap, ◌∙◌}
use Rattle.std.proofs.lemmas.Simd.{map-map}
use Rattle.std.specs.List.{concat, enumerate_from, range_with_len}
use Rattle.jpeg_bits.specs.Reading.{Outcome}
use Rattle.jpeg_segments.specs.Checks.{gathered}
use Rattle.jpeg_segments.specs.declared.frame.CodingProcess.{CodingProcess}
use Rattle.jpeg_segments.specs.declared.scale.Scale.{Scale}
use Rattle.jpeg_meaning.specs.Found.{Said}
use Rattle.jpeg_meaning.specs.FoundPlanes.{bytes_of_samples, planes_by_process, planes_of, samples_planes}
use Rattle.jpeg_meaning.specs.Stream.{Told, meaning_showing, scaled_showing, sized_showing}
use Rattle.jpeg_meaning.specs.WrittenLossless.{Samples, WritesSamples}
use Rattle.jpeg_meaning.specs.WrittenPlanes.{planes_of_samples}
use Rattle.jpeg_meaning.proofs.Written.ReadTurns.{then-ok}
use Rattle.jpeg_meaning.proofs.Written.WalkedStreams.{beside}
use Rattle.jpeg_meaning.proofs.Written.WrittenPlanes.{planes_given, within-same}
use Rattle.jpeg_decoder.proofs.LosslessFrames.LosslessPixels.{planes-there}
use Rattle.jpeg_decoder.proofs.LosslessFrames.LosslessReads.{sample_plane}
use Rattle.jpeg_decoder.proofs.LosslessFrames.WrittenLosslessStreams.{AreMeant, all-in, samples-walked, scaled-walked, sized-walked}
use Rattle.jpeg_decoder.proofs.LosslessFrames.WrittenSamples.{bring_samples}

-- What the end of a stream gives is the planes of its samples where the limit takes them.
samples-planed : (limit : ℕ) (samples : Samples) (bytes rest : List ℕ) (final : Said)
    (meant : Outcome (Told × List (List ℕ))) → (w : WritesSamples samples bytes final)
    → AreMeant (planes_of limit) samples final w.sent rest meant
    → meant ≡ planes_given final rest (planes_of_samples limit final samples)
unfolding planes_of samples_planes planes_of_samples
samples-planed limit samples bytes rest final meant w r =
    let f = r.0.frame in
    let found = beside bring_samples final r.0.brought in
    let indices = range_with_len 0 (length f.components) in
    r.1 ∙ ap (planes_given final rest)
    (within-same limit final f _ _ r.0.framed
    (ap (λ (p : CodingProcess). planes_by_process p found f) (r.0.said.shaped f r.0.framed).1
    ∙ then-ok (gathered (sample_plane found.samples) (enumerate_from 0 f.components)) _ _ _
    (planes-there found.samples samples 0 f.components (all-in _ _ w.sent r.0.held.kept r.0.ended))
    (ap (λ (l : List (List ℕ)). Ok l)
    (map-map (bytes_of_samples f.precision) (λ (k : ℕ). concat (samples k)) indices))))

pub samples-mean : (limit : ℕ) (samples : Samples) (bytes rest : List ℕ) (final : Said)
    → WritesSamples samples bytes final → meaning_showing None (planes_of limit) (bytes ++ rest)
    ≡ planes_given final rest (planes_of_samples limit final samples)
samples-mean limit samples bytes rest final w =
    samples-planed limit samples bytes rest final _ w (samples-walked (planes_of limit) samples bytes rest final w)

pub samples-mean_sized : (width height limit : ℕ) (samples : Samples) (bytes rest : List ℕ) (final : Said)
    → WritesSamples samples bytes final → sized_showing width height (planes_of limit) (bytes ++ rest)
    ≡ planes_given final rest (planes_of_samples limit final samples)
samples-mean_sized width height limit samples bytes rest final w =
    samples-planed limit samples bytes rest final _ w
    (sized-walked width height (planes_of limit) samples bytes rest final w)

pub samples-mean_scaled : (scale : Scale) (limit : ℕ) (samples : Samples) (bytes rest : List ℕ) (final : Said)
    → WritesSamples samples bytes final → scaled_showing scale (planes_of limit) (bytes ++ rest)
    ≡ planes_given final rest (planes_of_samples limit final samples)
samples-mean_scaled scale limit samples bytes rest final w =
    samples-planed limit samples bytes rest final _ w
    (scaled-walked scale (planes_of limit) samples bytes rest final w)

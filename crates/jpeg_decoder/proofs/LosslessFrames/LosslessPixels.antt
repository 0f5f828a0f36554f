-- Lossless streams that are written mean the picture of their samples, and keep their size.
use Rattle.std.proofs.Common.{◌≡◌, ℕ, ◌+◌, ◌*◌, ◌≤◌, true, List, [], ◌∷◌, ◌++◌, length, Option, Result, Ok}
use Rattle.std.proofs.Common.{Some, refl, ap, ◌∙◌, slice_index, subst, arith}
use Rattle.std.specs.List.{AllByRecursion, concat, enumerate_from, range_with_len}
use Rattle.std.proofs.lemmas.List.FromFn.{get_or-map-range_with_len}
use Rattle.std.proofs.lemmas.Grind.{common_steps}
use Rattle.jpeg_bits.specs.DefaultTables.{names}
use Rattle.jpeg_bits.specs.Reading.{Fault, Outcome, ◌>>=◌}
use Rattle.jpeg_bits.proofs.ReadIntervals.{all-append}
use Rattle.jpeg_segments.specs.Checks.{gathered}
use Rattle.jpeg_segments.specs.Frame.{Component, Frame}
use Rattle.jpeg_segments.specs.declared.frame.CodingProcess.{CodingProcess}
use Rattle.jpeg_lossless.specs.Pictures.{lossless_picture}
use Rattle.jpeg_segments.specs.declared.scale.Scale.{Scale}
use Rattle.jpeg_meaning.specs.declared.settings.Settings.{Settings}
use Rattle.jpeg_meaning.specs.Found.{nothing_said, Said}
use Rattle.jpeg_meaning.specs.FoundPictures.{limited, picture_by_process, picture_of, samples_picture}
use Rattle.jpeg_meaning.specs.Stream.{meaning, scaled_meaning, sized_meaning, Told, told_of}
use Rattle.jpeg_meaning.specs.WrittenLossless.{IsLossless, IsWithinLimit, picture_of_samples, Samples}
use Rattle.jpeg_meaning.specs.WrittenLossless.{WritesSamples}
use Rattle.jpeg_meaning.proofs.Order.Apart.{get-at}
use Rattle.jpeg_meaning.proofs.Pictures.LimitedPictures.{limited-ok, limited-same, lossless-shown, samples_of}
use Rattle.jpeg_meaning.proofs.Pictures.LosslessSizes.{IsShaped}
use Rattle.jpeg_meaning.proofs.Order.OwnSpots.{at-within, in-below}
use Rattle.jpeg_meaning.proofs.Pictures.PaddingUnseen.{pictures-by}
use Rattle.jpeg_meaning.proofs.Written.ReadTurns.{same-frame, then-ok}
use Rattle.jpeg_meaning.proofs.Written.WalkedStreams.{beside, IsSaid, keeps, nothing-said, segment-said}
use Rattle.jpeg_meaning.proofs.Written.WrittenFrameScans.{in-all}
use Rattle.jpeg_decoder.proofs.LosslessFrames.LosslessReads.{sample_plane}
use Rattle.jpeg_decoder.proofs.ReadLists.{at-flat}
use Rattle.jpeg_decoder.proofs.LosslessFrames.WrittenLosslessStreams.{all-in, AreKept, AreMeant, header-said, IsSampled}
use Rattle.jpeg_decoder.proofs.LosslessFrames.WrittenLosslessStreams.{samples-walked, scaled-walked, sized-walked}
use Rattle.jpeg_decoder.proofs.LosslessFrames.WrittenSamples.{bring_samples, indices_of, planes_for, scan-sized, SizedAt}

-- ---- sizes

-- The frame is lossless and has some size, and the samples have the sizes of its components.
pub sizes-kept : (samples : Samples) (bytes : List ℕ) (final : Said) (frame : Frame)
    → WritesSamples samples bytes final → final.frame ≡ Some frame → IsSampled frame
    × AllByRecursion (SizedAt samples frame.components) (range_with_len 0 (length frame.components))
sizes-kept samples bytes final frame w e =
    let r = keeps (λ now sent. IsSaid IsSampled now × AllByRecursion (SizedAt samples frame.components) sent)
    nothing_said final [] w.sent w.written.after
    (λ now sent s stands may h. (segment-said (λ y z. IsLossless z) IsSampled header-said now s stands may h.0, h.1))
    (λ now sent next f header data_bytes framed last x h. (
      record { tables = h.0.tables; shaped = h.0.shaped },
      subst (AllByRecursion (SizedAt samples frame.components)) x.1
          (all-append (SizedAt samples frame.components) (indices_of header.choices) sent
          (subst (λ (g : Frame). AllByRecursion (SizedAt samples g.components) (indices_of header.choices))
          (same-frame f frame final.frame last e)
          (scan-sized now f header samples data_bytes (h.0.shaped f framed).0 h.0.tables x.0)) h.1),
    ))
    w.written.written (nothing-said IsSampled, tt) in (
      r.0.0.shaped frame e,
      all-in (SizedAt samples frame.components) _ w.sent r.0.1
          (subst (λ (f : Frame). AllByRecursion (λ k. names w.sent k ≡ true) (range_with_len 0 (length f.components)))
          (same-frame r.2.frame frame final.frame r.2.is_said e) r.2.ended),
    )

-- ---- the picture

-- the planes of samples that are kept
pub planes-there : (decided : List (Option (List ℕ))) (samples : Samples) (index : ℕ) (cs : List Component)
    → AreKept samples decided (range_with_len index (length cs))
    → gathered (sample_plane decided) (enumerate_from index cs)
    ≡ Ok (planes_for samples (range_with_len index (length cs)))
unfolding gathered
planes-there decided samples index [] h = refl
planes-there decided samples index (c ∷ cs) h =
    grind (arith, common_steps, then-ok, planes-there decided samples (index + 1) cs h.1)

-- They make the picture of the samples.
planes-shown : (samples : Samples) (frame : Frame) → IsShaped frame
    → AllByRecursion (SizedAt samples frame.components) (range_with_len 0 (length frame.components))
    → lossless_picture frame (planes_for samples (range_with_len 0 (length frame.components)))
    ≡ picture_of_samples frame samples
unfolding lossless_picture picture_of_samples
planes-shown samples frame shaped sized =
    let cs = frame.components in
    pictures-by frame _ _ shaped.made (λ index x y c at hx hy.
    let inside = at-within index cs c (get-at index cs c at) in
    let size = in-all (SizedAt samples cs) (range_with_len 0 (length cs)) index sized
    (in-below index (length cs) inside) c at in
    ap (λ l. slice_index l (y * c.width + x)) (get_or-map-range_with_len (λ k. concat (samples k)) 0
    (length cs) index index [] inside (omega arith))
    ∙ at-flat c.width x (samples index) y size.even (omega (arith, size.count)) hx)

-- what a caller is given of a picture
abbrev given : Said → List ℕ → List ℕ → Outcome (Told × List ℕ)
given said rest picture = Ok ((told_of said, picture), rest)

-- What the end of a stream means is the picture of its samples where the limit takes it.
samples-meant : (settings : Settings) (samples : Samples) (bytes rest : List ℕ) (final : Said)
    (meant : Outcome (Told × List ℕ)) → (w : WritesSamples samples bytes final)
    → AreMeant (picture_of settings) samples final w.sent rest meant
    → meant ≡ (limited settings final (λ f. Ok (picture_of_samples f samples)) >>= given final rest)
unfolding picture_of samples_picture
samples-meant settings samples bytes rest final meant w r =
    let f = r.0.frame in
    let found = beside bring_samples final r.0.brought in
    let size = sizes-kept samples bytes final f w r.0.framed in
    r.1 ∙ ap (λ (o : Result (List ℕ) Fault). o >>= given final rest)
    (limited-same settings final final f f _ _ r.0.framed r.0.framed refl
    (ap (λ (p : CodingProcess). picture_by_process p settings found f) (r.0.said.shaped f r.0.framed).1
    ∙ then-ok (gathered (sample_plane found.samples) (enumerate_from 0 f.components)) _ _ _
    (planes-there found.samples samples 0 f.components (all-in _ _ w.sent r.0.held.kept r.0.ended))
    (ap (λ (l : List ℕ). Ok l) (planes-shown samples f size.0.0 size.1))))

-- ---- the whole

-- A stream that is written for samples means their picture where the limit takes it, and what
-- follows it is left.
pub lossless-means : (settings : Settings) (samples : Samples) (bytes rest : List ℕ) (final : Said)
    → WritesSamples samples bytes final → meaning settings (bytes ++ rest)
    ≡ (limited settings final (λ f. Ok (picture_of_samples f samples)) >>= given final rest)
lossless-means settings samples bytes rest final w =
    samples-meant settings samples bytes rest final _ w (samples-walked (picture_of settings) samples bytes rest final w)

pub lossless-sized : (width height : ℕ) (settings : Settings) (samples : Samples) (bytes rest : List ℕ)
    (final : Said) → WritesSamples samples bytes final
    → sized_meaning width height settings (bytes ++ rest)
    ≡ (limited settings final (λ f. Ok (picture_of_samples f samples)) >>= given final rest)
lossless-sized width height settings samples bytes rest final w =
    samples-meant settings samples bytes rest final _ w
    (sized-walked width height (picture_of settings) samples bytes rest final w)

pub lossless-scaled : (scale : Scale) (settings : Settings) (samples : Samples) (bytes rest : List ℕ)
    (final : Said) → WritesSamples samples bytes final
    → scaled_meaning scale settings (bytes ++ rest)
    ≡ (limited settings final (λ f. Ok (picture_of_samples f samples)) >>= given final rest)
lossless-scaled scale settings samples bytes rest final w =
    samples-meant settings samples bytes rest final _ w
    (scaled-walked scale (picture_of settings) samples bytes rest final w)

-- within the limit
pub limit-takes : (settings : Settings) (samples : Samples) (bytes rest : List ℕ) (final : Said) (frame : Frame)
    → WritesSamples samples bytes final → IsWithinLimit settings.limit final frame
    → (limited settings final (λ f. Ok (picture_of_samples f samples)) >>= given final rest)
    ≡ Ok ((told_of final, picture_of_samples frame samples), rest)
limit-takes settings samples bytes rest final frame w within =
    let kept = (sizes-kept samples bytes final frame w within.is_said).0 in
    let below : samples_of settings frame ≤ settings.limit = rw (lossless-shown settings frame kept.1) within.limited in
    rw (limited-ok settings final frame _ (picture_of_samples frame samples) within.is_said below refl) refl

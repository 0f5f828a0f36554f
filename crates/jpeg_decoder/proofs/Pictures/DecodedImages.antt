-- A call that answers the meaning of what its source has left decodes images.
use Rattle.std.proofs.Common.{◌≡◌, ℕ, List, ◌++◌, true, Result, Ok, Err, is_ok, refl, sym}
use Rattle.std.proofs.Common.{None, Option, ap, ◌∙◌, IsOk, MatchResult, arith}
use Rattle.std.proofs.lemmas.Bool.{false≢true}
use Rattle.jpeg_bits.specs.Reading.{Outcome, Fault, Answers, ◌>>=◌}
use Rattle.jpeg_bits.specs.Stream.{Stream}
use Rattle.jpeg_bits.specs.declared.error.Error.{Error}
use Rattle.jpeg_segments.specs.declared.scale.Scale.{Scale}
use Rattle.jpeg_meaning.specs.ArrayPictures.{as_sent, meaning_of_array, picture_of_blocks}
use Rattle.jpeg_meaning.specs.DecodedImages.{AtLeast, AtScale, DecodesCoefficients, DecodesImages, FailsOutside, FullSize}
use Rattle.jpeg_meaning.specs.DecodedImages.{GivesPicture, HasLeft, Size, at_size}
use Rattle.jpeg_meaning.specs.Levels.{Is8Bit, Levels}
use Rattle.jpeg_meaning.specs.declared.progress.Progress.{Progress}
use Rattle.jpeg_meaning.specs.FoundPictures.{picture_of}
use Rattle.jpeg_meaning.specs.FoundPlanes.{planes_of}
use Rattle.jpeg_meaning.specs.States.{Decoding, IsReading, ahead, ahead_showing}
use Rattle.jpeg_meaning.specs.Limits.{IsWithinLimit, work_ahead}
use Rattle.jpeg_meaning.specs.declared.progress.Progress.TheVariants.{Failed, Finished, Fresh, HeaderRead}
use Rattle.jpeg_meaning.proofs.Limits.{meaning-limited, rest-limited}
use Rattle.jpeg_meaning.specs.Stream.{Told, header_at, meaning_showing, rest_showing, scaled_showing, sized_showing, told_of}
use Rattle.jpeg_meaning.specs.Found.{Found, with_said, Said}
use Rattle.jpeg_meaning.specs.WrittenImages.{WritesImage}
use Rattle.jpeg_meaning.specs.WrittenPlanes.{planes_of_blocks}
use Rattle.jpeg_meaning.specs.WrittenScans.{Coefficients}
use Rattle.jpeg_meaning.specs.declared.settings.Settings.{Settings}
use Rattle.jpeg_meaning.proofs.Written.ReadTurns.{err-ok, ok-same, then-ok}
use Rattle.jpeg_decoder.proofs.Segments.HeaderThenRest.{header-reads}
use Rattle.jpeg_meaning.proofs.Written.SizedStreams.{stream-means_scaled, stream-means_sized}
use Rattle.jpeg_meaning.proofs.Written.WrittenPictures.{stream-means}
use Rattle.jpeg_meaning.proofs.Written.WrittenPlanes.{planes-mean, planes-mean_scaled, planes-mean_sized, planes_given}
use Rattle.std.proofs.lemmas.Grind.{common_steps}

-- ---- what is left

pub left-reading : (size : Size) (bytes : List ℕ) (stage : Progress) (found : Found) (left : List ℕ)
    → HasLeft size bytes stage found left → IsReading stage
left-reading size bytes stage found left h = grind (arith, common_steps)

-- what is shown of a stream whose picture is to have a size
abbrev pub shown_at : {A : Type 0} → Size → (Found → Result A Fault) → List ℕ → Outcome (Told × A)
shown_at FullSize show bytes = meaning_showing None show bytes
shown_at (AtLeast width height) show bytes = sized_showing width height show bytes
shown_at (AtScale scale) show bytes = scaled_showing scale show bytes

-- the meaning of such a stream
abbrev pub means_at : Size → Settings → List ℕ → Outcome (Told × List ℕ)
means_at size settings bytes = shown_at size (picture_of settings) bytes

sized-begins : {A : Type 0} (width height : ℕ) (show : Found → Result A Fault) (found : Found) (bytes rest : List ℕ)
    → header_at bytes ≡ Ok (found, rest)
    → sized_showing width height show bytes ≡ rest_showing None show (with_said (at_size (AtLeast width height)) found) rest
unfolding sized_showing
sized-begins width height show found bytes rest e = then-ok (header_at bytes) _ (found, rest) _ e refl

scaled-begins : {A : Type 0} (scale : Scale) (show : Found → Result A Fault) (found : Found) (bytes rest : List ℕ)
    → header_at bytes ≡ Ok (found, rest)
    → scaled_showing scale show bytes ≡ rest_showing None show (with_said (at_size (AtScale scale)) found) rest
unfolding scaled_showing
scaled-begins scale show found bytes rest e = then-ok (header_at bytes) _ (found, rest) _ e refl

ahead-within : {A : Type 0} (limit : Option ℕ) (show : Found → Result A Fault) (stage : Progress) (found : Found)
    (left : List ℕ) → IsWithinLimit limit (work_ahead stage found left)
    → ahead_showing limit show stage found left ≡ ahead_showing None show stage found left
ahead-within limit show Fresh found left h = meaning-limited limit show left h
ahead-within limit show HeaderRead found left h = rest-limited limit show found left h
ahead-within limit show Finished found left h = rest-limited limit show found left h
ahead-within limit show Failed found left h = rest-limited limit show found left h

left-unlimited : {A : Type 0} (size : Size) (show : Found → Result A Fault) (bytes : List ℕ) (stage : Progress)
    (found : Found) (left : List ℕ) (o : Outcome (Told × A))
    → HasLeft size bytes stage found left → shown_at size show bytes ≡ o → ahead_showing None show stage found left ≡ o
left-unlimited FullSize show bytes Fresh found left o h e =
    ap (λ (l : List ℕ). meaning_showing None show l) h ∙ e
left-unlimited FullSize show bytes HeaderRead found left o h e =
    ap (λ (f : Found). rest_showing None show f left) h.2 ∙ sym (header-reads None show h.0 bytes left h.1) ∙ e
left-unlimited (AtLeast width height) show bytes HeaderRead found left o h e =
    ap (λ (f : Found). rest_showing None show f left) h.2 ∙ sym (sized-begins width height show h.0 bytes left h.1) ∙ e
left-unlimited (AtScale scale) show bytes HeaderRead found left o h e =
    ap (λ (f : Found). rest_showing None show f left) h.2 ∙ sym (scaled-begins scale show h.0 bytes left h.1) ∙ e
left-unlimited FullSize show bytes Finished found left o h e = absurd h
left-unlimited FullSize show bytes Failed found left o h e = absurd h
left-unlimited (AtLeast width height) show bytes Fresh found left o h e = absurd h
left-unlimited (AtLeast width height) show bytes Finished found left o h e = absurd h
left-unlimited (AtLeast width height) show bytes Failed found left o h e = absurd h
left-unlimited (AtScale scale) show bytes Fresh found left o h e = absurd h
left-unlimited (AtScale scale) show bytes Finished found left o h e = absurd h
left-unlimited (AtScale scale) show bytes Failed found left o h e = absurd h

pub left-shows : {A : Type 0} (size : Size) (limit : Option ℕ) (show : Found → Result A Fault) (bytes : List ℕ)
    (stage : Progress) (found : Found) (left : List ℕ)
    (o : Outcome (Told × A)) → HasLeft size bytes stage found left
    → IsWithinLimit limit (work_ahead stage found left) → shown_at size show bytes ≡ o
    → ahead_showing limit show stage found left ≡ o
left-shows size limit show bytes stage found left o h within e =
    ahead-within limit show stage found left within ∙ left-unlimited size show bytes stage found left o h e

pub left-means : (size : Size) (settings : Settings) (bytes : List ℕ) (stage : Progress) (found : Found) (left : List ℕ)
    (o : Outcome (Told × List ℕ)) → HasLeft size bytes stage found left
    → IsWithinLimit settings.max_blocks (work_ahead stage found left) → means_at size settings bytes ≡ o
    → ahead stage settings found left ≡ o
left-means size settings = left-shows size settings.max_blocks (picture_of settings)

-- ---- what is given

no-refusal : {P Y : Type 0} (o : Result Y Fault) (y : Y) (f : Fault) → o ≡ Ok y → o ≡ Err f → P
no-refusal o y f e h = absurd (false≢true (ap is_ok (sym h ∙ e)))

pub gives : {A X : Type 0} (view : X → A) (o : Result A Fault) (rest : List ℕ) (final : Said)
    (new : Decoding) (read : List ℕ → Outcome (Told × A)) (old : Stream) (result : Result X Error)
    → Answers (λ x. (told_of new.found.said, view x)) read old result new.source
    → read old.bytes ≡ (o >>= (λ shown. Ok ((told_of final, shown), rest))) → old.known ≡ true
    → MatchResult result (λ x. GivesPicture o rest final (view x) new)
    (λ e. IsOk o → FailsOutside e new.source)
gives view (Ok shown) rest final new read old result answers means known =
    grind (arith, common_steps, ok-same, no-refusal)
gives view (Err f) rest final new read old result answers means known =
    grind (arith, common_steps, err-ok)

-- A call that answers what is to be shown of what its source has left decodes coefficients.
pub decodes-coefficients : {A X : Type 0} (view : X → A) (show : Found → Result A Fault)
    (of : Said → Coefficients → Result A Fault) (old new : Decoding) (result : Result X Error)
    → ((size : Size) (array : Coefficients) (image rest : List ℕ) (final : Said) (last : ℕ → Levels)
    → ((index row column : ℕ) → Is8Bit (array index row column)) → WritesImage array image final last
    → shown_at size show (image ++ rest) ≡ (of (at_size size final) (as_sent array last)
    >>= (λ shown. Ok ((told_of (at_size size final), shown), rest))))
    → (IsReading old.stage
    → Answers (λ x. (told_of new.found.said, view x))
    (ahead_showing old.settings.max_blocks show old.stage old.found) old.source result new.source)
    → DecodesCoefficients of view old result new
decodes-coefficients view show of old new result means answers size array image rest final last range w has within known =
    gives view (of (at_size size final) (as_sent array last)) rest (at_size size final) new
    (ahead_showing old.settings.max_blocks show old.stage old.found) old.source result
    (answers (left-reading size (image ++ rest) old.stage old.found old.source.bytes has))
    (left-shows size old.settings.max_blocks show (image ++ rest) old.stage old.found old.source.bytes _ has within
    (means size array image rest final last range w)) known

means-array : (settings : Settings) (size : Size) (array : Coefficients) (image rest : List ℕ)
    (final : Said) (last : ℕ → Levels) → ((index row column : ℕ) → Is8Bit (array index row column))
    → WritesImage array image final last → means_at size settings (image ++ rest)
    ≡ meaning_of_array settings (at_size size final) array last rest
means-array settings FullSize = stream-means settings
means-array settings (AtLeast width height) = stream-means_sized width height settings
means-array settings (AtScale scale) = stream-means_scaled scale settings

pub decodes-images : {X : Type 0} (bytes_of : X → List ℕ) (old new : Decoding) (result : Result X Error)
    → (IsReading old.stage
    → Answers (λ x. (told_of new.found.said, bytes_of x))
    (ahead old.stage old.settings old.found) old.source result new.source)
    → DecodesImages bytes_of old result new
decodes-images bytes_of old new result answers =
    decodes-coefficients bytes_of (picture_of old.settings) (picture_of_blocks old.settings) old new result
    (means-array old.settings) answers

-- that answers planes
means-planes : (limit : ℕ) (size : Size) (array : Coefficients) (image rest : List ℕ)
    (final : Said) (last : ℕ → Levels) → ((index row column : ℕ) → Is8Bit (array index row column))
    → WritesImage array image final last → shown_at size (planes_of limit) (image ++ rest)
    ≡ planes_given (at_size size final) rest (planes_of_blocks limit (at_size size final) (as_sent array last))
means-planes limit FullSize = planes-mean limit
means-planes limit (AtLeast width height) = planes-mean_sized width height limit
means-planes limit (AtScale scale) = planes-mean_scaled scale limit

pub decodes-planes : {X : Type 0} (view : X → List (List ℕ)) (old new : Decoding) (result : Result X Error)
    → (IsReading old.stage
    → Answers (λ x. (told_of new.found.said, view x))
    (ahead_showing old.settings.max_blocks (planes_of old.settings.limit) old.stage old.found) old.source result
    new.source)
    → DecodesCoefficients (planes_of_blocks old.settings.limit) view old result new
decodes-planes view old new result answers =
    decodes-coefficients view (planes_of old.settings.limit) (planes_of_blocks old.settings.limit) old new result
    (means-planes old.settings.limit) answers

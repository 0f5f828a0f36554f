-- A header, and then the rest of its stream at a scale, are what the stream gives.
use Rattle.std.proofs.Common.{◌≡◌, ◌∙◌, ◌++◌, ℕ, List, Ok, Err, Option, Some, None, IsSomeAnd, option_map, refl}
use Rattle.std.proofs.Common.{ap, subst, sym, true, false, Bool}
use Rattle.std.specs.Prelude.{IsOkAnd}
use Rattle.std.specs.Io.KnownBytes.{Appends}
use Rattle.jpeg_bits.specs.Reading.{Outcome, ◌>>=◌}
use Rattle.jpeg_bits.specs.declared.error.Error.{Error}
use Rattle.jpeg_segments.specs.Frame.{Frame}
use Rattle.jpeg_meaning.specs.Output.{header_line_of, output_of}
use Rattle.jpeg_meaning.specs.Pixels.{info_by, info_of}
use Rattle.jpeg_meaning.specs.Shown.{Shown}
use Rattle.jpeg_meaning.specs.States.{Decoding}
use Rattle.jpeg_meaning.specs.Limits.{IsWithinLimit, work_of_rest}
use Rattle.jpeg_meaning.specs.Stream.{Told, header_at, meaning, rest_at, rest_by, scaled_to, scaled_showing}
use Rattle.jpeg_bits.specs.declared.beyond.Beyond.TheVariants.{Zeros}
use Rattle.jpeg_meaning.specs.declared.settings.Settings.{Settings}
use Rattle.jpeg_meaning.specs.Found.{Found, with_said}
use Rattle.jpeg_meaning.proofs.Written.ReadTurns.{then-ok}
use Rattle.jpeg_meaning.specs.declared.images.ImageInfo.{ImageInfo}
use Rattle.jpeg_decoder.specs.Reaching.{NamesFault}
use Rattle.jpeg_decoder.proofs.Segments.HeaderThenRest.{header-means}
use Rattle.zaxbriar_pictures.specs.Given.{Given, IsGiven, WritesGiven, given, given_at_scale, given_of}
use Rattle.zaxbriar_files.specs.declared.limits.Limits.{Limits}
use Rattle.zaxbriar_pictures.proofs.AllowedRests.{allowed-rest}
use Rattle.zaxbriar_pictures.specs.Given.{CodesWithin, TellsGiven, complete_rest, complete_rows, complete_within}
use Rattle.zaxbriar_pictures.specs.Given.{given_rest, given_within, most_after, settings_within, without_fault}
use Rattle.zaxbriar_samples.specs.DecodedPictures.{Decoded, decoded}
use Rattle.zaxbriar_pictures.specs.Raw.{raw_of}
use Rattle.zaxbriar_samples.specs.LineTakers.{raw_bytes}
use Rattle.zaxbriar_samples.specs.Files.{file_as}
use Rattle.zaxbriar_samples.specs.Sizes.{orientation_by, orientation_for}
use Rattle.zaxbriar_samples.specs.Parts.{shown_part}
use Rattle.jpeg_orientation.specs.declared.areas.Area.{Area}
use Rattle.zaxbriar_samples.specs.declared.files.PictureFormat.{PictureFormat}
use Rattle.zaxbriar_samples.specs.declared.requests.AtScale.{AtScale}
use Rattle.zaxbriar_samples.specs.declared.requests.Request.TheVariants.{At}
use Rattle.zaxbriar_samples.specs.declared.requests.Upright.{Upright}
use Rattle.zaxbriar_samples.specs.declared.requests.Upright.TheVariants.{AsStored, Turned}
use Rattle.zaxbriar_pictures.specs.ScaledPictures.{decoded_of, header_exif, header_info, picture_at_scale, settings_for}
use Rattle.zaxbriar_pictures.specs.Steps.{GivesPicture}
use Rattle.zaxbriar_pictures.specs.declared.extents.Completeness.{Completeness}
use Rattle.zaxbriar_pictures.specs.declared.extents.Extent.{Extent}
use Rattle.zaxbriar_pictures.specs.declared.extents.Extent.TheVariants.{Whole}
use Rattle.jpeg_segments.specs.declared.scale.Scale.{Scale}

-- ---- the picture and the fault that are given

-- what is said of a frame and its precision are those of a picture
of_frame : {F A : Type 0} (frame : Option F) (said : F → ImageInfo) (bits : F → ℕ) (pixels : List ℕ) (made : Decoded → A)
    (info : ImageInfo) (precision : ℕ)
    → option_map said frame ≡ Some info → option_map bits frame ≡ Some precision
    → option_map (λ f. made (decoded (said f) (bits f) pixels)) frame
    ≡ Some (made (decoded info precision pixels))
of_frame (Some f) said bits pixels made info precision hi hp = cc
of_frame None said bits pixels made info precision hi hp = absurd (cc)

-- The header of a stream and what the rest gives at a scale are what it gives at that scale.
given-some : (extent : Extent) (luma : Bool) (limits : Limits) (scale : Scale) (bytes rest : List ℕ) (found : Found) (s : Shown) (info : ImageInfo)
    (precision : ℕ)
    → header_at bytes ≡ Ok (found, rest) → given_within extent luma limits (with_said (scaled_to scale) found) rest ≡ Ok s
    → option_map (info_by (settings_for luma)) s.told.frame ≡ Some info → option_map (λ f. f.precision) s.told.frame ≡ Some precision
    → given_at_scale extent luma limits scale bytes ≡ Some (given (decoded info precision s.picture) s.fault)
unfolding given_at_scale
given-some extent luma limits scale bytes rest found s info precision header gives hi hp =
    rw (given_at_scale, then-ok (header_at bytes) _ (found, rest) (Ok s) header gives)
    (of_frame s.told.frame (info_by (settings_for luma)) (λ f. f.precision) s.picture (λ p. given p s.fault) info
    precision hi hp)

-- The rows that are complete of what the rest gives are those of what the stream gives.
rows-at : (extent : Extent) (limits : Limits) (scale : Scale) (bytes rest : List ℕ) (found : Found) (height : ℕ)
    → header_at bytes ≡ Ok (found, rest)
    → complete_rows extent limits scale bytes height
    ≡ complete_within extent limits (with_said (scaled_to scale) found) rest height
unfolding complete_rows
rows-at extent limits scale bytes rest found height header = rw (complete_rows, header) refl

-- What a decoder has given by settings within the limits, whose header was read, is what is given within them.
pub is-given : (extent : Extent) (luma : Bool) (limits : Limits) (scale : Scale) (bytes : List ℕ) (found : Found)
    (old new : Decoding) (picture : Decoded) (told : Completeness)
    → header_at bytes ≡ Ok (found, old.source.bytes) → old.source.known ≡ true
    → old.found ≡ with_said (scaled_to scale) found → old.settings ≡ settings_within luma limits old.found
    → GivesPicture extent old new picture told → IsGiven extent luma limits scale bytes picture told.whole_rows told.fault
is-given extent luma limits scale bytes found old new picture told header known is within gives =
    let r = gives.rest known in
    let s : Shown = r.0 in
    let said = ap (λ (settings : Settings). option_map (info_by settings) new.found.said.frame) (sym within)
    ∙ gives.info_is in
    let at = given-some extent luma limits scale bytes old.source.bytes found s picture.info picture.precision header
    (ap (λ (f : Found). given_within extent luma limits f old.source.bytes) (sym is)
    ∙ ap (λ (settings : Settings). given_rest extent settings old.found old.source.bytes) (sym within) ∙ r.1)
    (ap (λ (t : Told). option_map (info_by (settings_for luma)) t.frame) (sym r.3) ∙ said)
    (ap (λ (t : Told). option_map (λ f. f.precision) t.frame) (sym r.3) ∙ gives.precision_is) in
    let counted = gives.rows known
    ∙ ap (λ (i : ImageInfo). complete_rest extent old.settings.max_blocks old.found old.source.bytes i.height) gives.told_is
    ∙ ap (λ (settings : Settings). complete_rest extent settings.max_blocks old.found old.source.bytes picture.info.height)
    within
    ∙ ap (λ (f : Found). complete_within extent limits f old.source.bytes picture.info.height) is
    ∙ sym (rows-at extent limits scale bytes old.source.bytes found picture.info.height header) in
    subst (λ (o : Option Given). IsSomeAnd o (λ g. (picture ≡ g.picture) × NamesFault told.fault g.fault
    × (told.whole_rows ≡ complete_rows extent limits scale bytes g.picture.info.height))) (sym at)
    (ap (λ (pixels : List ℕ). decoded picture.info picture.precision pixels) r.2, r.4, counted)

-- What is told of a picture is told of what is given, which has that picture.
pub tells-given : (extent : Extent) (limits : Limits) (scale : Scale) (bytes : List ℕ) (g : Given) (picture : Decoded) (told : Completeness)
    → told.info ≡ picture.info → picture ≡ g.picture → NamesFault told.fault g.fault
    → told.whole_rows ≡ complete_rows extent limits scale bytes g.picture.info.height
    → TellsGiven extent limits scale bytes g told
tells-given extent limits scale bytes g picture told is same names rows =
    let said = is ∙ ap (λ (p : Decoded). p.info) same in
    (said, rows ∙ ap (λ (i : ImageInfo). complete_rows extent limits scale bytes i.height) (sym said), names)

pub file-given : (extent : Extent) (limits : Limits) (asked : AtScale) (orientation : ℕ) (format : PictureFormat) (bytes : List ℕ)
    (before after : Option (List ℕ)) (picture : Decoded) (told : Completeness)
    → orientation ≡ orientation_for (At asked) (header_exif bytes)
    → IsGiven extent asked.luma limits asked.scale bytes picture told.whole_rows told.fault → told.info ≡ picture.info
    → IsSomeAnd (file_as format (shown_part asked.crop orientation picture)) (Appends before after)
    → WritesGiven extent limits asked format bytes before after told
file-given extent limits asked orientation format bytes before after picture told turn h is appended =
    go (given_at_scale extent asked.luma limits asked.scale bytes) h
  where
    go : (o : Option Given) → IsSomeAnd o (λ g. (picture ≡ g.picture) × NamesFault told.fault g.fault
        × (told.whole_rows ≡ complete_rows extent limits asked.scale bytes g.picture.info.height))
        → IsSomeAnd o (λ g. IsSomeAnd
        (file_as format (shown_part asked.crop (orientation_for (At asked) (header_exif bytes)) g.picture))
        (Appends before after)
        × TellsGiven extent limits asked.scale bytes g told)
    go None h = absurd h
    go (Some g) h = (
      subst (λ (p : Decoded). IsSomeAnd (file_as format p) (Appends before after))
          (ap (λ (o : ℕ). shown_part asked.crop o picture) turn
          ∙ ap (shown_part asked.crop (orientation_for (At asked) (header_exif bytes))) h.0) appended,
      tells-given extent limits asked.scale bytes g picture told is h.0 h.1 h.2,
    )

-- Where the whole is wanted, the picture is the one that the stream means at the scale.
whole-rest : (luma : Bool) (r plain : Outcome (Told × List ℕ)) (picture : Decoded) (P Q : Given → Type 0)
    → ((m : (Told × List ℕ) × List ℕ) → r ≡ Ok m → plain ≡ Ok m)
    → IsSomeAnd (elim (r >>= (λ m. Ok (without_fault m.0))) [
      | Ok s ↦ given_of luma s
      | Err fault ↦ None
    ]) (λ g. (picture ≡ g.picture) × P g × Q g)
    → elim plain [
      | Ok stream ↦ option_map (λ f. decoded_of luma f stream.0.1) stream.0.0.frame
      | Err fault ↦ None
    ] ≡ Some picture
whole-rest luma (Err e) plain picture P Q same h = absurd h
whole-rest luma (Ok ((told, pixels), left)) plain picture P Q same h =
    rw (same ((told, pixels), left) refl) (go told.frame h)
  where
    go : (frame : Option Frame) → IsSomeAnd (option_map (λ f. given (decoded_of luma f pixels) None) frame)
        (λ g. (picture ≡ g.picture) × P g × Q g)
        → option_map (λ f. decoded_of luma f pixels) frame ≡ Some picture
    go None h = absurd h
    go (Some f) h = ap Some (sym h.0)

-- A whole picture is the one that the stream means, whatever the limits: they change none that they allow.
pub whole-given : (luma : Bool) (limits : Limits) (scale : Scale) (bytes : List ℕ) (picture : Decoded) (rows : ℕ)
    (fault : Option Error) → IsGiven Whole luma limits scale bytes picture rows fault
    → picture_at_scale luma scale bytes ≡ Some picture
unfolding given_at_scale picture_at_scale scaled_showing
whole-given luma limits scale bytes picture rows fault h = go (header_at bytes) h
  where
    go : (r : Outcome Found) → IsSomeAnd (elim (r >>= (λ header.
        given_within Whole luma limits (with_said (scaled_to scale) header.0) header.1)) [
          | Ok s ↦ given_of luma s
          | Err fault ↦ None
        ]) (λ g. (picture ≡ g.picture) × NamesFault fault g.fault
        × (rows ≡ complete_rows Whole limits scale bytes g.picture.info.height))
        → elim (r >>= (λ header. rest_at (settings_for luma) (with_said (scaled_to scale) header.0) header.1)) [
          | Ok stream ↦ option_map (λ f. decoded_of luma f stream.0.1) stream.0.0.frame
          | Err fault ↦ None
        ] ≡ Some picture
    go (Err e) h = absurd h
    go (Ok header) h =
        let found = with_said (scaled_to scale) header.0 in
        whole-rest luma (rest_by (settings_within luma limits found) found header.1)
        (rest_at (settings_for luma) found header.1) picture (λ g. NamesFault fault g.fault)
        (λ g. rows ≡ complete_rows Whole limits scale bytes g.picture.info.height)
        (λ m e. (allowed-rest luma limits found header.1 m e).1) h

-- ---- what a header says

pub header-info-is : (luma : Bool) (bytes rest : List ℕ) (found : Found) → header_at bytes ≡ Ok (found, rest)
    → header_info luma bytes ≡ option_map (info_by (settings_for luma)) found.said.frame
unfolding header_info
header-info-is luma bytes rest found header = rw (header_info, header) refl

pub header-exif-some : (bytes rest : List ℕ) (found : Found) → header_at bytes ≡ Ok (found, rest)
    → header_exif bytes ≡ found.said.metadata.exif
unfolding header_exif
header-exif-some bytes rest found header = rw (header_exif, header) refl

-- ---- the bytes of a picture

-- The header of a stream and the rest at its full size are what `jpegraw` writes.
pub output-some : (limits : Limits) (bytes rest left : List ℕ) (found : Found) (told : Told) (pixels : List ℕ)
    (info : ImageInfo) → header_at bytes ≡ Ok (found, rest)
    → rest_by (settings_within false limits found) found rest ≡ Ok ((told, pixels), left)
    → option_map info_of told.frame ≡ Some info
    → output_of bytes ≡ Some (header_line_of (Some info) ++ pixels)
unfolding output_of
output-some limits bytes rest left found told pixels info header picture hi =
    rw (
      output_of,
      header-means None (settings_for false) found bytes rest header
          ∙ (allowed-rest false limits found rest ((told, pixels), left) picture).1,
      hi,
    ) refl

-- They are the meaning of the stream for the picture, or for the luma, which is then turned.
turned-some : (luma : Bool) (turning : Upright) (crop : Option Area) (limits : Limits) (bytes rest left : List ℕ) (found : Found) (told : Told)
    (pixels : List ℕ) (info : ImageInfo) (precision orientation : ℕ) → header_at bytes ≡ Ok (found, rest)
    → rest_by (settings_within luma limits found) found rest ≡ Ok ((told, pixels), left)
    → option_map (info_by (settings_for luma)) told.frame ≡ Some info
    → option_map (λ f. f.precision) told.frame ≡ Some precision
    → orientation ≡ orientation_by turning found.said.metadata.exif
    → elim (meaning (settings_for luma) bytes) [
      | Ok stream ↦ option_map (λ f. raw_bytes (shown_part crop (orientation_by turning (header_exif bytes))
          (decoded_of luma f stream.0.1))) stream.0.0.frame
      | Err fault ↦ None
    ] ≡ Some (raw_bytes (shown_part crop orientation (decoded info precision pixels)))
turned-some luma turning crop limits bytes rest left found told pixels info precision orientation header picture hi hp turn =
    let said = turn ∙ ap (orientation_by turning) (sym (header-exif-some bytes rest found header)) in
    rw (
      header-means None (settings_for luma) found bytes rest header
          ∙ (allowed-rest luma limits found rest ((told, pixels), left) picture).1,
      said,
    )
    (of_frame told.frame (info_by (settings_for luma)) (λ f. f.precision) pixels
    (λ p. raw_bytes (shown_part crop (orientation_by turning (header_exif bytes)) p)) info precision hi hp)

-- So are they what `raw` writes, once the picture is turned by the orientation that is asked for.
pub raw-some : (luma : Bool) (turning : Upright) (crop : Option Area) (limits : Limits) (bytes rest left : List ℕ) (found : Found) (told : Told)
    (pixels : List ℕ) (info : ImageInfo) (precision orientation : ℕ) → header_at bytes ≡ Ok (found, rest)
    → rest_by (settings_within luma limits found) found rest ≡ Ok ((told, pixels), left)
    → option_map (info_by (settings_for luma)) told.frame ≡ Some info
    → option_map (λ f. f.precision) told.frame ≡ Some precision
    → orientation ≡ orientation_by turning found.said.metadata.exif
    → raw_of luma turning crop bytes ≡ Some (raw_bytes (shown_part crop orientation (decoded info precision pixels)))
unfolding raw_of orientation_by
raw-some false AsStored None limits bytes rest left found told pixels info precision orientation header picture hi hp turn =
    let one : orientation ≡ 1 = turn in
    rw (raw_of, one) (output-some limits bytes rest left found told pixels info header picture hi)
raw-some false AsStored (Some area) limits bytes rest left found told pixels info precision orientation header picture hi hp turn =
    turned-some false AsStored (Some area) limits bytes rest left found told pixels info precision orientation header picture hi hp turn
raw-some false Turned crop limits bytes rest left found told pixels info precision orientation header picture hi hp turn =
    turned-some false Turned crop limits bytes rest left found told pixels info precision orientation header picture hi hp turn
raw-some true turning crop limits bytes rest left found told pixels info precision orientation header picture hi hp turn =
    turned-some true turning crop limits bytes rest left found told pixels info precision orientation header picture hi hp turn

-- A stream of which they have a picture codes no more blocks than the limits allow.
pub codes-within : (luma : Bool) (limits : Limits) (bytes rest : List ℕ) (found : Found) (m : (Told × List ℕ) × List ℕ)
    → header_at bytes ≡ Ok (found, rest) → rest_by (settings_within luma limits found) found rest ≡ Ok m
    → CodesWithin limits bytes
codes-within luma limits bytes rest found m header picture =
    subst (λ (r : Outcome Found). IsOkAnd r (λ h. IsWithinLimit (most_after limits h.0) (work_of_rest Zeros h.0 h.1)))
    (sym header) (allowed-rest luma limits found rest m picture).0

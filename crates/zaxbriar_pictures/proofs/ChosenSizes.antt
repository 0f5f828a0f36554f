-- What is made of a stream whose header was read for a request.
use Rattle.std.proofs.Common.{◌≡◌, ◌∙◌, ℕ, List, Option, Some, None, Ok, Bool, true, false, IsSomeAnd, option_map, ap, refl}
use Rattle.std.proofs.Common.{subst, sym}
use Rattle.std.specs.Prelude.{unwrap_or}
use Rattle.jpeg_bits.specs.declared.error.Error.{Error}
use Rattle.jpeg_segments.specs.Frame.{Frame}
use Rattle.jpeg_segments.specs.Scales.{block_side, scaled}
use Rattle.jpeg_segments.specs.declared.frame.Dimensions.{Dimensions}
use Rattle.jpeg_segments.specs.declared.scale.Scale.{Scale}
use Rattle.jpeg_meaning.specs.Found.{Found, with_said}
use Rattle.jpeg_meaning.specs.Pixels.{info_by}
use Rattle.jpeg_meaning.specs.States.{Decoding}
use Rattle.jpeg_meaning.specs.Stream.{header_at, scaled_to}
use Rattle.jpeg_meaning.specs.declared.images.ImageInfo.{ImageInfo}
use Rattle.jpeg_meaning.specs.declared.settings.Settings.{Settings}
use Rattle.zaxbriar_files.specs.declared.limits.Limits.{Limits}
use Rattle.zaxbriar_samples.specs.Boxes.{boxed}
use Rattle.zaxbriar_samples.specs.Sizes.{luma_for, orientation_for, scale_of_request, size_for}
use Rattle.zaxbriar_samples.specs.Turns.{upright}
use Rattle.zaxbriar_samples.specs.declared.files.PictureFormat.{PictureFormat}
use Rattle.zaxbriar_samples.specs.declared.line_takers.Stored.{Stored}
use Rattle.zaxbriar_samples.specs.declared.requests.Request.{Request}
use Rattle.zaxbriar_pictures.specs.ByRows.{frame_by_rows, is_sized_by_rows, request_by_rows}
use Rattle.zaxbriar_pictures.specs.Given.{IsGiven, settings_within}
use Rattle.zaxbriar_pictures.specs.ScaledPictures.{settings_for}
use Rattle.zaxbriar_pictures.specs.Steps.{IsChoice, IsSaid}
use Rattle.zaxbriar_pictures.specs.Thumbnails.{WritesSized, WritesThumbnail, file_rows}
use Rattle.zaxbriar_pictures.specs.declared.extents.Completeness.{Completeness}
use Rattle.zaxbriar_pictures.specs.declared.extents.Extent.{Extent}
use Rattle.zaxbriar_pictures.specs.declared.scaled.Choice.{Choice}
use Rattle.zaxbriar_pictures.proofs.FittingParts.{said-at-scale}
use Rattle.zaxbriar_pictures.proofs.Reasons.{scaled-precision, some-same}
use Rattle.zaxbriar_pictures.proofs.ScaledStreams.{header-exif-some, header-info-is, is-given}
use Rattle.zaxbriar_pictures.proofs.WrittenThumbnails.{written}

-- A header was read for a request, and this is said of the picture at its scale.
pub record IsRequested (request : Request) (limits : Limits) (bytes : List ℕ) (header : Found) (choice : Choice)
    (d : Decoding) (stored : Stored) : Type 0 where
  pub known : d.source.known ≡ true
  pub means : header_at bytes ≡ Ok (header, d.source.bytes)
  pub found : d.found ≡ with_said (scaled_to choice.scale) header
  pub within : d.settings ≡ settings_within (luma_for request) limits d.found
  pub chosen : IsChoice request header choice
  pub said : IsSaid stored d
  pub turned : stored.orientation ≡ choice.orientation

-- Whether its lines are taken as they are read is said by the header.
pub request-by-rows : (extent : Extent) (request : Request) (format : PictureFormat) (limits : Limits) (bytes : List ℕ)
    (header : Found) (choice : Choice) (d : Decoding) (stored : Stored) (b : Bool)
    → IsRequested request limits bytes header choice d stored
    → is_sized_by_rows extent format stored.info stored.precision stored.orientation choice.size ≡ b
    → request_by_rows extent request format header ≡ b
request-by-rows extent request format limits bytes header choice d stored b is rows =
    go header.said.frame is.chosen.sized
    (said-at-scale (luma_for request) limits choice.scale header d stored.info is.found is.within is.said.info_is)
    (subst (λ (f : Found). option_map (λ f. f.precision) f.said.frame ≡ Some stored.precision) is.found
    is.said.precision_is)
  where
    go : (frame : Option Frame) → IsSomeAnd (option_map (info_by (settings_for (luma_for request))) frame) (λ full.
        (choice.full ≡ full) × (choice.scale ≡ scale_of_request request full choice.orientation)
        × (choice.size ≡ size_for request full choice.orientation))
        → option_map (info_by (settings_for (luma_for request))) (option_map (scaled choice.scale) frame) ≡ Some stored.info
        → option_map (λ f. f.precision) (option_map (scaled choice.scale) frame) ≡ Some stored.precision
        → unwrap_or (option_map (frame_by_rows extent request format (orientation_for request header.said.metadata.exif))
        frame) false ≡ b
    go None h i p = absurd h
    go (Some f) h i p =
        let s : Settings = settings_for (luma_for request) in
        let full : ImageInfo = info_by s f in
        ap (λ (o : ℕ). is_sized_by_rows extent format (info_by s (scaled (scale_of_request request full o) f))
        f.precision o (size_for request full o)) (sym is.chosen.turned)
        ∙ ap (λ (c : Scale). is_sized_by_rows extent format (info_by s (scaled c f)) f.precision choice.orientation
        (size_for request full choice.orientation)) (sym h.1)
        ∙ ap (λ (z : Dimensions). is_sized_by_rows extent format (info_by s (scaled choice.scale f)) f.precision
        choice.orientation z) (sym h.2)
        ∙ ap (λ (k : ImageInfo). is_sized_by_rows extent format k f.precision choice.orientation choice.size)
        (some-same (info_by s (scaled choice.scale f)) stored.info i)
        ∙ ap (λ (n : ℕ). is_sized_by_rows extent format stored.info n choice.orientation choice.size)
        (sym (scaled-precision f.process (block_side choice.scale) f)
        ∙ some-same (scaled choice.scale f).precision stored.precision p)
        ∙ ap (λ (o : ℕ). is_sized_by_rows extent format stored.info stored.precision o choice.size) (sym is.turned)
        ∙ rows

-- The file of the picture for a size is the one for the request.
pub thumbnail-written : (extent : Extent) (limits : Limits) (request : Request) (format : PictureFormat) (bytes : List ℕ)
    (before after : Option (List ℕ)) (header : Found) (choice : Choice) (d : Decoding) (stored : Stored)
    (sized told : Completeness) → IsRequested request limits bytes header choice d stored
    → WritesSized extent stored.orientation choice.size format d before after sized
    → told.info ≡ choice.full
    → told.whole_rows ≡ file_rows choice.scale choice.full.height sized.info.height sized.whole_rows
    → told.fault ≡ sized.fault → WritesThumbnail extent limits request format bytes before after told
thumbnail-written extent limits request format bytes before after header choice d stored sized told is w info rows fault =
    let given = is-given extent (luma_for request) limits choice.scale bytes header d w.new w.picture sized is.means is.known
    is.found is.within w.gives in
    let turn = is.turned ∙ is.chosen.turned
    ∙ ap (orientation_for request) (sym (header-exif-some bytes d.source.bytes header is.means)) in
    written extent limits request format bytes before after choice.scale choice.size stored.orientation sized.whole_rows
    w.picture (boxed choice.size w.picture) (upright stored.orientation (boxed choice.size w.picture)) told turn
    (subst (λ (e : Option Error). IsGiven extent (luma_for request) limits choice.scale bytes w.picture sized.whole_rows e)
    (sym fault) given)
    (rows ∙ ap (λ (i : ImageInfo). file_rows choice.scale i.height sized.info.height sized.whole_rows) (sym info)
    ∙ ap (λ (i : ImageInfo). file_rows choice.scale told.info.height i.height sized.whole_rows) w.gives.told_is)
    (subst (λ (o : Option ImageInfo). IsSomeAnd o (λ full. (told.info ≡ full)
    × (choice.scale ≡ scale_of_request request full stored.orientation)
    × (choice.size ≡ size_for request full stored.orientation)))
    (sym (header-info-is (luma_for request) bytes d.source.bytes header is.means))
    (subst (λ (o : ℕ). IsSomeAnd (option_map (info_by (settings_for (luma_for request))) header.said.frame) (λ full.
    (told.info ≡ full) × (choice.scale ≡ scale_of_request request full o) × (choice.size ≡ size_for request full o)))
    (sym is.turned)
    (subst (λ (i : ImageInfo). IsSomeAnd (option_map (info_by (settings_for (luma_for request))) header.said.frame) (λ full.
    (i ≡ full) × (choice.scale ≡ scale_of_request request full choice.orientation)
    × (choice.size ≡ size_for request full choice.orientation))) (sym info) is.chosen.sized)))
    refl refl w.written

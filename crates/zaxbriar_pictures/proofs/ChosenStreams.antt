-- What is made of a stream whose header was read for a scale.
use Rattle.std.proofs.Common.{◌≡◌, ◌∙◌, ℕ, List, Option, Some, Ok, Bool, true, false, option_map, ap, refl, sym}
use Rattle.jpeg_bits.specs.declared.error.Error.{Error}
use Rattle.jpeg_segments.specs.declared.scale.Scale.{Scale}
use Rattle.jpeg_segments.specs.Scales.{scaled}
use Rattle.jpeg_meaning.specs.Found.{Found, with_said}
use Rattle.jpeg_meaning.specs.Pixels.{info_by}
use Rattle.jpeg_meaning.specs.States.{Decoding}
use Rattle.jpeg_meaning.specs.Stream.{header_at, scaled_to}
use Rattle.zaxbriar_files.specs.declared.limits.Limits.{Limits}
use Rattle.zaxbriar_samples.specs.Files.{has_pixels}
use Rattle.zaxbriar_samples.specs.Parts.{has_part}
use Rattle.zaxbriar_samples.specs.Sizes.{orientation_by, orientation_for}
use Rattle.zaxbriar_samples.specs.declared.files.PictureFormat.{PictureFormat}
use Rattle.zaxbriar_samples.specs.declared.line_takers.Stored.{Stored}
use Rattle.zaxbriar_samples.specs.declared.requests.AtScale.{AtScale}
use Rattle.zaxbriar_samples.specs.declared.requests.Request.TheVariants.{At}
use Rattle.zaxbriar_pictures.specs.ByRows.{is_by_rows, read_at_scale, read_rest}
use Rattle.zaxbriar_pictures.specs.Crops.{fits}
use Rattle.zaxbriar_pictures.specs.Given.{WritesGiven, settings_within}
use Rattle.zaxbriar_pictures.specs.Reasons.{LacksColours, NamesOrOutside}
use Rattle.zaxbriar_pictures.specs.ScaledPictures.{settings_for}
use Rattle.zaxbriar_pictures.specs.Steps.{IsSaid, ReadsForRequest, WritesFile}
use Rattle.zaxbriar_pictures.specs.declared.extents.Completeness.{Completeness}
use Rattle.zaxbriar_pictures.specs.declared.extents.Extent.{Extent}
use Rattle.zaxbriar_pictures.specs.declared.scaled.Choice.{Choice}
use Rattle.zaxbriar_pictures.proofs.FittingParts.{fits-there, orientation-at, said-at-scale}
use Rattle.zaxbriar_pictures.proofs.Reasons.{by-rows-at, lacks-by-header, named-same, read-is}
use Rattle.zaxbriar_pictures.proofs.ScaledStreams.{file-given, header-exif-some, is-given}

-- A header was read for a scale, and what it says of the picture there.
pub record IsChosen (asked : AtScale) (limits : Limits) (bytes : List ℕ) (d : Decoding) (stored : Stored) : Type 0 where
  pub header : Found
  pub known : d.source.known ≡ true
  pub means : header_at bytes ≡ Ok (header, d.source.bytes)
  pub found : d.found ≡ with_said (scaled_to asked.scale) header
  pub within : d.settings ≡ settings_within asked.luma limits d.found
  pub turned : stored.orientation ≡ orientation_for (At asked) header.said.metadata.exif
  pub said : IsSaid stored d

pub is-chosen : (asked : AtScale) (limits : Limits) (old d : Decoding) (choice : Choice) (stored : Stored)
    → ReadsForRequest (At asked) limits choice old d → choice.scale ≡ asked.scale → IsSaid stored d
    → stored.orientation ≡ choice.orientation → old.source.known ≡ true
    → IsChosen asked limits old.source.bytes d stored
is-chosen asked limits old d choice stored begun scale said same known =
    let read = begun.reads known in record {
      header = read.1.0;
      known = read.0;
      means = read.1.1;
      found = read.1.2 ∙ ap (λ (scale : Scale). with_said (scaled_to scale) read.1.0) scale;
      within = begun.settings;
      turned = same ∙ read.1.3.turned;
      said = said;
    }

-- A file that was written is that of what the stream gives.
pub chosen-file : (extent : Extent) (asked : AtScale) (limits : Limits) (format : PictureFormat) (bytes : List ℕ)
    (old : Decoding) (stored : Stored) (before after : Option (List ℕ)) (told : Completeness)
    → IsChosen asked limits bytes old stored
    → WritesFile extent asked.crop stored.orientation format old before after told
    → WritesGiven extent limits asked format bytes before after told
chosen-file extent asked limits format bytes old stored before after told is file =
    file-given extent limits asked stored.orientation format bytes before after file.picture told
    (is.turned ∙ ap (orientation_for (At asked)) (sym (header-exif-some bytes old.source.bytes is.header is.means)))
    (is-given extent asked.luma limits asked.scale bytes is.header old file.new file.picture told is.means is.known
    is.found is.within file.gives) file.gives.told_is file.written

-- What is said of the picture is said of the header's at the scale.
said-of-header : (asked : AtScale) (limits : Limits) (bytes : List ℕ) (d : Decoding) (stored : Stored)
    → (is : IsChosen asked limits bytes d stored)
    → option_map (info_by (settings_for asked.luma)) (option_map (scaled asked.scale) is.header.said.frame)
    ≡ Some stored.info
said-of-header asked limits bytes d stored is =
    said-at-scale asked.luma limits asked.scale is.header d stored.info is.found is.within is.said.info_is

turned-by-header : (asked : AtScale) (limits : Limits) (bytes : List ℕ) (d : Decoding) (stored : Stored)
    → (is : IsChosen asked limits bytes d stored)
    → stored.orientation ≡ orientation_by asked.upright is.header.said.metadata.exif
turned-by-header asked limits bytes d stored is = orientation-at asked is.header stored.orientation is.turned

pub chosen-fits : (asked : AtScale) (limits : Limits) (bytes : List ℕ) (d : Decoding) (stored : Stored) (fitted : Bool)
    → IsChosen asked limits bytes d stored → has_part asked.crop stored.orientation stored.info ≡ fitted
    → fits asked bytes ≡ fitted
chosen-fits asked limits bytes d stored fitted is h =
    fits-there asked bytes d.source.bytes is.header stored.info stored.orientation fitted is.means
    (said-of-header asked limits bytes d stored is) (turned-by-header asked limits bytes d stored is) h

pub chosen-lacks : (asked : AtScale) (limits : Limits) (format : PictureFormat) (bytes : List ℕ) (d : Decoding)
    (stored : Stored) → IsChosen asked limits bytes d stored → has_pixels format stored.info.pixel_format ≡ false
    → LacksColours format asked.luma bytes
chosen-lacks asked limits format bytes d stored is none =
    lacks-by-header format asked.luma asked.scale bytes d.source.bytes is.header stored.info is.means
    (said-of-header asked limits bytes d stored is) none

-- A refusal of the rest names the fault that the stream has.
pub chosen-named : (extent : Extent) (asked : AtScale) (limits : Limits) (format : PictureFormat) (bytes : List ℕ)
    (d : Decoding) (stored : Stored) (e : Error) → IsChosen asked limits bytes d stored
    → NamesOrOutside (read_rest (is_by_rows extent format stored.precision stored.orientation) extent d.settings
    d.found d.source.bytes) e
    → NamesOrOutside (read_at_scale extent limits asked format bytes) e
chosen-named extent asked limits format bytes d stored e is names =
    named-same _ _ e (read-is extent limits asked format bytes is.header d _ is.means is.found is.within
    (by-rows-at extent asked format is.header d stored.precision stored.orientation _ is.found is.said.precision_is
    (turned-by-header asked limits bytes d stored is) refl)) names

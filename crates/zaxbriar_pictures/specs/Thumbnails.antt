-- The file of a small picture of a stream.
use Rattle.std.specs.Prelude.{ℕ, List, Option, ◌≡◌, ◌==◌, ◌*◌, Some, min, if◌then◌else◌}
use Rattle.std.specs.Prelude.{IsSomeAnd}
use Rattle.std.specs.Io.KnownBytes.{Appends}
use Rattle.jpeg_meaning.specs.declared.images.ImageInfo.{ImageInfo}
use Rattle.jpeg_meaning.specs.States.{Decoding}
use Rattle.jpeg_segments.specs.declared.frame.Dimensions.{Dimensions}
use Rattle.zaxbriar_pictures.specs.Steps.{GivesPicture}
use Rattle.zaxbriar_samples.specs.DecodedPictures.{Decoded}
use Rattle.jpeg_decoder.specs.Reaching.{NamesFault}
use Rattle.jpeg_segments.specs.declared.scale.Scale.{Scale}
use Rattle.jpeg_segments.specs.declared.scale.Scale.TheVariants.{Eighth, Quarter, Half, Full}
use Rattle.zaxbriar_files.specs.declared.limits.Limits.{Limits}
use Rattle.zaxbriar_pictures.specs.Given.{Given, complete_rows, given_at_scale}
use Rattle.zaxbriar_pictures.specs.ScaledPictures.{header_exif, header_info}
use Rattle.zaxbriar_samples.specs.Sizes.{luma_for, orientation_for, scale_of_request, size_for}
use Rattle.zaxbriar_pictures.specs.declared.extents.Completeness.{Completeness}
use Rattle.zaxbriar_pictures.specs.declared.extents.Extent.{Extent}
use Rattle.zaxbriar_samples.specs.declared.files.PictureFormat.{PictureFormat}
use Rattle.zaxbriar_samples.specs.declared.requests.Request.{Request}
use Rattle.zaxbriar_samples.specs.Boxes.{boxed}
use Rattle.zaxbriar_samples.specs.Files.{file_as}
use Rattle.zaxbriar_samples.specs.Turns.{upright}

-- how many rows of the whole picture a row of the picture at a scale stands for
abbrev pub rows_a_row : Scale → ℕ
rows_a_row Eighth = 8
rows_a_row Quarter = 4
rows_a_row Half = 2
rows_a_row Full = 1

-- How many rows of the whole picture, from its top, some rows of the picture at a scale stand for.
-- The last may stand for fewer, and a lossless picture keeps its height at each scale.
abbrev pub file_rows : Scale → ℕ → ℕ → ℕ → ℕ
file_rows scale full height rows =
    if height == full then rows else min full (rows * rows_a_row scale)

-- A caller is told how much is complete of the whole picture, as the file stores it: what its
-- header says, for how many rows those stand that are complete at the scale, and the name of the
-- fault.
abbrev pub TellsOfFile : ImageInfo → Extent → Limits → Scale → List ℕ → Given → Completeness
    → Type 0
TellsOfFile full extent limits scale bytes g told = (told.info ≡ full)
    × (told.whole_rows ≡ file_rows scale full.height g.picture.info.height
    (complete_rows extent limits scale bytes g.picture.info.height))
    × NamesFault told.fault g.fault

-- A writer is given the file, in a format that has one, of the picture that the stream gives at the
-- scale for the request, within the limits, boxed down to the requested size, and turned upright by
-- the orientation for the request: the one that the Exif data of the header say, or 1. Its caller
-- is told how much of the file's picture is complete.
abbrev pub WritesThumbnail : Extent → Limits → Request → PictureFormat → List ℕ
    → Option (List ℕ) → Option (List ℕ) → Completeness → Type 0
WritesThumbnail extent limits request format bytes before after told =
    let orientation = orientation_for request (header_exif bytes) in
    (full : ImageInfo) × (g : Given) × (header_info (luma_for request) bytes ≡ Some full)
    × (given_at_scale extent (luma_for request) limits
    (scale_of_request request full orientation) bytes ≡ Some g)
    × IsSomeAnd
    (file_as format (upright orientation (boxed (size_for request full orientation) g.picture)))
    (Appends before after)
    × TellsOfFile full extent limits (scale_of_request request full orientation) bytes g told

-- A decoder whose header was read has given a picture, of which this much is complete, and a writer
-- has got its file, boxed down to a size and turned upright by an orientation.
pub record WritesSized (extent : Extent) (orientation : ℕ) (size : Dimensions)
    (format : PictureFormat) (old : Decoding) (before after : Option (List ℕ))
    (told : Completeness) : Type 0 where
  pub picture : Decoded
  pub new : Decoding
  pub gives : GivesPicture extent old new picture told
  pub written : IsSomeAnd (file_as format (upright orientation (boxed size picture)))
      (Appends before after)

-- The sizes and the scales of pictures that are to fit within a size.
use Rattle.std.specs.Prelude.{ℕ, ◌+◌, ◌*◌, ◌/◌, ◌&&◌, ◌==◌, Bool, false, max, min, nat_le, nat_lt}
use Rattle.std.specs.Prelude.{if◌then◌else◌}
use Rattle.std.specs.Prelude.{List, Option, None, Some, unwrap_or}
use Rattle.std.specs.Int.{div_ceil}
use Rattle.jpeg_orientation.specs.Orientation.{orientation_in}
use Rattle.jpeg_segments.specs.declared.frame.Dimensions.{Dimensions}
use Rattle.jpeg_meaning.specs.declared.images.ImageInfo.{ImageInfo}
use Rattle.zaxbriar_samples.specs.declared.requests.AtScale.{AtScale}
use Rattle.zaxbriar_samples.specs.declared.requests.Request.{Request}
use Rattle.zaxbriar_samples.specs.declared.requests.Request.TheVariants.{At, Within}
use Rattle.zaxbriar_samples.specs.declared.requests.Upright.{Upright}
use Rattle.zaxbriar_samples.specs.declared.requests.Upright.TheVariants.{Turned, AsStored}
use Rattle.jpeg_segments.specs.declared.scale.Scale.{Scale}
use Rattle.jpeg_segments.specs.declared.scale.Scale.TheVariants.{Eighth, Quarter, Half, Full}

abbrev pub dimensions : ℕ → ℕ → Dimensions
dimensions width height = record { width = width; height = height }

-- A size of the picture that is shown as one of the picture that is stored: the orientations from 5
-- to 8 lie on their side.
abbrev pub as_stored : Dimensions → ℕ → Dimensions
as_stored size orientation =
    if nat_lt orientation 5 then size else dimensions size.height size.width

-- what a side is when another side becomes shorter, from the first length to the second: the
-- nearest number, and 1 at least
abbrev pub shrunk : ℕ → ℕ → ℕ → ℕ
shrunk side from to = max 1 (min side ((side * to + from / 2) / from))

-- whether a width and a height are within a size
abbrev pub is_within : ℕ → ℕ → Dimensions → Bool
is_within width height most = nat_le width most.width && nat_le height most.height

-- The size of a picture that is to fit within a size: its own where that fits, or else the greatest
-- with its proportions.
abbrev pub fitted : ImageInfo → Dimensions → Dimensions
fitted full most = if is_within full.width full.height most
    then dimensions full.width full.height
    else if nat_le (full.height * most.width) (full.width * most.height)
    then dimensions most.width (shrunk full.height full.width most.width)
    else dimensions (shrunk full.width full.height most.height) most.height

-- what a side is at a scale, rounded up
abbrev pub side_at : Scale → ℕ → ℕ
side_at Eighth side = div_ceil side 8
side_at Quarter side = div_ceil side 4
side_at Half side = div_ceil side 2
side_at Full side = side

-- a scale at which the whole picture stays as it is stored, in its colours
abbrev pub stored_at : Scale → AtScale
stored_at scale = record { scale = scale; upright = AsStored; luma = false; crop = None }

-- whether a picture at a scale isn't smaller than a size
abbrev pub covers : Scale → ImageInfo → Dimensions → Bool
covers scale full size =
    nat_le size.width (side_at scale full.width) && nat_le size.height (side_at scale full.height)

-- whether a size is that of the whole picture
abbrev pub is_full : ImageInfo → Dimensions → Bool
is_full full size = size.width == full.width && size.height == full.height

-- The least scale at which a picture isn't smaller than a size: all of it, where that is its size.
abbrev pub least_scale : ImageInfo → Dimensions → Scale
least_scale full size = if is_full full size then Full
    else if covers Eighth full size then Eighth
    else if covers Quarter full size then Quarter
    else if covers Half full size then Half
    else Full

-- The orientation by which a picture is to be turned: the one that its Exif data say, or 1 where
-- they say none or the picture is to stay as it is stored.
unfoldable pub orientation_by : Upright → Option (List ℕ) → ℕ
orientation_by AsStored exif = 1
orientation_by Turned None = 1
orientation_by Turned (Some exif) = unwrap_or (orientation_in exif) 1

unfoldable pub orientation_for : Request → Option (List ℕ) → ℕ
orientation_for (At at) exif = orientation_by at.upright exif
orientation_for (Within most upright) exif = orientation_by upright exif

-- whether a picture in colour is to be made of its luma alone
abbrev pub luma_for : Request → Bool
luma_for (At at) = at.luma
luma_for (Within most upright) = false

-- The size of the requested picture, as it is stored, and the scale that it is decoded at:
-- by what the header says, and the orientation.
unfoldable pub size_for : Request → ImageInfo → ℕ → Dimensions
size_for (At at) full orientation =
    dimensions (side_at at.scale full.width) (side_at at.scale full.height)
size_for (Within most upright) full orientation = fitted full (as_stored most orientation)

unfoldable pub scale_of_request : Request → ImageInfo → ℕ → Scale
scale_of_request (At at) full orientation = at.scale
scale_of_request (Within most upright) full orientation = least_scale full (fitted full (as_stored
    most orientation))

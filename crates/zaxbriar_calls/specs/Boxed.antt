-- Pictures, and parts of them, that are made smaller so that they fit within a size: to which size,
-- and their samples.
use Rattle.std.specs.Prelude.{◌≡◌, ◌==◌, ◌||◌, ℕ, Bool, List, not, false, if◌then◌else◌}
use Rattle.jpeg_meaning.specs.declared.images.ImageInfo.{ImageInfo}
use Rattle.jpeg_orientation.specs.declared.turns.Turn.{Turn}
use Rattle.jpeg_segments.specs.declared.frame.Dimensions.{Dimensions}
use Rattle.zaxbriar_samples.specs.Boxes.{boxed, is_smaller, resized}
use Rattle.zaxbriar_samples.specs.DecodedPictures.{decoded}
use Rattle.zaxbriar_samples.specs.Sizes.{as_stored, dimensions, fitted}
use Rattle.zaxbriar_calls.specs.declared.options.Options.{Options}

-- whether a picture is to fit within a size: where both numbers are 0 it may have any
abbrev pub is_fitted : Options → Bool
is_fitted o = not (o.most_width == 0) || not (o.most_height == 0)

-- the greatest length of a side, where 0 is any
abbrev pub most_side : ℕ → ℕ
most_side side = if side == 0 then 65535 else side

-- the size within which a picture of an orientation is to fit as it is stored
abbrev pub most_stored : Options → ℕ → Dimensions
most_stored o orientation =
    as_stored (dimensions (most_side o.most_width) (most_side o.most_height)) orientation

-- the size of a picture, or of a part of one, as it is stored, and what is said of it
abbrev pub turned_size : Turn → Dimensions
turned_size turn = dimensions turn.width turn.height

abbrev pub turned_info : ImageInfo → Turn → ImageInfo
turned_info info turn = resized info (turned_size turn)

-- a size, where a picture is made smaller to it, and else the picture's own
abbrev pub smaller_size : ImageInfo → Dimensions → Dimensions
smaller_size info size =
    if is_smaller size info then size else dimensions info.width info.height

-- the size, as it is stored, of a picture or of its part that fits as it is shown
abbrev pub fit_of : Options → ImageInfo → Turn → Dimensions
fit_of o info turn = if is_fitted o
    then smaller_size (turned_info info turn)
    (fitted (turned_info info turn) (most_stored o turn.orientation))
    else turned_size turn

-- how it is turned then
abbrev pub turned_to : Turn → Dimensions → Turn
turned_to turn size =
    record { width = size.width; height = size.height; orientation = turn.orientation }

abbrev pub fit_turn : Options → ImageInfo → Turn → Turn
fit_turn o info turn = turned_to turn (fit_of o info turn)

-- the samples of a picture that is made smaller to a size: each the mean of those of its box
abbrev pub fit_samples : ImageInfo → ℕ → Dimensions → List ℕ → List ℕ
fit_samples info precision size samples = (boxed size (decoded info precision samples)).pixels

-- ---- what the code's own clauses need

-- A size is that of a picture, unless the picture is made smaller to it.
abbrev pub IsOwnOrSmaller : ImageInfo → Dimensions → Type 0
IsOwnOrSmaller info size =
    is_smaller size info ≡ false → size ≡ dimensions info.width info.height

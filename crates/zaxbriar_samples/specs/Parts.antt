-- Parts of pictures.
use Rattle.std.specs.Prelude.{ℕ, ◌+◌, ◌*◌, List, Bool, true, Option, None, Some, drop, take}
use Rattle.std.specs.Prelude.{if◌then◌else◌}
use Rattle.jpeg_orientation.specs.Areas.{is_inside, stored_area}
use Rattle.jpeg_orientation.specs.Turns.{upright_height, upright_width}
use Rattle.jpeg_orientation.specs.declared.areas.Area.{Area}
use Rattle.jpeg_meaning.specs.declared.images.ImageInfo.{ImageInfo}
use Rattle.zaxbriar_samples.specs.Boxes.{components_a_pixel, texts_below}
use Rattle.zaxbriar_samples.specs.DecodedPictures.{Decoded, decoded}
use Rattle.zaxbriar_samples.specs.Samples.{is_wide}
use Rattle.zaxbriar_samples.specs.Turns.{turn_by, upright, upright_pixel}

-- how many bytes a pixel of a picture has
abbrev pub pixel_bytes : ImageInfo → ℕ → ℕ
pixel_bytes info precision =
    components_a_pixel info.pixel_format * (if is_wide precision then 2 else 1)

-- the bytes of a line of a part of a picture
unfoldable pub part_line : Area → Decoded → ℕ → List ℕ
part_line area p y = let bytes = pixel_bytes p.info p.precision in
    take (area.width * bytes) (drop (((area.top + y) * p.info.width + area.left) * bytes) p.pixels)

-- what is said of a part of a picture
abbrev pub part_info : Area → ImageInfo → ImageInfo
part_info area info = record info { width = area.width; height = area.height }

-- a part of a picture
abbrev pub part_of : Area → Decoded → Decoded
part_of area p =
    decoded (part_info area p.info) p.precision (texts_below area.height (part_line area p))

-- whether a part lies in a picture that is turned upright by an orientation; all of it does
abbrev pub has_part : Option Area → ℕ → ImageInfo → Bool
has_part None orientation info = true
has_part (Some area) orientation info =
    is_inside area (upright_width (turn_by info orientation)) (upright_height (turn_by info
    orientation))

-- The part of the stored picture which becomes that part of the picture that is turned upright, and
-- that part.
abbrev pub stored_part : Option Area → ℕ → Decoded → Decoded
stored_part None orientation p = p
stored_part (Some area) orientation p = part_of (stored_area (turn_by p.info orientation) area) p

abbrev pub shown_part : Option Area → ℕ → Decoded → Decoded
shown_part crop orientation p = upright orientation (stored_part crop orientation p)

-- the bytes of a pixel of a picture that is turned upright
abbrev pub shown_pixel : ℕ → Decoded → ℕ → ℕ → List ℕ
shown_pixel orientation p across down = upright_pixel (turn_by p.info orientation)
    (pixel_bytes p.info p.precision) p.pixels down across

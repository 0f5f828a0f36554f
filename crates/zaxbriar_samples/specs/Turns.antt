-- Pictures turned upright by the orientation in their Exif data: where each pixel comes from.
use Rattle.std.specs.Prelude.{ℕ, ◌*◌, ◌==◌, List, drop, take}
use Rattle.std.specs.Prelude.{if◌then◌else◌, nat_lt}
use Rattle.jpeg_orientation.specs.Turns.{stored_offset, upright_height, upright_width}
use Rattle.jpeg_orientation.specs.declared.turns.Turn.{Turn}
use Rattle.jpeg_meaning.specs.declared.images.ImageInfo.{ImageInfo}
use Rattle.jpeg_meaning.specs.declared.images.PixelFormat.{PixelFormat}
use Rattle.jpeg_meaning.specs.declared.images.PixelFormat.TheVariants.{L8, L16, RGB24, CMYK32}
use Rattle.zaxbriar_samples.specs.Boxes.{texts_below}
use Rattle.zaxbriar_samples.specs.DecodedPictures.{Decoded, decoded}

-- the bytes of the pixel down and across in the upright picture, whose pixels have so many
unfoldable pub upright_pixel : Turn → ℕ → List ℕ → ℕ → ℕ → List ℕ
upright_pixel turn bytes pixels down across =
    take bytes (drop (stored_offset turn across down * bytes) pixels)

-- the bytes of a line of the upright picture, and of all of them
unfoldable pub upright_line : Turn → ℕ → List ℕ → ℕ → List ℕ
upright_line turn bytes pixels down =
    texts_below (upright_width turn) (upright_pixel turn bytes pixels down)

unfoldable pub turned_pixels : Turn → ℕ → List ℕ → List ℕ
turned_pixels turn bytes pixels =
    texts_below (upright_height turn) (upright_line turn bytes pixels)

-- how many bytes a pixel has
abbrev pub bytes_of : PixelFormat → ℕ → ℕ
bytes_of L8 precision = 1
bytes_of L16 precision = 2
bytes_of RGB24 precision = if nat_lt 8 precision then 6 else 3
bytes_of CMYK32 precision = if nat_lt 8 precision then 8 else 4

-- how a picture is turned by an orientation
abbrev pub turn_by : ImageInfo → ℕ → Turn
turn_by info orientation =
    record { width = info.width; height = info.height; orientation = orientation }

-- what is said of the upright picture
abbrev pub turned_info : Turn → ImageInfo → ImageInfo
turned_info turn info =
    record info { width = upright_width turn; height = upright_height turn }

-- the upright picture
abbrev pub upright : ℕ → Decoded → Decoded
upright orientation p = if orientation == 1 then p
    else decoded (turned_info (turn_by p.info orientation) p.info) p.precision
    (turned_pixels (turn_by p.info orientation) (bytes_of p.info.pixel_format p.precision) p.pixels)

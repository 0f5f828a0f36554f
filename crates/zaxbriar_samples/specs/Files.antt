-- The file of a picture in a format.
use Rattle.std.specs.Prelude.{ℕ, Bool, true, List, Option, Some, None, if◌then◌else◌}
use Rattle.jpeg_meaning.specs.declared.images.PixelFormat.{PixelFormat}
use Rattle.zaxbriar_samples.specs.DecodedPictures.{Decoded}
use Rattle.zaxbriar_samples.specs.Netpbm.{file_of}
use Rattle.zaxbriar_samples.specs.Png.{has_png, png_of}
use Rattle.zaxbriar_samples.specs.declared.files.PictureFormat.{PictureFormat}
use Rattle.zaxbriar_samples.specs.declared.files.PictureFormat.TheVariants.{Netpbm, Png}

-- whether a format has the pixels of a picture
abbrev pub has_pixels : PictureFormat → PixelFormat → Bool
has_pixels Netpbm pixels = true
has_pixels Png pixels = has_png pixels

-- the file of a picture in a format that has its pixels
abbrev pub file_as : PictureFormat → Decoded → Option (List ℕ)
file_as Netpbm p = Some (file_of p.info p.precision p.pixels)
file_as Png p =
    if has_png p.info.pixel_format then Some (png_of p.info p.precision p.pixels) else None

-- What a caller sees of planes and upsamplers, and what is asked of components.
use Rattle.std.specs.Prelude.{◌≡◌, ℕ}
use Rattle.jpeg_pixels.specs.Pictures.{Source}
use Rattle.jpeg_pixels.specs.declared.sources.ComponentSource.{ComponentSource}
use Rattle.jpeg_pixels.specs.declared.color_convert.ColorConvert.{ColorConvert}
use Rattle.jpeg_pixels.specs.declared.color_convert.ColorConvert.TheVariants as converts

abbrev pub source_in : ComponentSource → Source
source_in c = record { rule = c.rule; width = c.width; height = c.height; stride = c.row_stride }

-- a conversion is for this many components
abbrev pub IsFor : ℕ → ColorConvert → Type 0
IsFor count converts.None = Unit {0}
IsFor count converts.Rgb = count ≡ 3
IsFor count converts.YCbCr = count ≡ 3
IsFor count converts.Cmyk = count ≡ 4
IsFor count converts.Ycck = count ≡ 4

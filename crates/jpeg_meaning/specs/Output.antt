-- What the program writes for a stream.
use Rattle.std.specs.Prelude.{◌≡◌, ◌<◌, ◌^◌, ℕ, List, [], ◌∷◌, ◌++◌, ◌⊎◌, Ok, Err, Option, Some}
use Rattle.std.specs.Prelude.{None, false, option_map, codes, length, string_bytes}
use Rattle.std.specs.Fmt.{decimal}
use Rattle.std.specs.Io.KnownBytes.{Appends}
use Rattle.jpeg_bits.specs.Reading.{Names}
use Rattle.jpeg_bits.specs.declared.error.Error.{Error}
use Rattle.jpeg_bits.specs.declared.error.Error.TheVariants.{Format, Io}
use Rattle.jpeg_bits.specs.declared.error.Error.TheVariants.{OutOfMemory}
use Rattle.jpeg_meaning.specs.declared.settings.Settings.{Settings}
use Rattle.jpeg_meaning.specs.declared.images.ImageInfo.{ImageInfo}
use Rattle.jpeg_meaning.specs.declared.images.PixelFormat.{PixelFormat}
use Rattle.jpeg_meaning.specs.declared.images.PixelFormat.TheVariants.{L8, L16, RGB24, CMYK32}
use Rattle.jpeg_meaning.specs.Stream.{meaning}
use Rattle.jpeg_meaning.specs.Pixels.{info_of}

-- the settings of a new decoder
abbrev pub default_settings : Settings
default_settings = record {
  limit = 18446744073709551615;
  color_transform = None;
  max_blocks = None;
  luma = false;
}

abbrev pub name_of : PixelFormat → List ℕ
name_of L8 = codes "L8"
name_of L16 = codes "L16"
name_of RGB24 = codes "RGB24"
name_of CMYK32 = codes "CMYK32"

-- width, height and format, and a line feed
abbrev pub header_line_of : Option ImageInfo → List ℕ
header_line_of None = []
header_line_of (Some info) = decimal info.width ++ 32 ∷ decimal info.height ++ 32 ∷ name_of
    info.pixel_format ++ 10 ∷ []

-- what is written for a stream that has a meaning
unfoldable pub output_of : List ℕ → Option (List ℕ)
output_of bytes =
    elim (meaning default_settings bytes) [
      | Ok stream ↦ Some (header_line_of (option_map info_of stream.0.0.frame) ++ stream.0.1)
      | Err fault ↦ None
    ]

-- the writer took a beginning of a text
abbrev pub TakesBeginning : Option (List ℕ) → Option (List ℕ) → List ℕ → Type 0
TakesBeginning old new text = (taken : List ℕ) × (rest : List ℕ) × (text ≡ taken ++ rest)
    × Appends old new taken

-- an error of the reader or the writer
abbrev pub IsOutside : Error → Type 0
IsOutside (Io error) = Unit {0}
IsOutside (Format text) = string_bytes text ≡ []
IsOutside _ = ⊥

-- out of memory, or an error of the reader or the writer
abbrev pub IsOutsideOrMemory : Error → Type 0
IsOutsideOrMemory (Io error) = Unit {0}
IsOutsideOrMemory (Format text) = string_bytes text ≡ []
IsOutsideOrMemory OutOfMemory = Unit {0}
IsOutsideOrMemory _ = ⊥

-- the fault of these bytes by its name, or an error of the reader or the writer, or out of memory
abbrev pub NamesOrOutside : List ℕ → Error → Type 0
NamesOrOutside bytes e = Names e (meaning default_settings bytes) ⊎ IsOutsideOrMemory e

-- the contract of a reader names these bytes, fewer than 2^64
pub record Tells (remaining : Option (List ℕ)) (bytes : List ℕ) : Type 0 where
  pub told : remaining ≡ Some bytes
  pub few : length bytes < 2 ^ 64

-- A picture as a file of the netpbm formats.
use Rattle.std.specs.Prelude.{ℕ, zero, suc, ◌-◌, ◌/◌, ◌^◌, List, [], ◌∷◌, ◌++◌, length, codes}
use Rattle.std.specs.Prelude.{if◌then◌else◌, nat_le, ◌==◌}
use Rattle.std.specs.Fmt.{decimal}
use Rattle.jpeg_meaning.specs.declared.images.ImageInfo.{ImageInfo}
use Rattle.zaxbriar_samples.specs.Samples.{greatest_sample, is_wide}
use Rattle.jpeg_meaning.specs.declared.images.PixelFormat.{PixelFormat}
use Rattle.jpeg_meaning.specs.declared.images.PixelFormat.TheVariants.{L8, L16, RGB24, CMYK32}

-- the greatest sample of this many bits, of which two bytes have 16
abbrev pub greatest_of_bits : ℕ → ℕ
greatest_of_bits precision = if nat_le 16 precision then 65535 else 2 ^ precision - 1

-- MAXVAL, the greatest value that a sample of a file may have: 255 where samples have 8 bits, that
-- of the precision where no sample is above it, or else that of the bytes that a sample takes. (The
-- samples of a lossless picture are sums modulo 2^16, which may need more bits than its precision
-- has.)
abbrev pub greatest_value : ℕ → List ℕ → ℕ
greatest_value precision pixels = if precision == 8 then 255
    else if nat_le (greatest_sample precision pixels) (greatest_of_bits precision)
    then greatest_of_bits precision
    else if is_wide precision then 65535 else 255

-- a header of PGM or PPM
abbrev pub plain_header : List ℕ → ImageInfo → ℕ → List ℕ
plain_header kind info maxval =
    kind ++ 10 ∷ decimal info.width ++ 32 ∷ decimal info.height ++ 10 ∷ decimal maxval ++ 10 ∷ []

-- a header of PAM for four samples a pixel
abbrev pub pam_header : ImageInfo → ℕ → List ℕ
pam_header info maxval = codes "P7\nWIDTH " ++ decimal info.width ++ codes "\nHEIGHT " ++ decimal
    info.height
    ++ codes "\nDEPTH 4\nMAXVAL " ++ decimal maxval ++ codes "\nTUPLTYPE CMYK\nENDHDR\n"

-- what stands before the samples
abbrev pub header_in : PixelFormat → ImageInfo → ℕ → List ℕ
header_in L8 info maxval = plain_header (codes "P5") info maxval
header_in L16 info maxval = plain_header (codes "P5") info maxval
header_in RGB24 info maxval = plain_header (codes "P6") info maxval
header_in CMYK32 info maxval = pam_header info maxval

-- samples of two bytes, with the bytes of the first `count` of them exchanged
unfoldable pub first_turned : ℕ → List ℕ → List ℕ
first_turned zero samples = samples
first_turned (suc count) [] = []
first_turned (suc count) (low ∷ []) = low ∷ []
first_turned (suc count) (low ∷ high ∷ more) = high ∷ low ∷ first_turned count more

-- samples of two bytes, the higher byte first, from samples whose lower byte is first
abbrev pub higher_first : List ℕ → List ℕ
higher_first samples = first_turned (length samples / 2) samples

-- the samples of this precision as the file has them
abbrev pub file_samples : ℕ → List ℕ → List ℕ
file_samples precision pixels = if is_wide precision then higher_first pixels else pixels

-- the file of a picture of this precision: its header, and its samples line by line
abbrev pub file_of : ImageInfo → ℕ → List ℕ → List ℕ
file_of info precision pixels =
    header_in info.pixel_format info (greatest_value precision pixels)
    ++ file_samples precision pixels

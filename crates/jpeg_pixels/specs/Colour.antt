-- The colours of a pixel (JFIF, and Adobe's transforms), in whole numbers.
use Rattle.std.specs.Prelude.{ℕ, ◌+◌, ◌-◌, ◌*◌, ◌^◌, ◌==◌, ℤ, pos, ◌+ℤ◌, ◌-ℤ◌, ◌*ℤ◌, List, [], ◌∷◌}
use Rattle.std.specs.Prelude.{map, take, slice_index, Bool, true, false, Result, Ok, Err}
use Rattle.std.specs.Prelude.{if◌then◌else◌}
use Rattle.std.specs.Int.{int_shr}
use Rattle.std.specs.List.{range_with_len, concat}
use Rattle.jpeg_bits.specs.Reading.{Fault, Malformed, Lacks}
use Rattle.jpeg_bits.specs.declared.error.UnsupportedFeature.TheVariants as features
use Rattle.jpeg_bits.specs.declared.color_transform.ColorTransform.{ColorTransform}
use Rattle.jpeg_bits.specs.declared.color_transform.ColorTransform.TheVariants as transforms
use Rattle.jpeg_pixels.specs.Samples.{clamped}
use Rattle.jpeg_pixels.specs.declared.color_convert.ColorConvert.{ColorConvert}
use Rattle.jpeg_pixels.specs.declared.color_convert.ColorConvert.TheVariants as converts

-- the brightness in fixed point, with half a unit to round
abbrev pub luma_of : ℕ → ℤ
luma_of y = pos (y * 2 ^ 20 + 2 ^ 19)

abbrev pub centred_of : ℕ → ℤ
centred_of c = pos c -ℤ pos 128

unfoldable pub red_of : ℕ → ℕ → ℕ
red_of y cr = clamped (int_shr (luma_of y +ℤ pos 1470104 *ℤ centred_of cr) 20)

unfoldable pub green_of : ℕ → ℕ → ℕ → ℕ
green_of y cb cr = clamped (int_shr (luma_of y -ℤ pos 360857 *ℤ centred_of cb
    -ℤ pos 748830 *ℤ centred_of cr) 20)

unfoldable pub blue_of : ℕ → ℕ → ℕ
blue_of y cb = clamped (int_shr (luma_of y +ℤ pos 1858077 *ℤ centred_of cb) 20)

-- The bytes of a pixel, by its component's samples in their order.
unfoldable pub colour_of : ColorConvert → List ℕ → List ℕ
colour_of converts.None samples = samples
colour_of converts.Rgb samples = samples
colour_of converts.YCbCr samples =
    let y = slice_index samples 0 in let cb = slice_index samples 1 in
    let cr = slice_index samples 2 in
    red_of y cr ∷ green_of y cb cr ∷ blue_of y cb ∷ []
colour_of converts.Cmyk samples = map (λ s. 255 - s) samples
colour_of converts.Ycck samples =
    let y = slice_index samples 0 in let cb = slice_index samples 1 in
    let cr = slice_index samples 2 in
    red_of y cr ∷ green_of y cb cr ∷ blue_of y cb ∷ (255 - slice_index samples 3) ∷ []

-- whether the components of a row stand one after the other, and not pixel by pixel
abbrev pub is_by_component : ColorConvert → Bool
is_by_component converts.None = true
is_by_component _ = false

-- The bytes of a line of the picture, by the lines of its components: pixel by pixel, or without a
-- conversion component after component.
unfoldable pub line_bytes : ColorConvert → ℕ → List (List ℕ) → List ℕ
line_bytes convert width lines =
    if is_by_component convert
    then concat (map (take width) lines)
    else concat (map (λ x. colour_of convert (map (λ line. slice_index line x) lines))
    (range_with_len 0 width))

-- The conversion of a transform for this many components, where it fits.
unfoldable pub conversion_of : ℕ → ColorTransform → Result ColorConvert Fault
conversion_of count transforms.None = Ok converts.None
conversion_of count transforms.RGB = if count == 3 then Ok converts.Rgb else Err Malformed
conversion_of count transforms.YCbCr = if count == 3 then Ok converts.YCbCr else Err Malformed
conversion_of count transforms.CMYK = if count == 4 then Ok converts.Cmyk else Err Malformed
conversion_of count transforms.YCCK = if count == 4 then Ok converts.Ycck else Err Malformed
conversion_of count transforms.JcsBgYcc = Err (Lacks (features.ColorTransform transforms.JcsBgYcc))
conversion_of count transforms.JcsBgRgb = Err (Lacks (features.ColorTransform transforms.JcsBgRgb))
conversion_of count _ = Err Malformed

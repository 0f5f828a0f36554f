-- The colour transform of a frame of three or four components (JFIF, and Adobe's segment).
use Rattle.std.specs.Prelude.{ℕ, ◌==◌, ◌&&◌, List, [], ◌∷◌, map, length, Bool, false, Option, Some}
use Rattle.std.specs.Prelude.{None, if◌then◌else◌, unwrap_or}
use Rattle.jpeg_bits.specs.declared.color_transform.ColorTransform.{ColorTransform}
use Rattle.jpeg_bits.specs.declared.color_transform.ColorTransform.TheVariants.{RGB, YCbCr, CMYK}
use Rattle.jpeg_bits.specs.declared.color_transform.ColorTransform.TheVariants.{YCCK, JcsBgYcc}
use Rattle.jpeg_bits.specs.declared.color_transform.ColorTransform.TheVariants.{JcsBgRgb}
use Rattle.jpeg_segments.specs.declared.application.AdobeColorTransform.{AdobeColorTransform}
use Rattle.jpeg_segments.specs.declared.application.AdobeColorTransform.TheVariants as adobe
use Rattle.jpeg_segments.specs.Frame.{Component}

abbrev pub identifiers_of : List Component → List ℕ
identifiers_of components = map (λ c. c.factors.identifier) components

-- whether there are three identifiers, and they are these
abbrev pub are_three : ℕ → ℕ → ℕ → List ℕ → Bool
are_three a b c (x ∷ y ∷ z ∷ []) = x == a && (y == b && z == c)
are_three a b c _ = false

-- by the identifiers of three components: 1, 2, 3 of JFIF; 1, 34, 35 and the letters rgb of wide
-- gamuts; the letters RGB
unfoldable pub by_identifiers : List ℕ → Option ColorTransform
by_identifiers identifiers =
    if are_three 1 2 3 identifiers then Some YCbCr else (
    if are_three 1 34 35 identifiers then Some JcsBgYcc else (
    if are_three 82 71 66 identifiers then Some RGB else (
    if are_three 114 103 98 identifiers then Some JcsBgRgb else None)))

-- by the last Adobe segment and the number of components
abbrev pub by_adobe : Bool → Option AdobeColorTransform → ColorTransform
by_adobe is_three None = if is_three then YCbCr else CMYK
by_adobe is_three (Some adobe.Unknown) = if is_three then RGB else CMYK
by_adobe is_three (Some adobe.YCbCr) = YCbCr
by_adobe is_three (Some adobe.YCCK) = YCCK

-- What a caller sets goes first; then the identifiers of three components; then that JFIF was
-- named, for three; then Adobe's segment.
unfoldable pub transform_of : Option ColorTransform → List ℕ → Bool → Option AdobeColorTransform
    → ColorTransform
transform_of set identifiers jfif adobe_transform =
    let is_three = length identifiers == 3 in
    unwrap_or set (unwrap_or (by_identifiers identifiers) (if is_three && jfif then YCbCr
    else by_adobe is_three adobe_transform))

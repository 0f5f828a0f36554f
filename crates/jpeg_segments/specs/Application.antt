-- Application data (T.81, B.2.4.6), comments (B.2.4.5) and restart intervals (B.2.4.4).
use Rattle.std.specs.Prelude.{ℕ, ◌-◌, List, [], ◌∷◌, ◌++◌, length, drop, slice_index, codes, Bool}
use Rattle.std.specs.Prelude.{◌&&◌, Option, Some, None, Ok, Err, nat_lt, nat_le, nat_eq, ◌==◌}
use Rattle.std.specs.Prelude.{if◌then◌else◌, slice_get}
use Rattle.std.specs.List.{starts_with}
use Rattle.jpeg_bits.specs.Reading.{Outcome, Malformed, ◌>>=◌, next_byte, next_u16, length_at}
use Rattle.jpeg_bits.specs.Reading.{times, skip_at}
use Rattle.jpeg_segments.specs.Checks.{needed}
use Rattle.jpeg_segments.specs.declared.application.AdobeColorTransform.{AdobeColorTransform}
use Rattle.jpeg_segments.specs.declared.application.AdobeColorTransform.TheVariants.{Unknown, YCbCr}
use Rattle.jpeg_segments.specs.declared.application.AdobeColorTransform.TheVariants.{YCCK}

-- a part of an ICC profile: its number, the number of parts, and its bytes
pub record Chunk : Type 0 where
  pub number : ℕ
  pub count : ℕ
  pub bytes : List ℕ

-- what an APPn segment says
pub data Application : Type 0 where
  Adobe : AdobeColorTransform → Application
  Jfif : Application
  Avi1 : Application
  Icc : Chunk → Application
  Exif : List ℕ → Application
  Xmp : List ℕ → Application
  Psir : List ℕ → Application

-- ---- the names that payloads begin with

abbrev pub begins_with : List ℕ → List ℕ → Bool
begins_with payload name = starts_with nat_eq payload name

abbrev pub jfif_name : List ℕ
jfif_name = codes "JFIF" ++ 0 ∷ []

abbrev pub avi1_name : List ℕ
avi1_name = codes "AVI1" ++ 0 ∷ []

abbrev pub exif_name : List ℕ
exif_name = codes "Exif" ++ 0 ∷ 0 ∷ []

abbrev pub xmp_name : List ℕ
xmp_name = codes "http://ns.adobe.com/xap/1.0/" ++ 0 ∷ []

abbrev pub icc_name : List ℕ
icc_name = codes "ICC_PROFILE" ++ 0 ∷ []

abbrev pub photoshop_name : List ℕ
photoshop_name = codes "Photoshop 3.0" ++ 0 ∷ []

abbrev pub adobe_name : List ℕ
adobe_name = codes "Adobe" ++ 0 ∷ []

-- ---- what they say

-- the part of an ICC profile in a payload
abbrev pub chunk_of : List ℕ → Chunk
chunk_of bytes =
    record { number = slice_index bytes 12; count = slice_index bytes 13; bytes = drop 14 bytes }

-- What a payload says, by the number n of the marker APPn: the data of Exif, XMP and Photoshop is
-- the rest, and a part of an ICC profile has at least one byte.
unfoldable pub application_by : ℕ → List ℕ → Option Application
application_by number payload =
    if number == 0 && begins_with payload jfif_name then Some Jfif else (
    if number == 0 && begins_with payload avi1_name then Some Avi1 else (
    if number == 1 && begins_with payload exif_name then Some (Exif (drop 6 payload)) else (
    if number == 1 && begins_with payload xmp_name then Some (Xmp (drop 29 payload)) else (
    if number == 2 && (nat_lt 14 (length payload) && begins_with payload icc_name)
    then Some (Icc (chunk_of payload)) else (
    if number == 13 && begins_with payload photoshop_name then Some (Psir (drop 14 payload))
    else None)))))

-- ---- APP14

abbrev pub transform_by : ℕ → Option AdobeColorTransform
transform_by n = slice_get (Unknown ∷ YCbCr ∷ YCCK ∷ []) n

-- the rest of the segment, of `left` bytes, is passed over
abbrev pub passed_over : ℕ → Option Application → List ℕ → Outcome (Option Application)
passed_over left said bytes = skip_at left bytes >>= (λ u. Ok (said, u.1))

-- Its first twelve bytes, the last of which is the colour transform.
unfoldable pub adobe_at : ℕ → List ℕ → Outcome (Option Application)
adobe_at left bytes = do
  head ← times 12 next_byte bytes
  if begins_with head.0 adobe_name then (do
    t ← needed (transform_by (slice_index head.0 11))
    passed_over (left - 12) (Some (Adobe t)) head.1) else passed_over (left - 12) None head.1

-- ---- segments

-- The data of an APPn segment, after the marker.
unfoldable pub app_at : ℕ → List ℕ → Outcome (Option Application)
app_at number bytes = do
  left ← length_at bytes
  if number == 14 && nat_le 12 left.0 then adobe_at left.0 left.1 else (do
    payload ← times left.0 next_byte left.1
    Ok (application_by number payload.0, payload.1))

-- A comment: the rest of its segment.
unfoldable pub com_at : List ℕ → Outcome (List ℕ)
com_at bytes = do
  left ← length_at bytes
  times left.0 next_byte left.1

-- A restart interval, in MCUs.
unfoldable pub dri_at : List ℕ → Outcome ℕ
dri_at bytes = do
  left ← length_at bytes
  if left.0 == 2 then next_u16 left.1 else Err Malformed

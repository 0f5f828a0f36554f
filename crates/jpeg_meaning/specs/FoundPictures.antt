-- The picture of what was found, at the end of an image.
use Rattle.std.specs.Prelude.{ℕ, ◌*◌, ◌/◌, ◌==◌, min, ◌&&◌, nat_lt, List, [], ◌∷◌, length, get_or}
use Rattle.std.specs.Prelude.{slice_get, slice_index_or, Some, None, Result, Ok, Err, if◌then◌else◌}
use Rattle.std.specs.Prelude.{Bool, true, false}
use Rattle.jpeg_bits.specs.Reading.{Fault, Malformed, ◌>>=◌}
use Rattle.jpeg_bits.specs.declared.color_transform.ColorTransform.{ColorTransform}
use Rattle.jpeg_bits.specs.declared.color_transform.ColorTransform.TheVariants.{YCbCr}
use Rattle.jpeg_segments.specs.declared.frame.CodingProcess.{CodingProcess}
use Rattle.jpeg_segments.specs.declared.frame.CodingProcess.TheVariants.{Lossless}
use Rattle.jpeg_segments.specs.Frame.{Frame, Component}
use Rattle.jpeg_pixels.specs.Pictures.{image_of}
use Rattle.jpeg_meaning.specs.ColourChoice.{identifiers_of, transform_of}
use Rattle.jpeg_pixels.specs.Planes.{cropped}
use Rattle.jpeg_lossless.specs.Pictures.{lossless_picture}
use Rattle.std.specs.List.{enumerate_from}
use Rattle.jpeg_segments.specs.Checks.{check, needed, gathered}
use Rattle.jpeg_meaning.specs.declared.settings.Settings.{Settings}
use Rattle.jpeg_meaning.specs.Found.{Metadata, Found, Said}
use Rattle.jpeg_meaning.specs.Pixels.{samples_shown}
use Rattle.jpeg_meaning.specs.Rasters.{plane_by}
use Rattle.jpeg_meaning.specs.ScanSegments.{is_progressive}

-- The plane of a component at the end of the image: the one that is decided; else, in a progressive
-- frame of which a scan was read, that of the blocks kept, by the quantization table in force. The
-- component stands beside its index in the frame.
unfoldable pub plane_at_end : Found → Frame → ℕ × Component → Result (List ℕ) Fault
plane_at_end found frame c =
    elim (slice_index_or found.planes c.0 None) [
      | Some plane ↦ Ok plane
      | None ↦ do
        _ ← check (is_progressive frame.process && found.said.scanned)
        table ← needed (slice_index_or found.said.quantization c.1.factors.quantization None)
        Ok (plane_by c.1 table (get_or found.kept c.0 []))
    ]

-- The picture of one component: its plane, cropped to the picture as far as the plane goes.
abbrev pub picture_in : Frame → Component → List ℕ → List ℕ
picture_in frame c plane =
    let stride = c.scale * c.blocks_wide in
    cropped stride (min frame.output_width stride)
    (min frame.output_height (length plane / stride)) plane

-- The picture of the first component.
abbrev pub first_picture : Frame → Component → List (List ℕ) → Result (List ℕ) Fault
first_picture frame c planes =
    needed (slice_get planes 0) >>= (λ plane. Ok (picture_in frame c plane))

-- whether the first component is luma, by the colour transform
abbrev pub is_luma : ColorTransform → Bool
is_luma YCbCr = true
is_luma _ = false

-- a component has the size of the picture
abbrev pub is_as_large : Frame → Component → Bool
is_as_large frame c = c.width == frame.output_width && c.height == frame.output_height

-- The luma of the picture: the first component's, where it is luma and has a sample for each pixel.
abbrev pub luma_picture : ColorTransform → Frame → List Component → List (List ℕ)
    → Result (List ℕ) Fault
luma_picture transform frame [] planes = Err Malformed
luma_picture transform frame (c ∷ more) planes =
    check (is_luma transform && is_as_large frame c) >>= (λ _. first_picture frame c planes)

-- The picture of planes: of one its samples, and of several their colours, or their luma where that
-- is asked for.
unfoldable pub picture_by : Settings → Metadata → Frame → List Component → List (List ℕ)
    → Result (List ℕ) Fault
picture_by settings m frame (c ∷ []) planes = first_picture frame c planes
picture_by settings m frame components planes =
    let transform =
    transform_of settings.color_transform (identifiers_of components) m.jfif m.adobe in
    if settings.luma then luma_picture transform frame components planes
    else image_of components planes frame.output_width frame.output_height transform

-- The picture of a frame of blocks.
unfoldable pub blocks_picture : Settings → Found → Frame → Result (List ℕ) Fault
blocks_picture settings found frame = do
  planes ← gathered (plane_at_end found frame) (enumerate_from 0 frame.components)
  picture_by settings found.said.metadata frame frame.components planes

-- The picture of a lossless frame.
unfoldable pub samples_picture : Found → Frame → Result (List ℕ) Fault
samples_picture found frame = do
  planes ← gathered (λ c. needed (slice_index_or found.samples c.0 None))
      (enumerate_from 0 frame.components)
  Ok (lossless_picture frame planes)

abbrev pub picture_by_process : CodingProcess → Settings → Found → Frame → Result (List ℕ) Fault
picture_by_process Lossless settings found frame = samples_picture found frame
picture_by_process _ settings found frame = blocks_picture settings found frame

-- a picture of the frame that was said, where it is within the limit of the settings
unfoldable pub limited : Settings → Said → (Frame → Result (List ℕ) Fault) → Result (List ℕ) Fault
limited settings said picture = do
  frame ← needed said.frame
  if nat_lt settings.limit (samples_shown settings frame
      * (frame.output_width * frame.output_height))
      then Err Malformed else picture frame

-- The picture of what was found: within the limit, of planes that are there.
unfoldable pub picture_of : Settings → Found → Result (List ℕ) Fault
picture_of settings found = limited settings found.said (λ frame. picture_by_process frame.process
    settings found frame)

-- Pictures that are given line by line as their first scan is read (T.81, A.2): the segments before
-- that scan, the colours that are chosen there, and the lines that rows of MCUs decide.
use Rattle.std.specs.Prelude.{◌≡◌, ◌==◌, ◌||◌, ◌&&◌, ◌+◌, ◌-◌, ◌*◌, not, nat_lt, ℕ, zero}
use Rattle.std.specs.Prelude.{suc, min, List, [], ◌∷◌, drop, length, map, Bool, true, false, Option}
use Rattle.std.specs.Prelude.{None, Some, Result, Ok, Err, if◌then◌else◌, option_map}
use Rattle.std.specs.List.{AllByRecursion, concat, range_with_len}
use Rattle.jpeg_bits.specs.Marker.{found_or, next_marker}
use Rattle.jpeg_bits.specs.Reading.{Fault, End, Outcome, ◌>>=◌}
use Rattle.jpeg_bits.specs.declared.beyond.Beyond.TheVariants.{Zeros}
use Rattle.jpeg_bits.specs.declared.color_transform.ColorTransform.{ColorTransform}
use Rattle.jpeg_bits.specs.declared.color_transform.ColorTransform.TheVariants as transforms
use Rattle.jpeg_bits.specs.declared.marker.Marker.{Marker}
use Rattle.jpeg_bits.specs.declared.marker.Marker.TheVariants.{SOS}
use Rattle.jpeg_segments.specs.Checks.{check, needed}
use Rattle.jpeg_segments.specs.Frame.{Component, Frame, most_down}
use Rattle.jpeg_segments.specs.ScanHeader as headers
use Rattle.jpeg_segments.specs.declared.frame.CodingProcess.{CodingProcess}
use Rattle.jpeg_segments.specs.declared.frame.CodingProcess.TheVariants.{DctSequential}
use Rattle.jpeg_pixels.specs.Colour.{conversion_of}
use Rattle.jpeg_pixels.specs.Pictures.{Source, picture_line, sources_of}
use Rattle.jpeg_pixels.specs.Scaled.{IsScale}
use Rattle.jpeg_pixels.specs.declared.color_convert.ColorConvert.{ColorConvert}
use Rattle.jpeg_pixels.specs.declared.color_convert.ColorConvert.TheVariants as converts
use Rattle.jpeg_meaning.specs.ColourChoice.{identifiers_of, transform_of}
use Rattle.jpeg_meaning.specs.Found.{Found, Said}
use Rattle.jpeg_meaning.specs.FoundPictures.{picture_of}
use Rattle.jpeg_meaning.specs.Segments.{Turn}
use Rattle.jpeg_meaning.specs.Stream.{Told, Walked, header_at, rest_showing, segment_at, told_of}
use Rattle.jpeg_meaning.specs.Stream.{walk}
use Rattle.jpeg_meaning.specs.WholeRows.{rows_apart}
use Rattle.jpeg_meaning.specs.declared.before.Before.{Before}
use Rattle.jpeg_meaning.specs.declared.before.Before.TheVariants.{Elsewhere}
use Rattle.jpeg_meaning.specs.declared.progress.Progress.{Progress}
use Rattle.jpeg_meaning.specs.declared.progress.Progress.TheVariants.{Fresh}
use Rattle.jpeg_meaning.specs.declared.settings.Settings.{Settings}
use Rattle.jpeg_decoder.specs.Steps.{turn_of}
use Rattle.jpeg_decoder.specs.declared.stream.state.Step.{Step}

-- ---- the segments before a scan

-- What is found before the next scan, with what follows its marker; or at the end of the image,
-- where there is none, with what follows that.
pub record ToScan : Type 0 where
  pub found : Found
  pub is_scan : Bool

-- After a marker: none is a scan, or what stands after the segment.
unfoldable pub to_turn_at : Marker → Before → Found → List ℕ → Outcome (Option Turn)
to_turn_at SOS before found bytes = Ok (None, bytes)
to_turn_at m before found bytes = segment_at m before found bytes >>= λ t. Ok (Some t.0, t.1)

-- after the marker that is met, or else the next
unfoldable pub to_turn : Before → Found → Option Marker → List ℕ → Outcome (Option Turn)
to_turn before found met bytes =
    found_or met bytes (next_marker bytes) >>= (λ m. to_turn_at m.0 before found m.1)

abbrev pub to_turn_of : Found → Option Step → Option Turn
to_turn_of found step = option_map (turn_of found) step

-- after such a turn: the scan or the end of the image, or more turns
abbrev pub to_scan_after
    : (Before → Found → Option Marker → List ℕ → Outcome ToScan) → Found → Option Turn → List ℕ
    → Outcome ToScan
to_scan_after more found None bytes = Ok (record { found = found; is_scan = true }, bytes)
to_scan_after more found (Some t) bytes = elim t.ended [
  | true ↦ Ok (record { found = t.found; is_scan = false }, bytes)
  | false ↦ more t.before t.found t.met bytes
]

-- Segments in turn, at most so many, up to a scan or the end of the image.
unfoldable pub to_scan : ℕ → Before → Found → Option Marker → List ℕ → Outcome ToScan
to_scan zero before found met bytes = Err End
to_scan (suc turns) before found met bytes =
    to_turn before found met bytes >>= (λ t. to_scan_after (to_scan turns) found t.0 t.1)

abbrev pub scan_ahead : Found → List ℕ → Outcome ToScan
scan_ahead found bytes = to_scan (suc (length bytes)) Elsewhere found None bytes

-- ---- colours

-- the transform that what was said chooses for a frame
abbrev pub transform_said : Settings → Said → Frame → ColorTransform
transform_said settings said frame = transform_of settings.color_transform
    (identifiers_of frame.components) said.metadata.jfif said.metadata.adobe

-- how the colours of this many components are converted; one has none
abbrev pub conversion_in : List Component → ColorTransform → Result ColorConvert Fault
conversion_in (c ∷ []) t = Ok converts.None
conversion_in components t = conversion_of (length components) t

-- by their number, if there is one
abbrev pub conversion_if : {X : Type 0} → Result X Fault → Option X
conversion_if (Ok x) = Some x
conversion_if (Err fault) = None

abbrev pub conversion_for : ℕ → ColorTransform → Option ColorConvert
conversion_for count t = if count == 1 then Some converts.None
    else conversion_if (conversion_of count t)

-- whether there is a conversion
abbrev pub is_converted : {X : Type 0} → Result X Fault → Bool
is_converted (Ok x) = true
is_converted (Err fault) = false

-- whether a frame's scans code all of its coefficients at once
abbrev pub is_sequential : CodingProcess → Bool
is_sequential DctSequential = true
is_sequential _ = false

-- Whether the first scan of a frame gives lines as it is read: it has all components, and there is
-- a picture in colours, or of the one component, within the limit.
abbrev pub comes_by_rows : Settings → Said → Frame → headers.Scan → Bool
comes_by_rows settings said frame scan =
    is_sequential frame.process && (length scan.components == length frame.components
    && (not settings.luma && (not (nat_lt settings.limit (length frame.components
    * (frame.output_width * frame.output_height)))
    && is_converted (conversion_in frame.components (transform_said settings said frame)))))

-- the transform that is chosen for such a scan
abbrev pub chosen_for : Settings → Said → Frame → headers.Scan → Option ColorTransform
chosen_for settings said frame scan = if comes_by_rows settings said frame scan
    then Some (transform_said settings said frame) else None

-- of a scan whose header begins these bytes
unfoldable pub chosen_at : Settings → Said → List ℕ → Option ColorTransform
chosen_at settings said bytes = elim said.frame [
  | None ↦ None
  | Some frame ↦ elim (headers.sos_at frame bytes) [
    | Err fault ↦ None
    | Ok scan ↦ chosen_for settings said frame scan.0
  ]
]

-- of the first scan of the rest of a stream
unfoldable pub chosen : Settings → Found → List ℕ → Option ColorTransform
chosen settings found bytes = elim (scan_ahead found bytes) [
  | Err fault ↦ None
  | Ok r ↦ elim r.0.is_scan [
    | true ↦ chosen_at settings r.0.found.said r.1
    | false ↦ None
  ]
]

-- the place of a transform among all
abbrev pub transform_place : ColorTransform → ℕ
transform_place transforms.None = 0
transform_place transforms.Unknown = 1
transform_place transforms.Grayscale = 2
transform_place transforms.RGB = 3
transform_place transforms.YCbCr = 4
transform_place transforms.CMYK = 5
transform_place transforms.YCCK = 6
transform_place transforms.JcsBgYcc = 7
transform_place transforms.JcsBgRgb = 8

-- what is said chooses this transform still, or there is one component, which has none
abbrev pub keeps_transform : ColorTransform → Settings → Said → Frame → Bool
keeps_transform t settings said frame = length frame.components == 1
    || transform_place t == transform_place (transform_said settings said frame)

-- The picture of what was found, where this transform was chosen at the first scan: a later segment
-- that would choose another one is a fault.
unfoldable pub settled_picture : Option ColorTransform → Settings → Found → Result (List ℕ) Fault
settled_picture None settings found = picture_of settings found
settled_picture (Some t) settings found = do
  frame ← needed found.said.frame
  _ ← check (keeps_transform t settings found.said frame)
  picture_of settings found

-- ---- the whole

-- what the rest of a stream after its header gives by lines: what is told of it, and its picture
unfoldable pub rows_rest : Settings → Found → List ℕ → Outcome (Told × List ℕ)
rows_rest settings found bytes =
    rest_showing settings.max_blocks (settled_picture (chosen settings found bytes) settings) found
    bytes

-- of what lies ahead of a decoder: a whole stream, or the rest of one after its header
abbrev pub rows_ahead : Progress → Settings → Found → List ℕ → Outcome (Told × List ℕ)
rows_ahead Fresh settings found bytes =
    header_at bytes >>= (λ header. rows_rest settings header.0 header.1)
rows_ahead _ settings found bytes = rows_rest settings found bytes

-- ---- from the first scan on

-- what is found at a scan, or at the end of the image
abbrev pub to_scan_of : Found → Bool → ToScan
to_scan_of found is_scan = record { found = found; is_scan = is_scan }

-- so many turns from a step on, and all: each takes a byte, or a restart marker that is met
abbrev pub walk_after : Option ℕ → ℕ → Found → Step → List ℕ → Walked
walk_after limit turns found step bytes =
    walk limit Zeros turns false step.before found step.met bytes

abbrev pub walk_on : Option ℕ → Found → Step → List ℕ → Walked
walk_on limit found step bytes = walk_after limit (suc (suc (length bytes))) found step bytes

-- a walk from the header of a scan on, whose marker was met
abbrev pub scan_walk : Option ℕ → Found → List ℕ → Walked
scan_walk limit found bytes =
    walk limit Zeros (suc (length bytes)) false Elsewhere found (Some SOS) bytes

abbrev pub scan_walk_for : Option ℕ → ℕ → Found → List ℕ → Walked
scan_walk_for limit turns found bytes =
    walk limit Zeros turns false Elsewhere found (Some SOS) bytes

-- After some turns a walk goes on at a scan, whose marker was met.
pub record GoesOnAtScan (limit : Option ℕ) (found : Found) (bytes : List ℕ) (now : Found)
    (rest : List ℕ) : Type 0 where
  pub turns : ℕ
  pub walks : (n : ℕ) → walk limit Zeros (turns + n) false Elsewhere found None bytes
      ≡ scan_walk_for limit n now rest
  pub whole : walk limit Zeros (suc (length bytes)) false Elsewhere found None bytes
      ≡ scan_walk limit now rest

-- what scans have given is the same
abbrev pub AreSameScans : Found → Found → Type 0
AreSameScans old new = (new.kept ≡ old.kept) × (new.finished ≡ old.finished)
    × (new.planes ≡ old.planes) × (new.samples ≡ old.samples)
    × (new.said.scanned ≡ old.said.scanned)

-- What a stream shows by lines from the header of its first scan on.
unfoldable pub shown_at_scan : Settings → Found → List ℕ → Outcome (Told × List ℕ)
shown_at_scan settings found bytes = let w = scan_walk settings.max_blocks found bytes in do
  rest ← w.rest
  picture ← settled_picture (chosen_at settings found.said bytes) settings w.found
  Ok ((told_of w.found.said, picture), rest)

-- ---- lines

-- The lines of the pictures of a frame are made so: how each component is upsampled, and how the
-- colours are converted.
pub record AreMadeSo (t : ColorTransform) (frame : Frame) (convert : ColorConvert)
    (sources : List Source) : Type 0 where
  pub sources_are : sources_of frame.components frame.output_width frame.output_height ≡ Ok sources
  pub converted : conversion_in frame.components t ≡ Ok convert

-- some lines of the picture of planes, from one on
abbrev pub lines_from : Frame → ColorConvert → List Source → List (List ℕ) → ℕ → ℕ
    → List (List ℕ)
lines_from frame convert sources planes first count =
    map (picture_line convert sources planes frame.output_width) (range_with_len first count)

-- the lines of a picture that a row of MCUs makes, by the scale of the first component
abbrev pub unit_lines : List Component → ℕ
unit_lines [] = 0
unit_lines (c ∷ more) = most_down (c ∷ more) * c.scale

-- How many lines of the picture so many rows of MCUs decide: all of theirs, but for the last where
-- a component is blended with the line below it; and after the last row all.
unfoldable pub lines_decided : Frame → ℕ → ℕ
lines_decided frame rows = if rows == frame.mcus_high then frame.output_height
    else min frame.output_height
    (rows_apart frame frame.components (rows * unit_lines frame.components))

-- ---- windows

-- each component is decoded at a scale
abbrev pub HaveScales : List Component → Type 0
HaveScales components = AllByRecursion (λ c. IsScale c.scale) components

-- the samples of a component in a row of MCUs
abbrev pub strip_size : Component → ℕ
strip_size c = c.factors.vertical * c.scale * (c.blocks_wide * c.scale)

-- planes without their first rows of MCUs
unfoldable pub below : ℕ → List Component → List (List ℕ) → List (List ℕ)
below rows (c ∷ components) (plane ∷ planes) =
    drop (rows * strip_size c) plane ∷ below rows components planes
below rows _ _ = []

-- planes of so many rows of MCUs
unfoldable pub HaveRows : ℕ → List Component → List (List ℕ) → Type 0
HaveRows rows [] [] = Unit {0}
HaveRows rows (c ∷ components) (plane ∷ planes) =
    (length plane ≡ rows * strip_size c) × HaveRows rows components planes
HaveRows rows _ _ = ⊥

-- A component of a window, which lies below so many rows of MCUs and has so many: its height is
-- that of its samples there.
abbrev pub window_component : ℕ → ℕ → Component → Component
window_component above rows c = record c {
  height = min (c.height - above * (c.factors.vertical * c.scale))
      (rows * (c.factors.vertical * c.scale));
}

-- These bytes are so many of the lines of a picture from one on: those of all planes that a window is
-- the end of, which lies below so many rows of MCUs and has so many.
abbrev pub AreLines : Frame → ColorConvert → List (List ℕ) → ℕ → ℕ → ℕ → ℕ → List ℕ → Type 0
AreLines frame convert window above rows first count bytes =
    (planes : List (List ℕ)) (sources : List Source)
    → sources_of frame.components frame.output_width frame.output_height ≡ Ok sources
    → HaveRows (above + rows) frame.components planes
    → below above frame.components planes ≡ window
    → bytes ≡ concat (lines_from frame convert sources planes first count)

-- ---- what is found, beside planes

-- what was found, but for the planes
abbrev pub without_planes : Found → Found
without_planes found = record found { planes = [] }

abbrev pub turn_without : Turn → Turn
turn_without t = record t { found = without_planes t.found }

-- a turn that a reading gives, without planes
abbrev pub turns_without : Outcome Turn → Outcome Turn
turns_without o = o >>= λ t. Ok (turn_without t.0, t.1)

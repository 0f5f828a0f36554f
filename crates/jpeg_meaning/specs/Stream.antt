-- The segments of a stream in turn, and its meaning (T.81, B.2).
use Rattle.std.specs.Prelude.{ℕ, zero, suc, ◌==◌, ◌&&◌, List, length, Bool, true, false, Option}
use Rattle.std.specs.Prelude.{None, option_map, is_some, Result, Ok, Err, if◌then◌else◌}
use Rattle.jpeg_bits.specs.Reading.{Fault, Outcome, Malformed, Lacks, End, ◌>>=◌, next_byte}
use Rattle.jpeg_bits.specs.Reading.{length_at, skip_at}
use Rattle.jpeg_bits.specs.Marker.{found_or, next_marker}
use Rattle.jpeg_bits.specs.declared.marker.Marker.{Marker}
use Rattle.jpeg_bits.specs.declared.marker.Marker.TheVariants.{SOF, DHT, DAC, RST, EOI, SOS, DQT}
use Rattle.jpeg_bits.specs.declared.marker.Marker.TheVariants.{DNL, DRI, DHP, EXP, APP, COM}
use Rattle.jpeg_bits.specs.declared.error.UnsupportedFeature.TheVariants as features
use Rattle.jpeg_segments.specs.Frame.{Frame}
use Rattle.jpeg_segments.specs.Application.{app_at, dri_at}
use Rattle.jpeg_segments.specs.HuffmanTables.{dht_at}
use Rattle.jpeg_segments.specs.Quantization.{dqt_at}
use Rattle.jpeg_segments.specs.Scales.{scaled, sized}
use Rattle.jpeg_segments.specs.declared.scale.Scale.{Scale}
use Rattle.jpeg_meaning.specs.declared.settings.Settings.{Settings}
use Rattle.jpeg_meaning.specs.declared.before.Before.{Before}
use Rattle.jpeg_meaning.specs.declared.before.Before.TheVariants.{FirstScan, Elsewhere}
use Rattle.jpeg_bits.specs.declared.beyond.Beyond.{Beyond}
use Rattle.jpeg_bits.specs.declared.beyond.Beyond.TheVariants.{Zeros, Nothing}
use Rattle.jpeg_meaning.specs.Brought.{Brought, scan_brought, unbrought}
use Rattle.jpeg_meaning.specs.Found.{Metadata, Found, nothing_found, Said, with_said}
use Rattle.jpeg_meaning.specs.Segments.{Turn, onward, frame_segment, says, updated}
use Rattle.jpeg_meaning.specs.Segments.{with_application, with_huffman}
use Rattle.jpeg_meaning.specs.ScanSegments.{scan_segment}
use Rattle.jpeg_meaning.specs.FoundPictures.{picture_of}
use Rattle.jpeg_meaning.specs.Work.{brought_within, is_above, left_after, work_of_header}
use Rattle.jpeg_meaning.specs.Work.{work_of_turn}

-- the end of the image, which needs a frame
unfoldable pub end_segment : Found → List ℕ → Outcome Turn
end_segment found bytes = if is_some found.said.frame
    then Ok (record (onward found) { ended = true }, bytes) else Err Malformed

-- After a marker other than that of a scan. A restart marker after a scan is ignored, once, and a
-- DNL segment after the first scan would give the height. SOI, TEM, RES, JPG and JPGn are refused
-- here.
unfoldable pub segment_at : Marker → Before → Found → List ℕ → Outcome Turn
segment_at (SOF number) before found bytes = frame_segment number found bytes
segment_at DQT before found bytes =
    says dqt_at (λ t said. record said { quantization = updated said.quantization t }) found bytes
segment_at DHT before found bytes =
    says (dht_at (option_map (λ f. f.is_baseline) found.said.frame))
    (λ t said. record said { huffman = with_huffman said.huffman t }) found bytes
segment_at EOI before found bytes = end_segment found bytes
segment_at DRI before found bytes = says dri_at (λ n said. record said { restart = n }) found bytes
segment_at (APP number) before found bytes =
    says (app_at number) (λ a said. record said { metadata = with_application said.metadata a })
    found bytes
segment_at COM before found bytes =
    length_at bytes >>= (λ n. says (skip_at n.0) (λ _ said. said) found n.1)
segment_at (RST n) Elsewhere found bytes = Err Malformed
segment_at (RST n) _ found bytes = Ok (onward found, bytes)
segment_at DNL FirstScan found bytes = Err (Lacks features.DNL)
segment_at DAC before found bytes = Err (Lacks features.ArithmeticEntropyCoding)
segment_at DHP before found bytes = Err (Lacks features.Hierarchical)
segment_at EXP before found bytes = Err (Lacks features.Hierarchical)
segment_at _ before found bytes = Err Malformed

-- A scan. With zeros after its data nothing of it counts where it has a fault; else what it has
-- brought by then does.
unfoldable pub scan_turn_at : Beyond → Found → List ℕ → Brought
scan_turn_at Zeros found bytes = unbrought found (scan_segment found bytes)
scan_turn_at Nothing found bytes = scan_brought found bytes

-- a scan of no more blocks than are left
abbrev pub scan_within : Option ℕ → Beyond → Found → List ℕ → Brought
scan_within left beyond found bytes =
    brought_within left (work_of_header found bytes) found (scan_turn_at beyond found bytes)

-- After a marker. Of a segment that has a fault nothing counts.
unfoldable pub brought_after : Beyond → Marker → Before → Found → List ℕ → Brought
brought_after beyond SOS before found bytes = scan_turn_at beyond found bytes
brought_after beyond m before found bytes = unbrought found (segment_at m before found bytes)

-- after the marker that is met, or else the next
unfoldable pub turn_at : Beyond → Before → Found → Option Marker → List ℕ → Brought
turn_at beyond before found met bytes = elim (found_or met bytes (next_marker bytes)) [
  | Ok m ↦ brought_after beyond m.0 before found m.1
  | Err fault ↦ unbrought found (Err fault)
]

-- The same where no more blocks than are left may be coded, if there is a limit: a scan of more is
-- refused after its header, before its tables and its data.
abbrev pub turn_within : Option ℕ → Beyond → Before → Found → Option Marker → List ℕ → Brought
turn_within left beyond before found met bytes =
    brought_within left (work_of_turn found met bytes) found
    (turn_at beyond before found met bytes)

-- What segments have brought by their end or their first fault; how many rows of the picture are
-- complete, where the scan with the fault lacks some; whether the fault is a scan of more blocks
-- than a limit leaves; and the bytes after them, or the fault.
pub record Walked : Type 0 where
  pub found : Found
  pub rows : Option ℕ
  pub exceeded : Bool
  pub rest : Result (List ℕ) Fault

-- Segments in turn from a marker on, up to the end of the image, or where a header is wanted up to
-- a frame, or up to the first fault. There are at most this many turns, and their scans code at
-- most as many blocks as are left, if there is a limit.
unfoldable pub walk
    : Option ℕ → Beyond → ℕ → Bool → Before → Found → Option Marker → List ℕ → Walked
walk left beyond zero header before found met bytes =
    record { found = found; rows = None; exceeded = false; rest = Err End }
walk left beyond (suc turns) header before found met bytes =
    if header && is_some found.said.frame
    then record { found = found; rows = None; exceeded = false; rest = Ok bytes } else
    let b = turn_within left beyond before found met bytes in
    elim b.turn [
      | Err fault ↦ record {
        found = b.found;
        rows = b.rows;
        exceeded = is_above left (work_of_turn found met bytes);
        rest = Err fault;
      }
      | Ok t ↦ if t.0.ended
          then record { found = t.0.found; rows = None; exceeded = false; rest = Ok t.1 }
          else walk (left_after left (work_of_turn found met bytes)) beyond turns header t.0.before
          t.0.found t.0.met t.1
    ]

-- As each turn takes bytes, there are fewer turns than bytes.
unfoldable pub segments_at : Option ℕ → Bool → Before → Found → Option Marker → List ℕ
    → Outcome Found
segments_at left header before found met bytes =
    let w = walk left Zeros (suc (length bytes)) header before found met bytes in
    w.rest >>= λ rest. Ok (w.found, rest)

-- All segments from here on, where nothing follows the marker after a scan's data.
abbrev pub all_brought : Option ℕ → Found → List ℕ → Walked
all_brought limit found bytes =
    walk limit Nothing (suc (length bytes)) false Elsewhere found None bytes

-- A stream begins with FF D8.
unfoldable pub start_at : List ℕ → Outcome (Unit {0})
start_at bytes = do
  first ← next_byte bytes
  if first.0 == 255 then (do
    second ← next_byte first.1
    if second.0 == 216 then Ok (tt, second.1) else Err Malformed) else Err Malformed

-- The header of a stream: all through the frame's segment. It has no scans, and so no limit.
unfoldable pub header_at : List ℕ → Outcome Found
header_at bytes = do
  start ← start_at bytes
  segments_at None true Elsewhere nothing_found None start.1

-- What a caller is given of a decoder: the frame, and the metadata.
pub record Told : Type 0 where
  pub frame : Option Frame
  pub metadata : Metadata

abbrev pub told_of : Said → Told
told_of said = record { frame = said.frame; metadata = said.metadata }

-- The rest of a stream after its start or its header, where its scans may code this many blocks, if
-- there is a limit: what a caller is given, and what is shown of what was found.
unfoldable pub rest_showing : {A : Type 0} → Option ℕ → (Found → Result A Fault) → Found → List ℕ
    → Outcome (Told × A)
rest_showing limit show found bytes = do
  all ← segments_at limit false Elsewhere found None bytes
  shown ← show all.0
  Ok ((told_of all.0.said, shown), all.1)

-- the same with its picture
abbrev pub rest_within : Option ℕ → Settings → Found → List ℕ → Outcome (Told × List ℕ)
rest_within limit settings found bytes = rest_showing limit (picture_of settings) found bytes

abbrev pub rest_at : Settings → Found → List ℕ → Outcome (Told × List ℕ)
rest_at settings found bytes = rest_within None settings found bytes

-- the same within the limit of the settings
abbrev pub rest_by : Settings → Found → List ℕ → Outcome (Told × List ℕ)
rest_by settings found bytes = rest_within settings.max_blocks settings found bytes

-- A stream whose scans may code this many blocks, if there is a limit: what a caller is given, and
-- what is shown of what was found.
unfoldable pub meaning_showing : {A : Type 0} → Option ℕ → (Found → Result A Fault) → List ℕ
    → Outcome (Told × A)
meaning_showing limit show bytes = do
  start ← start_at bytes
  rest_showing limit show nothing_found start.1

-- Its meaning: what a caller is given, and its picture.
abbrev pub meaning_within : Option ℕ → Settings → List ℕ → Outcome (Told × List ℕ)
meaning_within limit settings bytes = meaning_showing limit (picture_of settings) bytes

-- The meaning of a stream.
abbrev pub meaning : Settings → List ℕ → Outcome (Told × List ℕ)
meaning settings bytes = meaning_within None settings bytes

-- what was said, where the picture is to be at least that wide or that high
abbrev pub sized_to : ℕ → ℕ → Said → Said
sized_to width height said = record said { frame = option_map (sized width height) said.frame }

-- The header of a stream whose picture is to be at least that wide or that high.
unfoldable pub sized_header_at : ℕ → ℕ → List ℕ → Outcome Found
sized_header_at width height bytes = do
  header ← header_at bytes
  Ok (with_said (sized_to width height) header.0, header.1)

-- A stream whose picture is to be at least that wide or that high: what a caller is given, and what
-- is shown of what was found.
unfoldable pub sized_showing : {A : Type 0} → ℕ → ℕ → (Found → Result A Fault) → List ℕ
    → Outcome (Told × A)
sized_showing width height show bytes = do
  header ← header_at bytes
  rest_showing None show (with_said (sized_to width height) header.0) header.1

-- its meaning
abbrev pub sized_meaning : ℕ → ℕ → Settings → List ℕ → Outcome (Told × List ℕ)
sized_meaning width height settings bytes = sized_showing width height (picture_of settings) bytes

-- what was said, where the picture is to be at a scale
abbrev pub scaled_to : Scale → Said → Said
scaled_to scale said = record said { frame = option_map (scaled scale) said.frame }

-- The header of a stream whose picture is to be at a scale.
unfoldable pub scaled_header_at : Scale → List ℕ → Outcome Found
scaled_header_at scale bytes = do
  header ← header_at bytes
  Ok (with_said (scaled_to scale) header.0, header.1)

-- A stream whose picture is to be at a scale: what a caller is given, and what is shown of what was
-- found.
unfoldable pub scaled_showing : {A : Type 0} → Scale → (Found → Result A Fault) → List ℕ
    → Outcome (Told × A)
scaled_showing scale show bytes = do
  header ← header_at bytes
  rest_showing None show (with_said (scaled_to scale) header.0) header.1

-- its meaning
abbrev pub scaled_meaning : Scale → Settings → List ℕ → Outcome (Told × List ℕ)
scaled_meaning scale settings bytes = scaled_showing scale (picture_of settings) bytes

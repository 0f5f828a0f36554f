-- What a stream shows: the picture of what it has brought, how many of its rows are complete, and
-- its first fault.
use Rattle.std.specs.Prelude.{ℕ, ◌&&◌, List, fold, get_or, replicate}
use Rattle.std.specs.Prelude.{Option, Some, None, option_map, unwrap_or, slice_index_or, Result}
use Rattle.std.specs.Prelude.{Ok, Err, []}
use Rattle.std.specs.Prelude.{slice_set}
use Rattle.std.specs.Prelude.{if◌then◌else◌}
use Rattle.std.specs.List.{enumerate_from}
use Rattle.jpeg_bits.specs.Reading.{Fault, Malformed, ◌>>=◌}
use Rattle.jpeg_bits.specs.Passes.{Block}
use Rattle.jpeg_segments.specs.Checks.{gathered, needed}
use Rattle.jpeg_segments.specs.Frame.{Frame, Component}
use Rattle.jpeg_segments.specs.declared.frame.CodingProcess.{CodingProcess}
use Rattle.jpeg_segments.specs.declared.frame.CodingProcess.TheVariants.{Lossless}
use Rattle.jpeg_meaning.specs.declared.settings.Settings.{Settings}
use Rattle.jpeg_meaning.specs.declared.progress.Progress.{Progress}
use Rattle.jpeg_meaning.specs.declared.progress.Progress.TheVariants.{Fresh}
use Rattle.jpeg_meaning.specs.Brought.{grey_samples}
use Rattle.jpeg_meaning.specs.Found.{Found, nothing_found}
use Rattle.jpeg_meaning.specs.FoundPictures.{picture_of, plane_at_end}
use Rattle.jpeg_meaning.specs.Rasters.{plane_by}
use Rattle.jpeg_meaning.specs.Scans.{zero_of}
use Rattle.jpeg_meaning.specs.ScanSegments.{decided, is_progressive}
use Rattle.jpeg_meaning.specs.Stream.{all_brought, start_at, Told, told_of}

-- ---- the picture

-- A component's blocks: those that are kept, or else zeros.
abbrev pub blocks_held : Found → Frame → ℕ × Component → List Block
blocks_held found frame c = if is_progressive frame.process && found.said.scanned
    then get_or found.kept c.0 [] else zero_of c.1

-- the quantization table in force for a component; without one all its blocks are zeros, of which
-- any table makes the same samples
abbrev pub table_held : Found → Component → List ℕ
table_held found c =
    unwrap_or (slice_index_or found.said.quantization c.factors.quantization None) (replicate 64 1)

-- A component without a plane gets that of its blocks.
unfoldable pub with_plane_shown : Frame → Found → ℕ × Component → Found
with_plane_shown frame found c = record found {
  planes = slice_set found.planes c.0 (decided (slice_index_or found.planes c.0 None)
      (plane_by c.1 (table_held found c.1) (blocks_held found frame c)));
}

-- A lossless component without samples gets half of their range.
unfoldable pub with_samples_shown : Frame → Found → ℕ × Component → Found
with_samples_shown frame found c = record found {
  samples = slice_set found.samples c.0 (decided (slice_index_or found.samples c.0 None)
      (grey_samples frame c.1));
}

abbrev pub shown_by : CodingProcess → Frame → Found → ℕ × Component → Found
shown_by Lossless frame found c = with_samples_shown frame found c
shown_by _ frame found c = with_plane_shown frame found c

-- What was found, with what its picture lacks.
unfoldable pub completed : Found → Frame → Found
completed found frame =
    fold (shown_by frame.process frame) found (enumerate_from 0 frame.components)

-- The picture of what was found, within the limit of the settings.
unfoldable pub picture_shown : Settings → Found → Result (List ℕ) Fault
picture_shown settings found =
    needed found.said.frame >>= (λ frame. picture_of settings (completed found frame))

-- ---- the fault

-- whether each component has what its picture is made of
abbrev pub planes_by : CodingProcess → Found → Frame → Result (List (List ℕ)) Fault
planes_by Lossless found frame = gathered (λ c. needed (slice_index_or found.samples c.0 None))
    (enumerate_from 0 frame.components)
planes_by _ found frame = gathered (plane_at_end found frame) (enumerate_from 0 frame.components)

abbrev pub fault_in : {A : Type 0} → Result A Fault → Option Fault
fault_in (Ok x) = None
fault_in (Err fault) = Some fault

-- The first fault: that of the segments, or else, at the end of the image, that a component was not
-- sent.
unfoldable pub fault_shown : Found → Result (List ℕ) Fault → Option Fault
fault_shown found (Err fault) = Some fault
fault_shown found (Ok rest) =
    fault_in (needed found.said.frame >>= (λ frame. planes_by frame.process found frame))

-- ---- the stream

-- what a caller is given of a stream, its picture, and its first fault, if it has one
pub record Shown : Type 0 where
  pub told : Told
  pub picture : List ℕ
  pub fault : Option Fault

-- Without a frame nothing is shown; the fault is that of the segments.
abbrev pub framed_or : {A : Type 0} → Option Frame → Result A Fault → Result (Unit {0}) Fault
framed_or (Some frame) walked = Ok tt
framed_or None (Err fault) = Err fault
framed_or None (Ok rest) = Err Malformed

unfoldable pub shown_of : Settings → Found → Result (List ℕ) Fault → Result Shown Fault
shown_of settings found rest = do
  _ ← framed_or found.said.frame rest
  picture ← picture_shown settings found
  Ok (record { told = told_of found.said; picture = picture; fault = fault_shown found rest })

-- What the rest of a stream shows after its start or its header, where its scans may code this many
-- blocks, if there is a limit.
unfoldable pub shown_rest_within : Option ℕ → Settings → Found → List ℕ → Result Shown Fault
shown_rest_within limit settings found bytes =
    let w = all_brought limit found bytes in shown_of settings w.found w.rest

abbrev pub shown_rest : Settings → Found → List ℕ → Result Shown Fault
shown_rest settings found bytes = shown_rest_within None settings found bytes

-- What a stream shows, within such a limit and without one.
unfoldable pub shown_within : Option ℕ → Settings → List ℕ → Result Shown Fault
shown_within limit settings bytes =
    start_at bytes >>= (λ start. shown_rest_within limit settings nothing_found start.1)

abbrev pub shown : Settings → List ℕ → Result Shown Fault
shown settings bytes = shown_within None settings bytes

-- What lies ahead of a decoder: a whole stream, or the rest of one after its header.
abbrev pub shown_ahead : Progress → Settings → Found → List ℕ → Result Shown Fault
shown_ahead Fresh settings found bytes = shown_within settings.max_blocks settings bytes
shown_ahead _ settings found bytes = shown_rest_within settings.max_blocks settings found bytes

-- ---- complete rows

-- How many rows of the picture, from its top, lie in rows of MCUs that are complete in every scan
-- that the stream has begun, of all components. Only the scan in which the fault lies may lack
-- blocks, or lines of samples: all rows but for such a scan; and none where a component has no scan
-- that its picture needs.
abbrev pub rows_of_frame : Option ℕ → Found → Frame → ℕ
rows_of_frame rows found frame = elim (planes_by frame.process found frame) [
  | Ok planes ↦ unwrap_or rows frame.output_height
  | Err fault ↦ 0
]

abbrev pub rows_of_found : Option ℕ → Found → ℕ
rows_of_found rows found =
    unwrap_or (option_map (rows_of_frame rows found) found.said.frame) 0

-- of the rest of a stream after its start or its header, where its scans may code this many blocks,
-- if there is a limit
unfoldable pub whole_rows_rest : Option ℕ → Found → List ℕ → ℕ
whole_rows_rest limit found bytes =
    let w = all_brought limit found bytes in rows_of_found w.rows w.found

-- of a stream, within such a limit and without one
unfoldable pub whole_rows_within : Option ℕ → List ℕ → ℕ
whole_rows_within limit bytes = elim (start_at bytes) [
  | Ok start ↦ whole_rows_rest limit nothing_found start.1
  | Err fault ↦ 0
]

abbrev pub whole_rows : List ℕ → ℕ
whole_rows bytes = whole_rows_within None bytes

-- of what lies ahead of a decoder: a whole stream, or the rest of one after its header
abbrev pub whole_rows_ahead : Option ℕ → Progress → Found → List ℕ → ℕ
whole_rows_ahead limit Fresh found bytes = whole_rows_within limit bytes
whole_rows_ahead limit _ found bytes = whole_rows_rest limit found bytes

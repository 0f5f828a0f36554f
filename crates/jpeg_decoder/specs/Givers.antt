-- What is kept between two rows of MCUs of a scan whose lines are given as it is read.
use Rattle.std.specs.Prelude.{◌≡◌, ◌+◌, ◌-◌, ◌*◌, ℕ, List, [], true, length, map}
use Rattle.std.specs.Prelude.{min, replicate, take, Option, Some, Ok, OnOk, option_map}
use Rattle.std.specs.Prelude.{Result}
use Rattle.std.specs.List.{concat}
use Rattle.std.specs.declared.alloc.Global.{Global}
use Rattle.std.specs.declared.vec.Vec.{Vec}
use Rattle.jpeg_bits.specs.Reading.{Answers, Outcome, ◌>>=◌}
use Rattle.jpeg_bits.specs.Stream.{Stream}
use Rattle.jpeg_bits.specs.declared.beyond.Beyond.TheVariants.{Zeros}
use Rattle.jpeg_bits.specs.declared.error.Error.{Error}
use Rattle.jpeg_bits.specs.declared.marker.Marker.{Marker}
use Rattle.jpeg_segments.specs.Frame.{Frame}
use Rattle.jpeg_segments.specs.ScanHeader as headers
use Rattle.jpeg_pixels.specs.Pictures.{Source, sources_of}
use Rattle.jpeg_pixels.specs.declared.color_convert.ColorConvert.{ColorConvert}
use Rattle.jpeg_meaning.specs.Found.{Found}
use Rattle.jpeg_meaning.specs.ScanSegments.{Coding}
use Rattle.jpeg_meaning.specs.Segments.{Turn}
use Rattle.jpeg_meaning.specs.Stream.{Told}
use Rattle.jpeg_meaning.specs.declared.settings.Settings.{Settings}
use Rattle.jpeg_decoder.specs.Bytes.{IsWhole, shape_of}
use Rattle.jpeg_decoder.specs.ByRows.{HaveRows, below, lines_decided, lines_from}
use Rattle.jpeg_decoder.specs.Reaching.{turn_after}
use Rattle.jpeg_decoder.specs.Scanning.{BlockScan, arrays_in, scan_vias, sizes_of}
use Rattle.jpeg_decoder.specs.Steps.{after_all}
use Rattle.jpeg_decoder.specs.Strips.{no_samples, plane_lists, planes_by_rows, row_sizes}
use Rattle.jpeg_decoder.specs.Strips.{tables_of, with_strips}
use Rattle.jpeg_decoder.specs.declared.by_rows.giver.RowGiver.{RowGiver}
use Rattle.jpeg_decoder.specs.declared.stream.state.Step.{Step}

-- so many planes without samples
abbrev pub IsEmpty : ℕ → List (Vec ℕ Global) → Type 0
IsEmpty count planes = plane_lists planes ≡ replicate count []

-- So many rows of MCUs were taken: there is room for a row of blocks and for a line, and of the
-- planes the last two rows are there. The lines that the last one decided are whole.
pub record IsReady (frame : Frame) (codings : List Coding) (convert : ColorConvert) (rows : ℕ)
    (g : RowGiver) : Type 0 where
  pub sizes : sizes_of g.blocks.items ≡ row_sizes codings
  pub tables : g.tables.items ≡ tables_of codings
  pub planes : HaveRows (min rows 2) frame.components (plane_lists g.planes.items)
  pub line : length g.line.items ≡ length frame.components * frame.output_width
  pub converts : g.convert ≡ convert
  pub taken : g.rows ≡ rows
  pub count : ℕ
  pub lines : length g.lines.items ≡ count * (length frame.components * frame.output_width)

-- What is kept is the end of these planes, of all rows that were taken.
pub record IsEndOf (frame : Frame) (planes : List (List ℕ)) (g : RowGiver) : Type 0 where
  pub rows : HaveRows g.rows frame.components planes
  pub are : below (g.rows - min g.rows 2) frame.components planes ≡ plane_lists g.planes.items

-- A row of MCUs was taken: after it the planes have its samples, and the lines that it decides are
-- there.
pub record GivesRow (frame : Frame) (codings : List Coding) (old new : RowGiver) : Type 0 where
  pub ends : (planes : List (List ℕ)) → IsEndOf frame planes old
      → IsEndOf frame (with_strips codings (arrays_in old.blocks.items) planes) new
  pub all : (planes : List (List ℕ)) (sources : List Source) → IsEndOf frame planes old
      → sources_of frame.components frame.output_width frame.output_height ≡ Ok sources
      → new.lines.items ≡ concat (lines_from frame old.convert sources
      (with_strips codings (arrays_in old.blocks.items) planes) (lines_decided frame old.rows)
      (lines_decided frame (old.rows + 1) - lines_decided frame old.rows))

-- ---- a scan

-- the planes of a scan, and the marker after it and after the restart markers at its end
unfoldable pub planes_then : Frame → BlockScan → List ℕ → Outcome (List (List ℕ) × Option Marker)
planes_then frame s bytes = do
  r ← planes_by_rows s.pass (scan_vias s) s.restart_interval frame s.codings (no_samples s.codings)
      bytes
  met ← after_all r.0.1 r.1
  Ok ((r.0.0, met.0), met.1)

-- The first planes that were found are these.
abbrev pub AreFound : List (List ℕ) → List (Option (List ℕ)) → Type 0
AreFound planes found = take (length planes) found ≡ map Some planes

-- A scan of all components of a frame was read after its header, and these are its lines. Its
-- planes are those of the picture.
pub record GivesScan (found : Found) (frame : Frame) (header : headers.Scan)
    (convert : ColorConvert) (old : Stream) (result : Result Step Error) (bytes : List ℕ) : Type 0
  where
    pub planes : List (List ℕ)
    pub counted : length planes ≡ length frame.components
    pub sized : HaveRows frame.mcus_high frame.components planes
    pub are_found : old.known ≡ true → OnOk result ((t : Turn × List ℕ)
        → (turn_after Zeros found header old.bytes).turn ≡ Ok t
        → AreFound planes t.0.found.planes)
    pub lines : (sources : List Source)
        → sources_of frame.components frame.output_width frame.output_height ≡ Ok sources
        → bytes ≡ concat (lines_from frame convert sources planes 0 frame.output_height)

-- ---- the whole

-- These bytes are what a stream shows by lines: all of a picture, as its frame has it, unless it was
-- refused, memory ran out, or the reader failed.
pub record GivesLines (settings : Settings) (frame : Option Frame)
    (read : List ℕ → Outcome (Told × List ℕ)) (old : Stream) (result : Result (Unit {0}) Error)
    (new : Stream) (told : Told) (bytes : List ℕ) : Type 0 where
  pub whole : OnOk result (IsWhole (option_map (shape_of settings) frame) bytes)
  pub reads : Answers (λ _. (told, bytes)) read old result new

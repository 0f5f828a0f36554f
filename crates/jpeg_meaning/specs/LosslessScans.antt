-- Scans of a lossless frame (T.81, A.2 and Annex H).
use Rattle.std.specs.Prelude.{ℕ, List, [], ◌∷◌, map, slice_get, slice_index_or, zip, Option, Some}
use Rattle.std.specs.Prelude.{None, Result, Ok, slice_set, fold}
use Rattle.jpeg_bits.specs.Reading.{Fault, ◌>>=◌}
use Rattle.jpeg_bits.specs.Codes.{Table}
use Rattle.jpeg_bits.specs.declared.scan.Predictor.{Predictor}
use Rattle.jpeg_segments.specs.Frame.{Frame, Component, ceiling, most_across, most_down}
use Rattle.jpeg_lossless.specs.Prediction.{start_of}
use Rattle.jpeg_lossless.specs.Differences.{Part}
use Rattle.jpeg_lossless.specs.Scans.{Way}
use Rattle.jpeg_segments.specs.Checks.{needed, gathered}

-- ---- MCUs

-- A component of a scan: its index in the frame, the component, and its table.
pub record LosslessCoding : Type 0 where
  pub index : ℕ
  pub component : Component
  pub table : Table

-- The MCUs of a scan, across and down: of a component alone, its samples.
unfoldable pub mcus_across : Frame → List LosslessCoding → ℕ
mcus_across frame (k ∷ []) = k.component.width
mcus_across frame codings = ceiling frame.width (most_across frame.components)

unfoldable pub mcus_down : Frame → List LosslessCoding → ℕ
mcus_down frame (k ∷ []) = k.component.height
mcus_down frame codings = ceiling frame.height (most_down frame.components)

-- what an MCU has of a component: its factors, or one sample where it is alone
abbrev pub part_of : ℕ → ℕ → LosslessCoding → Part
part_of across down k =
    let c = k.component in
    record { table = k.table; across = across; down = down; width = c.width; height = c.height }

unfoldable pub parts_of : List LosslessCoding → List Part
parts_of (k ∷ []) = part_of 1 1 k ∷ []
parts_of codings =
    map (λ k. part_of k.component.factors.horizontal k.component.factors.vertical k) codings

abbrev pub way_of : Frame → Predictor → ℕ → List LosslessCoding → Way
way_of frame predictor point codings = record {
  wide = mcus_across frame codings;
  selection = predictor;
  start = start_of frame.precision point;
  parts = parts_of codings;
}

-- ---- tables

-- the component at an index, with the table in force for its differences
unfoldable pub lossless_coding : List (Option Table) → Frame → ℕ → ℕ → Result LosslessCoding Fault
lossless_coding tables frame index dc_destination = do
  component ← needed (slice_get frame.components index)
  table ← needed (slice_index_or tables dc_destination None)
  Ok (record { index = index; component = component; table = table })

-- those at some indices, with the destinations of their tables
unfoldable pub lossless_codings :
    List (Option Table) → Frame → List ℕ → List ℕ → Result (List LosslessCoding) Fault
lossless_codings tables frame indices dc_destinations =
    gathered (λ s. lossless_coding tables frame s.0 s.1) (zip indices dc_destinations)

-- the tables at some destinations
abbrev pub tables_in : List (Option Table) → List ℕ → Result (List Table) Fault
tables_in tables = gathered (λ d. needed (slice_index_or tables d None))

-- ---- samples

-- The samples of a scan decide those of the components at its indices.
unfoldable pub with_samples :
    List ℕ → List (List ℕ) → List (Option (List ℕ)) → List (Option (List ℕ))
with_samples indices planes samples =
    fold (λ samples x. slice_set samples x.0 (Some x.1)) samples (zip indices planes)

-- How many rows of the picture, from its top, lie in rows of MCUs that are complete in a scan, which
-- lacks blocks or lines of samples (T.81, A.2 and E.2.4).
use Rattle.std.specs.Prelude.{ℕ, ◌-◌, ◌*◌, ◌/◌, List, [], ◌∷◌, length, min, slice_get}
use Rattle.std.specs.Prelude.{Option, Some, None, if◌then◌else◌}
use Rattle.std.specs.List.{list_any}
use Rattle.jpeg_segments.specs.Frame.{Component, Frame, most_down}
use Rattle.jpeg_pixels.specs.Pictures.{is_blended}
use Rattle.jpeg_meaning.specs.LosslessScans.{LosslessCoding}
use Rattle.jpeg_meaning.specs.Order.{Spot}

-- how many rows of the picture some lines of samples of a component make, from its top
abbrev pub rows_of_lines : Frame → Component → ℕ → ℕ
rows_of_lines frame c lines = lines * most_down frame.components / c.factors.vertical

-- The rows of the picture above the row of MCUs that a line of blocks of a component is in. In a
-- scan of several components that has as many lines of its blocks as its vertical sampling factor.
abbrev pub rows_above_line : Frame → List Component → Component → ℕ → ℕ
rows_above_line frame (alone ∷ []) c line = rows_of_lines frame c (line * c.scale)
rows_above_line frame components c line =
    rows_of_lines frame c (line / c.factors.vertical * c.factors.vertical * c.scale)

-- Of the rows above a row of MCUs, those that need nothing of it: where lines of one of the scan's
-- components are blended with those below them, all but the last.
abbrev pub rows_apart : Frame → List Component → ℕ → ℕ
rows_apart frame components rows =
    if list_any (is_blended frame) components then rows - 1 else rows

-- The rows of the picture that need nothing of the row of MCUs that a block of a scan is in, nor of
-- those below it.
abbrev pub rows_above : Frame → List Component → Spot → ℕ
rows_above frame components s = elim (slice_get components s.slot) [
  | Some c ↦ rows_apart frame components
      (min frame.output_height (rows_above_line frame components c (s.index / c.blocks_wide)))
  | None ↦ 0
]

-- The rows that whole lines of samples make, of the first component of a lossless scan.
abbrev pub rows_of_planes : Frame → List LosslessCoding → List (List ℕ) → Option ℕ
rows_of_planes frame (k ∷ codings) (plane ∷ planes) = Some (min frame.output_height
    (rows_of_lines frame k.component (length plane / k.component.width)))
rows_of_planes frame _ _ = None

-- The work that the scans of a stream ask for, counted in blocks, and a limit of it (T.81, A.2).
use Rattle.std.specs.Prelude.{ℕ, ◌-◌, ◌*◌, nat_lt, List, [], ◌∷◌, length, Bool, false, Option}
use Rattle.std.specs.Prelude.{None, Some, Ok, Err, slice_get, if◌then◌else◌}
use Rattle.jpeg_bits.specs.Marker.{found_or, next_marker}
use Rattle.jpeg_bits.specs.Reading.{Malformed}
use Rattle.jpeg_bits.specs.declared.marker.Marker.{Marker}
use Rattle.jpeg_bits.specs.declared.marker.Marker.TheVariants.{SOS}
use Rattle.jpeg_segments.specs.declared.frame.CodingProcess.{CodingProcess}
use Rattle.jpeg_segments.specs.declared.frame.CodingProcess.TheVariants.{Lossless}
use Rattle.jpeg_segments.specs.Frame.{Frame, Component, ceiling, most_across, most_down}
use Rattle.jpeg_segments.specs.ScanHeader.{Scan}
use Rattle.jpeg_meaning.specs.Brought.{Brought, frame_and_scan, unbrought}
use Rattle.jpeg_meaning.specs.Found.{Found}
use Rattle.jpeg_meaning.specs.Order.{mcu_size, spots_of}

-- ---- a scan

-- The samples that a lossless scan of some components codes: of a component alone its own, of
-- several those of all MCUs.
unfoldable pub samples_coded : Frame → List Component → ℕ
samples_coded frame [] = 0
samples_coded frame (c ∷ []) = c.height * c.width
samples_coded frame (c ∷ d ∷ more) =
    ceiling frame.height (most_down frame.components)
    * (ceiling frame.width (most_across frame.components) * mcu_size (c ∷ d ∷ more))

-- The blocks that a scan of some components codes. Eight samples of a lossless scan count as one,
-- since they take about as long (this project's own measure).
unfoldable pub blocks_coded : CodingProcess → Frame → List Component → ℕ
blocks_coded Lossless frame components = ceiling (samples_coded frame components) 8
blocks_coded _ frame components = length (spots_of frame components)

-- the components at some indices of a frame
unfoldable pub components_at : Frame → List ℕ → List Component
components_at frame [] = []
components_at frame (i ∷ more) = elim (slice_get frame.components i) [
  | None ↦ components_at frame more
  | Some c ↦ c ∷ components_at frame more
]

abbrev pub work_of_scan : Frame → Scan → ℕ
work_of_scan frame scan = blocks_coded frame.process frame (components_at frame scan.components)

-- The blocks of one scan of all components of a frame, the unit of limits.
abbrev pub picture_blocks : Frame → ℕ
picture_blocks frame = blocks_coded frame.process frame frame.components

-- ---- a turn

-- The blocks of the scan whose header begins these bytes. There are none where the header has a
-- fault, which is then the stream's.
unfoldable pub work_of_header : Found → List ℕ → ℕ
work_of_header found bytes = elim (frame_and_scan found bytes) [
  | Ok x ↦ work_of_scan x.0 x.1.0
  | Err fault ↦ 0
]

abbrev pub work_after : Marker → Found → List ℕ → ℕ
work_after SOS found bytes = work_of_header found bytes
work_after _ found bytes = 0

-- the blocks of what stands after the marker that is met, or else the next
unfoldable pub work_of_turn : Found → Option Marker → List ℕ → ℕ
work_of_turn found met bytes = elim (found_or met bytes (next_marker bytes)) [
  | Ok m ↦ work_after m.0 found m.1
  | Err fault ↦ 0
]

-- ---- a limit

-- whether this many blocks are more than are left, where there is a limit
abbrev pub is_above : Option ℕ → ℕ → Bool
is_above None blocks = false
is_above (Some left) blocks = nat_lt left blocks

-- what is left after this many
abbrev pub left_after : Option ℕ → ℕ → Option ℕ
left_after None blocks = None
left_after (Some left) blocks = Some (left - blocks)

-- what is brought where no more blocks than are left may be coded: more are refused, and nothing of
-- them counts
abbrev pub brought_within : Option ℕ → ℕ → Found → Brought → Brought
brought_within left blocks found brought =
    if is_above left blocks then unbrought found (Err Malformed) else brought

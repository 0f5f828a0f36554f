-- What worked streams mean and show where their scans may code so many blocks and no more, what of
-- their work is done then, and how many blocks a scan has by the sizes of its frame.
use Rattle.std.specs.Prelude.{ℕ, suc, ◌*◌, List, [], ◌∷◌, length, false, Option, None, Result, Ok}
use Rattle.std.specs.Prelude.{Err}
use Rattle.jpeg_bits.specs.Reading.{Fault}
use Rattle.jpeg_segments.specs.Frame.{Component, Frame}
use Rattle.jpeg_meaning.specs.declared.before.Before.TheVariants.{Elsewhere}
use Rattle.jpeg_bits.specs.declared.beyond.Beyond.{Beyond}
use Rattle.jpeg_meaning.specs.Found.{nothing_found}
use Rattle.jpeg_meaning.specs.Limits.{work_within}
use Rattle.jpeg_meaning.specs.Order.{grid_of, mcu_size}
use Rattle.jpeg_meaning.specs.Output.{default_settings}
use Rattle.jpeg_meaning.specs.Shown.{shown_within}
use Rattle.jpeg_meaning.specs.Stream.{meaning_within, start_at}
use Rattle.jpeg_meaning.specs.Worked.{picture_part, scan_text, stream_parts}
use Rattle.jpeg_evidence.specs.CutStreams.{picture_and_fault}

-- ---- a stream within a limit

-- the picture that is meant, or why there is none
abbrev pub meant_within : Option ℕ → List ℕ → Result (List ℕ) Fault
meant_within limit bytes = picture_part (meaning_within limit default_settings bytes)

-- the picture that is shown and the first fault, or why there is no picture
abbrev pub seen_within : Option ℕ → List ℕ → Result (List ℕ × Option Fault) Fault
seen_within limit bytes = picture_and_fault (shown_within limit default_settings bytes)

-- the blocks of the scans of which data are read
unfoldable pub work_done : Option ℕ → Beyond → List ℕ → ℕ
work_done limit beyond bytes = elim (start_at bytes) [
  | Ok start ↦ work_within limit beyond (suc (length start.1)) false Elsewhere nothing_found None
      start.1
  | Err fault ↦ 0
]

-- Two scans of two blocks each. The marker of the second closes the data of the first inside its
-- second block: as zeros stand for the bits that are lacking, `decode` goes on, and
-- `decode_partial` does not.
abbrev pub cut_and_scanned : List ℕ
cut_and_scanned = stream_parts 8 16 (65 ∷ []) (scan_text 1 0 63 0 (65 ∷ 15 ∷ []) ∷ [])

-- ---- the blocks of a scan

-- How many blocks a scan of some components has, by the sizes of the frame: those of a component
-- alone across and down, or those of an MCU in each MCU of the frame.
unfoldable pub spots_counted : Frame → List Component → ℕ
spots_counted frame [] = 0
spots_counted frame (c ∷ []) = (grid_of c).own_high * (grid_of c).own_wide
spots_counted frame (c ∷ d ∷ more) =
    frame.mcus_high * (frame.mcus_wide * mcu_size (c ∷ d ∷ more))

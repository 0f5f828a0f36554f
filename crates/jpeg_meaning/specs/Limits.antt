-- How much the scans of a stream ask for in all, and what of it a limit lets through.
use Rattle.std.specs.Prelude.{◌≤◌, ℕ, zero, suc, ◌+◌, ◌&&◌, length, List, Bool, false, Option, None}
use Rattle.std.specs.Prelude.{is_some, Ok, Err, IfSome, if◌then◌else◌}
use Rattle.jpeg_bits.specs.declared.marker.Marker.{Marker}
use Rattle.jpeg_meaning.specs.declared.before.Before.{Before}
use Rattle.jpeg_meaning.specs.declared.before.Before.TheVariants.{Elsewhere}
use Rattle.jpeg_bits.specs.declared.beyond.Beyond.{Beyond}
use Rattle.jpeg_bits.specs.declared.beyond.Beyond.TheVariants.{Zeros}
use Rattle.jpeg_meaning.specs.declared.progress.Progress.{Progress}
use Rattle.jpeg_meaning.specs.declared.progress.Progress.TheVariants.{Fresh}
use Rattle.jpeg_meaning.specs.Found.{Found, nothing_found}
use Rattle.jpeg_meaning.specs.Stream.{start_at, turn_at, walk}
use Rattle.jpeg_meaning.specs.Work.{is_above, left_after, work_of_turn}

-- The blocks of all scans from a marker on, up to the end of the image, or where a header is wanted
-- up to a frame, or up to the first fault: a scan whose data have a fault counts whole.
unfoldable pub work_of_walk : Beyond → ℕ → Bool → Before → Found → Option Marker → List ℕ → ℕ
work_of_walk beyond zero header before found met bytes = 0
work_of_walk beyond (suc turns) header before found met bytes =
    if header && is_some found.said.frame then 0 else
    (work_of_turn found met bytes + elim (turn_at beyond before found met bytes).turn [
      | Err fault ↦ 0
      | Ok t ↦ if t.0.ended then 0 else
          work_of_walk beyond turns header t.0.before t.0.found t.0.met t.1
    ])

-- the blocks of the rest of a stream after its start or its header
abbrev pub work_of_rest : Beyond → Found → List ℕ → ℕ
work_of_rest beyond found bytes =
    work_of_walk beyond (suc (length bytes)) false Elsewhere found None bytes

-- the blocks of a stream
unfoldable pub work_of : Beyond → List ℕ → ℕ
work_of beyond bytes = elim (start_at bytes) [
  | Ok start ↦ work_of_rest beyond nothing_found start.1
  | Err fault ↦ 0
]

-- the blocks of what lies ahead of a decoder: a whole stream, or the rest of one after its header
abbrev pub work_ahead : Progress → Found → List ℕ → ℕ
work_ahead Fresh found bytes = work_of Zeros bytes
work_ahead _ found bytes = work_of_rest Zeros found bytes

-- Whether a scan is refused since it codes more blocks than a limit leaves: of the rest of a stream
-- after its start or its header, of a stream, and of what lies ahead of a decoder.
abbrev pub exceeded_rest : Option ℕ → Beyond → Found → List ℕ → Bool
exceeded_rest limit beyond found bytes =
    (walk limit beyond (suc (length bytes)) false Elsewhere found None bytes).exceeded

unfoldable pub exceeded_by : Option ℕ → Beyond → List ℕ → Bool
exceeded_by limit beyond bytes = elim (start_at bytes) [
  | Ok start ↦ exceeded_rest limit beyond nothing_found start.1
  | Err fault ↦ false
]

abbrev pub exceeded_ahead : Option ℕ → Beyond → Progress → Found → List ℕ → Bool
exceeded_ahead limit beyond Fresh found bytes = exceeded_by limit beyond bytes
exceeded_ahead limit beyond _ found bytes = exceeded_rest limit beyond found bytes

-- a limit lets this many blocks through, or there is none
abbrev pub IsWithinLimit : Option ℕ → ℕ → Type 0
IsWithinLimit limit blocks = IfSome limit (λ most. blocks ≤ most)

-- The blocks of the scans of which data are read on the same way where no more than are left may be
-- coded: a scan that is refused for its blocks doesn't count.
unfoldable pub work_within : Option ℕ → Beyond → ℕ → Bool → Before → Found → Option Marker → List ℕ
    → ℕ
work_within left beyond zero header before found met bytes = 0
work_within left beyond (suc turns) header before found met bytes =
    if header && is_some found.said.frame then 0 else
    (if is_above left (work_of_turn found met bytes) then 0 else
    (work_of_turn found met bytes + elim (turn_at beyond before found met bytes).turn [
      | Err fault ↦ 0
      | Ok t ↦ if t.0.ended then 0 else
          work_within (left_after left (work_of_turn found met bytes)) beyond turns header
          t.0.before t.0.found t.0.met t.1
    ]))

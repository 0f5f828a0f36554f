-- Whether the fault of a stream is a scan of more blocks than the passes of the options allow.
use Rattle.std.specs.Prelude.{ℕ, Bool, true, false, List, Ok, Err}
use Rattle.jpeg_bits.specs.Reading.{Fault}
use Rattle.jpeg_meaning.specs.Found.{Found}
use Rattle.jpeg_meaning.specs.Limits.{exceeded_rest}
use Rattle.jpeg_meaning.specs.Stream.{header_at}
use Rattle.jpeg_bits.specs.declared.beyond.Beyond.{Beyond}
use Rattle.jpeg_bits.specs.declared.beyond.Beyond.TheVariants.{Nothing, Zeros}
use Rattle.jpeg_meaning.specs.declared.settings.Settings.{Settings}
use Rattle.zaxbriar_calls.specs.Faults.{reading_code, with_passes}
use Rattle.zaxbriar_calls.specs.Meanings.{found_at, settings_at}
use Rattle.zaxbriar_calls.specs.declared.extents.Extent.{Extent}
use Rattle.zaxbriar_calls.specs.declared.extents.Extent.TheVariants.{Whole, Partial, Planes}
use Rattle.zaxbriar_calls.specs.declared.options.Options.{Options}

-- whether the whole of a picture is asked for, or of its planes
abbrev pub is_whole : Extent → Bool
is_whole Whole = true
is_whole Partial = false
is_whole Planes = true

-- What follows the marker after a scan's data: for a whole picture and its planes zeros, and for a
-- part nothing.
abbrev pub beyond_of : Extent → Beyond
beyond_of Whole = Zeros
beyond_of Partial = Nothing
beyond_of Planes = Zeros

-- Whether the first fault, of the rest of a stream after its header, is a scan of more blocks than
-- the limit of the settings leaves.
abbrev pub exceeds_rest : Extent → Settings → Found → List ℕ → Bool
exceeds_rest extent settings found bytes =
    exceeded_rest settings.max_blocks (beyond_of extent) found bytes

-- The same of a stream, of which the options allow so many passes over the picture of its header.
unfoldable pub exceeds : Extent → Options → List ℕ → Bool
exceeds extent o bytes = elim (header_at bytes) [
  | Ok header ↦
      let found = found_at o header.0 in exceeds_rest extent (settings_at o found) found header.1
  | Err fault ↦ false
]

-- The number of the fault of a stream: MALFORMED, or TOO_MANY_PASSES where it is such a scan,
-- UNSUPPORTED, and TRUNCATED.
abbrev pub fault_number : Extent → Options → List ℕ → Fault → ℕ
fault_number extent o bytes fault =
    with_passes (exceeds extent o bytes) (reading_code {X = Unit {0}} (Err fault))

-- Differences that some bits begin with, which are then read at once (T.81, F.2.2.1 and H.1.2.2).
use Rattle.std.specs.Prelude.{◌≡◌, ℕ, ℤ, pos, ◌<◌, ◌≤◌, List, length, Bool, Option, Some, None}
use Rattle.std.specs.Prelude.{Ok, Err, slice_index_or}
use Rattle.jpeg_bits.specs.Entropy.{Text, Ahead, Takes, advance, same_text}
use Rattle.jpeg_bits.specs.Stream.{Stream}
use Rattle.jpeg_bits.specs.Refusals.{kept_refusal}
use Rattle.jpeg_bits.specs.Codes.{Table}
use Rattle.jpeg_bits.specs.Written.{low_bits}
use Rattle.jpeg_bits.specs.Bands.{difference}
use Rattle.jpeg_bits.specs.Skips.{BeginsText}
use Rattle.jpeg_bits.specs.declared.error.Error.{Error}

-- These 12 bits begin with a difference, which takes this many bits with its code, or it takes none
-- and isn't known.
pub record IsShortDifference (table : Table) (bits : List Bool) (d : ℤ × ℕ) : Type 0 where
  pub few : d.1 ≤ 12
  pub reads : 0 < d.1 → (t : Text) → BeginsText bits d.1 t
      → difference table t ≡ Ok (d.0, advance d.1 t)

-- no difference
abbrev pub no_difference : ℤ × ℕ
no_difference = (pos 0, 0)

-- those that 12 bits begin with, at the index of each, where the table is filled
abbrev pub HoldsDifferences : Table → List (ℤ × ℕ) → Type 0
HoldsDifferences table ds = (b : ℕ) → b < length ds
    → IsShortDifference table (low_bits 12 b) (slice_index_or ds b no_difference)

-- A call on a decoder and a source took a difference, or nothing; or it was refused.
abbrev pub TakesShort : Table → Ahead → Stream → Option (Option ℤ) → Option Error → Ahead → Stream
    → Type 0
TakesShort table a old None refusal b new =
    Takes (λ (u : Unit {0}). 0) same_text a old (Err (kept_refusal refusal)) b new
TakesShort table a old (Some None) refusal b new =
    Takes (λ (u : Unit {0}). 0) same_text a old (Ok tt) b new
TakesShort table a old (Some (Some v)) refusal b new =
    Takes (λ (v : ℤ). v) (difference table) a old (Ok v) b new

-- What is kept of coefficients before a pass and after it, where they are given at the level of the pass.
use Rattle.std.specs.Prelude.{◌≡◌, ℕ, suc, neg_ℤ, ◌*◌, ◌/◌, ◌^◌, ◌<◌, ◌==◌, true, false, List, length, map, ℤ, pos}
use Rattle.std.specs.Prelude.{negsuc, ◌*ℤ◌, ◌≤ℤ◌, unsigned_abs}
use Rattle.std.specs.List.{AllByRecursion}
use Rattle.jpeg_bits.specs.Bands.{wrapped}
use Rattle.jpeg_bits.specs.Passes.{Pass, Via, Block, band_of, with_band, or_bit}
use Rattle.jpeg_meaning.specs.WrittenData.{low_bit, no_numbers}

-- The half of a number, toward zero: what is known of it before a refinement.
abbrev pub halved : ℤ → ℤ
halved (pos n) = pos (n / 2)
halved (negsuc n) = neg_ℤ (pos (suc n / 2))

abbrev pub scaled : ℕ → ℤ → ℤ
scaled al u = u *ℤ pos (2 ^ al)

-- what is kept of a number before its refinement to level al
abbrev pub kept : ℕ → ℤ → ℤ
kept al u = scaled (suc al) (halved u)

-- a number of a band fits, and its bits stand beside a run in a symbol
pub record InRange (al : ℕ) (u : ℤ) : Type 0 where
  pub within : unsigned_abs u * 2 ^ al < 2 ^ 15

-- a DC number of 8-bit samples
pub record InDcRange (u : ℤ) : Type 0 where
  pub low : negsuc 1023 ≤ℤ u
  pub high : u ≤ℤ pos 1023

-- what is kept of a DC number before its refinement to level al
abbrev pub floor_half : ℤ → ℤ
floor_half (pos n) = pos (n / 2)
floor_half (negsuc n) = negsuc (n / 2)

abbrev pub dc_kept : ℕ → ℤ → ℤ
dc_kept al u = scaled (suc al) (floor_half u)

-- What is kept of a block before the pass, where u has its numbers at the level of the pass.
pub record Suits (p : Pass) (old u : Block) : Type 0 where
  pub unsent : p.is_first ≡ true → band_of p old.acs ≡ no_numbers (length (band_of p u.acs))
  pub sent : p.is_first ≡ false → band_of p old.acs ≡ map (kept p.al) (band_of p u.acs)
  pub range : AllByRecursion (InRange p.al) (band_of p u.acs)
  pub dc_range : InDcRange u.dc
  pub dc_fits : wrapped (scaled p.al u.dc) ≡ scaled p.al u.dc

-- The block after the pass.
abbrev pub after_pass : Pass → Block → Block → Block
after_pass p old u = record {
  dc = elim (p.ss == 0) as (λ _. ℤ) [
    | true ↦ elim p.is_first as (λ _. ℤ) [ true ↦ scaled p.al u.dc | false ↦ or_bit p.al old.dc (low_bit u.dc) ]
    | false ↦ old.dc
  ];
  acs = with_band p old.acs (map (scaled p.al) (band_of p u.acs));
}

-- a block's path, what is kept of it, and its numbers at the level of the pass
abbrev pub reads_of : List (Via × Block × Block) → List (Via × Block)
reads_of turns = map (λ t. (t.0, t.1)) turns

abbrev pub numbers_of : List (Via × Block × Block) → List (Via × Block)
numbers_of turns = map (λ t. (t.0, t.2)) turns

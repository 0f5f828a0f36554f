-- Bands of coefficients that are read in their first scan, in the words of a writer (T.81,
-- F.1.2.2).
use Rattle.std.specs.Prelude.{◌≡◌, ◌∷◌, List, ℤ, pos, length, drop, negsuc, ◌≤ℤ◌}
use Rattle.jpeg_bits.specs.BlockView.{dc_in}
use Rattle.jpeg_bits.specs.Codes.{Table}
use Rattle.jpeg_bits.specs.Passes.{Block}
use Rattle.jpeg_meaning.specs.WrittenData.{WritesBand}
use Rattle.zaxbriar_strict.specs.Data.{Data, Reads}

-- a block whose coefficients stand in zigzag order
abbrev pub block_in : List ℤ → Block
block_in l = record { dc = dc_in l; acs = drop 1 l }

-- The AC coefficients of a block were read.
pub record ReadsAc (table : Table) (dc : ℤ) (block : List ℤ) (old new : Data) : Type 0 where
  pub numbers : List ℤ
  pub sized : length numbers ≡ 63
  pub are : block ≡ dc ∷ numbers
  pub read : Reads (λ own. WritesBand table numbers own 0) old new

-- a number of 16 bits that is not at the end of their range
pub record IsInner (z : ℤ) : Type 0 where
  pub low : negsuc 32766 ≤ℤ z
  pub high : z ≤ℤ pos 32766

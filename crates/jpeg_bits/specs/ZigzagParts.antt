-- Parts of a block in block order, by their indices in zigzag order.
use Rattle.std.specs.Prelude.{◌≡◌, ℕ, ◌+◌, ◌-◌, List, take, drop, ℤ}
use Rattle.jpeg_bits.specs.Passes.{Pass, before_band}
use Rattle.jpeg_bits.specs.Zigzag.{coefficients_in_zigzag}

-- the coefficients of a block at the zigzag indices from start to before end
unfoldable pub zigzag_part : ℕ → ℕ → List ℤ → List ℤ
zigzag_part start end block = take (end - start) (drop start (coefficients_in_zigzag block))

-- Two blocks are the same but for the zigzag indices from start to before end.
pub record IsKeptAround (start end : ℕ) (old new : List ℤ) : Type 0 where
  pub front : take start (coefficients_in_zigzag new) ≡ take start (coefficients_in_zigzag old)
  pub back : drop end (coefficients_in_zigzag new) ≡ drop end (coefficients_in_zigzag old)

-- the zigzag indices of the band of a pass
abbrev pub band_start : Pass → ℕ
band_start p = before_band p + 1

abbrev pub band_end : Pass → ℕ
band_end p = p.se + 1

-- the band of a pass
abbrev pub band_in : Pass → List ℤ → List ℤ
band_in p block = zigzag_part (band_start p) (band_end p) block

-- nothing but the band of a pass changes
abbrev pub KeepsOthers : Pass → List ℤ → List ℤ → Type 0
KeepsOthers p old new = IsKeptAround (band_start p) (band_end p) old new

-- what is left of the band of a pass, from a zigzag index on
abbrev pub rest_in : Pass → ℕ → List ℤ → List ℤ
rest_in p from block = zigzag_part from (band_end p) block

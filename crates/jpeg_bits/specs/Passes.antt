-- The blocks of an interval (T.81, F.2 and G.2), in the order of the scan.
use Rattle.std.specs.Prelude.{ℕ, zero, suc, ◌+◌, ◌-◌, ◌*◌, ◌^◌, ◌==◌, Bool, true, List, []}
use Rattle.std.specs.Prelude.{◌∷◌, ◌++◌, length, take, drop, set, get_or, replicate, ℤ, pos, ◌+ℤ◌}
use Rattle.std.specs.Prelude.{if◌then◌else◌}
use Rattle.jpeg_bits.specs.Entropy.{bits_from}
use Rattle.jpeg_bits.specs.Readers.{Reads, ◌>>=◌, gives}
use Rattle.jpeg_bits.specs.Codes.{Table}
use Rattle.jpeg_bits.specs.Bands.{Band, first_dc, first_ac}
use Rattle.jpeg_bits.specs.Refinement.{bit_of, corrected, refined_ac}

-- What a scan codes: the indices from ss to se at point transform al, for the first time or as a
-- refinement.
pub record Pass : Type 0 where
  pub is_first : Bool
  pub ss : ℕ
  pub se : ℕ
  pub al : ℕ

-- the pass of a sequential scan
abbrev pub whole_pass : Pass
whole_pass = record { is_first = true; ss = 0; se = 63; al = 0 }

-- How a block of the scan is coded: its component's index in the scan, and its tables.
pub record Via : Type 0 where
  pub component : ℕ
  pub dc : Table
  pub ac : Table

-- A block: DC, and the other 63 coefficients in zigzag order.
pub record Block : Type 0 where
  pub dc : ℤ
  pub acs : List ℤ

unfoldable pub zero_block : Block
zero_block = record { dc = pos 0; acs = replicate 63 (pos 0) }

-- its coefficients in zigzag order
abbrev pub listed : Block → List ℤ
listed b = b.dc ∷ b.acs

-- The indices of a pass after DC: how many AC indices stand before them, and how many there are.
abbrev pub before_band : Pass → ℕ
before_band p = p.ss - 1

abbrev pub band_size : Pass → ℕ
band_size p = p.se - before_band p

abbrev pub band_of : {A : Type 0} → Pass → List A → List A
band_of p acs = take (band_size p) (drop (before_band p) acs)

abbrev pub with_band : {A : Type 0} → Pass → List A → List A → List A
with_band p acs band = take (before_band p) acs ++ (band ++ drop (before_band p + band_size p) acs)

-- a number with a bit put to it as its bit al, where that is not set yet
abbrev pub or_bit : ℕ → ℤ → ℕ → ℤ
or_bit al z b = if bit_of al z == 0 then z +ℤ pos (b * 2 ^ al) else z

-- The DC coefficient and the next predictor. A refinement has one bit.
unfoldable pub dc_part : Pass → Table → ℤ → ℤ → Reads (ℤ × ℤ)
dc_part p dc z predictor =
    if p.ss == 0 then (if p.is_first then first_dc dc p.al predictor
    else bits_from 1 >>= (λ b. gives (or_bit p.al z b, predictor))) else gives (z, predictor)

-- The band and the blocks of the run that follows, from those of the run that this block is in:
-- where the run isn't 0 the band has no token, and in a refinement its correction bits alone.
unfoldable pub band_part : Pass → Table → List ℤ → ℕ → Reads Band
band_part p ac [] run = gives ([], run)
band_part p ac (x ∷ band) zero =
    if p.is_first then first_ac ac p.al (length (x ∷ band)) (x ∷ band)
    else refined_ac ac p.al (length (x ∷ band)) (x ∷ band)
band_part p ac (x ∷ band) (suc run) =
    if p.is_first then gives (x ∷ band, run)
    else corrected p.al (x ∷ band) >>= (λ all. gives (all, run))

-- A block on what is kept of it: the block, the next predictor of its component, and the blocks of
-- the run that follows.
unfoldable pub block_from : Pass → Table → Table → ℤ → ℕ → Block → Reads (Block × ℤ × ℕ)
block_from p dc ac predictor run old =
    dc_part p dc old.dc predictor >>= (λ d.
    band_part p ac (band_of p old.acs) run >>= (λ b.
    gives (record { dc = d.0; acs = with_band p old.acs b.0 }, d.1, b.1)))

-- each component's predictor at the start of an interval
abbrev pub predictors_at_start : List ℤ
predictors_at_start = replicate 4 (pos 0)

-- The blocks after the pass; the predictors of the components and the run go from block to block.
unfoldable pub blocks_of : Pass → List ℤ → ℕ → List (Via × Block) → Reads (List Block)
blocks_of p predictors run [] = gives []
blocks_of p predictors run (t ∷ turns) =
    block_from p t.0.dc t.0.ac (get_or predictors t.0.component (pos 0)) run t.1 >>= (λ r.
    blocks_of p (set predictors t.0.component r.1) r.2 turns >>= (λ more.
    gives (r.0 ∷ more)))

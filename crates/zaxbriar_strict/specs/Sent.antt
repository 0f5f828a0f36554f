-- What a scan of a progressive frame sends of a block, in the words of a writer (T.81, G.1.2).
use Rattle.std.specs.Prelude.{◌≡◌, ◌≢◌, ◌≤◌, ℕ, suc, ◌^◌, ◌≤◌, ◌∷◌, true, false, not, List}
use Rattle.std.specs.Prelude.{length, drop, map, ℤ, pos, ◌*ℤ◌, if◌then◌else◌}
use Rattle.std.specs.List.{AllByRecursion}
use Rattle.jpeg_bits.specs.BlockView.{dc_in}
use Rattle.jpeg_bits.specs.Codes.{Table}
use Rattle.jpeg_bits.specs.Passes.{Pass, band_of, band_size, with_band}
use Rattle.jpeg_meaning.specs.Levels.{floor_at, toward_zero}
use Rattle.jpeg_meaning.specs.WrittenData.{WritesAc, WritesDc, no_numbers}
use Rattle.zaxbriar_strict.specs.Bands.{IsInner}
use Rattle.zaxbriar_strict.specs.Data.{Data, Reads}
use Rattle.zaxbriar_strict.specs.declared.blocks.Band.{Band}

-- ---- passes

-- A band is sent in this pass.
pub record IsPass (p : Pass) (b : Band) : Type 0 where
  pub first : b.first ≡ p.ss
  pub last : b.last ≡ p.se
  pub low : b.low ≡ p.al
  pub refined : b.is_refined ≡ not p.is_first
  pub progressive : b.is_progressive ≡ true

-- A pass of a progressive frame sends DC or AC, and both in no scan (G.1.1.1.1).
pub data IsBand (p : Pass) : Type 0 where
  of_dc : p.ss ≡ 0 → p.se ≡ 0 → IsBand p
  of_acs : 1 ≤ p.ss → p.ss ≤ p.se → p.se ≤ 63 → IsBand p

-- coefficients that have these numbers at a level, and no lower bits
abbrev pub scaled_by : ℕ → List ℤ → List ℤ
scaled_by al numbers = map (λ u. u *ℤ pos (2 ^ al)) numbers

-- what was sent before of the numbers of a band: nothing, or all but their lowest bits
abbrev pub sent_before : Pass → List ℤ → List ℤ
sent_before p numbers = if p.is_first then no_numbers (length numbers)
    else scaled_by (suc p.al) (map (toward_zero 1) numbers)

-- coefficients none of which is at the end of the range of 16 bits
abbrev pub AllInner : List ℤ → Type 0
AllInner l = AllByRecursion IsInner l

-- ---- blocks

-- What a pass sends of DC of a block was read, whose 64 coefficients in zigzag order were `old` and
-- are `new`: from one prediction to the next, which are numbers at the level of the pass.
pub record ReadsSentDc (p : Pass) (table : Table) (before after : ℤ) (old new : List ℤ)
    (from to : Data) : Type 0 where
  pub number : ℤ
  pub is : p.ss ≡ 0 → dc_in new ≡ number *ℤ pos (2 ^ p.al)
  pub was :
      p.ss ≡ 0 → p.is_first ≡ false → dc_in old ≡ floor_at 1 number *ℤ pos (2 ^ suc p.al)
  pub stays : p.ss ≢ 0 → new ≡ old
  pub others : drop 1 new ≡ drop 1 old
  pub read : Reads (λ own. WritesDc p table number before own after) from to

-- The band of a block was read, after the end of an earlier band that stands for `run` blocks from
-- this one on, and then for `left`.
pub record ReadsSentAc (p : Pass) (table : Table) (run left : ℕ) (old new : List ℤ)
    (from to : Data) : Type 0 where
  pub numbers : List ℤ
  pub sized : length numbers ≡ band_size p
  pub was : band_of p (drop 1 old) ≡ sent_before p numbers
  pub are : new ≡ dc_in old ∷ with_band p (drop 1 old) (scaled_by p.al numbers)
  pub read : Reads (λ own. WritesAc p table numbers run own left) from to

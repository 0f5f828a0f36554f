-- The codes of a band, one after the other, in the words of a writer (T.81, F.1.2.2 and G.1.2).
use Rattle.std.specs.Prelude.{◌≡◌, ℕ, suc, ◌+◌, ◌-◌, ◌^◌, ◌<◌, ◌≤◌, ◌++◌, Bool, true}
use Rattle.std.specs.Prelude.{List, [], ◌∷◌, map, length, ℤ, ◌*ℤ◌, pos, unsigned_abs}
use Rattle.jpeg_bits.specs.Codes.{Table}
use Rattle.jpeg_bits.specs.Written.{bit, low_bits}
use Rattle.jpeg_meaning.specs.Levels.{toward_zero}
use Rattle.jpeg_meaning.specs.WrittenData.{WritesBand, WritesRefinement, NoneNew, corrections}
use Rattle.jpeg_meaning.specs.WrittenData.{count_unknown, is_old, no_numbers, sign_bit}
use Rattle.zaxbriar_strict.specs.Data.{Data, Reads, Takes}
use Rattle.zaxbriar_strict.specs.Sent.{scaled_by}

-- The end of bands was read, whose code has this order: this many bands end.
pub record ReadsRun (order run : ℕ) (old new : Data) : Type 0 where
  pub e : ℕ
  pub below : e < 2 ^ order
  pub are : run ≡ 2 ^ order + e
  pub read : Takes (low_bits order e) old new

-- ---- a band in its first scan

-- These bits stand for the numbers at the front of a band, whatever stands after them.
abbrev pub WritesFront : Table → List ℤ → List Bool → Type 0
WritesFront table front own =
    (more : List ℤ) (bits : List Bool) (run : ℕ) → WritesBand table more bits run
    → WritesBand table (front ++ more) (own ++ bits) run

-- A code and what follows it were read of a band from a place on, up to the next place: the
-- numbers of a block between these, of which those before stay, and those after are 0.
pub record ReadsStep (table : Table) (al last place next : ℕ) (front tail block : List ℤ)
    (old new : Data) : Type 0 where
  pub numbers : List ℤ
  pub sized : place + length numbers ≡ next
  pub within : next ≤ suc last
  pub are : block ≡ front ++ (scaled_by al numbers ++ (no_numbers (suc last - next) ++ tail))
  pub read : Reads (WritesFront table numbers) old new

-- The codes of a band of this many numbers were read, and where `run` isn't 0, of the end of so
-- many bands, this one first.
pub record ReadsCodes (table : Table) (al count run : ℕ) (front tail block : List ℤ)
    (old new : Data) : Type 0 where
  pub numbers : List ℤ
  pub sized : length numbers ≡ count
  pub are : block ≡ front ++ (scaled_by al numbers ++ tail)
  pub read : Reads (λ own. WritesBand table numbers own (run - 1)) old new

-- ---- a band in a refinement

-- The sign of a new coefficient was read.
pub record ReadsNew (al : ℕ) (coefficient : ℤ) (old new : Data) : Type 0 where
  pub number : ℤ
  pub is_new : unsigned_abs number ≡ 1
  pub are : coefficient ≡ number *ℤ pos (2 ^ al)
  pub read : Takes (bit (sign_bit number) ∷ []) old new

-- An old coefficient was corrected, whose number at the level before was this.
pub record CorrectsOne (al : ℕ) (kept coefficient : ℤ) (old new : Data) : Type 0 where
  pub number : ℤ
  pub was : toward_zero 1 number ≡ kept
  pub is_old : is_old number ≡ true
  pub are : coefficient ≡ number *ℤ pos (2 ^ al)
  pub read : Takes (corrections (number ∷ [])) old new

-- These are the correction bits of numbers none of which is new.
pub record AreCorrections (numbers : List ℤ) (own : List Bool) : Type 0 where
  pub none : NoneNew numbers
  pub are : corrections numbers ≡ own

-- the same of numbers so many of which are not old
pub record PassesZeros (zeros : ℕ) (numbers : List ℤ) (own : List Bool) : Type 0 where
  pub corrected : AreCorrections numbers own
  pub count : count_unknown numbers ≡ zeros

-- These bits stand for the numbers at the front of a refinement, whatever stands after them.
abbrev pub RefinesFront : Table → List ℤ → List Bool → Type 0
RefinesFront table front own =
    (more : List ℤ) (bits : List Bool) (run : ℕ) → WritesRefinement table more bits run
    → WritesRefinement table (front ++ more) (own ++ bits) run

-- Bits were read of which this holds with the numbers of a refinement from the end of `front` up to
-- a place, and the coefficients of a block have these: `kept` are the numbers at the level before.
pub record Refines (P : List ℤ → List Bool → Type 0) (al place : ℕ)
    (front kept tail block : List ℤ) (old new : Data) : Type 0 where
  pub numbers : List ℤ
  pub others : List ℤ
  pub was : kept ≡ map (toward_zero 1) numbers ++ others
  pub sized : length front + length numbers ≡ place
  pub are : block ≡ front ++ (scaled_by al numbers ++ (scaled_by (suc al) others ++ tail))
  pub read : Reads (P numbers) old new

-- These bits stand for the codes of a refinement, and where `run` isn't 0, for the end of so many
-- bands, this one first, after which the corrections of so many of its numbers come.
abbrev pub RefinesCodes : Table → ℕ → ℕ → List ℤ → List Bool → Type 0
RefinesCodes table left run numbers own =
    (more : List ℤ) → length more ≡ left → NoneNew more
    → WritesRefinement table (numbers ++ more) (own ++ corrections more) (run - 1)

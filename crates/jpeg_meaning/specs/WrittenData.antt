-- The entropy-coded data that a writer emits for coefficients (T.81, F.1.2 and G.1.2). Where the
-- coding leaves a choice, as how far a run of blocks goes, each choice is one that may be written.
use Rattle.std.specs.Prelude.{◌≡◌, ◌≢◌, ℕ, suc, ◌+◌, ◌-◌, ◌*◌, ◌%◌, ◌^◌, ◌<◌, ◌≤◌}
use Rattle.std.specs.Prelude.{Bool, true, false, List, [], ◌∷◌, ◌++◌, replicate, get_or, set}
use Rattle.std.specs.Prelude.{length, ℤ, pos, negsuc, ◌-ℤ◌, unsigned_abs, nat_le, not, map, filter}
use Rattle.std.specs.List.{AllByRecursion}
use Rattle.jpeg_bits.specs.Codes.{Table}
use Rattle.jpeg_bits.specs.Passes.{Pass, Via, Block, band_of}
use Rattle.jpeg_bits.specs.Written.{number_for, IsCategory, IsCoded, bit, low_bits}

-- ---- codes and values

abbrev pub bits_for : ℤ → ℕ → List Bool
bits_for d s = low_bits s (number_for d s)

-- A DC difference: a code for its category, and then its bits (F.1.2.1).
pub record WritesDifference (table : Table) (d : ℤ) (bits : List Bool) : Type 0 where
  pub s : ℕ
  pub code : List Bool
  pub category : IsCategory d s
  pub coded : IsCoded table s code
  pub has_bits : code ++ bits_for d s ≡ bits

-- ---- a band in its first scan (F.1.2.2 and G.1.2.2)

abbrev pub no_numbers : ℕ → List ℤ
no_numbers n = replicate n (pos 0)

-- The numbers of a band, the bits that stand for them, and how many of the next blocks the end of
-- this band stands for too. A code RRRRSSSS stands for a run of zeros and a value, for sixteen
-- zeros (ZRL), or for the rest of the band, and of the bands of 2 ^ r - 1 + e blocks more (EOBr).
pub data WritesBand (table : Table) : List ℤ → List Bool → ℕ → Type 0 where
  full : WritesBand table [] [] 0
  value : (r s : ℕ) (u : ℤ) (code : List Bool) (more : List ℤ) (bits : List Bool) (run : ℕ)
      → r ≤ 15 → u ≢ pos 0 → IsCategory u s → IsCoded table (16 * r + s) code
      → WritesBand table more bits run
      → WritesBand table (no_numbers r ++ u ∷ more) (code ++ bits_for u s ++ bits) run
  sixteen : (code : List Bool) (more : List ℤ) (bits : List Bool) (run : ℕ)
      → IsCoded table (16 * 15 + 0) code → WritesBand table more bits run
      → WritesBand table (no_numbers 16 ++ more) (code ++ bits) run
  ended : (n r e : ℕ) (code : List Bool)
      → r ≤ 14 → e < 2 ^ r → IsCoded table (16 * r + 0) code
      → WritesBand table (no_numbers (suc n)) (code ++ low_bits r e) (2 ^ r - 1 + e)

-- ---- a band in a refinement (G.1.2.3)

-- At its new level a coefficient is old where it was not 0 at the level before, and new where it is
-- 1 or -1 now and was 0 before.
abbrev pub is_old : ℤ → Bool
is_old u = nat_le 2 (unsigned_abs u)

-- how many coefficients are not old
unfoldable pub count_unknown : List ℤ → ℕ
count_unknown us = length (filter (λ u. not (is_old u)) us)

-- no coefficient is new
unfoldable pub NoneNew : List ℤ → Type 0
NoneNew us = AllByRecursion (λ u. unsigned_abs u ≢ 1) us

-- The correction bits of the old coefficients, in order: the lowest bit of each magnitude.
unfoldable pub corrections : List ℤ → List Bool
corrections us = map (λ u. bit (unsigned_abs u % 2)) (filter is_old us)

-- 1 for a positive value, 0 for a negative one
abbrev pub sign_bit : ℤ → ℕ
sign_bit (pos n) = 1
sign_bit (negsuc n) = 0

-- The numbers of a band, their bits, and how many of the next blocks the end of this band stands
-- for too. A code stands for the coefficients up to a new one, r of them neither old nor new; for
-- those up to the sixteenth that is neither; or for the rest, where none is new. The correction
-- bits of the old ones among them follow.
pub data WritesRefinement (table : Table) : List ℤ → List Bool → ℕ → Type 0 where
  refined : WritesRefinement table [] [] 0
  found : (r : ℕ) (front : List ℤ) (u : ℤ) (code : List Bool) (more : List ℤ) (bits : List Bool)
      (run : ℕ)
      → r ≤ 15 → NoneNew front → count_unknown front ≡ r → unsigned_abs u ≡ 1
      → IsCoded table (16 * r + 1) code → WritesRefinement table more bits run
      → WritesRefinement table (front ++ u ∷ more)
      (code ++ (bit (sign_bit u) ∷ (corrections front ++ bits))) run
  passed : (front : List ℤ) (code : List Bool) (more : List ℤ) (bits : List Bool) (run : ℕ)
      → NoneNew front → count_unknown front ≡ 15 → IsCoded table (16 * 15 + 0) code
      → WritesRefinement table more bits run
      → WritesRefinement table (front ++ pos 0 ∷ more) (code ++ (corrections front ++ bits)) run
  none_left : (r e : ℕ) (u : ℤ) (others : List ℤ) (code : List Bool)
      → r ≤ 14 → e < 2 ^ r → NoneNew (u ∷ others) → IsCoded table (16 * r + 0) code
      → WritesRefinement table (u ∷ others) (code ++ (low_bits r e ++ corrections (u ∷ others)))
      (2 ^ r - 1 + e)

-- ---- blocks

-- the lowest bit of a number's two's complement
abbrev pub low_bit : ℤ → ℕ
low_bit (pos n) = n % 2
low_bit (negsuc n) = 1 - n % 2

-- The bits of DC, after a prediction, and the next prediction. A scan of AC alone has none, a first
-- scan has the difference, and a refinement has one bit (G.1.2.1).
pub data WritesDc (p : Pass) (table : Table) : ℤ → ℤ → List Bool → ℤ → Type 0 where
  other_band : (u predictor : ℤ) → p.ss ≢ 0 → WritesDc p table u predictor [] predictor
  whole : (u predictor : ℤ) (bits : List Bool)
      → p.ss ≡ 0 → p.is_first ≡ true → WritesDifference table (u -ℤ predictor) bits
      → WritesDc p table u predictor bits u
  one_bit : (u predictor : ℤ)
      → p.ss ≡ 0 → p.is_first ≡ false
      → WritesDc p table u predictor (bit (low_bit u) ∷ []) predictor

-- The bits of a band, where the end of an earlier band stands for this many blocks from this one
-- on, and for how many of the next after it. In such a run a first scan has no bits, and a
-- refinement has the correction bits.
pub data WritesAc (p : Pass) (table : Table) : List ℤ → ℕ → List Bool → ℕ → Type 0 where
  no_band : (run : ℕ) → WritesAc p table [] run [] run
  first : (u : ℤ) (us : List ℤ) (bits : List Bool) (run : ℕ)
      → p.is_first ≡ true → WritesBand table (u ∷ us) bits run
      → WritesAc p table (u ∷ us) 0 bits run
  first_run : (n run : ℕ)
      → p.is_first ≡ true → WritesAc p table (no_numbers (suc n)) (suc run) [] run
  again : (u : ℤ) (us : List ℤ) (bits : List Bool) (run : ℕ)
      → p.is_first ≡ false → WritesRefinement table (u ∷ us) bits run
      → WritesAc p table (u ∷ us) 0 bits run
  again_run : (u : ℤ) (us : List ℤ) (run : ℕ)
      → p.is_first ≡ false → NoneNew (u ∷ us)
      → WritesAc p table (u ∷ us) (suc run) (corrections (u ∷ us)) run

-- The bits of some blocks, by the predictions of the components and the run that reaches them. Each
-- block is given by its numbers at the level of the scan. No run goes beyond the last.
pub data WritesBlocks (p : Pass) : List ℤ → ℕ → List (Via × Block) → List Bool → Type 0 where
  done : (predictors : List ℤ) → WritesBlocks p predictors 0 [] []
  block : (predictors : List ℤ) (run after : ℕ) (via : Via) (u : Block)
      (turns : List (Via × Block)) (dc ac bits : List Bool) (next : ℤ)
      → WritesDc p via.dc u.dc (get_or predictors via.component (pos 0)) dc next
      → WritesAc p via.ac (band_of p u.acs) run ac after
      → WritesBlocks p (set predictors via.component next) after turns bits
      → WritesBlocks p predictors run ((via, u) ∷ turns) (dc ++ (ac ++ bits))

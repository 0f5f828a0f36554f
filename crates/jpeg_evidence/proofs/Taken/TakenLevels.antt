-- A coefficient's number at the level that it was read at, and the band of a block after a pass.
use Rattle.std.proofs.Common.{◌≡◌, ℕ, ◌<◌, ◌≤◌, List, [], ◌∷◌, ◌++◌, map, length, take, refl, ap₂, arith, ℤ}
use Rattle.std.proofs.Common.{pow_pos, length-take, length-drop, append-nil}
use Rattle.std.proofs.Math.Nat.{add-mul, mul-div_cancel, one-mul}
use Rattle.std.proofs.lemmas.Bool.{cases_lt}
use Rattle.std.proofs.lemmas.List.{take-append-le, take_all, drop_at, drop_all, nil_from_length}
use Rattle.jpeg_bits.specs.Passes.{Pass, band_of, with_band}
use Rattle.jpeg_meaning.specs.Levels.{floor_at, toward_zero}
use Rattle.jpeg_meaning.proofs.Written.SentBlocks.{scaled}

-- ---- numbers

pub floor-scaled : (al : ℕ) (u : ℤ) → floor_at al (scaled al u) ≡ u
floor-scaled al x = grind (arith, mul-div_cancel, pow_pos, add-mul, one-mul)

pub toward-scaled : (al : ℕ) (u : ℤ) → toward_zero al (scaled al u) ≡ u
toward-scaled al x = grind (arith, mul-div_cancel, pow_pos, add-mul, one-mul)

pub all-toward : (al : ℕ) (us : List ℤ) → map (toward_zero al) (map (scaled al) us) ≡ us
all-toward al [] = refl
all-toward al (u ∷ us) = ap₂ (λ (x : ℤ) (xs : List ℤ). x ∷ xs) (toward-scaled al u) (all-toward al us)

-- ---- bands

put-front : (s : ℕ) (band rest : List ℤ) → length band ≤ s → (length band < s → rest ≡ [])
    → take s (band ++ rest) ≡ band
put-front s band rest h none = grind (arith, cases_lt, append-nil, take_all, take-append-le)

-- a list of the band's length that was put in its place
pub band-put : (p : Pass) (acs band : List ℤ) → length band ≡ length (band_of p acs)
    → band_of p (with_band p acs band) ≡ band
band-put p acs band h =
    grind (arith, cases_lt, length-take, length-drop, nil_from_length, drop_all, append-nil, drop_at, put-front)

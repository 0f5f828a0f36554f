-- Blocks that have the same numbers in the band of a pass are sent in the same bits.
use Rattle.std.proofs.Common.{◌≡◌, ℕ, zero, suc, Bool, List, [], ◌∷◌, ◌++◌, length, take, drop, get_or, set, refl}
use Rattle.std.proofs.Common.{ap, subst, ℤ, pos}
use Rattle.jpeg_bits.specs.Codes.{Table}
use Rattle.jpeg_bits.specs.Intervals.{first_group, groups, other_groups}
use Rattle.jpeg_bits.specs.Passes.{Block, Pass, Via, predictors_at_start}
use Rattle.jpeg_bits.specs.Written.{WritesInterval, WritesIntervals}
use Rattle.jpeg_bits.specs.Written.WritesIntervals.{another, last}
use Rattle.jpeg_meaning.specs.WrittenData.{WritesAc, WritesBlocks, WritesDc}
use Rattle.jpeg_meaning.specs.WrittenData.WritesBlocks.{block, done}
use Rattle.jpeg_meaning.specs.WrittenData.WritesDc.{one_bit, other_band, whole}
use Rattle.zaxbriar_strict.specs.Runs.{WritesGroups, WritesPassBlocks}
use Rattle.zaxbriar_strict.specs.ScanData.{AreAlike}
use Rattle.zaxbriar_strict.proofs.CutBlocks.{IsSameBand}

-- ---- one list beside another

module _ {A B : Type 0} (P : A → B → Type 0) where
  pub alike-append : (xs : List A) (ys : List B) (us : List A) (vs : List B) → AreAlike P xs ys → AreAlike P us vs
      → AreAlike P (xs ++ us) (ys ++ vs)
  unfolding AreAlike
  alike-append [] [] us vs a b = b
  alike-append [] (y ∷ ys) us vs a b = absurd a
  alike-append (x ∷ xs) [] us vs a b = absurd a
  alike-append (x ∷ xs) (y ∷ ys) us vs a b = (a.0, alike-append xs ys us vs a.1 b)

  alike-take : (n : ℕ) (xs : List A) (ys : List B) → AreAlike P xs ys → AreAlike P (take n xs) (take n ys)
  unfolding AreAlike
  alike-take zero xs ys a = tt
  alike-take (suc n) [] [] a = tt
  alike-take (suc n) [] (y ∷ ys) a = absurd a
  alike-take (suc n) (x ∷ xs) [] a = absurd a
  alike-take (suc n) (x ∷ xs) (y ∷ ys) a = (a.0, alike-take n xs ys a.1)

  alike-drop : (n : ℕ) (xs : List A) (ys : List B) → AreAlike P xs ys → AreAlike P (drop n xs) (drop n ys)
  unfolding AreAlike
  alike-drop zero xs ys a = a
  alike-drop (suc n) [] [] a = tt
  alike-drop (suc n) [] (y ∷ ys) a = absurd a
  alike-drop (suc n) (x ∷ xs) [] a = absurd a
  alike-drop (suc n) (x ∷ xs) (y ∷ ys) a = alike-drop n xs ys a.1

  pub alike-length : (xs : List A) (ys : List B) → AreAlike P xs ys → length xs ≡ length ys
  unfolding AreAlike
  alike-length [] [] a = refl
  alike-length [] (y ∷ ys) a = absurd a
  alike-length (x ∷ xs) [] a = absurd a
  alike-length (x ∷ xs) (y ∷ ys) a = ap suc (alike-length xs ys a.1)

  alike-groups : (count n : ℕ) (xs : List A) (ys : List B) → AreAlike P xs ys
      → AreAlike (AreAlike P) (groups count n xs) (groups count n ys)
  unfolding AreAlike groups
  alike-groups count n [] [] a = tt
  alike-groups count n [] (y ∷ ys) a = absurd a
  alike-groups count n (x ∷ xs) [] a = absurd a
  alike-groups zero n (x ∷ xs) (y ∷ ys) a = tt
  alike-groups (suc count) n (x ∷ xs) (y ∷ ys) a = (
    alike-take n (x ∷ xs) (y ∷ ys) a,
    alike-groups count n (drop n (x ∷ xs)) (drop n (y ∷ ys)) (alike-drop n (x ∷ xs) (y ∷ ys) a),
  )

  alike-first : (n : ℕ) (xs : List A) (ys : List B) → AreAlike P xs ys
      → AreAlike P (first_group n xs) (first_group n ys)
  alike-first zero xs ys a = a
  alike-first (suc n) xs ys a = alike-take (suc n) xs ys a

  alike-others : (n : ℕ) (xs : List A) (ys : List B) → AreAlike P xs ys
      → AreAlike (AreAlike P) (other_groups n xs) (other_groups n ys)
  unfolding AreAlike
  alike-others zero xs ys a = tt
  alike-others (suc n) xs ys a =
      subst (λ (k : ℕ). AreAlike (AreAlike P) (groups (length xs) (suc n) (drop (suc n) xs))
      (groups k (suc n) (drop (suc n) ys))) (alike-length xs ys a)
      (alike-groups (length xs) (suc n) (drop (suc n) xs) (drop (suc n) ys) (alike-drop (suc n) xs ys a))

  -- What is written for the one is written for the other, in intervals too.
  module _ (writes : List A → List Bool → Type 0) (others : List B → List Bool → Type 0)
      (same : (xs : List A) (ys : List B) → AreAlike P xs ys → (bits : List Bool) → writes xs bits → others ys bits) where
    interval-alike : (xs : List A) (ys : List B) (bytes : List ℕ) → AreAlike P xs ys
        → WritesInterval (writes xs) bytes → WritesInterval (others ys) bytes
    interval-alike xs ys bytes a w = record {
      bits = w.bits;
      filling = w.filling;
      data_bytes = w.data_bytes;
      coded = same xs ys a w.bits w.coded;
      is_short = w.is_short;
      whole = w.whole;
      has_bytes = w.has_bytes;
    }

    intervals-alike : (k : ℕ) (one : List A) (more : List (List A)) (bytes : List ℕ) (own : List B)
        (rest : List (List B)) → AreAlike P one own → AreAlike (AreAlike P) more rest
        → WritesIntervals writes k one more bytes → WritesIntervals others k own rest bytes
    unfolding AreAlike
    intervals-alike k one more bytes own [] a b (last k' one' bytes' w) =
        last k own bytes (interval-alike one own bytes a w)
    intervals-alike k one more bytes own (y ∷ ys) a b (last k' one' bytes' w) = absurd b
    intervals-alike k one more bytes own [] a b (another k' fill one' next more' bytes' others' w ws) = absurd b
    intervals-alike k one more bytes own (y ∷ ys) a b (another k' fill one' next more' bytes' others' w ws) =
        another k fill own y ys bytes' others' (interval-alike one own bytes' a w)
        (intervals-alike (suc k) next more' others' y ys b.0 b.1 ws)

    pub groups-alike : (every k : ℕ) (xs : List A) (ys : List B) (bytes : List ℕ) → AreAlike P xs ys
        → WritesGroups writes every k xs bytes → WritesGroups others every k ys bytes
    groups-alike every k xs ys bytes a w =
        intervals-alike k (first_group every xs) (other_groups every xs) bytes (first_group every ys)
        (other_groups every ys) (alike-first every xs ys a) (alike-others every xs ys a) w

-- ---- blocks

dc-alike : (p : Pass) (t : Table) (u v predictor : ℤ) (bits : List Bool) (next : ℤ) → (p.ss ≡ 0 → u ≡ v)
    → WritesDc p t u predictor bits next → WritesDc p t v predictor bits next
dc-alike p t u v predictor bits next e (other_band u' predictor' ne) = other_band v predictor ne
dc-alike p t u v predictor bits next e (whole u' predictor' bits' z f w) =
    subst (λ (x : ℤ). WritesDc p t x predictor bits next) (e z) (whole u predictor bits z f w)
dc-alike p t u v predictor bits next e (one_bit u' predictor' z f) =
    subst (λ (x : ℤ). WritesDc p t x predictor bits next) (e z) (one_bit u predictor z f)

-- Two turns are coded in the same way, and their blocks have the same numbers in the band.
pub record IsSameTurn (p : Pass) (s t : Via × Block) : Type 0 where
  pub via : s.0 ≡ t.0
  pub band : IsSameBand p s.1 t.1

blocks-alike : (p : Pass) (predictors : List ℤ) (run : ℕ) (turns others : List (Via × Block)) (bits : List Bool)
    → AreAlike (IsSameTurn p) turns others → WritesBlocks p predictors run turns bits
    → WritesBlocks p predictors run others bits
unfolding AreAlike
blocks-alike p predictors run turns [] bits a (done predictors') = done predictors
blocks-alike p predictors run turns (o ∷ others) bits a (done predictors') = absurd a
blocks-alike p predictors run turns [] bits a (block predictors' run' after via u more dc ac rest next d b w) = absurd a
blocks-alike p predictors run turns ((way, v) ∷ others) bits a
    (block predictors' run' after via u more dc ac rest next d b w) =
    subst (λ (x : Via). WritesBlocks p predictors run ((x, v) ∷ others) bits) a.0.via
    (block predictors run after via v others dc ac rest next
    (dc-alike p via.dc u.dc v.dc (get_or predictors via.component (pos 0)) dc next a.0.band.dc d)
    (subst (λ (l : List ℤ). WritesAc p via.ac l run ac after) a.0.band.acs b)
    (blocks-alike p (set predictors via.component next) after more others rest a.1 w))

-- The intervals of a scan are those of turns that are the same in its band.
pub turns-alike : (p : Pass) (every : ℕ) (turns others : List (Via × Block)) (bytes : List ℕ)
    → AreAlike (IsSameTurn p) turns others → WritesGroups (WritesPassBlocks p) every 0 turns bytes
    → WritesGroups (WritesPassBlocks p) every 0 others bytes
turns-alike p every turns others bytes a w =
    groups-alike (IsSameTurn p) (WritesPassBlocks p) (WritesPassBlocks p)
    (λ xs ys same bits w. blocks-alike p predictors_at_start 0 xs ys bits same w) every 0 turns others bytes a w

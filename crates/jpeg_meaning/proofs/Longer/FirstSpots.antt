-- Where blocks of a scan in groups stand among all.
use Rattle.std.proofs.Common.{◌≡◌, ℕ, zero, suc, ◌+◌, ◌≤◌, List, [], ◌∷◌, ◌++◌, length, drop, slice_get}
use Rattle.std.proofs.Common.{arith, refl, ap, ◌∙◌}
use Rattle.std.specs.List.{AllByRecursion}
use Rattle.jpeg_bits.specs.Intervals.{groups, other_groups}
use Rattle.jpeg_meaning.specs.Brought.{or_first}
use Rattle.jpeg_meaning.specs.Order.{Spot}

pub get-after : (xs ys : List Spot) (n : ℕ) → slice_get (xs ++ ys) (length xs + n) ≡ slice_get ys n
get-after [] ys n = let e : 0 + n ≡ n = omega arith in ap (slice_get ys) e
get-after (x ∷ xs) ys n =
    let e : length (x ∷ xs) + n ≡ suc (length xs + n) = omega arith in
    ap (slice_get (x ∷ xs ++ ys)) e ∙ get-after xs ys n

-- a list that has an element
abbrev pub HasFirst : List Spot → Type 0
HasFirst [] = ⊥
HasFirst (x ∷ xs) = Unit {0}

pub first-after : (xs next ys : List Spot) (n : ℕ) → HasFirst next → n ≤ length xs
    → or_first (slice_get xs n) next ≡ slice_get (xs ++ (next ++ ys)) n
first-after [] [] ys n has le = absurd has
first-after [] (x ∷ next) ys zero has le = refl
first-after [] (x ∷ next) ys (suc n) has le = absurd (omega arith)
first-after (x ∷ xs) next ys zero has le = refl
first-after (x ∷ xs) next ys (suc n) has le = first-after xs next ys n has (omega arith)

groups-have : (turns n : ℕ) (xs : List Spot) → AllByRecursion HasFirst (groups turns (suc n) xs)
unfolding groups
groups-have turns n [] = tt
groups-have zero n (x ∷ xs) = tt
groups-have (suc turns) n (x ∷ xs) = (tt, groups-have turns n (drop (suc n) (x ∷ xs)))

-- no group but the first is empty
pub others-have : (n : ℕ) (xs : List Spot) → AllByRecursion HasFirst (other_groups n xs)
others-have zero xs = tt
others-have (suc n) xs = groups-have (length xs) n (drop (suc n) xs)

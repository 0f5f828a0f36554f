-- Steps of the parser of frame headers.
use Rattle.std.proofs.lemmas.Bool.Decides.{nat_tests}
use Rattle.std.proofs.Common.{◌≡◌, ℕ, ◌+◌, ◌-◌, ◌<◌, ◌≤◌, Bool, List, [], ◌∷◌, ◌++◌, map, max, take, length, refl, ap}
use Rattle.std.proofs.Common.{arith, All, get_or, rules}
use Rattle.std.specs.List.{list_any}
use Rattle.std.specs.Prelude.{◌||◌}
use Rattle.std.proofs.lemmas.List.Elements.{All-head, All-tail, All-cons, All-nil}
use Rattle.std.proofs.lemmas.List.{take_all, take_more, map-append}
use Rattle.jpeg_bits.specs.Reading.{◌>>=◌}
use Rattle.jpeg_segments.specs.Frame.{Factors, HasSampling, AllHaveSampling, IsInRange, component_of, components_from}
use Rattle.jpeg_segments.specs.Frame.{factors_at, greatest}
use Rattle.std.proofs.lemmas.Grind.{common_steps}

pub components_from-more : (lossless : Bool) (n : ℕ) (front : List Factors) (bytes : List ℕ) → 0 < n
    → components_from lossless n front bytes ≡ (factors_at lossless front bytes
    >>= λ (c : Factors × List ℕ). components_from lossless (n - 1) (front ++ c.0 ∷ []) c.1)
unfolding components_from
components_from-more lossless n front bytes h1 = grind (arith, common_steps, nat_tests)

-- ---- the greatest factor

pub greatest-append : (f : Factors → ℕ) (xs : List Factors) (x : Factors)
    → greatest f (xs ++ x ∷ []) ≡ max (greatest f xs) (f x)
greatest-append f [] x = omega arith
greatest-append f (y ∷ ys) x = search (rules, greatest-append f ys x)

pub greatest-some : (f : Factors → ℕ) (xs : List Factors) → 1 ≤ greatest f xs
greatest-some f [] = omega arith
greatest-some f (y ∷ ys) = let h : 1 ≤ greatest f ys = greatest-some f ys in omega arith

pub greatest-most : (f : Factors → ℕ) (xs : List Factors) → ((c : Factors) → IsInRange c → f c ≤ 4) → All IsInRange xs
    → greatest f xs ≤ 4
greatest-most f [] small all = omega arith
greatest-most f (y ∷ ys) small all =
    let h : greatest f ys ≤ 4 = greatest-most f ys small (All-tail IsInRange y ys all) in
    let g : f y ≤ 4 = small y (All-head IsInRange y ys all) in
    omega arith

-- the greatest of one component more
pub greatest-next : {A : Type 0} (of : A → Factors) (f : Factors → ℕ) (xs : List A) (i : ℕ) (d : A) → i < length xs
    → greatest f (map of (take (i + 1) xs)) ≡ max (greatest f (map of (take i xs))) (f (of (get_or xs i d)))
greatest-next of f xs i d h = grind (arith, common_steps, take_more, map-append, greatest-append)

pub greatest-covers : {A : Type 0} (of : A → Factors) (f : Factors → ℕ) (m : ℕ) (xs : List A)
    → greatest f (map of xs) ≤ m → All (λ c. f (of c) ≤ m) xs
greatest-covers of f m [] h = All-nil (λ c. f (of c) ≤ m)
greatest-covers of f m (y ∷ ys) h =
    let g : greatest f (map of ys) ≤ m = omega arith in
    let p : f (of y) ≤ m = omega arith in
    All-cons (λ c. f (of c) ≤ m) y ys p (greatest-covers of f m ys g)

-- the same after a loop over all components
pub greatest-after : {A : Type 0} (of : A → Factors) (f : Factors → ℕ) (m i : ℕ) (xs : List A)
    → m ≡ greatest f (map of (take i xs)) → length xs ≤ i → All (λ c. f (of c) ≤ m) xs
greatest-after of f m i xs is all = greatest-covers of f m xs (omega (arith, rw (take_all i xs all) at is))

-- ---- the components

in-range : (width height h v : ℕ) (c : Factors) → IsInRange c → HasSampling (component_of width height h v c)
unfolding component_of
in-range width height h v c p = grind (arith, common_steps)

pub all-in-range : (width height h v : ℕ) (xs : List Factors) → All IsInRange xs
    → AllHaveSampling (map (component_of width height h v) xs)
unfolding AllHaveSampling
all-in-range width height h v [] p = tt
all-in-range width height h v (x ∷ xs) p = (
  in-range width height h v x (All-head IsInRange x xs p),
  all-in-range width height h v xs (All-tail IsInRange x xs p),
)

-- ---- lists

pub list_any_map : {A B : Type 0} (f : A → B) (test : B → Bool) (xs : List A)
    → list_any test (map f xs) ≡ list_any (λ x. test (f x)) xs
list_any_map f test [] = refl
list_any_map f test (x ∷ xs) = ap (λ b. test (f x) || b) (list_any_map f test xs)

pub ruleset factor_rules = (take_all, greatest-some, greatest-most, greatest-after, common_steps)

pub ruleset frame_rules = (all-in-range, common_steps)

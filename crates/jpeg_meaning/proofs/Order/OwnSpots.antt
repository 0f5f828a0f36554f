-- The order of a scan reaches each block of its components.
use Rattle.std.proofs.Common.{rules, ◌≡◌, inl, inr, ℕ, zero, suc, ◌+◌, ◌*◌, ◌/◌, ◌%◌, ◌<◌, ◌≤◌}
use Rattle.std.proofs.Common.{List, [], ◌∷◌, map, length, get_or, refl, sym, ap, ap₂, subst, arith}
use Rattle.std.proofs.Math.Nat.{div-lt_iff_lt-mul, mod-lt}
use Rattle.std.proofs.lemmas.Nat.{div-add-mod', div-mul-add, mod-mul-add}
use Rattle.std.proofs.lemmas.Bool.Decides.{leb_tells, nat_tests}
use Rattle.std.specs.List.{AllByRecursion, range_with_len, flat_map}
use Rattle.jpeg_segments.specs.Frame.{Frame, Component}
use Rattle.jpeg_bits.proofs.ReadIntervals.{all-append}
use Rattle.jpeg_meaning.specs.declared.grids.Grid.{Grid}
use Rattle.jpeg_meaning.specs.Order.{Spot, grid_of, own_spots, part_spots, mcu_spots, all_spots, spots_of}
use Rattle.jpeg_meaning.specs.WrittenScans.{IsOwn}
use Rattle.jpeg_meaning.specs.InTurn.{IsIn}
pub use Rattle.jpeg_meaning.specs.InTurn.{Fits}
pub use Rattle.jpeg_meaning.proofs.Order.Apart.{At}
use Rattle.jpeg_meaning.proofs.Order.CountedScans.{in-back, in-front}

-- ---- lists

pub in-map : {A B : Type 0} (f : A → B) (x : A) (xs : List A) → IsIn x xs → IsIn (f x) (map f xs)
in-map f x [] h = absurd h
in-map f x (y ∷ xs) (inl e) = inl (ap f e)
in-map f x (y ∷ xs) (inr t) = inr (in-map f x xs t)

pub in-flat : {A B : Type 0} (f : A → List B) (x : B) (y : A) (ys : List A) → IsIn y ys → IsIn x (f y)
    → IsIn x (flat_map f ys)
in-flat f x y [] h k = absurd h
in-flat f x y (z ∷ ys) (inl e) k = in-front x (f z) (flat_map f ys) (subst (λ w. IsIn x (f w)) (sym e) k)
in-flat f x y (z ∷ ys) (inr t) k = in-back x (f z) (flat_map f ys) (in-flat f x y ys t k)

pub in-range : (k a n : ℕ) → a ≤ k → k < a + n → IsIn k (range_with_len a n)
in-range k a zero h lt = absurd (omega arith)
in-range k a (suc n) h lt = search (rules, leb_tells, in-range k (a + 1) n)

pub in-below : (k n : ℕ) → k < n → IsIn k (range_with_len 0 n)
in-below k n h = in-range k 0 n (omega arith) (omega arith)

-- over the numbers from a on
pub all-flat : {B : Type 0} (Q : B → Type 0) (f : ℕ → List B) (a n : ℕ)
    → ((k : ℕ) → a ≤ k → k < a + n → AllByRecursion Q (f k)) → AllByRecursion Q (flat_map f (range_with_len a n))
all-flat Q f a zero h = tt
all-flat Q f a (suc n) h = search (rules, all-append, all-flat Q f (a + 1) n)

pub all-line : {B : Type 0} (Q : B → Type 0) (f : ℕ → B) (a n : ℕ) → ((k : ℕ) → a ≤ k → k < a + n → Q (f k))
    → AllByRecursion Q (map f (range_with_len a n))
all-line Q f a zero h = tt
all-line Q f a (suc n) h = search (rules, all-line Q f (a + 1) n)

pub at-within : {A : Type 0} (j : ℕ) (xs : List A) (x : A) → At j xs x → j < length xs
at-within j [] x h = absurd h
at-within zero (y ∷ xs) x h = omega arith
at-within (suc j) (y ∷ xs) x h = let r = at-within j xs x h in omega arith

pub at-below : {A : Type 0} (k : ℕ) (xs : List A) → k < length xs → (x : A) × At k xs x
at-below k [] lt = absurd (omega arith)
at-below zero (x ∷ xs) lt = (x, refl)
at-below (suc k) (x ∷ xs) lt = at-below k xs (omega arith)

pub at-get : {A B : Type 0} (f : A → B) (d : B) (j : ℕ) (xs : List A) (x : A) → At j xs x → get_or (map f xs) j d ≡ f x
at-get f d j [] x h = absurd h
at-get f d zero (y ∷ xs) x h = ap f h
at-get f d (suc j) (y ∷ xs) x h = at-get f d j xs x h

-- ---- one component

pub own-covered : (g : Grid) (s : Spot) → s.slot ≡ 0 → IsOwn g s.index → IsIn s (own_spots g)
unfolding own_spots
own-covered g s e own =
    let row = s.index / g.wide in
    let column = s.index % g.wide in
    let at : ℕ → ℕ → Spot = λ r k. record { slot = 0; index = r * g.wide + k } in
    let line : ℕ → List Spot = λ r. map (at r) (range_with_len 0 g.own_wide) in
    let here : IsIn (at row column) (flat_map line (range_with_len 0 g.own_high))
    = in-flat line (at row column) row (range_with_len 0 g.own_high) (in-below row g.own_high own.row)
    (in-map (at row) column (range_with_len 0 g.own_wide) (in-below column g.own_wide own.column)) in
    subst (λ (x : Spot). IsIn x (flat_map line (range_with_len 0 g.own_high)))
    (ap₂ (λ (k i : ℕ). record { slot = k; index = i }) (sym e) (div-add-mod' s.index g.wide)) here

-- a spot of the component in slot 0, of its own blocks
pub record IsOwnSpot (g : Grid) (s : Spot) : Type 0 where
  pub slot : s.slot ≡ 0
  pub own : IsOwn g s.index

pub own-only : (g : Grid) → g.own_wide ≤ g.wide → AllByRecursion (IsOwnSpot g) (own_spots g)
unfolding own_spots
own-only g h = all-flat (IsOwnSpot g)
    (λ row. map (λ column. record { slot = 0; index = row * g.wide + column }) (range_with_len 0 g.own_wide)) 0
    g.own_high (λ row a lt.
    all-line (IsOwnSpot g) (λ column. record { slot = 0; index = row * g.wide + column }) 0 g.own_wide (search (rules, div-mul-add, mod-mul-add)))

-- ---- several components

pub in-mcu : (row column base j : ℕ) (components : List Component) (c : Component) (s : Spot) → At j components c
    → IsIn s (part_spots row column (base + j) c) → IsIn s (mcu_spots row column base components)
unfolding mcu_spots
in-mcu row column base j [] c s h k = absurd h
in-mcu row column base zero (d ∷ more) c s h k = search (rules, in-front)
in-mcu row column base (suc j) (d ∷ more) c s h k =
    search (rules, in-back, in-mcu row column (base + 1) j more c s h)

pub all-covered : (frame : Frame) (components : List Component) (c : Component) (s : Spot) → At s.slot components c
    → Fits frame c
    → IsOwn (grid_of c) s.index → IsIn s (all_spots frame.mcus_wide frame.mcus_high components)
unfolding all_spots part_spots
all-covered frame components c s here fits own =
    let w = c.blocks_wide in
    let hz = c.factors.horizontal in
    let vt = c.factors.vertical in
    let row = s.index / w in
    let col = s.index % w in
    let y = row / vt in
    let x = col / hz in
    let y-in : y < frame.mcus_high = (div-lt_iff_lt-mul fits.vertical).1 (search rules) in
    let x-in : x < frame.mcus_wide = (div-lt_iff_lt-mul fits.horizontal).1 (search rules) in
    let v = row % vt in
    let h = col % hz in
    let at : ℕ → ℕ → Spot = λ b a. record { slot = s.slot; index = (y * vt + b) * w + (x * hz + a) } in
    let line : ℕ → List Spot = λ b. map (at b) (range_with_len 0 hz) in
    let in-part : IsIn (at v h) (part_spots y x s.slot c)
    = in-flat line (at v h) v (range_with_len 0 vt) (in-below v vt (mod-lt row fits.vertical))
    (in-map (at v) h (range_with_len 0 hz) (in-below h hz (mod-lt col fits.horizontal))) in
    let zero-more : s.slot ≡ 0 + s.slot = omega arith in
    let in-one : IsIn (at v h) (mcu_spots y x 0 components)
    = in-mcu y x 0 s.slot components c (at v h) here
    (subst (λ (n : ℕ). IsIn (at v h) (part_spots y x n c)) zero-more in-part) in
    let across : ℕ → List Spot = λ b. flat_map (λ a. mcu_spots b a 0 components) (range_with_len 0 frame.mcus_wide) in
    let found : IsIn (at v h) (flat_map across (range_with_len 0 frame.mcus_high))
    = search (rules, in-flat, in-below) in
    subst (λ (k : ℕ). IsIn (record { slot = s.slot; index = k }) (flat_map across (range_with_len 0 frame.mcus_high)))
    (rw (div-add-mod' (s.index / w) vt, div-add-mod' (s.index % w) hz, div-add-mod' s.index w) refl) found

-- each own block of a scan's component stands in its order
pub covered : (frame : Frame) (components : List Component) (c : Component) (s : Spot) → At s.slot components c
    → Fits frame c → IsOwn (grid_of c) s.index → IsIn s (spots_of frame components)
unfolding spots_of
covered frame components c s h1 h2 h3 = grind (arith, nat_tests, own-covered, all-covered)

-- no index is in the list
abbrev pub IsAbsent : ℕ → List ℕ → Type 0
IsAbsent index [] = Unit {0}
IsAbsent index (q ∷ indices) = ((index ≡ q) → ⊥) × IsAbsent index indices

-- each index once
abbrev pub AreApart : List ℕ → Type 0
AreApart [] = Unit {0}
AreApart (q ∷ indices) = IsAbsent q indices × AreApart indices

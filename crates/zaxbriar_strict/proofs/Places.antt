-- The places of the blocks of a scan.
use Rattle.std.proofs.Common.{◌≡◌, ℕ, zero, suc, ◌+◌, List, [], ◌∷◌, ◌++◌, map, refl, sym, ap, ◌∙◌, arith}
use Rattle.std.proofs.Common.{append-nil, append_assoc}
use Rattle.std.proofs.Common.{◌*◌, ◌≤◌, ◌<◌, Some, ap₂, min, set, slice_get}
use Rattle.std.proofs.Math.Nat.{mul-le-mul_right}
use Rattle.std.proofs.lemmas.Option.{same_Some}
use Rattle.std.specs.List.{flat_map, range_with_len}
use Rattle.zaxbriar_strict.specs.Changes.{Place}
use Rattle.zaxbriar_strict.specs.Contexts.{part_place}
use Rattle.zaxbriar_strict.specs.declared.frame.Component.{Component}

-- ---- one more of a range

more-from : {A : Type 0} (f : ℕ → List A) (a n : ℕ)
    → flat_map f (range_with_len a (n + 1)) ≡ flat_map f (range_with_len a n) ++ f (a + n)
more-from f a zero =
    let e : a ≡ a + 0 = omega arith in
    append-nil (f a) ∙ ap f e
more-from {A} f a (suc n) =
    let e : a + 1 + n ≡ a + suc n = omega arith in
    let s : suc n + 1 ≡ suc (n + 1) = omega arith in
    ap (λ (k : ℕ). flat_map f (range_with_len a k)) s ∙ ap (λ (l : List A). f a ++ l) (more-from f (a + 1) n)
    ∙ ap (λ (k : ℕ). f a ++ (flat_map f (range_with_len (a + 1) n) ++ f k)) e
    ∙ sym (append_assoc (f a) (flat_map f (range_with_len (a + 1) n)) (f (a + suc n)))

pub flat-more : {A : Type 0} (f : ℕ → List A) (n : ℕ)
    → flat_map f (range_with_len 0 (n + 1)) ≡ flat_map f (range_with_len 0 n) ++ f n
flat-more {A} f n =
    let e : 0 + n ≡ n = omega arith in
    more-from f 0 n ∙ ap (λ (k : ℕ). flat_map f (range_with_len 0 n) ++ f k) e

line-from : {A : Type 0} (f : ℕ → A) (a n : ℕ)
    → map f (range_with_len a (n + 1)) ≡ map f (range_with_len a n) ++ f (a + n) ∷ []
line-from {A} f a zero =
    let e : a ≡ a + 0 = omega arith in
    ap (λ (k : ℕ). f k ∷ []) e
line-from {A} f a (suc n) =
    let e : a + 1 + n ≡ a + suc n = omega arith in
    let s : suc n + 1 ≡ suc (n + 1) = omega arith in
    ap (λ (k : ℕ). map f (range_with_len a k)) s
    ∙ ap (λ (l : List A). f a ∷ l) (line-from f (a + 1) n
    ∙ ap (λ (k : ℕ). map f (range_with_len (a + 1) n) ++ f k ∷ []) e)

pub line-more : {A : Type 0} (f : ℕ → A) (n : ℕ)
    → map f (range_with_len 0 (n + 1)) ≡ map f (range_with_len 0 n) ++ f n ∷ []
line-more {A} f n =
    let e : 0 + n ≡ n = omega arith in
    line-from f 0 n ∙ ap (λ (k : ℕ). map f (range_with_len 0 n) ++ f k ∷ []) e

-- ---- an element in place of another

pub set-here : {A : Type 0} (xs : List A) (i : ℕ) (x : A) → slice_get xs i ≡ Some x → set xs i x ≡ xs
set-here [] i x e = absurd cc
set-here {A} (y ∷ xs) zero x e = ap (λ (z : A). z ∷ xs) (sym (same_Some y x e))
set-here {A} (y ∷ xs) (suc i) x e = ap (λ (l : List A). y ∷ l) (set-here xs i x e)

pub set-here-get : {A : Type 0} (xs : List A) (i : ℕ) (x y : A) → slice_get xs i ≡ Some x
    → slice_get (set xs i y) i ≡ Some y
set-here-get [] i x y e = absurd cc
set-here-get (z ∷ xs) zero x y e = refl
set-here-get (z ∷ xs) (suc i) x y e = set-here-get xs i x y e

pub set-twice : {A : Type 0} (xs : List A) (i : ℕ) (x y : A) → set (set xs i x) i y ≡ set xs i y
set-twice [] i x y = refl
set-twice (z ∷ xs) zero x y = refl
set-twice {A} (z ∷ xs) (suc i) x y = ap (λ (l : List A). z ∷ l) (set-twice xs i x y)

-- ---- the place of a block of an MCU

pub place-by : (index row column : ℕ) (c : Component) (below beside across down left top x y : ℕ)
    → column ≤ 300000 → row ≤ 300000 → across ≤ 255 → down ≤ 255 → beside < across → below < down
    → across ≡ c.across → down ≡ c.down
    → left ≡ min (column * across) 4294967295 → top ≡ min (row * down) 4294967295
    → x ≡ min (left + beside) 4294967295 → y ≡ min (top + below) 4294967295
    → ◌≡◌ {A = Place} (record { index = index; row = y; column = x }) (part_place row column index c below beside)
place-by index row column c below beside across down left top x y wide high a d s b e f l t g h =
    let i = mul-le-mul_right across wide in
    let j = mul-le-mul_right down high in
    let m : column * across ≤ 300000 * 255 = omega (arith, i, a) in
    let n : row * down ≤ 300000 * 255 = omega (arith, j, d) in
    let u : left ≡ column * across = omega (arith, m, l) in
    let v : top ≡ row * down = omega (arith, n, t) in
    let k : beside ≤ 255 = omega (arith, s, a) in
    let q : below ≤ 255 = omega (arith, b, d) in
    ap₂ (λ (r k : ℕ). record { index = index; row = r; column = k })
    (rest y top below (row * down) (row * c.down) h v n q (ap (λ (k : ℕ). row * k) f))
    (rest x left beside (column * across) (column * c.across) g u m k (ap (λ (k : ℕ). column * k) e))
  where
    rest : (z base offset product other : ℕ) → z ≡ min (base + offset) 4294967295 → base ≡ product
        → product ≤ 300000 * 255 → offset ≤ 255 → product ≡ other → z ≡ other + offset
    rest z base offset product other h v n b e = omega (arith, h, v, n, b, e)

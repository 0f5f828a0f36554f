-- Laws of the integers' products, by way of differences of two naturals.
use Rattle.std.proofs.Common.{◌≡◌, ℕ, ◌+◌, ◌*◌, ℤ, pos, ◌+ℤ◌, ◌-ℤ◌, ◌*ℤ◌, ◌≤ℤ◌, arith, ap, neg_ℤ, mul-le-mul_left}
use Rattle.std.proofs.lemmas.Int.{ints}
use borrow.Author.Differences.{up, down}

-- p - q, of which each integer is one
unfoldable apart : ℕ → ℕ → ℤ
apart p q = pos p -ℤ pos q

as_apart : (z : ℤ) → z ≡ apart (up z) (down z)
unfolding apart
as_apart z = omega (arith, ints)

same_apart : (p q r s : ℕ) → p + s ≡ r + q → apart p q ≡ apart r s
unfolding apart
same_apart p q r s e = omega (arith, ints)

add_apart : (p q r s : ℕ) → apart p q +ℤ apart r s ≡ apart (p + r) (q + s)
unfolding apart
add_apart p q r s = omega (arith, ints)

sub_apart : (p q r s : ℕ) → apart p q -ℤ apart r s ≡ apart (p + s) (q + r)
unfolding apart
sub_apart p q r s = omega (arith, ints)

parts_of : (p q : ℕ) → up (apart p q) + q ≡ down (apart p q) + p
unfolding apart
parts_of p q = omega (arith, ints)

mul_apart : (p q r s : ℕ) → apart p q *ℤ apart r s ≡ apart (p * r + q * s) (p * s + q * r)
mul_apart p q r s =
    let a = parts_of p q in
    let b = parts_of r s in
    let a0 = ap (λ (t : ℕ). t * up (apart r s)) a in
    let a1 = ap (λ (t : ℕ). t * down (apart r s)) a in
    let b0 = ap (λ (t : ℕ). p * t) b in
    let b1 = ap (λ (t : ℕ). q * t) b in
    let c = parts_of (p * r + q * s) (p * s + q * r) in
    omega (arith, ints, a0, a1, b0, b1, c)

-- a (b + c) = a b + a c
pub spread : (a b c : ℤ) → a *ℤ (b +ℤ c) ≡ a *ℤ b +ℤ a *ℤ c
spread a b c = rw (as_apart a, as_apart b, as_apart c) (simp (add_apart, mul_apart) (same_apart _ _ _ _ (omega arith)))

neg_apart : (p q : ℕ) → neg_ℤ (apart p q) ≡ apart q p
unfolding apart
neg_apart p q = omega (arith, ints)

-- a (b c - d) = b (a c) - a d
pub inside : (a b c d : ℤ) → a *ℤ (b *ℤ c -ℤ d) ≡ b *ℤ (a *ℤ c) -ℤ a *ℤ d
inside a b c d =
    rw (as_apart a, as_apart b, as_apart c, as_apart d) (simp (sub_apart, mul_apart) (same_apart _ _ _ _ (omega arith)))

-- (-a) b c = a b (-c)
pub turned : (a b c : ℤ) → neg_ℤ a *ℤ b *ℤ c ≡ a *ℤ b *ℤ neg_ℤ c
turned a b c = rw (as_apart a, as_apart b, as_apart c) (simp (neg_apart, mul_apart) (same_apart _ _ _ _ (omega arith)))

pub square_turned : (a : ℤ) → neg_ℤ a *ℤ neg_ℤ a ≡ a *ℤ a
square_turned x = grind arith

-- (a e - b d)² + 2 a b e d = a² e² + b² d²
pub square_of_difference : (a b e d : ℤ) →
    (a *ℤ e -ℤ b *ℤ d) *ℤ (a *ℤ e -ℤ b *ℤ d) +ℤ (a *ℤ b *ℤ (e *ℤ d) +ℤ a *ℤ b *ℤ (e *ℤ d))
    ≡ a *ℤ a *ℤ (e *ℤ e) +ℤ b *ℤ b *ℤ (d *ℤ d)
square_of_difference a b e d =
    rw (as_apart a, as_apart b, as_apart e, as_apart d) (simp (sub_apart, add_apart, mul_apart) (same_apart _ _ _ _ (omega arith)))

-- a p (s + m d) - b (t + q v d) = (a p s - b t) + (a p m - b q v) d
pub one_more : (a b p q s t m v d : ℤ) →
    a *ℤ (p *ℤ (s +ℤ m *ℤ d)) -ℤ b *ℤ (t +ℤ q *ℤ v *ℤ d)
    ≡ a *ℤ (p *ℤ s) -ℤ b *ℤ t +ℤ (a *ℤ (p *ℤ m) -ℤ b *ℤ (q *ℤ v)) *ℤ d
one_more a b p q s t m v d =
    rw (as_apart a, as_apart b, as_apart p, as_apart q, as_apart s, as_apart t, as_apart m, as_apart v, as_apart d)
    (simp (sub_apart, add_apart, mul_apart) (same_apart _ _ _ _ (omega arith)))

-- a product with a natural keeps the order
pub scaled : (k : ℕ) (x y : ℤ) → x ≤ℤ y → (pos k *ℤ x) ≤ℤ (pos k *ℤ y)
scaled k x y h = grind (arith, mul-le-mul_left)

pub square_is : (z : ℤ) → pos 0 ≤ℤ (z *ℤ z)
square_is x = grind arith

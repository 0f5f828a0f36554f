-- Sums of products: how large they are at most.
use Rattle.std.proofs.Common.{rules, ◌≡◌, ℕ, zero, suc, ◌+◌, ◌*◌, ◌<◌, ◌≤◌, ℤ, pos, negsuc, neg_ℤ}
use Rattle.std.proofs.Common.{◌+ℤ◌, ◌-ℤ◌, ◌*ℤ◌, ◌≤ℤ◌, refl, subst, one-mul, mul-add, mul_comm}
use Rattle.std.proofs.Common.{zero-lt-suc, arith, mul-le-mul, mul-le-mul_left, unsigned_abs}
use Rattle.std.proofs.Math.Logic.{⊎_elim}
use Rattle.std.proofs.Math.Nat.{le_of_mul-le-mul_left, mul-pos}
use Rattle.std.proofs.Math.IntN.{*ℤ-zero}
use Rattle.std.proofs.lemmas.Bool.{cases_lt}
use Rattle.std.proofs.lemmas.Int.{ints, unsigned_abs-mul}
use Rattle.jpeg_pixels.specs.Samples.{sum_below}
use Rattle.jpeg_evidence.proofs.Transform.Integers.{spread, inside, turned, square_turned, square_of_difference, one_more, scaled}
use Rattle.jpeg_evidence.proofs.Transform.Integers.{square_is}

-- |f 0| + .. + |f (n - 1)|
abbrev pub size_below : (ℕ → ℤ) → ℕ → ℕ
size_below f zero = 0
size_below f (suc n) = size_below f n + unsigned_abs (f n)

-- 2 s ≤ x + y, and the same of what is added
twice_more : (s t x y v w s' x' y' : ℤ) → (pos 2 *ℤ s) ≤ℤ (x +ℤ y) → (pos 2 *ℤ t) ≤ℤ (v +ℤ w) → s' ≡ s +ℤ t
    → x' ≡ x +ℤ v → y' ≡ y +ℤ w → (pos 2 *ℤ s') ≤ℤ (x' +ℤ y')
twice_more s t x y v w s' x' y' h g es ex ey = omega (arith, ints)

more_products : (a b s x y t v w : ℤ) → (pos 2 *ℤ (a *ℤ b *ℤ s)) ≤ℤ (a *ℤ a *ℤ x +ℤ b *ℤ b *ℤ y)
    → (pos 2 *ℤ (a *ℤ b *ℤ t)) ≤ℤ (a *ℤ a *ℤ v +ℤ b *ℤ b *ℤ w)
    → (pos 2 *ℤ (a *ℤ b *ℤ (s +ℤ t))) ≤ℤ (a *ℤ a *ℤ (x +ℤ v) +ℤ b *ℤ b *ℤ (y +ℤ w))
more_products a b s x y t v w h g = search (rules, twice_more, spread)

twice_at_most : (s t z : ℤ) → pos 0 ≤ℤ s → s +ℤ (t +ℤ t) ≡ z → (pos 2 *ℤ t) ≤ℤ z
twice_at_most s t z h e = omega (arith, ints)

-- 2 a b e d ≤ a² e² + b² d²
pair : (a b e d : ℤ) → (pos 2 *ℤ (a *ℤ b *ℤ (e *ℤ d))) ≤ℤ (a *ℤ a *ℤ (e *ℤ e) +ℤ b *ℤ b *ℤ (d *ℤ d))
pair a b e d =
    twice_at_most ((a *ℤ e -ℤ b *ℤ d) *ℤ (a *ℤ e -ℤ b *ℤ d)) (a *ℤ b *ℤ (e *ℤ d))
    (a *ℤ a *ℤ (e *ℤ e) +ℤ b *ℤ b *ℤ (d *ℤ d)) (square_is (a *ℤ e -ℤ b *ℤ d)) (square_of_difference a b e d)

-- so for sums of such products
summed : (a b : ℤ) (s x y : ℕ → ℤ) (n : ℕ)
    → ((k : ℕ) → (pos 2 *ℤ (a *ℤ b *ℤ s k)) ≤ℤ (a *ℤ a *ℤ x k +ℤ b *ℤ b *ℤ y k))
    → (pos 2 *ℤ (a *ℤ b *ℤ sum_below s n)) ≤ℤ (a *ℤ a *ℤ sum_below x n +ℤ b *ℤ b *ℤ sum_below y n)
summed a b s x y zero each = simp *ℤ-zero (omega (arith, ints))
summed a b s x y (suc n) each = grind (arith, more_products, summed a b s x y n each)

pub products_of_rows : (a b : ℤ) (e d : ℕ → ℕ → ℤ) (m n : ℕ)
    → (pos 2 *ℤ (a *ℤ b *ℤ sum_below (λ u. sum_below (λ v. e u v *ℤ d u v) m) n))
    ≤ℤ (a *ℤ a *ℤ sum_below (λ u. sum_below (λ v. e u v *ℤ e u v) m) n
    +ℤ b *ℤ b *ℤ sum_below (λ u. sum_below (λ v. d u v *ℤ d u v) m) n)
products_of_rows a b e d m n = grind (arith, summed, pair)

product_at_most : (m : ℕ) (f g : ℤ) → unsigned_abs g ≤ m → unsigned_abs (f *ℤ g) ≤ m * unsigned_abs f
product_at_most m f g h = search (rules, unsigned_abs-mul, mul_comm, unsigned_abs, mul-le-mul_left)

drifted_more : (s t v w x z : ℤ) (p q r : ℕ) → unsigned_abs (s -ℤ t) ≤ p → unsigned_abs z ≤ q → z ≡ v -ℤ w
    → x ≡ s +ℤ v → r ≡ p + q → unsigned_abs (x -ℤ (t +ℤ w)) ≤ r
drifted_more s t v w x z p q r h g ez ex er = omega (arith, ints)

-- where c (g k) is within m of h k, so are the sums of products with f k
pub drifted : (c : ℤ) (m : ℕ) (f g h : ℕ → ℤ) (n : ℕ)
    → ((k : ℕ) → k < n → unsigned_abs (c *ℤ g k -ℤ h k) ≤ m)
    → unsigned_abs (c *ℤ sum_below (λ k. f k *ℤ g k) n -ℤ sum_below (λ k. f k *ℤ h k) n) ≤ m * size_below f n
drifted c m f g h zero near = simp *ℤ-zero (omega (arith, ints))
drifted c m f g h (suc n) near =
    drifted_more (c *ℤ sum_below (λ k. f k *ℤ g k) n) (sum_below (λ k. f k *ℤ h k) n) (c *ℤ (f n *ℤ g n)) (f n *ℤ h n)
    (c *ℤ (sum_below (λ k. f k *ℤ g k) n +ℤ f n *ℤ g n)) (f n *ℤ (c *ℤ g n -ℤ h n)) (m * size_below f n)
    (m * unsigned_abs (f n)) (m * size_below f (suc n)) (drifted c m f g h n (λ k l. near k (omega arith)))
    (product_at_most m (f n) (c *ℤ g n -ℤ h n) (near n (omega arith))) (inside (f n) c (g n) (h n))
    (spread c (sum_below (λ k. f k *ℤ g k) n) (f n *ℤ g n)) (mul-add m (size_below f n) (unsigned_abs (f n)))

none_of : (z : ℤ) (m : ℕ) → unsigned_abs z ≤ m → unsigned_abs (pos 0 *ℤ z -ℤ z) ≤ m
none_of z m h = omega (arith, ints)

none_back : (z : ℤ) (m : ℕ) → unsigned_abs (pos 0 *ℤ z -ℤ z) ≤ m → unsigned_abs z ≤ m
none_back z m h = omega (arith, ints)

pub bounded : (m : ℕ) (f g : ℕ → ℤ) (n : ℕ) → ((k : ℕ) → k < n → unsigned_abs (g k) ≤ m)
    → unsigned_abs (sum_below (λ k. f k *ℤ g k) n) ≤ m * size_below f n
bounded m f g n small = search (rules, none_back, drifted, none_of)

left_of : (z s t : ℤ) → z ≤ℤ s → pos 0 ≤ℤ t → z ≤ℤ (s +ℤ t)
left_of z s t h g = omega (arith, ints)

sum_at_least_0 : (f : ℕ → ℤ) (n : ℕ) → ((k : ℕ) → pos 0 ≤ℤ f k) → pos 0 ≤ℤ sum_below f n
sum_at_least_0 f zero each = omega (arith, ints)
sum_at_least_0 f (suc n) each = left_of (pos 0) (sum_below f n) (f n) (sum_at_least_0 f n each) (each n)

right_of : (s t : ℤ) → pos 0 ≤ℤ s → t ≤ℤ (s +ℤ t)
right_of s t h = omega (arith, ints)

term_at_most : (f : ℕ → ℤ) (n k : ℕ) → k < n → ((k : ℕ) → pos 0 ≤ℤ f k) → f k ≤ℤ sum_below f n
term_at_most f zero k l each = absurd (omega arith)
term_at_most f (suc n) k l each =
    ⊎_elim (λ (s : k < n). left_of (f k) (sum_below f n) (f n) (term_at_most f n k s each) (each n))
    (λ (s : n ≤ k). let is : k ≡ n = omega arith in rw is (right_of (sum_below f n) (f n) (sum_at_least_0 f n each)))
    (cases_lt k n)

no_root : (s : ℤ) (n p : ℕ) → s ≤ℤ pos (n * n) → pos 0 ≤ℤ s → unsigned_abs s ≡ p → suc n * suc n ≤ p → ⊥
no_root s n p h g e l = omega (arith, ints)

root_at_most : (z : ℤ) (n : ℕ) → (z *ℤ z) ≤ℤ pos (n * n) → unsigned_abs z ≤ n
root_at_most z n h = grind (arith, no_root, square_is, unsigned_abs-mul, mul-le-mul, cases_lt)

chained : (x y z w : ℤ) → x ≤ℤ y → y ≤ℤ z → z ≤ℤ w → x ≤ℤ w
chained x y z w p q r = omega (arith, ints)

-- each of the numbers whose squares add up to at most n²
pub each_at_most : (d : ℕ → ℕ → ℤ) (n : ℕ) → sum_below (λ u. sum_below (λ v. d v u *ℤ d v u) 8) 8 ≤ℤ pos (n * n)
    → (u v : ℕ) → u < 8 → v < 8 → unsigned_abs (d v u) ≤ n
each_at_most d n h u v lu lv =
    root_at_most (d v u) n (chained (d v u *ℤ d v u) (sum_below (λ j. d j u *ℤ d j u) 8)
    (sum_below (λ k. sum_below (λ j. d j k *ℤ d j k) 8) 8) (pos (n * n))
    (term_at_most (λ k. d k u *ℤ d k u) 8 v lv (λ k. square_is (d k u)))
    (term_at_most (λ k. sum_below (λ j. d j k *ℤ d j k) 8) 8 u lu
    (λ k. sum_at_least_0 (λ j. d j k *ℤ d j k) 8 (λ j. square_is (d j k)))) h)

at_most_0 : (k : ℕ) (s : ℤ) → (pos 2 *ℤ (pos (suc k) *ℤ s)) ≤ℤ pos k → s ≤ℤ pos 0
at_most_0 k (pos zero) h = omega (arith, ints)
at_most_0 k (pos (suc m)) h = absurd (omega (arith, ints, h))
at_most_0 k (negsuc m) h = omega (arith, ints)

cancelled : (k : ℕ) (s : ℤ) → 0 < k → (pos k *ℤ s) ≤ℤ pos (k * k) → s ≤ℤ pos k
cancelled k x some h = grind (arith, le_of_mul-le-mul_left)

scaled_to_0 : (k : ℕ) (d : ℤ) → d ≤ℤ pos 0 → (pos k *ℤ d) ≤ℤ pos 0
scaled_to_0 k d h = rw (← *ℤ-zero (pos k)) (scaled k d (pos 0) h)

close_0 : (l : ℕ) (x y e d : ℤ) → x ≤ℤ (pos 1 *ℤ e +ℤ y) → y ≤ℤ pos 0 → e ≤ℤ pos (l * l) → x ≤ℤ pos (l * l)
close_0 l x y e d g n m = omega (arith, ints)

close : (x y z : ℤ) (k : ℕ) → (pos 2 *ℤ x) ≤ℤ (y +ℤ z) → y ≤ℤ pos k → z ≤ℤ pos k → x ≤ℤ pos k
close x y z k h g f = omega (arith, ints)

-- a sum of products of numbers whose squares add up to at most l² and n² is at most l n
at_most_product : (l n : ℕ) (s e d : ℤ) → 0 < l → e ≤ℤ pos (l * l) → d ≤ℤ pos (n * n)
    → ((a b : ℤ) → (pos 2 *ℤ (a *ℤ b *ℤ s)) ≤ℤ (a *ℤ a *ℤ e +ℤ b *ℤ b *ℤ d)) → s ≤ℤ pos (l * n)
at_most_product l zero s e d some le ld h =
    let k = suc (l * l) in
    let g : (pos 2 *ℤ (pos (1 * k) *ℤ s)) ≤ℤ (pos 1 *ℤ e +ℤ pos (k * k) *ℤ d) = h (pos 1) (pos k) in
    let g' : (pos 2 *ℤ (pos k *ℤ s)) ≤ℤ (pos 1 *ℤ e +ℤ pos (k * k) *ℤ d) =
    subst (λ (j : ℕ). (pos 2 *ℤ (pos j *ℤ s)) ≤ℤ (pos 1 *ℤ e +ℤ pos (k * k) *ℤ d)) (one-mul k) g in
    let none = scaled_to_0 (k * k) d (omega (arith, ints, ld)) in
    let z = at_most_0 (l * l) s (close_0 l (pos 2 *ℤ (pos k *ℤ s)) (pos (k * k) *ℤ d) e d g' none le) in
    omega (arith, ints, z)
at_most_product l (suc m) s e d some le ld h =
    let n = suc m in
    let g : (pos 2 *ℤ (pos (n * l) *ℤ s)) ≤ℤ (pos (n * n) *ℤ e +ℤ pos (l * l) *ℤ d) = h (pos n) (pos l) in
    let k : l * n ≡ n * l = mul_comm l n in
    let x : (pos (n * n) *ℤ e) ≤ℤ pos (n * l * (n * l)) = subst (λ (j : ℕ). (pos (n * n) *ℤ e) ≤ℤ pos j)
    (omega arith) (scaled (n * n) e (pos (l * l)) le) in
    let y : (pos (l * l) *ℤ d) ≤ℤ pos (n * l * (n * l)) = subst (λ (j : ℕ). (pos (l * l) *ℤ d) ≤ℤ pos j)
    (omega arith) (scaled (l * l) d (pos (n * n)) ld) in
    let c = close (pos (n * l) *ℤ s) (pos (n * n) *ℤ e) (pos (l * l) *ℤ d) (n * l * (n * l)) g x y in
    rw k (cancelled (n * l) s (mul-pos (zero-lt-suc m) some) c)

-- and so is the number opposite
pub within_product : (l n : ℕ) (s e d : ℤ) → 0 < l → e ≤ℤ pos (l * l) → d ≤ℤ pos (n * n)
    → ((a b : ℤ) → (pos 2 *ℤ (a *ℤ b *ℤ s)) ≤ℤ (a *ℤ a *ℤ e +ℤ b *ℤ b *ℤ d)) → unsigned_abs s ≤ l * n
within_product l n s e d some le ld h =
    let up = at_most_product l n s e d some le ld h in
    let down = at_most_product l n (neg_ℤ s) e d some le ld (λ a b. rw (← turned a b s, ← square_turned a)
    (h (neg_ℤ a) b)) in
    omega (arith, ints, up, down)

-- a sum of products less a sum of products, as one sum
pub one_sum : (a b p q : ℤ) (m v d : ℕ → ℤ) (n : ℕ)
    → a *ℤ (p *ℤ sum_below (λ k. m k *ℤ d k) n) -ℤ b *ℤ sum_below (λ k. q *ℤ v k *ℤ d k) n
    ≡ sum_below (λ k. (a *ℤ (p *ℤ m k) -ℤ b *ℤ (q *ℤ v k)) *ℤ d k) n
one_sum a b p q m v d zero = simp *ℤ-zero refl
one_sum a b p q m v d (suc n) = grind (arith, one_more, one_sum a b p q m v d n)

difference_more : (s t v w x y z z' : ℤ) → s -ℤ t ≡ z → v -ℤ w ≡ z' → x ≡ s +ℤ v → y ≡ t +ℤ w → x -ℤ y ≡ z +ℤ z'
difference_more s t v w x y z z' p q ex ey = omega (arith, ints)

pub difference : (a b : ℤ) (f g h : ℕ → ℤ) (n : ℕ) → ((k : ℕ) → a *ℤ f k -ℤ b *ℤ g k ≡ h k)
    → a *ℤ sum_below f n -ℤ b *ℤ sum_below g n ≡ sum_below h n
difference a b f g h zero each = simp *ℤ-zero refl
difference a b f g h (suc n) each =
    difference_more (a *ℤ sum_below f n) (b *ℤ sum_below g n) (a *ℤ f n) (b *ℤ g n) (a *ℤ sum_below f (suc n))
    (b *ℤ sum_below g (suc n)) (sum_below h n) (h n) (difference a b f g h n each) (each n)
    (spread a (sum_below f n) (f n)) (spread b (sum_below g n) (g n))

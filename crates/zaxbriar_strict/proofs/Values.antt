-- Values of a category (T.81, F.1.2.1.2 and F.2.2.1).
use Rattle.std.proofs.Common.{◌≡◌, ℕ, zero, suc, ◌-◌, ◌^◌, ◌<◌, ◌≤◌, refl, sym, ap, ◌∙◌, subst, arith}
use Rattle.std.proofs.Common.{pow_pos, pow-suc, ℤ, pos, negsuc, ◌-ℤ◌, to_z, of_z, w32}
use Rattle.std.proofs.lemmas.Int.{ints}
use Rattle.std.proofs.lemmas.Bool.{cases_lt, lt-ltb, le-ltb, ltb-true, ltb-false}
use Rattle.std.proofs.Math.Pow.{pow_mono}
use Rattle.jpeg_bits.specs.Entropy.{extended}
use Rattle.jpeg_bits.specs.Written.{IsCategory, number_for}

-- a value of a category, and the number whose bits follow it
pub record IsBack (u : ℤ) (s v : ℕ) : Type 0 where
  pub category : IsCategory u s
  pub number : number_for u s ≡ v

low-extended : (v s : ℕ) → v < 2 ^ s → pos v -ℤ pos (2 ^ suc s - 1) ≡ negsuc (2 ^ suc s - 2 - v)
low-extended v s h = let p = pow-suc 2 s in omega (arith, ints, p, h)

extended-back : (v s : ℕ) → v < 2 ^ suc s → IsBack (extended v (suc s)) (suc s) v
unfolding extended number_for
extended-back v s top =
    grind (arith, ltb-true, pow-suc, low-extended, ltb-false, pow_pos, cases_lt, pow_mono)

back : (v s : ℕ) → 1 ≤ s → v < 2 ^ s → IsBack (extended v s) s v
back v zero some top = absurd (omega arith)
back v (suc s) some top = extended-back v s top

extended-low : (v s : ℕ) → v < 2 ^ (s - 1) → extended v s ≡ pos v -ℤ pos (2 ^ s - 1)
unfolding extended
extended-low v s h = rw (lt-ltb v (2 ^ (s - 1)) h) refl

extended-high : (v s : ℕ) → 2 ^ (s - 1) ≤ v → extended v s ≡ pos v
unfolding extended
extended-high v s h = rw (le-ltb v (2 ^ (s - 1)) h) refl

-- the value of a number below half of its category's
pub low-value : (v s half power : ℕ) (from : ℤ) → 1 ≤ s → v < 2 ^ s → half ≡ 2 ^ (s - 1) → power ≡ 2 ^ s
    → power ≤ 65536 → from ≡ pos v → v < half
    → IsBack (to_z w32 (of_z w32 (to_z w32 (of_z w32 from) -ℤ to_z w32 (power - 1)))) s v
low-value v s half power from some top h p most e low =
    let is : to_z w32 (of_z w32 (to_z w32 (of_z w32 from) -ℤ to_z w32 (power - 1))) ≡ pos v -ℤ pos (power - 1) =
    omega (arith, ints, e, most, low) in
    subst (λ (u : ℤ). IsBack u s v)
    (sym (is ∙ ap (λ (k : ℕ). pos v -ℤ pos (k - 1)) p ∙ sym (extended-low v s (omega (arith, h, low)))))
    (back v s some top)

-- and that of another
pub high-value : (v s half : ℕ) (from : ℤ) → 1 ≤ s → v < 2 ^ s → v < 65536 → half ≡ 2 ^ (s - 1) → from ≡ pos v
    → half ≤ v → IsBack (to_z w32 (of_z w32 from)) s v
high-value v s half from some top most h e high =
    let is : to_z w32 (of_z w32 from) ≡ pos v = omega (arith, ints, e, most) in
    subst (λ (u : ℤ). IsBack u s v) (sym (is ∙ sym (extended-high v s (omega (arith, h, high))))) (back v s some top)

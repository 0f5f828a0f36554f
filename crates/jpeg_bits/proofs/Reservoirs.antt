-- Bits in a word of 64.
use Rattle.std.proofs.lemmas.Grind.{common_steps}
use Rattle.std.proofs.lemmas.Bool.Decides.{nat_tests}
use Rattle.std.proofs.Common.{◌≡◌, ℕ, zero, suc, ◌+◌, ◌-◌, ◌*◌, ◌/◌, ◌%◌, ◌^◌, ◌<◌, ◌≤◌, Bool, false, List, [], ◌∷◌}
use Rattle.std.proofs.Common.{◌++◌, length, take, drop, replicate, refl, sym, ap, ◌∙◌, arith, pow-suc, pow-add, pow_pos}
use Rattle.std.proofs.Common.{add-zero, mul_assoc, inl, inr}
use Rattle.std.proofs.Math.Nat.{mul-add-div_right, div-div-eq-div-mul, mod-lt, mul-mod_left, zero-div}
use Rattle.std.proofs.Math.Nat.{div-lt_iff_lt-mul, mul-le-mul_right, zero-mod, add-mul, one-mul}
use Rattle.std.proofs.lemmas.Nat.{div-mul-add, div-add-mod', mod-pow-add, shl-shr}
use Rattle.std.proofs.lemmas.List.{take-replicate, take-append-le, drop_at, drop_all, take_all}
use Rattle.std.proofs.Math.Pow.{shl_exact}
use Rattle.std.proofs.lemmas.Bool.{cases_lt}
use Rattle.jpeg_bits.specs.Written.{low_bits}
use Rattle.jpeg_bits.specs.Entropy.{bits_of, number_of}
use Rattle.jpeg_bits.specs.Reservoir.{buffered_bits, HasZerosAfter}
use Rattle.jpeg_bits.proofs.WrittenBits.{number_of-low_bits, length_low_bits}

-- bits above the low ones do not count
pub low_bits-high : (n a y : ℕ) → low_bits n (a * 2 ^ n + y) ≡ low_bits n y
unfolding low_bits
low_bits-high zero a y = refl
low_bits-high (suc n) a y = grind (arith, pow-suc, mul_assoc, mul-add-div_right, pow_pos, low_bits-high n (a * 2) y)

pub low_bits-append : (a b x y : ℕ) → y < 2 ^ b → low_bits (a + b) (x * 2 ^ b + y) ≡ low_bits a x ++ low_bits b y
unfolding low_bits
low_bits-append zero b x y h = grind (arith, low_bits-high)
low_bits-append (suc a) b x y h =
    let v = x * 2 ^ b + y in
    let s : suc a + b ≡ suc (a + b) = omega arith in
    let t : a + b ≡ b + a = omega arith in
    let q : v / 2 ^ (a + b) ≡ x / 2 ^ a
    = ap (λ (n : ℕ). v / 2 ^ n) t ∙ ap (λ (d : ℕ). v / d) (pow-add 2 b a) ∙ sym (div-div-eq-div-mul v (2 ^ b) (2 ^ a))
    ∙ ap (λ (k : ℕ). k / 2 ^ a) (div-mul-add x (2 ^ b) y h) in
    grind (arith, common_steps, nat_tests, low_bits-append a b x y h)

pub low_bits-split : (n m x : ℕ) → low_bits (n + m) x ≡ low_bits n (x / 2 ^ m) ++ low_bits m (x % 2 ^ m)
low_bits-split n m x = ap (low_bits (n + m)) (sym (div-add-mod' x (2 ^ m)))
    ∙ low_bits-append n m (x / 2 ^ m) (x % 2 ^ m) (mod-lt x (pow_pos m))

pub low_bits-take : (n m x : ℕ) → take n (low_bits (n + m) x) ≡ low_bits n (x / 2 ^ m)
low_bits-take n m x = grind (arith, length_low_bits, low_bits-split, take-append-le, take_all)

pub low_bits-drop : (n m x : ℕ) → drop n (low_bits (n + m) x) ≡ low_bits m (x % 2 ^ m)
low_bits-drop n m x = grind (arith, low_bits-split, drop_at, length_low_bits)

pub low_bits-zeros : (n : ℕ) → low_bits n 0 ≡ replicate n false
unfolding low_bits
low_bits-zeros zero = refl
low_bits-zeros (suc n) = grind (arith, zero-div, low_bits-zeros n)

pub same_zeros : (xs : List Bool) (m n k : ℕ) → m ≤ length xs + n → m ≤ length xs + k
    → take m (xs ++ replicate n false) ≡ take m (xs ++ replicate k false)
same_zeros [] m n k h g = take-replicate m n false (omega arith) ∙ sym (take-replicate m k false (omega arith))
same_zeros (x ∷ xs) zero n k h g = refl
same_zeros (x ∷ xs) (suc m) n k h g = ap (λ (l : List Bool). x ∷ l) (same_zeros xs m n k (omega arith) (omega arith))

-- the whole word
pub whole_word : (word count : ℕ) → count ≤ 64 → HasZerosAfter word count
    → low_bits 64 word ≡ buffered_bits word count ++ replicate (64 - count) false
whole_word word count h z =
    let e : 64 ≡ count + (64 - count) = omega arith in
    grind (arith, low_bits-split, low_bits-zeros)

-- the first n bits, with zeros after them
pub front_bits : (word count n : ℕ) → count ≤ 64 → n ≤ 64 → HasZerosAfter word count
    → take n (buffered_bits word count ++ replicate n false) ≡ low_bits n (word / 2 ^ (64 - n))
front_bits word count n h g z =
    let l = length_low_bits count (word / 2 ^ (64 - count)) in
    let e : 64 ≡ n + (64 - n) = omega arith in
    same_zeros _ _ _ _ (omega (arith, l)) (omega (arith, l))
    ∙ ap (take n) (sym (whole_word word count h z) ∙ ap (λ (k : ℕ). low_bits k word) e)
    ∙ low_bits-take n (64 - n) word

pub front_small : (word n m : ℕ) → word < 2 ^ (n + m) → word / 2 ^ m < 2 ^ n
front_small word n m h = grind (arith, pow-add, div-lt_iff_lt-mul, pow_pos)

pub front_number : (word count n : ℕ) → word < 2 ^ 64 → count ≤ 64 → n ≤ 64 → HasZerosAfter word count
    → word / 2 ^ (64 - n) ≡ number_of (take n (buffered_bits word count ++ replicate n false))
front_number word count n w h g z = grind (arith, front_bits, number_of-low_bits, front_small)

-- the word by the bits of it
by_bits : (word count : ℕ) → HasZerosAfter word count → word ≡ word / 2 ^ (64 - count) * 2 ^ (64 - count)
by_bits word count z = sym (div-add-mod' word (2 ^ (64 - count))) ∙ omega (arith, z)

pub byte_bits : (b : ℕ) → low_bits 8 b ≡ bits_of b
unfolding low_bits
byte_bits b = grind arith

-- m bits after those of a word
module _ (word count m front : ℕ) (few : count + m ≤ 64) (z : HasZerosAfter word count) (small : front < 2 ^ m) where
  with_front : word + front * 2 ^ (64 - (count + m)) ≡ (word / 2 ^ (64 - count) * 2 ^ m + front) * 2 ^ (64 - (count + m))
  with_front =
      let k = 64 - (count + m) in
      let e : 64 - count ≡ m + k = omega (arith, few) in
      grind (arith, pow-add, by_bits, mul_assoc, add-mul)

  pub front_zeros : HasZerosAfter (word + front * 2 ^ (64 - (count + m))) (count + m)
  front_zeros = grind (arith, with_front, mul-mod_left)

  pub front_buffered : buffered_bits (word + front * 2 ^ (64 - (count + m))) (count + m) ≡
      buffered_bits word count ++ low_bits m front
  front_buffered = grind (arith, with_front, shl-shr, low_bits-append)

  pub front_fits : word < 2 ^ 64 → word + front * 2 ^ (64 - (count + m)) < 2 ^ 64
  front_fits fits =
      let k = 64 - (count + m) in
      let q = word / 2 ^ (64 - count) in
      let e : 64 ≡ count + (64 - count) = omega (arith, few) in
      let f : 64 ≡ (count + m) + k = omega (arith, few) in
      let p : 2 ^ 64 ≡ 2 ^ (count + (64 - count)) = ap (λ (n : ℕ). 2 ^ n) e in
      let below : q < 2 ^ count = front_small word count (64 - count) (omega (arith, p)) in
      let c : 2 ^ (count + m) ≡ 2 ^ count * 2 ^ m = pow-add 2 count m in
      let above : q + 1 ≤ 2 ^ count = omega (arith, below) in
      let row : (q + 1) * 2 ^ m ≤ 2 ^ count * 2 ^ m = mul-le-mul_right (2 ^ m) above in
      let le : q * 2 ^ m + front + 1 ≤ 2 ^ (count + m) = omega (arith, c, row, add-mul q 1 (2 ^ m), one-mul (2 ^ m), small) in
      let g : (q * 2 ^ m + front + 1) * 2 ^ k ≤ 2 ^ (count + m) * 2 ^ k = mul-le-mul_right (2 ^ k) le in
      grind (arith, add-mul, one-mul, pow_pos, pow-add, with_front)

  pub front_shifted : front * 2 ^ (64 - (count + m)) % 2 ^ 64 ≡ front * 2 ^ (64 - (count + m))
  front_shifted = shl_exact m (64 - (count + m)) 64 small (omega (arith, few))

-- a byte after the bits
module _ (word count byte : ℕ) (few : count ≤ 56) (z : HasZerosAfter word count) where
  with_byte : word + byte * 2 ^ (56 - count) ≡ (word / 2 ^ (64 - count) * 256 + byte) * 2 ^ (56 - count)
  with_byte =
      let k = 56 - count in
      let e : 64 - count ≡ 8 + k = omega arith in
      grind (arith, pow-add, by_bits, mul_assoc, add-mul)

  pub byte_zeros : HasZerosAfter (word + byte * 2 ^ (56 - count)) (count + 8)
  byte_zeros = grind (arith, with_byte, mul-mod_left)

  pub byte_buffered : byte < 256 → buffered_bits (word + byte * 2 ^ (56 - count)) (count + 8) ≡
      buffered_bits word count ++ bits_of byte
  byte_buffered small = grind (arith, with_byte, shl-shr, low_bits-append, byte_bits)

  pub byte_fits : word < 2 ^ 64 → byte < 256 → word + byte * 2 ^ (56 - count) < 2 ^ 64
  byte_fits fits small =
      let k = 56 - count in
      let q = word / 2 ^ (64 - count) in
      let e : 64 ≡ count + (64 - count) = omega arith in
      let f : 64 ≡ (count + 8) + k = omega arith in
      let p : 2 ^ 64 ≡ 2 ^ (count + (64 - count)) = ap (λ (n : ℕ). 2 ^ n) e in
      let below : q < 2 ^ count = front_small word count (64 - count) (omega (arith, p)) in
      let c : 2 ^ (count + 8) ≡ 2 ^ count * 256 = pow-add 2 count 8 in
      let le : q * 256 + byte + 1 ≤ 2 ^ (count + 8) = omega (arith, c, below) in
      let m : (q * 256 + byte + 1) * 2 ^ k ≤ 2 ^ (count + 8) * 2 ^ k = mul-le-mul_right (2 ^ k) le in
      grind (arith, add-mul, one-mul, pow_pos, pow-add, with_byte)

-- the first n bits taken away
module _ (word count n : ℕ) (few : count ≤ 64) (z : HasZerosAfter word count) where
  moved : word * 2 ^ n ≡ word / 2 ^ (64 - count) * 2 ^ (64 - count + n)
  moved = grind (arith, by_bits, mul_assoc, pow-add)

  shifted : n ≤ count → word * 2 ^ n % 2 ^ 64 ≡ word / 2 ^ (64 - count) % 2 ^ (count - n) * 2 ^ (64 - (count - n))
  shifted le =
      let q = word / 2 ^ (64 - count) in
      let m = count - n in
      let k = 64 - count + n in
      let e : 64 ≡ m + k = omega arith in
      let f : k ≡ 64 - m = omega arith in
      ap (λ (v : ℕ). v % 2 ^ 64) moved ∙ ap (λ (j : ℕ). q * 2 ^ k % 2 ^ j) e ∙ mod-pow-add (q * 2 ^ k) m k
      ∙ ap (λ (v : ℕ). v % 2 ^ m * 2 ^ k + q * 2 ^ k % 2 ^ k) (shl-shr q k)
      ∙ ap (λ (v : ℕ). q % 2 ^ m * 2 ^ k + v) (mul-mod_left q (2 ^ k))
      ∙ add-zero (q % 2 ^ m * 2 ^ k)
      ∙ ap (λ (j : ℕ). q % 2 ^ m * 2 ^ j) f

  pub rest_zeros : n ≤ 64 → HasZerosAfter (word * 2 ^ n % 2 ^ 64) (count - n)
  rest_zeros top =
      elim (cases_lt count n) [
        | inr le ↦ ap (λ (v : ℕ). v % 2 ^ (64 - (count - n))) (shifted le) ∙ mul-mod_left _ (2 ^ (64 - (count - n)))
        | inl lt ↦
            let q = word / 2 ^ (64 - count) in
            let j = n - count in
            let e : 64 - count + n ≡ j + 64 = omega arith in
            let d : count - n ≡ 0 = omega arith in
            let f : word * 2 ^ n % 2 ^ 64 ≡ 0
            = ap (λ (v : ℕ). v % 2 ^ 64) (moved ∙ ap (λ (i : ℕ). q * 2 ^ i) e ∙ ap (λ (v : ℕ). q * v) (pow-add 2 j 64)
            ∙ sym (mul_assoc q (2 ^ j) (2 ^ 64))) ∙ mul-mod_left (q * 2 ^ j) (2 ^ 64) in
            ap (λ (v : ℕ). v % 2 ^ (64 - (count - n))) f ∙ zero-mod (2 ^ (64 - (count - n)))
      ]

  pub rest_buffered : buffered_bits (word * 2 ^ n % 2 ^ 64) (count - n) ≡ drop n (buffered_bits
      word count)
  unfolding low_bits
  rest_buffered =
      elim (cases_lt count n) [
        | inr le ↦
            let q = word / 2 ^ (64 - count) in
            let m = count - n in
            let e : count ≡ n + m = omega arith in
            ap (λ (v : ℕ). low_bits m (v / 2 ^ (64 - m))) (shifted le) ∙ ap (low_bits m) (shl-shr (q % 2 ^ m) (64 - m))
            ∙ sym (ap (λ (i : ℕ). drop n (low_bits i q)) e ∙ low_bits-drop n m q)
        | inl lt ↦
            grind (arith, drop_all, length_low_bits)
      ]

pub word_fits : (v : ℕ) → v % 2 ^ 64 < 2 ^ 64
word_fits v = mod-lt v (pow_pos 64)

pub front_below : (word n : ℕ) → word < 2 ^ 64 → n ≤ 64 → word / 2 ^ (64 - n) < 2 ^ n
front_below word n h g = grind (arith, front_small)

pub byte_shifted : (count byte : ℕ) → count ≤ 56 → byte < 256
    → byte * 2 ^ (56 - count) % 2 ^ 64 ≡ byte * 2 ^ (56 - count)
byte_shifted count byte h small = shl_exact 8 (56 - count) 64 small (omega arith)

-- the first bits of 16 as a number
pub prefix_number : (bits l : ℕ) → bits < 2 ^ 16 → l < 16
    → bits / 2 ^ (15 - l) ≡ number_of (take (l + 1) (low_bits 16 bits))
prefix_number bits l h lt =
    let e : 16 ≡ l + 1 + (15 - l) = omega arith in
    grind (arith, low_bits-take, number_of-low_bits, front_small)

pub ruleset rests = (word_fits, rest_zeros, rest_buffered)

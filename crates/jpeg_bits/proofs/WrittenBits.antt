-- What is read of bits that were written.
use Rattle.std.proofs.lemmas.Grind.{common_steps}
use Rattle.std.proofs.lemmas.Bool.Decides.{nat_tests}
use Rattle.std.proofs.Common.{◌≡◌, ℕ, zero, suc, ◌+◌, ◌*◌, ◌/◌, ◌%◌, ◌^◌, ◌<◌, Bool, false, cond, List, [], ◌∷◌}
use Rattle.std.proofs.Common.{◌++◌, length, take, drop, replicate, fold, refl, ap, ◌∙◌, subst, append_assoc}
use Rattle.std.proofs.Common.{length-append, pos, Ok, mul_assoc, arith, pow_pos, pow-suc, mod-eq_of_lt}
use Rattle.std.proofs.Math.Arith.{mod-mul}
use Rattle.std.proofs.Math.Nat.{mod-one, add-mul}
use Rattle.std.proofs.lemmas.List.{take-append-le, take_all, drop_at, drop-drop}
use Rattle.jpeg_bits.specs.Entropy.{Text, bits_from, extended, number_of}
use Rattle.jpeg_bits.proofs.BufferedBits.{has_enough}
use Rattle.jpeg_bits.specs.Readers.{Reads, ◌>>=◌, gives, ReadsJust, signed_from}
use Rattle.jpeg_bits.specs.Written.{bit, low_bits}

pub takes-gives : {A : Type 0} (x : A) → ReadsJust (gives x) [] x
takes-gives x = record { read = λ rest following e. refl }

pub following-after : (bits more : List Bool) (following : List (List ℕ)) → drop (length more)
    (drop (length bits) following)
    ≡ drop (length (bits ++ more)) following
following-after bits more following = grind (arith, drop-drop, length-append)

pub takes-bind : {A B : Type 0} (p : Reads A) (f : A → Reads B) (bits more : List Bool) (x : A) (y : B)
    → ReadsJust p bits x → ReadsJust (f x) more y → ReadsJust (p >>= f) (bits ++ more) y
takes-bind {A} {B} p f bits more x y h k = grind (arith, append_assoc, following-after)

pub low_bits-mod : (n v : ℕ) → v % 2 ^ suc n ≡ (v / 2 ^ n % 2) * 2 ^ n + v % 2 ^ n
low_bits-mod n v = grind (arith, pow-suc, mod-mul, pow_pos)

pub carry : (a b p w q v : ℕ) → q ≡ p * 2 → v ≡ b * p + w → (2 * a + b) * p + w ≡ a * q + v
carry a b p w q v e f = rw (e, f) (omega (arith, add-mul (2 * a) b p, mul_assoc 2 a p, mul_assoc a p 2))

-- a bit as the number that it is
pub bit-value : (b : ℕ) → b < 2 → cond (bit b) 1 0 ≡ b
bit-value b h = grind arith

abbrev pub number_onto : ℕ → List Bool → ℕ
number_onto a bits = fold (λ n b. 2 * n + cond b 1 0) a bits

pub onto-bits : (n a v : ℕ) → number_onto a (low_bits n v) ≡ a * 2 ^ n + v % 2 ^ n
unfolding low_bits
onto-bits zero a v = omega (arith, mod-one v)
onto-bits (suc n) a v =
    let e : (2 * a + v / 2 ^ n % 2) * 2 ^ n + v % 2 ^ n ≡ a * 2 ^ suc n + v % 2 ^ suc n =
    carry a (v / 2 ^ n % 2) (2 ^ n) (v % 2 ^ n) _ _ (pow-suc 2 n) (low_bits-mod n v) in grind
    (arith, common_steps, nat_tests, bit-value, onto-bits n (2 * a + v / 2 ^ n % 2) v)

pub number_of-low_bits : (n v : ℕ) → v < 2 ^ n → number_of (low_bits n v) ≡ v
number_of-low_bits n v h = onto-bits n 0 v ∙ omega (arith, mod-eq_of_lt h)

pub length_low_bits : (n v : ℕ) → length (low_bits n v) ≡ n
unfolding low_bits
length_low_bits zero v = refl
length_low_bits (suc n) v = ap suc (length_low_bits n v)

-- the first n bits of a text that begins with n
pub front : (n : ℕ) (bits rest : List Bool) → length bits ≡ n → take n ((bits ++ rest) ++ replicate n false) ≡ bits
front n bits rest h = grind (arith, take-append-le, length-append, take_all)

-- n bits are read as their number
pub takes-bits : (n : ℕ) (bits : List Bool) → length bits ≡ n → ReadsJust (bits_from n) bits (number_of bits)
unfolding bits_from
takes-bits n bits h = grind (arith, has_enough, length-append, front, drop_at)

pub takes-number : (n v : ℕ) → v < 2 ^ n → ReadsJust (bits_from n) (low_bits n v) v
takes-number n v h =
    subst (λ (x : ℕ). ReadsJust (bits_from n) (low_bits n v) x) (number_of-low_bits n v h)
    (takes-bits n (low_bits n v) (length_low_bits n v))

pub one-bit : (b : ℕ) → b < 2 → number_of (bit b ∷ []) ≡ b
one-bit b h = omega (arith, bit-value b h)

pub takes-bit : (b : ℕ) → b < 2 → ReadsJust (bits_from 1) (bit b ∷ []) b
takes-bit b h =
    subst (λ (x : ℕ). ReadsJust (bits_from 1) (bit b ∷ []) x) (one-bit b h) (takes-bits 1 (bit b ∷ []) refl)

pub takes-map : {A B : Type 0} (p : Reads A) (f : A → B) (bits : List Bool) (x : A) → ReadsJust p bits x
    → ReadsJust (p >>= (λ r. gives (f r))) bits (f x)
takes-map p f bits x h = record { read = λ rest following e. rw (h.read rest following e) refl }

pub takes-as : {A : Type 0} (p : Reads A) (bits more : List Bool) (x y : A) → bits ≡ more → x ≡ y → ReadsJust p bits x
    → ReadsJust p more y
takes-as {A} p bits more x y e f h = grind arith

-- no bits are read as 0
pub signed_none : (t : Text) → signed_from 0 t ≡ Ok (pos 0, t)
unfolding signed_from bits_from extended
signed_none t = grind (arith, common_steps, nat_tests)

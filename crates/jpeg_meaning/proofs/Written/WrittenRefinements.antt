-- A refinement that was written is read again.
use Rattle.std.proofs.Common.{rules, ◌≡◌, ◌≢◌, ◌⊎◌, inl, inr, ℕ, zero, suc, ◌+◌, ◌-◌, ◌*◌, ◌/◌, ◌%◌, ◌^◌, ◌<◌, ◌≤◌}
use Rattle.std.proofs.Common.{Bool, true, false, List, [], ◌∷◌, ◌++◌, map, length, take, drop, ℤ, pos, negsuc, neg_ℤ}
use Rattle.std.proofs.Common.{◌*ℤ◌, unsigned_abs, refl, sym, ap, ◌∙◌, subst, append_assoc, arith, eqb, pow-suc}
use Rattle.std.proofs.Common.{pow_pos, add-zero, mul_assoc, length-append, set, slice_index}
use Rattle.std.proofs.Math.Seq.{set-append_seam}
use lib.Arith.{digits_div}
use Rattle.std.proofs.Math.Nat.{add-mul, zero-mul, one-mul, mul-le-mul}
use Rattle.std.proofs.lemmas.Bool.{lt-ltb, eq-eqb, le-leb, leb-true}
use Rattle.std.proofs.lemmas.Bool.Decides.{nat_tests}
use Rattle.std.specs.List.{AllByRecursion}
use Rattle.jpeg_bits.specs.Entropy.{bits_from}
use Rattle.jpeg_bits.specs.Codes.{Table}
use Rattle.jpeg_bits.specs.Readers.{Reads, each, ◌>>=◌, gives, ReadsJust}
use Rattle.jpeg_bits.specs.Bands.{Band, before_more}
use Rattle.jpeg_bits.specs.Refinement.{is_zero, bit_of, corrected_by, corrected, through_zero}
use Rattle.jpeg_bits.specs.Refinement.{new_number, with_last, refined_piece, refined_ac}
use Rattle.jpeg_bits.specs.Written.{bit, low_bits, code_bits, IsCoded}
use Rattle.jpeg_meaning.specs.WrittenData.{is_old, count_unknown, NoneNew, corrections, sign_bit, WritesRefinement}
use Rattle.jpeg_meaning.specs.WrittenData.WritesRefinement.{refined, found, passed, none_left}
use Rattle.jpeg_bits.proofs.WrittenBits.{takes-gives, takes-bind, takes-number, takes-bit, takes-map, takes-as}
use Rattle.jpeg_bits.specs.Pieces.{corrected_from}
use Rattle.jpeg_bits.proofs.Tables.{IsGood, takes-symbol}
use Rattle.jpeg_meaning.proofs.Written.WrittenBands.{scaled-zero}
use Rattle.jpeg_meaning.proofs.Written.SentBlocks.{scaled, kept, InRange}

-- ---- what is kept

pub times-two_power : (m al : ℕ) → m * 2 ^ suc al ≡ 2 * (m * 2 ^ al)
times-two_power m al = ap (λ (x : ℕ). m * x) (pow-suc 2 al) ∙ omega (arith, mul_assoc m (2 ^ al) 2)

pub spread : (m b p : ℕ) → (2 * m + b) * p ≡ 2 * (m * p) + b * p
spread m b p = omega (arith, add-mul (2 * m) b p, mul_assoc 2 m p)

pub neg-times : (a b : ℕ) → neg_ℤ (pos a) *ℤ pos b ≡ neg_ℤ (pos (a * b))
neg-times zero b = ap (λ (x : ℕ). pos x) (zero-mul b) ∙ ap (λ (x : ℕ). neg_ℤ (pos x)) (sym (zero-mul b))
neg-times (suc a) b = refl

pub kept-zero : (al : ℕ) → kept al (pos 0) ≡ pos 0
kept-zero al = ap pos (zero-mul (2 ^ suc al))

pub kept-new : (al : ℕ) (u : ℤ) → unsigned_abs u ≡ 1 → kept al u ≡ pos 0
kept-new al (pos n) h = rw h (ap pos (zero-mul (2 ^ suc al)))
kept-new al (negsuc n) h = rw h (ap pos (zero-mul (2 ^ suc al)))

pub not-zero : (k : ℕ) → 0 < k → (is_zero (pos k) ≡ false) × (is_zero (neg_ℤ (pos k)) ≡ false)
not-zero zero h = absurd (omega arith)
not-zero (suc k) h = (refl, refl)

pub kept-positive : (al n : ℕ) → 2 ≤ n → 0 < (n / 2) * 2 ^ suc al
kept-positive al n h = search (rules, pow_pos, mul-le-mul, times-two_power)

pub old-at : (u : ℤ) → is_old u ≡ true → 2 ≤ unsigned_abs u
old-at u h = leb-true 2 (unsigned_abs u) h

pub kept-old : (al : ℕ) (u : ℤ) → is_old u ≡ true → is_zero (kept al u) ≡ false
kept-old al (pos n) h = (not-zero (n / 2 * 2 ^ suc al) (kept-positive al n (old-at (pos n) h))).0
kept-old al (negsuc n) h = search (rules, neg-times, not-zero, kept-positive, old-at)

-- a coefficient that isn't new is nothing or old
pub nothing_or_old : (u : ℤ) → unsigned_abs u ≢ 1 → (u ≡ pos 0) ⊎ (is_old u ≡ true)
nothing_or_old u h = search (rules, le-leb)

-- ---- correction bits

pub corrected-stays : (al : ℕ) (z w : ℤ) → z ≡ w → ReadsJust (corrected_by al z 0) [] w
corrected-stays al z w e = search rules

pub even : (m : ℕ) → (2 * m) % 2 ≡ 0
even m = omega arith

pub odd : (m : ℕ) → 0 < m → (2 * m - 1) % 2 ≡ 1
odd m h = omega arith

pub corrects-pos : (al m b : ℕ) → b < 2 → (2 * m + b) * 2 ^ al < 2 ^ 15
    → ReadsJust (corrected_by al (pos (m * 2 ^ suc al)) b) [] (pos ((2 * m + b) * 2 ^ al))
corrects-pos al m (suc zero) h fits =
    let p = 2 ^ al in
    let double = times-two_power m al in
    let high : m * 2 ^ suc al / 2 ^ al ≡ 2 * m =
    ap (λ (x : ℕ). x / p) (double ∙ sym (mul_assoc 2 m p) ∙ sym (add-zero (2 * m * p)))
    ∙ digits_div (2 * m) (pow_pos al) in
    let sum : m * 2 ^ suc al + p ≡ (2 * m + 1) * p = omega (arith, one-mul p) in
    grind (arith, even m, lt-ltb)
corrects-pos al m b h fits = search (rules, corrected-stays, times-two_power, zero-mul)

pub under : (m p k : ℕ) → 0 < m → 0 < p → suc k ≡ 2 * (m * p) → k ≡ (2 * m - 1) * p + (p - 1)
under zero p k f g e = absurd (omega arith)
under (suc m) p k f g e = grind (arith, spread m 1 p, one-mul p, add-mul m 1 p)

-- bit al of a multiple of 2 ^ (al + 1)
pub even-bit : (al m : ℕ) → bit_of al (pos (m * 2 ^ suc al)) ≡ 0
even-bit al m =
    let high : m * 2 ^ suc al / 2 ^ al ≡ 2 * m = ap (λ (x : ℕ). x / 2 ^ al)
    (times-two_power m al ∙ sym (mul_assoc 2 m (2 ^ al)) ∙ sym (add-zero (2 * m * 2 ^ al)))
    ∙ digits_div (2 * m) (pow_pos al) in
    ap (λ (x : ℕ). x % 2) high ∙ even m

pub even-bit_neg : (al m k : ℕ) → 0 < m → m * 2 ^ suc al ≡ suc k → bit_of al (negsuc k) ≡ 0
even-bit_neg al m k some e =
    let one : 0 < 2 ^ al = pow_pos al in
    let parts : k ≡ (2 * m - 1) * 2 ^ al + (2 ^ al - 1) = under m (2 ^ al) k some one (sym e ∙ times-two_power m al) in
    let high : k / 2 ^ al ≡ 2 * m - 1 = ap (λ (x : ℕ). x / 2 ^ al) parts ∙ digits_div (2 * m - 1) (omega arith) in
    ap (λ (x : ℕ). 1 - x % 2) high ∙ ap (λ (x : ℕ). 1 - x) (odd m some)

pub corrects-neg : (al m b k : ℕ) → m * 2 ^ suc al ≡ suc k → b < 2 → (2 * m + b) * 2 ^ al < 2 ^ 15
    → ReadsJust (corrected_by al (negsuc k) b) [] (neg_ℤ (pos ((2 * m + b) * 2 ^ al)))
corrects-neg al m (suc zero) k e h fits =
    search (rules, pow_pos, times-two_power, even-bit_neg, spread, one-mul, eq-eqb, neg_ℤ, lt-ltb, zero-mul)
corrects-neg al m b k e h fits = search (rules, corrected-stays, times-two_power, zero-mul)

-- the correction bit of an old number gives the number
pub corrects : (al : ℕ) (u : ℤ) → is_old u ≡ true → InRange al u
    → ReadsJust (corrected_by al (kept al u) (unsigned_abs u % 2)) [] (scaled al u)
corrects al (pos n) o range = search (rules, takes-as, corrects-pos)
corrects al (negsuc i) o range = go (suc i / 2 * 2 ^ suc al) refl (kept-positive al (suc i) (old-at
    (negsuc i) o))
  where
    go : (x : ℕ) → suc i / 2 * 2 ^ suc al ≡ x → 0 < x
        → ReadsJust (corrected_by al (kept al (negsuc i)) (suc i % 2)) [] (neg_ℤ (pos (suc i * 2 ^
        al)))
    go zero e h = absurd (omega arith)
    go (suc k) e h = search (rules, neg-times, neg_ℤ, takes-as, corrects-neg)

pub corrected-next : (al : ℕ) (z w : ℤ) (zs ws : List ℤ) (b : ℕ) (bits : List Bool) → b < 2 → is_zero z ≡ false
    → ReadsJust (corrected_by al z b) [] w
    → ReadsJust (corrected al zs) bits ws → ReadsJust (corrected al (z ∷ zs)) (bit b ∷ bits) (w ∷ ws)
unfolding corrected corrected_from each
corrected-next al z w zs ws b bits small e h k =
    takes-bind (corrected_from al z) (λ y. each (corrected_from al) zs >>= (λ ys. gives (y ∷ ys))) (bit b ∷ []) bits w (w ∷ ws)
    (rw e (takes-bind (bits_from 1) (corrected_by al z) (bit b ∷ []) [] b w (takes-bit b small) h))
    (takes-map (corrected al zs) (λ (l : List ℤ). w ∷ l) bits ws k)

corrected-zero : (al : ℕ) (z : ℤ) (zs ws : List ℤ) (bits : List Bool) → z ≡ pos 0
    → ReadsJust (corrected al zs) bits ws → ReadsJust (corrected al (z ∷ zs)) bits (pos 0 ∷ ws)
unfolding corrected each
corrected-zero al z zs ws bits e k = rw e (takes-map (corrected al zs) (λ (l : List ℤ). pos 0 ∷ l) bits ws k)

pub corrections-old : (u : ℤ) (us : List ℤ) → is_old u ≡ true
    → corrections (u ∷ us) ≡ bit (unsigned_abs u % 2) ∷ corrections us
unfolding corrections
corrections-old u us o = rw (o, corrections) refl

pub takes-corrected : (al : ℕ) (us : List ℤ) → NoneNew us → AllByRecursion (InRange al) us
    → ReadsJust (corrected al (map (kept al) us)) (corrections us) (map (scaled al) us)
unfolding corrected each NoneNew corrections
takes-corrected al [] none range = takes-gives []
takes-corrected al (u ∷ us) none range =
    let all = takes-corrected al us none.1 range.1 in
    elim (nothing_or_old u none.0) [
      | inl e ↦ rw e (takes-as _ (corrections us) _ (pos 0 ∷ map (scaled al) us) _ refl
          (ap (λ (z : ℤ). z ∷ map (scaled al) us) (sym (scaled-zero al)))
          (corrected-zero al (kept al (pos 0)) (map (kept al) us) _ _ (kept-zero al) all))
      | inr o ↦ takes-as _ (bit (unsigned_abs u % 2) ∷ corrections us) _ _ _ (sym (corrections-old u us o)) refl
          (corrected-next al (kept al u) (scaled al u) (map (kept al) us) _ (unsigned_abs u % 2) _ (omega arith) (kept-old al u o)
          (corrects al u o range.0) all)
    ]

-- ---- pieces

pub through-zero : (c : ℕ) (z : ℤ) (zs : List ℤ) → z ≡ pos 0
    → through_zero (suc c) (z ∷ zs) ≡ suc (through_zero c zs)
unfolding through_zero
through-zero c z zs e = grind (arith, nat_tests)

pub through-other : (c : ℕ) (z : ℤ) (zs : List ℤ) → is_zero z ≡ false
    → through_zero c (z ∷ zs) ≡ suc (through_zero c zs)
unfolding through_zero
through-other c z zs e = rw (e, through_zero) refl

pub count-zero : (us : List ℤ) → count_unknown (pos 0 ∷ us) ≡ suc (count_unknown us)
unfolding count_unknown
count-zero us = refl

pub count-old : (u : ℤ) (us : List ℤ) → is_old u ≡ true → count_unknown (u ∷ us) ≡ count_unknown us
unfolding count_unknown
count-old u us o = rw (o, count_unknown) refl

-- the piece of a token ends with the coefficient after those that are neither old nor new
pub through : (al : ℕ) (front : List ℤ) (u : ℤ) (more : List ℤ) → kept al u ≡ pos 0 → NoneNew front
    → through_zero (count_unknown front) (map (kept al) (front ++ u ∷ more)) ≡ suc (length front)
unfolding NoneNew count_unknown through_zero
through al [] u more z none = search (rules, kept)
through al (v ∷ front) u more z none =
    search (rules, nothing_or_old, kept-zero, kept-old, through al front u more z none.1)

pub front-of : (al : ℕ) (front : List ℤ) (u : ℤ) (more : List ℤ) → kept al u ≡ pos 0
    → take (suc (length front)) (map (kept al) (front ++ u ∷ more)) ≡ map (kept al) (front ++ pos 0
    ∷ [])
front-of al [] u more z = ap (λ (x : ℤ). x ∷ []) (z ∙ sym (kept-zero al))
front-of al (v ∷ front) u more z = ap (λ (l : List ℤ). kept al v ∷ l) (front-of al front u more z)

pub back-of : (al : ℕ) (front : List ℤ) (u : ℤ) (more : List ℤ)
    → drop (suc (length front)) (map (kept al) (front ++ u ∷ more)) ≡ map (kept al) more
back-of al [] u more = refl
back-of al (v ∷ front) u more = back-of al front u more

pub corrections-end : (front : List ℤ) → corrections (front ++ pos 0 ∷ []) ≡ corrections front
unfolding corrections
corrections-end [] = refl
corrections-end (v ∷ front) = search (rules, unsigned_abs, corrections-end front)

pub none-end : (front : List ℤ) → NoneNew front → NoneNew (front ++ pos 0 ∷ [])
unfolding NoneNew
none-end [] h = ((λ e. absurd (omega arith)), tt)
none-end (v ∷ front) h = (h.0, none-end front h.1)

pub range-end : (al : ℕ) (front more : List ℤ) → AllByRecursion (InRange al) (front ++ more)
    → AllByRecursion (InRange al) (front ++ pos 0 ∷ [])
range-end al [] more h = search (rules, zero-mul)
range-end al (v ∷ front) more h = (h.0, range-end al front more h.1)

pub with_last-end : (x y : ℤ) (xs : List ℤ) → with_last x (xs ++ y ∷ []) ≡ xs ++ x ∷ []
unfolding with_last
with_last-end x y xs =
    ap (λ (i : ℕ). set (xs ++ y ∷ []) i x) (omega (arith, length-append xs (y ∷ []))) ∙ set-append_seam xs y [] x

-- the coefficients of a piece, with their corrections
pub takes-front : (al : ℕ) (front : List ℤ) (u : ℤ) (more : List ℤ) → kept al u ≡ pos 0
    → NoneNew front → AllByRecursion (InRange al) (front ++ u ∷ more)
    → ReadsJust (corrected al (take (suc (length front)) (map (kept al) (front ++ u ∷ more))))
    (corrections front) (map (scaled al) (front ++ pos 0 ∷ []))
takes-front al front u more z none range =
    rw (front-of al front u more z) (takes-as _ _ _ _ _ (corrections-end front) refl
    (takes-corrected al (front ++ pos 0 ∷ []) (none-end front none) (range-end al front (u ∷ more) range)))

pub map-scaled : (al : ℕ) (front more : List ℤ)
    → map (scaled al) (front ++ more) ≡ map (scaled al) front ++ map (scaled al) more
map-scaled al [] more = refl
map-scaled al (v ∷ front) more = ap (λ (l : List ℤ). scaled al v ∷ l) (map-scaled al front more)

pub new-scaled : (al : ℕ) (u : ℤ) → unsigned_abs u ≡ 1 → new_number al (sign_bit u) ≡ scaled al u
new-scaled al u h1 = grind (arith, nat_tests, one-mul)

sign-small : (u : ℤ) → sign_bit u < 2
sign-small (pos n) = omega arith
sign-small (negsuc n) = omega arith

pub piece-found : (al r : ℕ) (others : List ℤ → Reads Band) (front : List ℤ) (u : ℤ) (more : List ℤ)
    (bits : List Bool) (run : ℕ)
    → NoneNew front → count_unknown front ≡ r → unsigned_abs u ≡ 1 → AllByRecursion (InRange al) (front ++ u ∷ more)
    → ReadsJust (others (map (kept al) more)) bits (map (scaled al) more, run)
    → ReadsJust (refined_piece al others (map (kept al) (front ++ u ∷ more)) r 1)
    (bit (sign_bit u) ∷ (corrections front ++ bits)) (map (scaled al) (front ++ u ∷ more), run)
unfolding refined_piece
piece-found al r others front u more bits run none count new range w =
    let z = kept-new al u new in
    let rest = map (kept al) (front ++ u ∷ more) in
    let n : through_zero r rest ≡ suc (length front) = grind (arith, through) in
    let result : with_last (new_number al (sign_bit u)) (map (scaled al) (front ++ pos 0 ∷ [])) ++ map
    (scaled al) more ≡ map (scaled al) (front ++ u ∷ more)
    = search (rules, scaled, map-scaled, with_last-end, append_assoc, one-mul, neg_ℤ) in
    let back = rw (sym (back-of al front u more)) at w in
    let step = λ (k : ℕ). bits_from 1 >>= (λ sign. corrected al (take k rest) >>= (λ f.
    others (drop k rest) >>= (λ m. gives (before_more (with_last (new_number al sign) f) m)))) in
    rw n (takes-as _ _ _ _ _ refl (ap (λ (l : List ℤ). (l, run)) result)
    (takes-bind (bits_from 1) _ (bit (sign_bit u) ∷ []) (corrections front ++ bits) (sign_bit u) _
    (takes-bit (sign_bit u) (sign-small u))
    (takes-bind (corrected al (take (suc (length front)) rest)) _ (corrections front) bits
    (map (scaled al) (front ++ pos 0 ∷ [])) _
    (takes-front al front u more z none range)
    (search (rules, takes-map, scaled)))))

pub piece-passed : (al : ℕ) (others : List ℤ → Reads Band) (front more : List ℤ) (bits : List Bool) (run : ℕ)
    → NoneNew front → count_unknown front ≡ 15 → AllByRecursion (InRange al) (front ++ pos 0 ∷ more)
    → ReadsJust (others (map (kept al) more)) bits (map (scaled al) more, run)
    → ReadsJust (refined_piece al others (map (kept al) (front ++ pos 0 ∷ more)) 15 0) (corrections
    front ++ bits)
    (map (scaled al) (front ++ pos 0 ∷ more), run)
unfolding refined_piece
piece-passed al others front more bits run none count range w =
    grind (arith, through, map-scaled, append_assoc, back-of, takes-bind, takes-front)

pub piece-none_left : (al r e : ℕ) (others : List ℤ → Reads Band) (us : List ℤ) → r ≤ 14 → e < 2 ^ r → NoneNew us
    → AllByRecursion (InRange al) us
    → ReadsJust (refined_piece al others (map (kept al) us) r 0) (low_bits r e ++ corrections us)
    (map (scaled al) us, 2 ^ r - 1 + e)
unfolding refined_piece
piece-none_left al r e others us h f none range =
    let no : eqb r 15 ≡ false = grind (arith, nat_tests) in
    rw (no, refined_piece)
    (takes-bind (bits_from r) (λ k. corrected al (map (kept al) us) >>= (λ all. gives (
      all,
      2 ^ r -
          1 + k,
    )))
    (low_bits r e) (corrections us) e _ (takes-number r e f)
    (grind (arith, scaled al, takes-corrected al us none range)))

-- ---- bands

pub refined-token : (table : Table) (al m r s : ℕ) (z : ℤ) (zs : List ℤ) (code bits : List Bool) (x : Band)
    → IsGood table → IsCoded table (16 * r + s) code → s ≤ 15
    → ReadsJust (refined_piece al (refined_ac table al m) (z ∷ zs) r s) bits x
    → ReadsJust (refined_ac table al (suc m) (z ∷ zs)) (code ++ bits) x
unfolding refined_ac
refined-token table al m r s z zs code bits x good coded small piece =
    let symbol = slice_index table.symbols coded.index in
    let high : symbol / 16 ≡ r = omega (arith, coded.is_for) in
    let low : symbol % 16 ≡ s = omega (arith, coded.is_for) in
    let token = λ (c : ℕ). refined_piece al (refined_ac table al m) (z ∷ zs) (c / 16) (c % 16) in
    let body : ReadsJust (token symbol) bits x = rw (high, low) piece in
    takes-as _ (code_bits table coded.index ++ bits) (code ++ bits) x x
    (ap (λ (b : List Bool). b ++ bits) coded.has_bits) refl
    (search (rules, takes-bind, takes-symbol))

-- the same over a list that isn't empty, with room for its length
pub refined-step : (table : Table) (al n r s : ℕ) (numbers : List ℤ) (code bits : List Bool)
    (x : Band) → IsGood table → IsCoded table (16 * r + s) code → s ≤ 15 → 0 < length numbers
    → length numbers ≤ n → ((m : ℕ) → suc m ≡ n → ReadsJust (refined_piece al (refined_ac table al
    m) numbers r s) bits x) → ReadsJust (refined_ac table al n numbers) (code ++ bits) x
refined-step table al (suc m) r s (z ∷ zs) code bits x good coded small some room piece = search (rules, refined-token)
refined-step table al n r s numbers code bits x good coded small some room piece = search rules

pub range-after : (P : ℤ → Type 0) (front more : List ℤ) → AllByRecursion P (front ++ more) → AllByRecursion P more
range-after P [] more h = h
range-after P (v ∷ front) more h = range-after P front more h.1

-- how many coefficients a band has whose front ends with one more
pub numbers-of : (al : ℕ) (front : List ℤ) (u : ℤ) (more : List ℤ)
    → length (map (kept al) (front ++ u ∷ more)) ≡ suc (length front + length (map (kept al) more))
numbers-of al [] u more = omega arith
numbers-of al (v ∷ front) u more = let e = numbers-of al front u more in omega arith

-- A refinement that was written is read as its numbers times 2 ^ al, from what is kept before it,
-- and as the run after it.
pub takes-refinement : (table : Table) (al : ℕ) (band : List ℤ) (bits : List Bool) (run : ℕ) → IsGood table
    → AllByRecursion (InRange al) band
    → WritesRefinement table band bits run → (n : ℕ) → length (map (kept al) band) ≤ n
    → ReadsJust (refined_ac table al n (map (kept al) band)) bits (map (scaled al) band, run)
unfolding refined_ac
takes-refinement table al band bits run good range refined n room = takes-gives ([], 0)
takes-refinement table al band bits run good range
    (found r front u code more bits' run' h none count new coded w) n room =
    let size = numbers-of al front u more in
    refined-step table al n r 1 (map (kept al) (front ++ u ∷ more)) code _ _ good coded (omega
    arith) (omega arith) room
    (λ m e. piece-found al r (refined_ac table al m) front u more bits' run' none count new range
    (takes-refinement table al more bits' run' good
    (range-after (InRange al) (front ++ u ∷ []) more
    (subst (AllByRecursion (InRange al)) (sym (append_assoc front (u ∷ []) more)) range)) w m (omega arith)))
takes-refinement table al band bits run good range (passed front code more bits' run' none count coded w) n room =
    let size = numbers-of al front (pos 0) more in
    refined-step table al n 15 0 (map (kept al) (front ++ pos 0 ∷ more)) code _ _ good coded (omega
    arith)
    (omega arith) room
    (λ m e. piece-passed al (refined_ac table al m) front more bits' run' none count range
    (takes-refinement table al more bits' run' good
    (range-after (InRange al) (front ++ pos 0 ∷ []) more
    (subst (AllByRecursion (InRange al)) (sym (append_assoc front (pos 0 ∷ []) more)) range)) w m (omega arith)))
takes-refinement table al band bits run good range (none_left r e u others code h f none coded) n room =
    refined-step table al n r 0 (map (kept al) (u ∷ others)) code _ _ good coded (omega arith)
    (omega arith) room
    (λ m q. piece-none_left al r e (refined_ac table al m) (u ∷ others) h f none range)

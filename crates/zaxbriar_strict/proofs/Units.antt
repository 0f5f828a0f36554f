-- MCUs of a scan that follow one another, and the ways in which their blocks are coded.
use Rattle.std.proofs.Common.{◌≡◌, ℕ, zero, suc, ◌+◌, ◌*◌, List, [], ◌∷◌, ◌++◌, length, refl, sym, ap, ◌∙◌}
use Rattle.std.proofs.Common.{arith, append_assoc, append-nil, length-append}
use Rattle.std.proofs.Math.Nat.{add-mul, zero-mul}
use Rattle.std.specs.Prelude.{zip}
use Rattle.jpeg_bits.specs.Passes.{Block, Via}
use Rattle.zaxbriar_strict.specs.Runs.{repeated}

-- ---- blocks beside their ways

pub zip-length : (ways : List Via) (blocks : List Block) → length blocks ≡ length ways
    → length (zip ways blocks) ≡ length ways
zip-length [] blocks e = refl
zip-length (w ∷ ways) [] e = absurd (omega arith)
zip-length (w ∷ ways) (b ∷ blocks) e = ap suc (zip-length ways blocks (omega arith))

pub zip-append : (u v : List Via) (xs ys : List Block) → length xs ≡ length u
    → zip (u ++ v) (xs ++ ys) ≡ zip u xs ++ zip v ys
zip-append [] v [] ys e = refl
zip-append [] v (x ∷ xs) ys e = absurd (omega arith)
zip-append (w ∷ u) v [] ys e = absurd (omega arith)
zip-append (w ∷ u) v (x ∷ xs) ys e =
    let turn : Via × Block = (w, x) in
    ap (λ (l : List (Via × Block)). turn ∷ l) (zip-append u v xs ys (omega arith))

-- ---- MCUs

pub repeated-one : (unit : List Via) → repeated 1 unit ≡ unit
unfolding repeated
repeated-one unit = append-nil unit

pub repeated-append : (m n : ℕ) (unit : List Via) → repeated (m + n) unit ≡ repeated m unit ++ repeated n unit
unfolding repeated
repeated-append zero n unit =
    let e : zero + n ≡ n = omega arith in
    ap (λ (k : ℕ). repeated k unit) e
repeated-append (suc m) n unit =
    let e : suc m + n ≡ suc (m + n) = omega arith in
    ap (λ (k : ℕ). repeated k unit) e ∙ ap (λ (l : List Via). unit ++ l) (repeated-append m n unit)
    ∙ sym (append_assoc unit (repeated m unit) (repeated n unit))

pub length-repeated : (n : ℕ) (unit : List Via) → length (repeated n unit) ≡ n * length unit
unfolding repeated
length-repeated zero unit = sym (zero-mul (length unit))
length-repeated (suc n) unit =
    omega (arith, length-append unit (repeated n unit), length-repeated n unit, add-mul n 1 (length unit))

-- blocks of MCUs, and of others after them
pub units-append : (m n : ℕ) (unit : List Via) (xs ys : List Block) → length xs ≡ length (repeated m unit)
    → zip (repeated (m + n) unit) (xs ++ ys) ≡ zip (repeated m unit) xs ++ zip (repeated n unit) ys
units-append m n unit xs ys e =
    ap (λ (l : List Via). zip l (xs ++ ys)) (repeated-append m n unit)
    ∙ zip-append (repeated m unit) (repeated n unit) xs ys e

pub units-length : {A : Type 0} (m n : ℕ) (unit : List Via) (xs ys : List A) → length xs ≡ length (repeated m unit)
    → length ys ≡ length (repeated n unit) → length (xs ++ ys) ≡ length (repeated (m + n) unit)
units-length m n unit xs ys e f =
    let l = length-append xs ys in
    let k = length-append (repeated m unit) (repeated n unit) in
    let a = ap length (repeated-append m n unit) in
    omega (arith, l, k, a, e, f)

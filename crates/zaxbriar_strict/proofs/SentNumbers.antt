-- Numbers at a level, and the bits that a refinement sends of them.
use Rattle.std.proofs.Common.{◌≡◌, ◌≢◌, ℕ, zero, suc, ◌+◌, ◌-◌, ◌*◌, ◌/◌, ◌%◌, ◌^◌, ◌<◌, ◌≤◌, Bool, true}
use Rattle.std.proofs.Common.{false, List, []}
use Rattle.std.proofs.Common.{◌∷◌, refl, sym, ap, ◌∙◌, subst, arith, ℤ, pos, negsuc, neg_ℤ, ◌+ℤ◌, ◌-ℤ◌}
use Rattle.std.proofs.Common.{◌*ℤ◌, ◌≤ℤ◌, ◌<ℤ◌}
use Rattle.std.proofs.Common.{set, drop, unsigned_abs, pow_pos, pow-add, pow-suc, le_refl}
use Rattle.std.proofs.lemmas.Bool.{le-leb}
use Rattle.std.proofs.lemmas.Int.{ints}
use Rattle.std.specs.Int.Signed.{lt_z, lt_z_no, lt_z_yes}
use Rattle.std.proofs.Math.Nat.{add-mul, mul-le-mul, mul-le-mul_left, lt_of_mul-lt-mul_right, one-mul, zero-mul}
use Rattle.std.proofs.Math.Pow.{pow_mono}
use Rattle.jpeg_bits.specs.Written.{bit, low_bits}
use Rattle.jpeg_bits.specs.Codes.{Table}
use Rattle.jpeg_bits.specs.Passes.{Pass}
use Rattle.jpeg_bits.specs.BlockView.{dc_in}
use Rattle.jpeg_meaning.specs.Levels.{floor_at}
use Rattle.jpeg_meaning.specs.WrittenData.{WritesDc, WritesDifference, corrections, is_old, low_bit, sign_bit}
use Rattle.jpeg_meaning.specs.WrittenData.WritesDc.{one_bit, whole}
use Rattle.jpeg_meaning.proofs.Written.WrittenRefinements.{corrections-old, neg-times, spread, times-two_power}
use Rattle.jpeg_meaning.proofs.Written.WrittenBands.{abs-scaled}
use Rattle.zaxbriar_strict.specs.BandCodes.{CorrectsOne, ReadsNew}
use Rattle.zaxbriar_strict.specs.Bands.{IsInner}
use Rattle.zaxbriar_strict.specs.Data.{Data, Reads, Takes}
use Rattle.zaxbriar_strict.specs.Sent.{ReadsSentDc}
use Rattle.zaxbriar_strict.proofs.Bands.{bounded}

-- ---- bits

pub one-low : (n : ℕ) → n < 2 → low_bits 1 n ≡ bit n ∷ []
unfolding low_bits
one-low n h = let e : n / 2 ^ 0 % 2 ≡ n = omega arith in ap (λ (k : ℕ). bit k ∷ []) e

-- ---- range

pub grows : (n k : ℕ) → 0 < k → n ≤ n * k
grows n k h = let e : n * 1 ≤ n * k = mul-le-mul_left n h in omega arith

-- a multiple of a number that is inner is one of an inner number
pub inner-number : (al : ℕ) (u : ℤ) → IsInner (u *ℤ pos (2 ^ al)) → IsInner u
inner-number al (pos n) i =
    let g = grows n (2 ^ al) (pow_pos al) in
    let h : n * 2 ^ al ≤ 32766 = (let q = i.high in omega (arith, ints, q)) in
    record { low = omega (arith, ints); high = omega (arith, ints, g, h) }
inner-number al (negsuc n) i =
    let g = grows (suc n) (2 ^ al) (pow_pos al) in
    let e = neg-times (suc n) (2 ^ al) in
    let h : suc n * 2 ^ al ≤ 32767 = (let q = i.low in omega (arith, ints, q, e)) in
    record { low = omega (arith, ints, g, h); high = omega (arith, ints) }

-- a multiple of 2 ^ (al + 1) of 16 bits leaves room for 2 ^ al
pub room : (al m : ℕ) → al ≤ 13 → m * 2 ^ suc al ≤ 32767 → m * 2 ^ suc al + 2 ^ al ≤ 32767
room al m low h =
    let k = 14 - al in
    let size : 2 ^ k * 2 ^ suc al ≡ 32768 = sym (pow-add 2 k (suc al)) ∙ ap (λ (n : ℕ). 2 ^ n)
    (let e : k + suc al ≡ 15 = omega arith in e) in
    let few : m < 2 ^ k = lt_of_mul-lt-mul_right (2 ^ suc al) (omega (arith, h, size)) in
    let most : suc m * 2 ^ suc al ≤ 2 ^ k * 2 ^ suc al = mul-le-mul few (le_refl (2 ^ suc al)) in
    let next = add-mul 1 m (2 ^ suc al) in
    let one = one-mul (2 ^ suc al) in
    let double = pow-suc 2 al in
    let some = pow_pos al in
    omega (arith, size, most, next, one, double, some)

-- ---- DC in a refinement

-- a number of the level above, with its bit
pub pushed : ℤ → ℕ → ℤ
pushed (pos n) b = pos (2 * n + b)
pushed (negsuc n) b = negsuc (2 * n + (1 - b))

pub pushed-half : (v : ℤ) (b : ℕ) → b < 2 → floor_at 1 (pushed v b) ≡ v
unfolding pushed
pushed-half (pos n) b h = ap (λ (k : ℕ). pos k) (omega arith)
pushed-half (negsuc n) b h = ap (λ (k : ℕ). negsuc k) (omega arith)

pub pushed-low : (v : ℤ) (b : ℕ) → b < 2 → low_bit (pushed v b) ≡ b
unfolding pushed
pushed-low (pos n) b h = omega arith
pushed-low (negsuc n) b h = omega arith

pub pushed-sum : (al b : ℕ) (v : ℤ) → b < 2 → pushed v b *ℤ pos (2 ^ al) ≡ v *ℤ pos (2 ^ suc al) +ℤ pos (b * 2 ^ al)
unfolding pushed
pushed-sum al b (pos n) h =
    let s = spread n b (2 ^ al) in
    let t = times-two_power n al in
    omega (arith, ints, s, t)
pushed-sum al zero (negsuc n) h =
    let s = spread n 2 (2 ^ al) in
    let t = times-two_power (suc n) al in
    let n1 = neg-times (suc (2 * n + 1)) (2 ^ al) in
    let n2 = neg-times (suc n) (2 ^ suc al) in
    let d = add-mul 1 n (2 ^ al) in
    let o = one-mul (2 ^ al) in
    let z = zero-mul (2 ^ al) in
    let w = add-mul 1 1 (2 ^ al) in
    omega (arith, ints, s, t, n1, n2, d, o, z, w)
pushed-sum al (suc zero) (negsuc n) h =
    let s = spread n 1 (2 ^ al) in
    let t = times-two_power (suc n) al in
    let n1 = neg-times (suc (2 * n + 0)) (2 ^ al) in
    let n2 = neg-times (suc n) (2 ^ suc al) in
    let d = add-mul 1 n (2 ^ al) in
    let o = one-mul (2 ^ al) in
    omega (arith, ints, s, t, n1, n2, d, o)
pushed-sum al b (negsuc n) h = absurd (omega arith)

-- ---- AC in a refinement

pub corrections-one : (u : ℤ) (b : ℕ) → is_old u ≡ true → unsigned_abs u % 2 ≡ b → corrections (u ∷ []) ≡ bit b ∷ []
unfolding corrections
corrections-one u b o e = corrections-old u [] o ∙ ap (λ (k : ℕ). bit k ∷ []) e

-- a positive coefficient with its correction bit, and a negative one
pub corrects-positive : (al b : ℕ) (kept old new : ℤ) {from to : Data} → b < 2 → old ≡ kept *ℤ pos (2 ^ suc al)
    → pos 0 <ℤ old → new ≡ old +ℤ pos (b * 2 ^ al) → Takes (bit b ∷ []) from to → CorrectsOne al kept new from to
corrects-positive al b (negsuc m) old new small is some e t =
    let n = neg-times (suc m) (2 ^ suc al) in absurd (omega (arith, ints, n))
corrects-positive al b (pos zero) old new small is some e t =
    let z = zero-mul (2 ^ suc al) in absurd (omega (arith, ints, z))
corrects-positive al b (pos (suc m)) old new {from} {to} small is some e t =
    let n = 2 * suc m + b in
    let s = spread (suc m) b (2 ^ al) in
    let d = times-two_power (suc m) al in
    let o : is_old (pos n) ≡ true = le-leb 2 n (omega arith) in
    record {
      number = pos n;
      was = ap (λ (k : ℕ). pos k) (omega arith);
      is_old = o;
      are = omega (arith, ints, e, is, s, d);
      read = subst (λ (l : List Bool). Takes l from to) (sym (corrections-one (pos n) b o (omega arith))) t;
    }

pub corrects-negative : (al b : ℕ) (kept old new : ℤ) {from to : Data} → b < 2 → old ≡ kept *ℤ pos (2 ^ suc al)
    → old <ℤ pos 0 → new ≡ old -ℤ pos (b * 2 ^ al) → Takes (bit b ∷ []) from to → CorrectsOne al kept new from to
corrects-negative al b (pos m) old new small is some e t = absurd (omega (arith, ints))
corrects-negative al b (negsuc m) old new {from} {to} small is some e t =
    let n = 2 * m + b + 1 in
    let s = spread (suc m) b (2 ^ al) in
    let d = times-two_power (suc m) al in
    let n1 = neg-times (suc n) (2 ^ al) in
    let n2 = neg-times (suc m) (2 ^ suc al) in
    let same : suc n ≡ 2 * suc m + b = omega arith in
    let p : suc n * 2 ^ al ≡ (2 * suc m + b) * 2 ^ al = ap (λ (k : ℕ). k * 2 ^ al) same in
    let o : is_old (negsuc n) ≡ true = le-leb 2 (suc n) (omega arith) in
    let half : suc n / 2 ≡ suc m = omega arith in
    record {
      number = negsuc n;
      was = ap (λ (k : ℕ). neg_ℤ (pos k)) half;
      is_old = o;
      are = omega (arith, ints, e, is, s, d, n1, n2, p);
      read = subst (λ (l : List Bool). Takes l from to) (sym (corrections-one (negsuc n) b o (omega arith))) t;
    }

-- ---- as they are tested and placed

pub above-zero : (x : ℤ) → lt_z (pos 0) x ≡ true → pos 0 <ℤ x
above-zero x e = lt_z_yes (rw e tt)

pub up-to-zero : (x : ℤ) → lt_z (pos 0) x ≡ false → x ≤ℤ pos 0
up-to-zero x e = lt_z_no (rw e tt)

-- a coefficient stays where its correction bit is 0
pub corrects-same : (al : ℕ) (kept old new : ℤ) {from to : Data} → old ≡ kept *ℤ pos (2 ^ suc al) → old ≢ pos 0
    → new ≡ old → Takes (false ∷ []) from to → CorrectsOne al kept new from to
corrects-same al (pos m) old new is some e t =
    let z = zero-mul (2 ^ al) in
    let above : pos 0 <ℤ old = positive old (m * 2 ^ suc al) is some in
    corrects-positive al 0 (pos m) old new (omega arith) is above (omega (arith, ints, e, z)) t
  where
    positive : (x : ℤ) (n : ℕ) → x ≡ pos n → x ≢ pos 0 → pos 0 <ℤ x
    positive x zero e h = absurd (h e)
    positive x (suc n) e h = omega (arith, ints, e)
corrects-same al (negsuc m) old new is some e t =
    let z = zero-mul (2 ^ al) in
    let n = neg-times (suc m) (2 ^ suc al) in
    let g = grows-by (2 ^ suc al) m (pow_pos (suc al)) in
    let below : old <ℤ pos 0 = omega (arith, ints, is, n, g) in
    corrects-negative al 0 (negsuc m) old new (omega arith) is below (omega (arith, ints, e, z)) t
  where
    grows-by : (k m : ℕ) → 0 < k → 0 < suc m * k
    grows-by k m h = let e = add-mul 1 m k in let o = one-mul k in omega (arith, e, o, h)

pub two-powers : (al : ℕ) → al ≤ 13 → 2 ^ al ≤ 8192
two-powers al low = let m : 2 ^ al ≤ 2 ^ 13 = pow_mono low in omega (arith, m)

pub room-above : (al : ℕ) (kept x : ℤ) → al ≤ 13 → x ≡ kept *ℤ pos (2 ^ suc al) → x ≤ℤ pos 32767 → pos 0 <ℤ x
    → (negsuc 32767 ≤ℤ (x +ℤ pos (2 ^ al))) × ((x +ℤ pos (2 ^ al)) ≤ℤ pos 32767)
room-above al (pos m) x low is high above =
    let h : m * 2 ^ suc al ≤ 32767 = omega (arith, ints, is, high) in
    let r = room al m low h in
    (omega (arith, ints, is, r), omega (arith, ints, is, r))
room-above al (negsuc m) x low is high above =
    let n = neg-times (suc m) (2 ^ suc al) in absurd (omega (arith, ints, is, n, above))

pub room-below : (al : ℕ) (kept x : ℤ) → al ≤ 13 → x ≡ kept *ℤ pos (2 ^ suc al) → negsuc 32766 ≤ℤ x → x ≤ℤ pos 0
    → (negsuc 32767 ≤ℤ (x -ℤ pos (2 ^ al))) × ((x -ℤ pos (2 ^ al)) ≤ℤ pos 32767)
room-below al (pos m) x low is least below =
    let t = two-powers al low in
    (omega (arith, ints, is, t, below), omega (arith, ints, is, t, below))
room-below al (negsuc m) x low is least below =
    let n = neg-times (suc m) (2 ^ suc al) in
    let h : suc m * 2 ^ suc al ≤ 32767 = omega (arith, ints, is, n, least) in
    let r = room al (suc m) low h in
    (omega (arith, ints, is, n, r), omega (arith, ints, is, n, r))

-- the sum of a number of 16 bits that has no lower bits, and its next bit
pub room-dc : (al : ℕ) (kept x : ℤ) → al ≤ 13 → x ≡ kept *ℤ pos (2 ^ suc al) → negsuc 32767 ≤ℤ x → x ≤ℤ pos 32767
    → (negsuc 32767 ≤ℤ (x +ℤ pos (2 ^ al))) × ((x +ℤ pos (2 ^ al)) ≤ℤ pos 32767)
room-dc al (pos m) x low is least high =
    let h : m * 2 ^ suc al ≤ 32767 = omega (arith, ints, is, high) in
    let r = room al m low h in
    (omega (arith, ints, is, r), omega (arith, ints, is, r))
room-dc al (negsuc m) x low is least high =
    let n = neg-times (suc m) (2 ^ suc al) in
    let t = two-powers al low in
    (omega (arith, ints, is, n, least), omega (arith, ints, is, n, t))

-- a new coefficient has this magnitude
pub unit-bounded : (al : ℕ) (s : ℤ) → al ≤ 13 → unsigned_abs s ≡ 1
    → (negsuc 32767 ≤ℤ (s *ℤ pos (2 ^ al))) × ((s *ℤ pos (2 ^ al)) ≤ℤ pos 32767)
unit-bounded al s low one =
    let t = two-powers al low in
    let a : unsigned_abs (s *ℤ pos (2 ^ al)) ≡ 1 * 2 ^ al = abs-scaled al s ∙ ap (λ (k : ℕ). k * 2 ^ al) one in
    let o = one-mul (2 ^ al) in
    bounded (s *ℤ pos (2 ^ al)) (omega (arith, t, a, o))

pub new-read : (al : ℕ) (s v : ℤ) (b : Bool) {from to : Data} → unsigned_abs s ≡ 1 → bit (sign_bit s) ≡ b
    → v ≡ s *ℤ pos (2 ^ al) → Takes (b ∷ []) from to → ReadsNew al v from to
new-read al s v b {from} {to} one is e t = record {
  number = s;
  is_new = one;
  are = e;
  read = subst (λ (k : Bool). Takes (k ∷ []) from to) (sym is) t;
}

-- ---- DC

pub dc-again : (p : Pass) (table : Table) (before : ℤ) (old new : List ℤ) (low : ℕ) (kept : ℤ) (b : ℕ) {a c : Data} → low ≡ p.al
    → b < 2 → p.ss ≡ 0 → p.is_first ≡ false → dc_in old ≡ kept *ℤ pos (2 ^ suc low)
    → dc_in new ≡ dc_in old +ℤ pos (b * 2 ^ low) → drop 1 new ≡ drop 1 old → Takes (bit b ∷ []) a c
    → ReadsSentDc p table before before old new a c
dc-again p table before old new low kept b same small s f was is others t =
    let u = pushed kept b in
    record {
      number = u;
      is = λ z. is ∙ ap (λ (x : ℤ). x +ℤ pos (b * 2 ^ low)) was ∙ sym (pushed-sum low b kept small)
          ∙ ap (λ (k : ℕ). u *ℤ pos (2 ^ k)) same;
      was = λ z g. was ∙ ap (λ (k : ℕ). kept *ℤ pos (2 ^ suc k)) same
          ∙ ap (λ (x : ℤ). x *ℤ pos (2 ^ suc p.al)) (sym (pushed-half kept b small));
      stays = λ n. absurd (n s);
      others = others;
      read = record {
        own = bit b ∷ [];
        taken = t;
        holds = subst (λ (k : ℕ). WritesDc p table u before (bit k ∷ []) before) (pushed-low kept b small) (one_bit u before s f);
      };
    }

pub dc-first-read : (p : Pass) (table : Table) (before after d : ℤ) (old new : List ℤ) (low : ℕ) {a c : Data} → low ≡ p.al
    → p.ss ≡ 0 → p.is_first ≡ true → after ≡ before +ℤ d → dc_in new ≡ after *ℤ pos (2 ^ low)
    → drop 1 new ≡ drop 1 old → Reads (WritesDifference table d) a c → ReadsSentDc p table before after old new a c
dc-first-read p table before after d old new low same s f sum is others r =
    let e : d ≡ after -ℤ before = omega (arith, ints, sum) in
    record {
      number = after;
      is = λ z. is ∙ ap (λ (k : ℕ). after *ℤ pos (2 ^ k)) same;
      was = λ z g. absurd (different (sym f ∙ g));
      stays = λ n. absurd (n s);
      others = others;
      read = record {
        own = r.own;
        taken = r.taken;
        holds = whole after before r.own s f (subst (λ (x : ℤ). WritesDifference table x r.own) e r.holds);
      };
    }
  where
    different : true ≡ false → ⊥
    different e = cc

pub drop-set : (l : List ℤ) (v : ℤ) → drop 1 (set l 0 v) ≡ drop 1 l
drop-set [] v = refl
drop-set (x ∷ l) v = refl

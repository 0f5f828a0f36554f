-- Bands that are read code by code.
use Rattle.std.proofs.Common.{◌≡◌, ◌≢◌, ℕ, zero, suc, ◌+◌, ◌-◌, ◌*◌, ◌^◌, ◌<◌, ◌≤◌, Bool, List, [], ◌∷◌, ◌++◌}
use Rattle.std.proofs.Common.{length}
use Rattle.std.proofs.Common.{set, refl, sym, ap, ◌∙◌, subst, arith, ℤ, pos, negsuc, ◌*ℤ◌, ◌≤ℤ◌, ap₂}
use Rattle.std.proofs.Common.{append_assoc, append-nil, le_refl}
use Rattle.std.proofs.Common.{length-append, unsigned_abs, pow_pos, pow-add}
use Rattle.std.proofs.lemmas.Int.{ints}
use Rattle.std.proofs.lemmas.List.{length-map, length-replicate, set_at, replicate-append-replicate}
use Rattle.std.proofs.Math.Nat.{mul-le-mul}
use Rattle.std.proofs.Math.Pow.{pow_mono}
use Rattle.jpeg_bits.specs.Codes.{Table}
use Rattle.jpeg_bits.specs.Written.{IsCategory, IsCoded, low_bits}
use Rattle.jpeg_meaning.specs.WrittenData.{WritesBand, WritesDifference, bits_for, no_numbers}
use Rattle.jpeg_meaning.specs.WrittenData.WritesBand.{full, value, sixteen, ended}
use Rattle.jpeg_meaning.proofs.Written.WrittenBands.{map-no_numbers, abs-scaled}
use Rattle.jpeg_meaning.proofs.Written.WrittenRefinements.{map-scaled}
use Rattle.zaxbriar_strict.specs.BandCodes.{ReadsCodes, ReadsRun, ReadsStep, WritesFront}
use Rattle.zaxbriar_strict.specs.Bands.{ReadsAc}
use Rattle.zaxbriar_strict.specs.Data.{Data, Reads, Takes}
use Rattle.zaxbriar_strict.specs.Sent.{scaled_by}
use Rattle.zaxbriar_strict.proofs.Taken.{takes-then}

-- ---- fronts

pub front-none : (table : Table) → WritesFront table [] []
front-none table more bits run w = w

pub front-then : (table : Table) (a b : List ℤ) (own more : List Bool) → WritesFront table a own
    → WritesFront table b more → WritesFront table (a ++ b) (own ++ more)
front-then table a b own more f g rest bits run w =
    rw (append_assoc a b rest, append_assoc own more bits) (f (b ++ rest) (more ++ bits) run (g rest bits run w))

pub front-value : (table : Table) (r s : ℕ) (u : ℤ) (code : List Bool) → r ≤ 15 → u ≢ pos 0 → IsCategory u s
    → IsCoded table (16 * r + s) code → WritesFront table (no_numbers r ++ u ∷ []) (code ++ bits_for u s)
front-value table r s u code few some category coded more bits run w =
    rw (append_assoc (no_numbers r) (u ∷ []) more)
    (value r s u code more bits run few some category coded w)

pub front-sixteen : (table : Table) (code : List Bool) → IsCoded table (16 * 15 + 0) code
    → WritesFront table (no_numbers 16) code
front-sixteen table code coded more bits run w = sixteen code more bits run coded w

-- a category above 0 has no value 0
pub category-some : (u : ℤ) (s : ℕ) → 1 ≤ s → IsCategory u s → u ≢ pos 0
category-some u s some c e =
    let z : unsigned_abs u < 2 ^ 0 = rw e (omega arith) in
    let h = c.is_least 0 z in
    absurd (omega arith)

-- ---- differences

pub no-difference : (table : Table) (code : List Bool) → IsCoded table 0 code → WritesDifference table (pos 0) code
unfolding low_bits
no-difference table code coded = record {
  s = 0;
  code = code;
  category = record { holds = omega arith; is_least = λ t h. omega arith };
  coded = coded;
  has_bits = append-nil code;
}

pub none-difference : {a b : Data} (table : Table) (s : ℕ) → s ≡ 0 → Reads (IsCoded table s) a b
    → Reads (WritesDifference table (pos 0)) a b
none-difference table s none r = record {
  own = r.own;
  taken = r.taken;
  holds = no-difference table r.own (subst (λ (k : ℕ). IsCoded table k r.own) none r.holds);
}

pub some-difference : {a b c : Data} (table : Table) (s : ℕ) (u : ℤ) → IsCategory u s → Reads (IsCoded table s) a b
    → Takes (bits_for u s) b c → Reads (WritesDifference table u) a c
some-difference table s u category r t = record {
  own = r.own ++ bits_for u s;
  taken = takes-then r.taken t;
  holds = record { s = s; code = r.own; category = category; coded = r.holds; has_bits = refl };
}

-- ---- a band from its first code on

pub zeros-scaled : (al n : ℕ) → scaled_by al (no_numbers n) ≡ no_numbers n
zeros-scaled al n =
    ap (scaled_by al) (sym (append-nil (no_numbers n))) ∙ map-no_numbers al n [] ∙ append-nil (no_numbers n)

-- no code was read yet
pub step-none : (table : Table) (al last start count : ℕ) (front tail block : List ℤ) (old : Data)
    → start + count ≡ suc last → block ≡ front ++ (no_numbers count ++ tail)
    → Takes [] old old → ReadsStep table al last start start front tail block old old
step-none table al last start count front tail block old size e t =
    let n : count ≡ suc last - start = omega arith in
    record {
      numbers = [];
      sized = omega arith;
      within = omega arith;
      are = e ∙ ap (λ (k : ℕ). front ++ (no_numbers k ++ tail)) n;
      read = record { own = []; taken = t; holds = front-none table };
    }

-- what stands before the next code
pub before-next : (al : ℕ) (front numbers : List ℤ) (start place : ℕ) → length front ≡ start
    → start + length numbers ≡ place → length (front ++ scaled_by al numbers) ≡ place
before-next al front numbers start place l s =
    omega (arith, length-append front (scaled_by al numbers), length-map numbers (λ (u : ℤ). u *ℤ pos (2 ^ al)), l, s)

pub step-then : {table : Table} {al last start place next : ℕ} {front tail block more : List ℤ} {a b c : Data}
    → (r : ReadsStep table al last start place front tail block a b)
    → ReadsStep table al last place next (front ++ scaled_by al r.numbers) tail more b c
    → ReadsStep table al last start next front tail more a c
step-then {table} {al} {last} {start} {place} {next} {front} {tail} r s = record {
  numbers = r.numbers ++ s.numbers;
  sized = (let p = r.sized in let q = s.sized in omega (arith, length-append r.numbers s.numbers, p, q));
  within = s.within;
  are = s.are ∙ append_assoc front (scaled_by al r.numbers) _
      ∙ ap (λ (l : List ℤ). front ++ l) (sym (append_assoc (scaled_by al r.numbers) (scaled_by al s.numbers) _))
      ∙ ap (λ (l : List ℤ). front ++ (l ++ (no_numbers (suc last - next) ++ tail))) (sym (map-scaled al r.numbers s.numbers));
  read = record {
    own = r.read.own ++ s.read.own;
    taken = takes-then r.read.taken s.read.taken;
    holds = front-then table r.numbers s.numbers r.read.own s.read.own r.read.holds s.read.holds;
  };
}

pub codes-all : {table : Table} {al last start place : ℕ} (count : ℕ) {front tail block : List ℤ} {a b : Data}
    → start + count ≡ suc last → ReadsStep table al last start place front tail block a b → last < place
    → ReadsCodes table al count 0 front tail block a b
codes-all {table} {al} {last} {start} {place} count {front} {tail} size r above =
    let within = r.within in
    let e : suc last - place ≡ 0 = omega arith in
    let s = r.sized in
    record {
      numbers = r.numbers;
      sized = omega arith;
      are = r.are ∙ ap (λ (n : ℕ). front ++ (scaled_by al r.numbers ++ (no_numbers n ++ tail))) e;
      read = record {
        own = r.read.own;
        taken = r.read.taken;
        holds = rw (append-nil r.numbers, append-nil r.read.own) at (r.read.holds [] [] 0 full);
      };
    }

-- the rest of a band is 0, and has a code of its own
ended-by : (table : Table) (n order run : ℕ) (code : List Bool) {a b : Data} → 1 ≤ n → order ≤ 14
    → IsCoded table (16 * order) code → (r : ReadsRun order run a b)
    → WritesBand table (no_numbers n) (code ++ low_bits order r.e) (run - 1)
ended-by table zero order run code some few coded r = absurd (omega arith)
ended-by table (suc n) order run code some few coded r =
    let p = pow_pos order in
    let h = r.are in
    let e : 2 ^ order - 1 + r.e ≡ run - 1 = omega (arith, p, h) in
    let same : 16 * order ≡ 16 * order + 0 = omega arith in
    subst (λ (k : ℕ). WritesBand table (no_numbers (suc n)) (code ++ low_bits order r.e) k) e
    (ended n order r.e code few r.below (subst (λ (k : ℕ). IsCoded table k code) same coded))

pub codes-end : {table : Table} {al last start place order run : ℕ} (count : ℕ) {front tail block : List ℤ}
    {a b c d : Data} → start + count ≡ suc last → ReadsStep table al last start place front tail block a b
    → place ≤ last → order ≤ 14 → Reads (IsCoded table (16 * order)) b c → ReadsRun order run c d
    → ReadsCodes table al count run front tail block a d
codes-end {table} {al} {last} {start} {place} {order} {run} count {front} {tail} size r within few code e =
    let s = r.sized in
    let n = suc last - place in
    let rest = no_numbers n in
    record {
      numbers = r.numbers ++ rest;
      sized = omega (arith, length-append r.numbers rest, length-replicate n (pos 0), s);
      are = r.are
          ∙ ap (λ (l : List ℤ). front ++ l) (sym (append_assoc (scaled_by al r.numbers) rest tail))
          ∙ ap (λ (l : List ℤ). front ++ ((scaled_by al r.numbers ++ l) ++ tail)) (sym (zeros-scaled al n))
          ∙ ap (λ (l : List ℤ). front ++ (l ++ tail)) (sym (map-scaled al r.numbers rest));
      read = record {
        own = r.read.own ++ (code.own ++ low_bits order e.e);
        taken = takes-then r.read.taken (takes-then code.taken e.read);
        holds = r.read.holds rest (code.own ++ low_bits order e.e) (run - 1)
            (ended-by table n order run code.own (omega arith) few code.holds e);
      };
    }

-- ---- a step

zeros-before : (front tail : List ℤ) (last place zeros : ℕ) (v : ℤ) → length front ≡ place → place + zeros ≤ last
    → set (front ++ (no_numbers (suc last - place) ++ tail)) (place + zeros) v
    ≡ front ++ ((no_numbers zeros ++ v ∷ []) ++ (no_numbers (suc last - (place + zeros + 1)) ++ tail))
zeros-before front tail last place zeros v l within =
    let n = suc last - (place + zeros + 1) in
    let rest = no_numbers n ++ tail in
    let before = front ++ no_numbers zeros in
    let e : suc last - place ≡ zeros + suc n = omega arith in
    let parts : front ++ (no_numbers (suc last - place) ++ tail) ≡ before ++ pos 0 ∷ rest =
    ap (λ (k : ℕ). front ++ (no_numbers k ++ tail)) e
    ∙ ap (λ (k : List ℤ). front ++ (k ++ tail)) (sym (replicate-append-replicate zeros (suc n) (pos 0)))
    ∙ ap (λ (k : List ℤ). front ++ k) (append_assoc (no_numbers zeros) (pos 0 ∷ no_numbers n) tail)
    ∙ sym (append_assoc front (no_numbers zeros) (pos 0 ∷ rest)) in
    let size : length before ≡ place + zeros =
    omega (arith, length-append front (no_numbers zeros), length-replicate zeros (pos 0), l) in
    ap (λ (k : List ℤ). set k (place + zeros) v) parts
    ∙ set_at before (pos 0) rest v (place + zeros) size
    ∙ append_assoc front (no_numbers zeros) (v ∷ rest)
    ∙ ap (λ (k : List ℤ). front ++ k) (sym (append_assoc (no_numbers zeros) (v ∷ []) rest))

pub step-value : (table : Table) (al last place zeros s : ℕ) (front tail block : List ℤ) (u : ℤ) {a b c : Data}
    → length front ≡ place → place + zeros ≤ last → zeros ≤ 15 → 1 ≤ s → IsCategory u s
    → block ≡ set (front ++ (no_numbers (suc last - place) ++ tail)) (place + zeros) (u *ℤ pos (2 ^ al))
    → Reads (IsCoded table (16 * zeros + s)) a b → Takes (bits_for u s) b c
    → ReadsStep table al last place (place + zeros + 1) front tail block a c
step-value table al last place zeros s front tail block u l within few some category e r t = record {
  numbers = no_numbers zeros ++ u ∷ [];
  sized = omega (arith, length-append (no_numbers zeros) (u ∷ []), length-replicate zeros (pos 0));
  within = omega arith;
  are = e ∙ zeros-before front tail last place zeros (u *ℤ pos (2 ^ al)) l within
      ∙ ap (λ (k : List ℤ). front ++ (k ++ (no_numbers (suc last - (place + zeros + 1)) ++ tail)))
      (sym (map-no_numbers al zeros (u ∷ [])));
  read = record {
    own = r.own ++ bits_for u s;
    taken = takes-then r.taken t;
    holds = front-value table zeros s u r.own few (category-some u s some category) category r.holds;
  };
}

pub step-sixteen : (table : Table) (al last place : ℕ) (front tail block : List ℤ) {a b : Data}
    → length front ≡ place → place + 15 ≤ last → block ≡ front ++ (no_numbers (suc last - place) ++ tail)
    → Reads (IsCoded table (16 * 15 + 0)) a b → ReadsStep table al last place (place + 15 + 1) front tail block a b
step-sixteen table al last place front tail block l within e r =
    let n = suc last - (place + 15 + 1) in
    let p : suc last - place ≡ 16 + n = omega arith in
    record {
      numbers = no_numbers 16;
      sized = omega arith;
      within = omega arith;
      are = e ∙ ap (λ (k : ℕ). front ++ (no_numbers k ++ tail)) p
          ∙ ap (λ (k : List ℤ). front ++ (k ++ tail)) (sym (replicate-append-replicate 16 n (pos 0)))
          ∙ ap (λ (k : List ℤ). front ++ k) (append_assoc (no_numbers 16) (no_numbers n) tail)
          ∙ ap (λ (k : List ℤ). front ++ (k ++ (no_numbers n ++ tail))) (sym (zeros-scaled al 16));
      read = record { own = r.own; taken = r.taken; holds = front-sixteen table r.own r.holds };
    }

-- a value of a category fits at a level where both together are at most 14
pub value-fits : (u : ℤ) (s al : ℕ) → IsCategory u s → s + al ≤ 14 → unsigned_abs (u *ℤ pos (2 ^ al)) ≤ 32766
value-fits u s al c few =
    let p : unsigned_abs u * 2 ^ al ≤ 2 ^ s * 2 ^ al = mul-le-mul (let h = c.holds in omega (arith, h)) (le_refl (2 ^ al)) in
    let m : 2 ^ (s + al) ≤ 2 ^ 14 = pow_mono few in
    omega (arith, p, m, pow-add 2 s al, abs-scaled al u)

pub sixteen-step : (table : Table) (al last place many symbol : ℕ) (front tail block : List ℤ) {a b : Data}
    → many ≡ 15 → symbol ≡ 240 → length front ≡ place → place + many ≤ last
    → block ≡ front ++ (no_numbers (suc last - place) ++ tail) → Reads (IsCoded table symbol) a b
    → ReadsStep table al last place (place + many + 1) front tail block a b
sixteen-step table al last place many symbol front tail block {a} {b} z s l within e r =
    subst (λ (k : ℕ). ReadsStep table al last place (place + k + 1) front tail block a b) (sym z)
    (step-sixteen table al last place front tail block l (omega arith) e
    (subst (λ (k : ℕ). Reads (IsCoded table k) a b) s r))

-- the end of one band alone has no bits after its code
pub run-one : (order : ℕ) (d : Data) → order ≡ 0 → Takes [] d d → ReadsRun order 1 d d
unfolding low_bits
run-one zero d e t = record { e = 0; below = omega arith; are = omega arith; read = t }
run-one (suc order) d e t = absurd (omega arith)

pub bounded : (z : ℤ) → unsigned_abs z ≤ 32766 → (negsuc 32767 ≤ℤ z) × (z ≤ℤ pos 32767)
bounded z h = (omega (arith, ints, h), omega (arith, ints, h))

-- all AC coefficients of a block
pub whole-codes : {table : Table} {al run : ℕ} {dc : ℤ} {block : List ℤ} {a b : Data} → al ≡ 0 → run ≤ 1
    → ReadsCodes table al 63 run (dc ∷ []) [] block a b → ReadsAc table dc block a b
whole-codes {table} {al} {run} {dc} none few r =
    let e : run - 1 ≡ 0 = omega (arith, few) in
    record {
      numbers = r.numbers;
      sized = r.sized;
      are = r.are ∙ ap (λ (l : List ℤ). dc ∷ l) (append-nil (scaled_by al r.numbers) ∙ ap (λ (k : ℕ). scaled_by k r.numbers) none
          ∙ unscaled r.numbers);
      read = record {
        own = r.read.own;
        taken = r.read.taken;
        holds = subst (λ (k : ℕ). WritesBand table r.numbers r.read.own k) e r.read.holds;
      };
    }
  where
    one : (u : ℤ) → u *ℤ pos (2 ^ 0) ≡ u
    one u = omega (arith, ints)

    unscaled : (l : List ℤ) → scaled_by 0 l ≡ l
    unscaled [] = refl
    unscaled (u ∷ l) = ap₂ (λ (x : ℤ) (k : List ℤ). x ∷ k) (one u) (unscaled l)

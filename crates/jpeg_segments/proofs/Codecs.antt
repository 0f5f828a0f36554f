-- What is written, and what reads it: the two directions at once.
use Rattle.std.proofs.lemmas.Bool.Decides.{nat_tests}
use Rattle.std.proofs.Common.{◌≡◌, ℕ, zero, suc, ◌<◌, ◌≤◌, ◌+◌, ◌-◌, Bool, true, false, cond, List, [], ◌∷◌, ◌++◌}
use Rattle.std.proofs.Common.{length, Option, Some, None, Result, Ok, Err, refl, sym, ap, ◌∙◌, subst, append_assoc}
use Rattle.std.proofs.Common.{append-nil, arith, ltb, rules}
use Rattle.std.proofs.lemmas.Bool.{ltb-false, le-ltb}
use Rattle.std.specs.Prelude.{flat_map}
use Rattle.std.specs.List.{AllByRecursion}
use Rattle.jpeg_bits.specs.Reading.{Outcome, Fault, Malformed, ◌>>=◌, next_byte, next_u16, length_at, times}
use Rattle.jpeg_segments.specs.Checks.{check, needed}
use Rattle.jpeg_segments.specs.WrittenSegments.{u16_bytes, with_length}
use Rattle.jpeg_segments.proofs.Fields.{read-on, u16-read}
use Rattle.std.proofs.lemmas.Grind.{common_steps}

-- ---- steps of a reader that accepts

pub err-ok : {C : Type 0} (x : Fault) (r : C) → ◌≡◌ {A = Result C Fault} (Err x) (Ok r) → ⊥
err-ok x r e = cc

pub ok-same : {C : Type 0} (x r : C) → ◌≡◌ {A = Result C Fault} (Ok x) (Ok r) → x ≡ r
ok-same x r e = cc

-- what a step gave, and the rest
pub bind-ok : {A B : Type 0} (o : Result A Fault) (f : A → Result B Fault) (y : B) → (o >>= f) ≡ Ok y
    → (x : A) × (o ≡ Ok x) × (f x ≡ Ok y)
bind-ok o f y h1 = grind (arith, common_steps, nat_tests, err-ok)

-- ---- codecs

abbrev pub AreBytes : List ℕ → Type 0
AreBytes bytes = AllByRecursion (λ b. b < 256) bytes

-- y was read of bytes that were written for a value with the meaning y
pub record Written {A C : Type 0} (view : A → C) (print : A → List ℕ) (Valid : A → Type 0)
    (bytes rest : List ℕ) (y : C) : Type 0 where
  pub value : A
  pub valid : Valid value
  pub made : y ≡ view value
  pub is : bytes ≡ print value ++ rest

-- `parse` accepts exactly what `print` writes for a valid value, and gives its meaning.
pub record Codec {A C : Type 0} (parse : List ℕ → Outcome C) (view : A → C) (print : A → List ℕ)
    (Valid : A → Type 0) : Type 0 where
  pub reads : (x : A) (rest : List ℕ) → Valid x → parse (print x ++ rest) ≡ Ok (view x, rest)
  pub only :
      (bytes rest : List ℕ) (y : C) → AreBytes bytes → parse bytes ≡ Ok (y, rest)
      → Written view print Valid bytes rest y

bytes-after : (front rest : List ℕ) → AreBytes (front ++ rest) → AreBytes rest
bytes-after [] rest all = all
bytes-after (b ∷ front) rest all = bytes-after front rest all.1

-- one after the other
pub bind : {A B C D : Type 0} {p : List ℕ → Outcome C} {view : A → C} {print : A → List ℕ}
    {Valid : A → Type 0} {view' : A → B → D} {print' : A → B → List ℕ} {Valid' : A → B → Type 0}
    (q : C → List ℕ → Outcome D) → Codec p view print Valid
    → ((a : A) → Codec (q (view a)) (view' a) (print' a) (Valid' a))
    → Codec (λ (bytes : List ℕ). p bytes >>= λ (x : C × List ℕ). q x.0 x.1)
    (λ (x : A × B). view' x.0 x.1) (λ (x : A × B). print x.0 ++ print' x.0 x.1)
    (λ (x : A × B). Valid x.0 × Valid' x.0 x.1)
bind {C = C} {p = p} {view = view} {print = print} {print' = print'} q c d = record {
  reads = λ x rest is.
      ap (λ (l : List ℕ). p l >>= λ (x : C × List ℕ). q x.0 x.1)
      (append_assoc (print x.0) (print' x.0 x.1) rest)
      ∙ read-on (p (print x.0 ++ (print' x.0 x.1 ++ rest))) (λ (x : C × List ℕ). q x.0 x.1)
      (view x.0) (print' x.0 x.1 ++ rest) _ (c.reads x.0 (print' x.0 x.1 ++ rest) is.0)
      ((d x.0).reads x.1 rest is.1);
  only = λ bytes rest y all e.
      let one = bind-ok (p bytes) (λ (x : C × List ℕ). q x.0 x.1) (y, rest) e in
      let a = c.only bytes one.0.1 one.0.0 all one.1 in
      let others = bytes-after (print a.value) one.0.1 (subst AreBytes a.is all) in
      let b = (d a.value).only one.0.1 rest y others
      (ap (λ (v : C). q v one.0.1) (sym a.made) ∙ one.2) in
      record {
        value = (a.value, b.value);
        valid = (a.valid, b.valid);
        made = b.made;
        is = a.is ∙ ap (λ (l : List ℕ). print a.value ++ l) b.is
            ∙ sym (append_assoc (print a.value) (print' a.value b.value) rest);
      };
}

-- one of two, by a test
pub choose : {A C : Type 0} {p q : List ℕ → Outcome C} {view : A → C} {print : A → List ℕ}
    {Valid : A → Type 0} (b : Bool) → (b ≡ true → Codec p view print Valid)
    → (b ≡ false → Codec q view print Valid)
    → Codec (λ (bytes : List ℕ). cond b (p bytes) (q bytes)) view print Valid
choose b h1 h2 = grind (arith, common_steps, nat_tests)

abbrev pub outcome : {C : Type 0} → C → List ℕ → Outcome C
outcome y bytes = Ok (y, bytes)

-- no bytes
pub done : {C : Type 0} (y : C)
    → Codec (outcome y) (λ (u : Unit {0}). y) (λ (u : Unit {0}). []) (λ (u : Unit {0}). Unit {0})
done y = record {
  reads = λ x rest is. refl;
  only = λ bytes rest z all e.
      let same = ok-same (y, bytes) (z, rest) e in
      record { value = tt; valid = tt; made = sym (ap (λ q. q.0) same); is = ap (λ q. q.1) same };
}

-- a value that says and prints the same
pub record As {A A' C : Type 0} (view : A → C) (print : A → List ℕ) (view' : A' → C)
    (print' : A' → List ℕ) (Valid' : A' → Type 0) (x : A) : Type 0 where
  pub value : A'
  pub valid : Valid' value
  pub made : view x ≡ view' value
  pub printed : print x ≡ print' value

pub namely : {A A' C : Type 0} {view : A → C} {print : A → List ℕ} {view' : A' → C}
    {print' : A' → List ℕ} {Valid' : A' → Type 0} {x : A} (value : A') → Valid' value
    → view x ≡ view' value → print x ≡ print' value → As view print view' print' Valid' x
namely value valid made printed = search (rules, value, valid, made, printed)

-- the same for other parameters
pub remap : {A A' C : Type 0} {p : List ℕ → Outcome C} {view : A → C} {print : A → List ℕ}
    {Valid : A → Type 0} {view' : A' → C} {print' : A' → List ℕ} {Valid' : A' → Type 0}
    → Codec p view print Valid → ((x : A) → Valid x → As view print view' print' Valid' x)
    → ((x : A') → Valid' x → As view' print' view print Valid x) → Codec p view' print' Valid'
remap {p = p} c to from = record {
  reads = λ x rest is.
      let a = from x is in
      ap (λ (l : List ℕ). p (l ++ rest)) a.printed ∙ c.reads a.value rest a.valid
      ∙ ap (λ v. Ok (v, rest)) (sym a.made);
  only = λ bytes rest y all e.
      let o = c.only bytes rest y all e in
      let a = to o.value o.valid in
      record {
        value = a.value;
        valid = a.valid;
        made = o.made ∙ a.made;
        is = o.is ∙ ap (λ (l : List ℕ). l ++ rest) a.printed;
      };
}

-- a reader that gives the same
pub same : {A C : Type 0} {p : List ℕ → Outcome C} {view : A → C} {print : A → List ℕ}
    {Valid : A → Type 0} (q : List ℕ → Outcome C) → ((bytes : List ℕ) → q bytes ≡ p bytes)
    → Codec p view print Valid → Codec q view print Valid
same {print = print} q e c = search rules

abbrev pub refusal : {C : Type 0} → Fault → List ℕ → Outcome C
refusal f bytes = Err f

-- nothing
pub refused : {A C : Type 0} {view : A → C} {print : A → List ℕ} {Valid : A → Type 0} (f : Fault)
    → ((x : A) → Valid x → ⊥) → Codec (refusal f) view print Valid
refused f none = grind (arith, common_steps, err-ok)

-- what follows takes no bytes
pub ends : {A C D : Type 0} {p : List ℕ → Outcome C} {view : A → C} {print : A → List ℕ}
    {Valid : A → Type 0} {f : A → D} {W : A → Type 0} (q : C → List ℕ → Outcome D)
    → Codec p view print Valid
    → ((a : A) → Codec (q (view a)) (λ (u : Unit {0}). f a) (λ (u : Unit {0}). [])
    (λ (u : Unit {0}). W a))
    → Codec (λ (bytes : List ℕ). p bytes >>= λ (x : C × List ℕ). q x.0 x.1) f print
    (λ (a : A). Valid a × W a)
ends {print = print} q c d = remap (bind q c d)
    (λ x is. namely x.0 is refl (append-nil (print x.0)))
    (λ x is. namely (x, tt) is refl (sym (append-nil (print x))))

-- where a rule is kept
pub check-if : {A C : Type 0} {p : List ℕ → Outcome C} {view : A → C} {print : A → List ℕ}
    {Valid : A → Type 0} (b : Bool) (f : Fault) → Codec p view print Valid
    → Codec (λ (bytes : List ℕ). cond b (p bytes) (Err f)) view print
    (λ (x : A). (b ≡ true) × Valid x)
check-if true f c = remap c (λ x is. namely x (refl, is) refl refl)
    (λ x is. namely x is.1 refl refl)
check-if false f c = refused f (λ x is. let e = is.0 in cc)

pub check-unless : {A C : Type 0} {p : List ℕ → Outcome C} {view : A → C} {print : A → List ℕ}
    {Valid : A → Type 0} (b : Bool) (f : Fault) → Codec p view print Valid
    → Codec (λ (bytes : List ℕ). cond b (Err f) (p bytes)) view print
    (λ (x : A). (b ≡ false) × Valid x)
check-unless true f c = refused f (λ x is. let e = is.0 in cc)
check-unless false f c = remap c (λ x is. namely x (refl, is) refl refl)
    (λ x is. namely x is.1 refl refl)

-- what has to hold
pub checked : {A C : Type 0} {p : List ℕ → Outcome C} {view : A → C} {print : A → List ℕ}
    {Valid : A → Type 0} (b : Bool) → Codec p view print Valid
    → Codec (λ (bytes : List ℕ). check b >>= λ (u : Unit {0}). p bytes) view print
    (λ (x : A). (b ≡ true) × Valid x)
checked true c = remap c (λ x is. namely x (refl, is) refl refl) (λ x is. namely x is.1 refl refl)
checked false c = refused Malformed (λ x is. let e = is.0 in cc)

-- what has to be there
pub present : {X A C : Type 0} {q : X → List ℕ → Outcome C} {view : X → A → C}
    {print : X → A → List ℕ} {Valid : X → A → Type 0} (o : Option X)
    → ((x : X) → Codec (q x) (view x) (print x) (Valid x))
    → Codec (λ (bytes : List ℕ). needed o >>= λ (x : X). q x bytes)
    (λ (y : X × A). view y.0 y.1) (λ (y : X × A). print y.0 y.1)
    (λ (y : X × A). (o ≡ Some y.0) × Valid y.0 y.1)
present None d = refused Malformed (λ y is. let e = is.0 in cc)
present {X} {view = view} {print = print} {Valid = Valid} (Some x) d =
    remap (d x) (λ a is. namely (x, a) (refl, is) refl refl)
    (λ y is.
    let e : y.0 ≡ x = (let g = is.0 in cc) in
    namely y.1 (subst (λ (z : X). Valid z y.1) e is.1) (ap (λ (z : X). view z y.1) e)
    (ap (λ (z : X). print z y.1) e))

-- ---- fields

pub byte : Codec next_byte (λ (b : ℕ). b) (λ (b : ℕ). b ∷ []) (λ (b : ℕ). Unit {0})
byte = grind (arith, common_steps, err-ok, ok-same)

pub u16 : Codec next_u16 (λ (n : ℕ). n) u16_bytes (λ (n : ℕ). Unit {0})
unfolding next_u16
u16 = grind (arith, common_steps, u16-read, err-ok, same, ok-same)

pub length-field : Codec length_at (λ (n : ℕ). n) (λ (n : ℕ). u16_bytes (n + 2)) (λ (n : ℕ). Unit {0})
unfolding length_at
length-field = remap (ends _ u16 (λ (n : ℕ). check-unless (ltb n 2) Malformed (done (n - 2))))
    (λ n is.
    let some : 2 ≤ n = ltb-false n 2 is.1.0 in
    let e : n ≡ n - 2 + 2 = omega arith in
    namely (n - 2) tt refl (ap u16_bytes e))
    (λ n is.
    let e : n ≡ n + 2 - 2 = omega arith in
    namely (n + 2) (tt, (le-ltb (n + 2) 2 (omega arith), tt)) e refl)

-- a payload after its length
pub segment : {A D : Type 0} {view : A → D} {print : A → List ℕ} {Valid : A → Type 0}
    (q : ℕ → List ℕ → Outcome D)
    → ((left : ℕ) → Codec (q left) view print (λ (x : A). Valid x × (length (print x) ≡ left)))
    → Codec (λ (bytes : List ℕ). length_at bytes >>= λ (x : ℕ × List ℕ). q x.0 x.1) view
    (λ (x : A). with_length (print x)) Valid
segment {print = print} q c = remap (bind q length-field c)
    (λ x is. namely x.1 is.1.0 refl (ap (λ (n : ℕ). u16_bytes (n + 2) ++ print x.1) (sym is.1.1)))
    (λ x is. namely (length (print x), x) (tt, (is, refl)) refl refl)

-- ---- lists

-- none
pub nil : {T C : Type 0} (print : T → List ℕ) (y : C) (view : List T → C) (Valid : List T → Type 0)
    → y ≡ view [] → Valid [] → ((x : T) (xs : List T) → Valid (x ∷ xs) → ⊥)
    → Codec (outcome y) view (flat_map print) Valid
nil {T} print y view Valid e none more = remap (done y) (λ x is. namely [] none e refl) go
  where
    go : (xs : List T) → Valid xs → As view (flat_map print) (λ (u : Unit {0}). y) (λ (u : Unit {0}). [])
        (λ (u : Unit {0}). Unit {0}) xs
    go [] is = namely tt tt (sym e) refl
    go (x ∷ xs) is = absurd (more x xs is)

-- one, and others
pub cons : {T C : Type 0} {p : List ℕ → Outcome C} {said : T × List T → C}
    {Both : T × List T → Type 0} (print : T → List ℕ) (view : List T → C) (Valid : List T → Type 0)
    → Codec p said (λ (x : T × List T). print x.0 ++ flat_map print x.1) Both
    → ((x : T) (xs : List T) → said (x, xs) ≡ view (x ∷ xs))
    → ((x : T) (xs : List T) → Both (x, xs) → Valid (x ∷ xs)) → (Valid [] → ⊥)
    → ((x : T) (xs : List T) → Valid (x ∷ xs) → Both (x, xs)) → Codec p view (flat_map print) Valid
cons {T} {said = said} {Both = Both} print view Valid c equal to none from =
    remap c (λ x is. namely (x.0 ∷ x.1) (to x.0 x.1 is) (equal x.0 x.1) refl) go
  where
    go : (xs : List T) → Valid xs
        → As view (flat_map print) said (λ (x : T × List T). print x.0 ++ flat_map print x.1) Both xs
    go [] is = absurd (none is)
    go (x ∷ xs) is = namely (x, xs) (from x xs is) (sym (equal x xs)) refl

-- n values
pub several : {A : Type 0} {p : List ℕ → Outcome A} {print : A → List ℕ} {Valid : A → Type 0}
    → Codec p (λ (x : A). x) print Valid → (n : ℕ)
    → Codec (times n p) (λ (xs : List A). xs) (flat_map print)
    (λ (xs : List A). (length xs ≡ n) × AllByRecursion Valid xs)
unfolding times
several c zero = nil _ [] _ _ refl (refl, tt) (λ x xs is. omega (arith, is.0))
several c (suc n) = cons _ _ _ (bind _ c (λ x. ends _ (several c n) (λ xs. done (x ∷ xs))))
    (λ x xs. refl)
    (λ x xs is. (ap suc is.1.0.0, (is.0, is.1.0.1))) (λ is. omega (arith, is.0))
    (λ x xs is. (is.1.0, ((omega (arith, is.0), is.1.1), tt)))

pub units : {A : Type 0} (xs : List A) → AllByRecursion (λ (x : A). Unit {0}) xs
units [] = tt
units (x ∷ xs) = (tt, units xs)

-- n bytes
pub many : (n : ℕ)
    → Codec (times n next_byte) (λ (xs : List ℕ). xs) (λ (xs : List ℕ). xs)
    (λ (xs : List ℕ). length xs ≡ n)
many n = remap (several byte n) (λ xs is. namely xs is.0 refl (each xs))
    (λ xs is. namely xs (is, units xs) refl (sym (each xs)))
  where
    each : (xs : List ℕ) → flat_map (λ (b : ℕ). b ∷ []) xs ≡ xs
    each [] = refl
    each (x ∷ xs) = ap (λ (l : List ℕ). x ∷ l) (each xs)

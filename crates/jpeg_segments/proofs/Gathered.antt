-- Results that are gathered in a loop.
use Rattle.std.proofs.Common.{rules, ◌≡◌, ◌≤◌, ◌<◌, ◌+◌, ◌∙◌, ℕ, suc, List, [], ◌∷◌, ◌++◌, Result, Ok, Err, refl}
use Rattle.std.proofs.Common.{sym, ap, arith, drop, get_or, length}
use Rattle.std.proofs.lemmas.Grind.{common_steps}
use Rattle.std.proofs.Math.ListN.{drop_of_length-le}
use Rattle.std.proofs.lemmas.List.{append_assoc, append-nil, drop_more}
use Rattle.std.proofs.lemmas.List.FromFn.{get_or-enumerate_from}
use Rattle.std.specs.List.{enumerate_from}
use Rattle.jpeg_bits.specs.Reading.{Fault, Names, ◌>>=◌}
use Rattle.jpeg_bits.specs.declared.error.Error.{Error}
use Rattle.jpeg_segments.specs.Checks.{gathered}
use Rattle.jpeg_segments.proofs.Codecs.{bind-ok, ok-same}

-- some results, and the others after them
abbrev pub after : {B : Type 0} → List B → List B → Result (List B) Fault
after front others = Ok (front ++ others)

-- a result, and the others after it
abbrev and_others : {B : Type 0} → Result B Fault → Result (List B) Fault → Result (List B) Fault
and_others {B = B} o r = o >>= (λ (x : B). r >>= (λ (others : List B). Ok (x ∷ others)))

-- The first i results are there, and the others are to come.
pub record Gathers {A B : Type 0} (f : A → Result B Fault) (xs : List A) (i : ℕ) (front : List B)
    : Type 0 where
  pub is : gathered f xs ≡ (gathered f (drop i xs) >>= after front)

none-first : {B : Type 0} (r : Result (List B) Fault) → r ≡ (r >>= after [])
none-first (Ok others) = refl
none-first (Err e) = refl

pub gathers-none : {A B : Type 0} (f : A → Result B Fault) (xs : List A) → Gathers f xs 0 []
gathers-none f xs = record { is = none-first (gathered f xs) }

next : {A B : Type 0} (f : A → Result B Fault) (xs : List A) (i : ℕ) (d : A) → i < length xs
    → gathered f (drop i xs) ≡ and_others (f (get_or xs i d)) (gathered f (drop (i + 1) xs))
unfolding gathered
next f xs i d h = ap (gathered f) (drop_more xs i d h)

joined : {B : Type 0} (o : Result B Fault) (r : Result (List B) Fault) (front : List B) (x : B)
    → o ≡ Ok x → (and_others o r >>= after front) ≡ (r >>= after (front ++ x ∷ []))
joined (Err f) r front x e = absurd (let n : ⊥ = cc in n)
joined (Ok y) (Err f) front x e = refl
joined {B = B} (Ok y) (Ok others) front x e = grind (arith, common_steps, append_assoc)

-- one more
pub gathers-more : {A B : Type 0} (f : A → Result B Fault) (xs : List A) (i : ℕ) (d : A) (x : B)
    (front new : List B) → i < length xs → f (get_or xs i d) ≡ Ok x → new ≡ front ++ x ∷ []
    → Gathers f xs i front → Gathers f xs (i + 1) new
gathers-more f xs i d x front new h e joins g =
    grind (arith, common_steps, joined, next f xs i d h)

lacking : {B : Type 0} (o : Result B Fault) (r : Result (List B) Fault) (front : List B) (e : Fault)
    → o ≡ Err e → (and_others o r >>= after front) ≡ Err e
lacking o r front e h = grind (arith, common_steps)

-- one that is refused
pub gathers-err : {A B : Type 0} (f : A → Result B Fault) (xs : List A) (i : ℕ) (d : A) (e : Fault)
    (front : List B) → i < length xs → f (get_or xs i d) ≡ Err e → Gathers f xs i front
    → gathered f xs ≡ Err e
gathers-err f xs i d e front h is g =
    g.is ∙ ap (λ r. r >>= after front) (next f xs i d h)
    ∙ lacking (f (get_or xs i d)) (gathered f (drop (i + 1) xs)) front e is

pub gathers-refused : {A B : Type 0} (f : A → Result B Fault) (xs : List A) (i : ℕ) (d : A)
    (e : Error) (front : List B) → i < length xs → Names e (f (get_or xs i d))
    → Gathers f xs i front → Names e (gathered f xs)
gathers-refused f xs i d e front h n g = search (rules, get_or, gathers-err)

-- all of them
pub gathers-all : {A B : Type 0} (f : A → Result B Fault) (xs : List A) (i : ℕ) (front : List B)
    → length xs ≤ i → Gathers f xs i front → gathered f xs ≡ Ok front
unfolding gathered
gathers-all f xs i front h g = grind (arith, common_steps, append-nil, drop_of_length-le)

-- as many results as elements
pub gathered-length : {A B : Type 0} (f : A → Result B Fault) (xs : List A) (ys : List B)
    → gathered f xs ≡ Ok ys → length ys ≡ length xs
unfolding gathered
gathered-length f [] ys e = ap length (sym (ok-same [] ys e))
gathered-length f (x ∷ xs) ys e =
    let one = bind-ok (f x) _ ys e in
    let more = bind-ok (gathered f xs) _ ys one.2 in
    sym (ap length (ok-same (one.0 ∷ more.0) ys more.2)) ∙ ap suc (gathered-length f xs more.0 more.1)

-- an element beside its index
pub numbered : {A : Type 0} (xs : List A) (i : ℕ) (d x : A) → i < length xs → x ≡ get_or xs i d
    → get_or (enumerate_from 0 xs) i (0, d) ≡ (i, x)
numbered xs i d x h e = grind (arith, common_steps, get_or-enumerate_from)

-- What holds of all that is read, thing by thing and interval by interval.
use Rattle.std.proofs.Common.{rules, ◌≡◌, ℕ, zero, suc, List, [], ◌∷◌, ◌++◌, length, map, take}
use Rattle.std.proofs.Common.{drop, replicate, Result, Ok, Err, refl, Option}
use Rattle.std.specs.List.{AllByRecursion}
use Rattle.jpeg_bits.specs.Entropy.{Text}
use Rattle.jpeg_bits.specs.Intervals.{interval, intervals}
use Rattle.jpeg_bits.specs.Reading.{Fault}
use Rattle.jpeg_bits.specs.Readers.{Reads, each}

-- ---- lists

pub all-take : {A : Type 0} (Q : A → Type 0) (n : ℕ) (xs : List A) → AllByRecursion Q xs → AllByRecursion Q (take n xs)
all-take Q (suc n) (x ∷ xs) h = (h.0, all-take Q n xs h.1)
all-take Q n xs h = tt

pub all-drop : {A : Type 0} (Q : A → Type 0) (n : ℕ) (xs : List A) → AllByRecursion Q xs → AllByRecursion Q (drop n xs)
all-drop Q (suc n) (x ∷ xs) h = all-drop Q n xs h.1
all-drop Q n xs h = search rules

pub all-append : {A : Type 0} (Q : A → Type 0) (xs ys : List A) → AllByRecursion Q xs → AllByRecursion Q ys
    → AllByRecursion Q (xs ++ ys)
all-append Q [] ys h k = k
all-append Q (x ∷ xs) ys h k = (h.0, all-append Q xs ys h.1 k)

pub all-again : {A : Type 0} (Q : A → Type 0) (n : ℕ) (x : A) → Q x → AllByRecursion Q (replicate n x)
all-again Q zero x h = tt
all-again Q (suc n) x h = (h, all-again Q n x h)

pub all-map : {A B : Type 0} (Q : A → Type 0) (P : B → Type 0) (f : A → B) (xs : List A) → ((x : A) → Q x → P (f x))
    → AllByRecursion Q xs → AllByRecursion P (map f xs)
all-map Q P f [] h all = tt
all-map Q P f (x ∷ xs) h all = (h x all.0, all-map Q P f xs h all.1)

pub all-mapped : {A B : Type 0} (Q : B → Type 0) (f : A → B) (xs : List A) → AllByRecursion Q (map f xs)
    → AllByRecursion (λ x. Q (f x)) xs
all-mapped Q f [] h = tt
all-mapped Q f (x ∷ xs) h = (h.0, all-mapped Q f xs h.1)

-- ---- what is read

-- what is read, from a text or from bytes, has a property
abbrev pub Holds : {A S : Type 0} → (A → Type 0) → Result (A × S) Fault → Type 0
Holds P (Ok r) = P r.0
Holds P (Err e) = Unit {0}

pub each-long : {A B : Type 0} (read : A → Reads B) (xs : List A) (t : Text)
    → Holds (λ (ys : List B). length ys ≡ length xs) (each read xs t)
unfolding each
each-long read [] t = refl
each-long read (x ∷ xs) t = search (rules, each-long read xs)

pub each-holds : {A B : Type 0} (Q : A → Type 0) (P : B → Type 0) (read : A → Reads B)
    → ((x : A) (t : Text) → Q x → Holds P (read x t)) → (xs : List A) (t : Text) → AllByRecursion Q xs
    → Holds (λ (ys : List B). AllByRecursion P ys) (each read xs t)
unfolding each
each-holds Q P read holds [] t all = tt
each-holds Q P read holds (x ∷ xs) t all = search (rules, holds, each-holds Q P read holds xs)

pub intervals-hold : {A B : Type 0} (Q : A → Type 0) (P : B → Type 0) (read : A → Reads (List B))
    → ((x : A) (t : Text) → Q x → Holds (AllByRecursion P) (read x t)) → (k : ℕ) (now : A) (more : List A)
    (bytes : List ℕ) → Q now → AllByRecursion Q more
    → Holds (λ (s : List B × Option _). AllByRecursion P s.0) (intervals read k now more bytes)
unfolding interval intervals
intervals-hold Q P read holds k now [] bytes h all = search (rules, holds)
intervals-hold Q P read holds k now (next ∷ more) bytes h all =
    search (rules, all-append, holds, intervals-hold Q P read holds (suc k) next more)

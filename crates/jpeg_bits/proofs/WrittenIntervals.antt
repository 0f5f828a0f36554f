-- Intervals that were written are read again, by whatever reads their bits.
use Rattle.std.proofs.Common.{rules, ◌≡◌, ◌≢◌, ℕ, zero, suc, ◌+◌, ◌%◌, ◌<◌, ◌≤◌, Bool, false, List, [], ◌∷◌, ◌++◌}
use Rattle.std.proofs.Common.{length, drop, map, replicate, Option, Some, None, Ok, refl, sym, ap, ap₂, ◌∙◌, arith}
use Rattle.std.proofs.Common.{eqb, length-append, length-drop, append_assoc, append-nil, take-append-drop}
use Rattle.std.proofs.lemmas.Bool.{eq-eqb, eqb-true}
use Rattle.std.proofs.lemmas.Bool.Decides.{nat_tests}
use Rattle.std.proofs.lemmas.Grind.{common_steps}
use Rattle.std.proofs.lemmas.List.{drop-map, length-map, take-map}
use Rattle.std.proofs.lemmas.List.Folds.{flat_map-map}
use Rattle.std.specs.List.{AllByRecursion, flat_map}
use Rattle.jpeg_bits.specs.Entropy.{Text, Ending, Found, add_byte, bits_of, ending_at, no_bits, text_at}
use Rattle.jpeg_bits.specs.Intervals.{first_group, groups, interval, intervals, other_groups}
use Rattle.jpeg_bits.specs.Marker.{marker_of}
use Rattle.jpeg_bits.specs.Readers.{Reads, ReadsJust, each}
use Rattle.jpeg_bits.specs.Written.{IsMarker, WritesEach, WritesInterval, WritesIntervals, bits_of_bytes, marker}
use Rattle.jpeg_bits.specs.Written.{stuffed}
use Rattle.jpeg_bits.specs.Written.WritesEach.{none, one}
use Rattle.jpeg_bits.specs.Written.WritesIntervals.{last, another}
use Rattle.jpeg_bits.specs.declared.marker.Marker.{Marker}
use Rattle.jpeg_bits.proofs.EndLemmas.{end-met}
use Rattle.jpeg_bits.proofs.ReadIntervals.{all-drop, all-take}
use Rattle.jpeg_bits.proofs.WrittenBits.{takes-bind, takes-gives, takes-map}
use Rattle.jpeg_bits.specs.declared.marker.Marker.TheVariants as markers

-- ---- things one after the other

pub takes-each : {X A B : Type 0} (read : A → Reads B) (f : X → A) (h : X → B) (writes : X → List Bool → Type 0)
    (P : X → Type 0)
    → ((x : X) (bits : List Bool) → P x → writes x bits → ReadsJust (read (f x)) bits (h x))
    → (xs : List X) (bits : List Bool) → AllByRecursion P xs → WritesEach writes xs bits
    → ReadsJust (each read (map f xs)) bits (map h xs)
unfolding each
takes-each read f h writes P takes [] bits all none = takes-gives []
takes-each read f h writes P takes _ bits all (one x xs front more w ws) =
    grind (arith, takes-bind, takes-map, takes-each read f h writes P takes xs more all.1 ws)

-- ---- texts

pub not-equal : (x y : ℕ) → x ≢ y → eqb x y ≡ false
not-equal x y n = grind (arith, nat_tests)

none-some : (m : Marker) → ◌≡◌ {A = Option Marker} None (Some m) → ⊥
none-some m e = cc

no-fill : (code : ℕ) (m : Marker) → IsMarker code m → eqb code 255 ≡ false
unfolding marker_of
no-fill code m h = not-equal code 255 (λ e. none-some m (sym (ap marker_of e) ∙ h.is))

no-zero : (code : ℕ) (m : Marker) → IsMarker code m → eqb code 0 ≡ false
unfolding marker_of
no-zero code m h = not-equal code 0 (λ e. none-some m (sym (ap marker_of e) ∙ h.is))

filled : (fill code : ℕ) (m : Marker) (rest : List ℕ) → IsMarker code m
    → ending_at (replicate fill 0xFF ++ code ∷ rest) ≡ Found m rest
unfolding ending_at
filled zero code m rest h = rw (no-fill code m h, h.is) refl
filled (suc fill) code m rest h = filled fill code m rest h

marker-text : (fill code : ℕ) (m : Marker) (rest : List ℕ) → IsMarker code m → text_at (marker fill code rest)
    ≡ no_bits (Found m rest)
unfolding text_at
marker-text fill code m rest h1 = grind (arith, common_steps, nat_tests, no-zero, filled)

-- a text with these bits and this end
record IsText (t : Text) (bits : List Bool) (e : Ending) : Type 0 where
  bits_are : t.bits ≡ bits
  ends_so : t.ending ≡ e

text-byte : (b : ℕ) (rest : List ℕ) (t : Text) (bits : List Bool) (e : Ending) → IsText t bits e
    → IsText (add_byte b rest t) (bits_of b ++ bits) e
text-byte b rest t bits e h = grind (arith, common_steps)

-- a byte other than FF in front
plain-text : (b : ℕ) (rest : List ℕ) → eqb b 255 ≡ false → 0 < length rest
    → text_at (b ∷ rest) ≡ add_byte b rest (text_at rest)
unfolding text_at
plain-text b rest h1 h2 = grind (arith, common_steps, nat_tests)

stuffed-byte : (rest : List ℕ) → text_at (255 ∷ 0 ∷ rest) ≡ add_byte 255 rest (text_at rest)
unfolding text_at
stuffed-byte rest = refl

module _ (fill code : ℕ) (m : Marker) (rest : List ℕ) (h : IsMarker code m) where
  -- these bytes, stuffed and with the marker after them, are their bits
  abbrev AreTheirBits : List ℕ → Type 0
  AreTheirBits bytes = IsText (text_at (stuffed bytes ++ marker fill code rest)) (bits_of_bytes bytes) (Found m rest)

  stuffed-text : (bytes : List ℕ) → AreTheirBits bytes
  unfolding stuffed bits_of_bytes
  stuffed-text [] =
      rw (marker-text fill code m rest h)
      (record { bits_are = refl; ends_so = refl })
  stuffed-text (b ∷ bytes) =
      search (rules, stuffed-byte, plain-text, text-byte, length-append, eqb-true, stuffed-text bytes)

-- ---- an interval

in-text : {A : Type 0} (read : Reads A) (bytes rest : List ℕ) (m : Marker) (bits filling : List Bool) (x : A)
    → ReadsJust read bits x → IsText (text_at bytes) (bits ++ filling) (Found m rest) → length filling ≤ 56
    → interval read bytes ≡ Ok ((x, Some m), rest)
unfolding interval
in-text read bytes rest m bits filling x h is short =
    let read_all = h.read filling (text_at bytes).following (Found m rest) in
    rw (is.bits_are, is.ends_so, read_all, end-met _ bytes filling (Found m rest) short) refl

-- An interval that was written is read, up to the marker.
pub reads-interval : {A : Type 0} (read : Reads A) (writes : List Bool → Type 0) (x : A)
    → ((bits : List Bool) → writes bits → ReadsJust read bits x) → (bytes : List ℕ) (fill code : ℕ) (m : Marker)
    (rest : List ℕ) → IsMarker code m → WritesInterval writes bytes
    → interval read (bytes ++ marker fill code rest) ≡ Ok ((x, Some m), rest)
reads-interval read writes x takes bytes fill code m rest h w =
    let is : IsText (text_at (bytes ++ marker fill code rest)) (w.bits ++ w.filling) (Found m rest)
    = search (rules, stuffed-text) in
    in-text read _ rest m w.bits w.filling x (takes w.bits w.coded) is (let s = w.is_short in omega arith)

-- ---- the intervals

rst : (n : ℕ) → n < 8 → marker_of (0xD0 + n) ≡ Some (markers.RST n)
unfolding marker_of
rst n h = grind (arith, nat_tests)

rst-marker : (k : ℕ) → IsMarker (0xD0 + k % 8) (markers.RST (k % 8))
rst-marker k = record { is = rst (k % 8) (omega arith) }

pub marker-append : (fill code : ℕ) (rest more : List ℕ)
    → marker fill code rest ++ more ≡ marker fill code (rest ++ more)
marker-append fill code rest more = simp (append_assoc)

pub next-interval : {A B : Type 0} (read : A → Reads (List B)) (k : ℕ) (now next : A) (more : List A)
    (bytes rest after : List ℕ) (first others : List B) (m : Option Marker)
    → interval (read now) bytes ≡ Ok ((first, Some (markers.RST (k % 8))), rest)
    → intervals read (suc k) next more rest ≡ Ok ((others, m), after)
    → intervals read k now (next ∷ more) bytes ≡ Ok ((first ++ others, m), after)
unfolding intervals
next-interval read k now next more bytes rest after first others m e f = search (rules, eq-eqb)

-- ---- groups

groups-map : {A B : Type 0} (f : A → B) (turns n : ℕ) (xs : List A)
    → map (map f) (groups turns n xs) ≡ groups turns n (map f xs)
unfolding groups
groups-map f (suc turns) n (x ∷ xs) = ap₂ (λ l ls. l ∷ ls) (sym (take-map f n (x ∷ xs)))
    (groups-map f turns n (drop n (x ∷ xs)) ∙ ap (groups turns n) (sym (drop-map f n (x ∷ xs))))
groups-map f turns n xs = search rules

pub first-map : {A B : Type 0} (f : A → B) (n : ℕ) (xs : List A) → map f (first_group n xs) ≡ first_group n (map f xs)
first-map f zero xs = refl
first-map f (suc n) xs = sym (take-map f (suc n) xs)

pub others-map : {A B : Type 0} (f : A → B) (n : ℕ) (xs : List A)
    → map (map f) (other_groups n xs) ≡ other_groups n (map f xs)
others-map f zero xs = refl
others-map {A} {B} f (suc n) xs = grind (arith, common_steps, groups-map, drop-map, length-map)

groups-joined : {A : Type 0} (turns n : ℕ) (xs : List A) → length xs ≤ turns
    → flat_map (λ (g : List A). g) (groups turns (suc n) xs) ≡ xs
unfolding groups
groups-joined (suc turns) n (x ∷ xs) h =
    let few : length (drop (suc n) (x ∷ xs)) ≤ turns = omega (arith, length-drop (suc n) (x ∷ xs)) in
    let more = groups-joined turns n (drop (suc n) (x ∷ xs)) few in
    grind (arith, common_steps, take-append-drop, more)
groups-joined turns n xs h = search rules

-- the groups of a list are the list, one after the other
pub all-groups : {A : Type 0} (n : ℕ) (xs : List A)
    → first_group n xs ++ flat_map (λ (g : List A). g) (other_groups n xs) ≡ xs
all-groups zero xs = append-nil xs
all-groups (suc n) xs = search (rules, groups-joined, length-drop, take-append-drop)

pub groups-of-map : {A B : Type 0} (f : A → B) (n : ℕ) (xs : List A)
    → map f (first_group n xs) ++ flat_map (map f) (other_groups n xs) ≡ map f xs
groups-of-map {A} {B} f n xs =
    ap₂ (λ (a b : List B). a ++ b) (first-map f n xs)
    (sym (flat_map-map (λ (g : List B). g) (map f) (other_groups n xs))
    ∙ ap (flat_map (λ (g : List B). g)) (others-map f n xs))
    ∙ all-groups n (map f xs)

groups-all : {A : Type 0} (Q : A → Type 0) (turns n : ℕ) (xs : List A) → AllByRecursion Q xs
    → AllByRecursion (AllByRecursion Q) (groups turns n xs)
unfolding groups
groups-all Q (suc turns) n (x ∷ xs) h = search (rules, all-take, all-drop, groups-all Q turns n)
groups-all Q turns n xs h = search rules

pub first-all : {A : Type 0} (Q : A → Type 0) (n : ℕ) (xs : List A) → AllByRecursion Q xs
    → AllByRecursion Q (first_group n xs)
first-all Q zero xs h = h
first-all Q (suc n) xs h = all-take Q (suc n) xs h

pub others-all : {A : Type 0} (Q : A → Type 0) (n : ℕ) (xs : List A) → AllByRecursion Q xs
    → AllByRecursion (AllByRecursion Q) (other_groups n xs)
others-all Q zero xs h = tt
others-all Q (suc n) xs h = groups-all Q (length xs) (suc n) (drop (suc n) xs) (all-drop Q (suc n) xs h)

-- Of an interval's things f of each is read, g of each is written, and h gives what is read of them.
module _ {X A B C : Type 0} (read : List A → Reads (List C)) (writes : List B → List Bool → Type 0) (f : X → A)
    (g : X → B) (h : List X → List C) (P : X → Type 0)
    (takes : (xs : List X) (bits : List Bool) → AllByRecursion P xs → writes (map g xs) bits
    → ReadsJust (read (map f xs)) bits (h xs))
    (fill code : ℕ) (m : Marker) (rest : List ℕ) (is : IsMarker code m) where
  reads-intervals : (k : ℕ) (xs : List X) (more : List (List X)) (bytes : List ℕ) → AllByRecursion P xs
      → AllByRecursion (AllByRecursion P) more → WritesIntervals writes k (map g xs) (map (map g) more) bytes
      → intervals read k (map f xs) (map (map f) more) (bytes ++ marker fill code rest)
      ≡ Ok ((h xs ++ flat_map h more, Some m), rest)
  unfolding intervals
  reads-intervals k xs [] bytes all others (last k' now bytes' w) = search (rules, append-nil, reads-interval)
  reads-intervals k xs (next ∷ more) bytes all others (another k' fill' now next' more' first after w ws) =
      let later = reads-intervals (suc k) next more after others.0 others.1 ws in
      search (rules, append_assoc, next-interval, reads-interval, rst-marker, later)

  -- A scan that was written is read, up to the marker after it.
  pub reads-groups : (n : ℕ) (xs : List X) (bytes : List ℕ) → AllByRecursion P xs
      → WritesIntervals writes 0 (first_group n (map g xs)) (other_groups n (map g xs)) bytes
      → intervals read 0 (first_group n (map f xs)) (other_groups n (map f xs)) (bytes ++ marker fill code rest)
      ≡ Ok ((h (first_group n xs) ++ flat_map h (other_groups n xs), Some m), rest)
  reads-groups n xs bytes all w =
      rw (← first-map f n xs, ← others-map f n xs)
      (reads-intervals _ _ _ _ (first-all P n xs all) (others-all P n xs all)
      (rw (first-map g n xs, others-map g n xs) w))

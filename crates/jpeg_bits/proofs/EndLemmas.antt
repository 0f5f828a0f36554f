-- Where reading goes on after an interval, as it is defined and as it is read ahead.
use Rattle.std.proofs.Common.{◌≡◌, ◌⊎◌, inl, inr, ℕ, zero, suc, ◌+◌, ◌-◌, ◌/◌, ◌<◌, ◌≤◌, Bool, true, false, cond, List}
use Rattle.std.proofs.Common.{[], ◌∷◌, ◌++◌, length, drop, get_or, replicate, refl, sym, ap, ◌∙◌, arith, eqb}
use Rattle.std.proofs.Common.{length-append, length-drop, Ok, Option, Some, None, Err}
use Rattle.std.proofs.lemmas.List.{length-replicate, drop-drop, drop_more, get_or_append_left, get_or-replicate}
use Rattle.std.proofs.lemmas.Bool.{le-leb, lt-leb, cases_lt, false≢true, eqb-true, eq-eqb}
use Rattle.jpeg_bits.specs.Reading.{Outcome, End, ◌>>=◌, Fault}
use Rattle.jpeg_bits.specs.Entropy.{Text, Ending, Broken, Found, Stops, bits_of, text_at, add_byte, no_bits}
use Rattle.jpeg_bits.specs.Entropy.{closed, ending_at, upcoming, fresh, fresh_before, advance, marker_from, marker_by}
use Rattle.jpeg_bits.specs.declared.beyond.Beyond.{Beyond}
use Rattle.jpeg_bits.specs.declared.beyond.Beyond.TheVariants.{Nothing, Zeros}
use Rattle.jpeg_bits.specs.Intervals.{after_bytes, met, end_after, interval}
use Rattle.jpeg_bits.specs.Readers.{Reads}
use Rattle.jpeg_bits.specs.declared.marker.Marker.{Marker}
use Rattle.jpeg_bits.proofs.TakenTexts.{Taken, TakesBits}
use Rattle.jpeg_bits.proofs.TakenTexts.Taken.{gave, failed}
use Rattle.jpeg_bits.specs.Marker.{marker_of, marker_at, found_or, next_marker}
use Rattle.jpeg_bits.specs.NextMarker.{IsNoMarker, IsNextMarker, HasNoMarker}

-- Each bit of a text has the offset after the byte that has it.
pub record IsPlaced (bytes : List ℕ) (t : Text) : Type 0 where
  pub sized : length t.following ≡ length t.bits
  pub each : (i : ℕ) → i < length t.bits → get_or t.following i [] ≡ after_bytes (suc (i / 8)) bytes

get_or-after : {A : Type 0} (n i : ℕ) (x d : A) (ys : List A) → get_or (replicate n x ++ ys) (n + i) d ≡ get_or ys i d
get_or-after zero i x d ys = let e : zero + i ≡ i = omega arith in ap (λ (k : ℕ). get_or ys k d) e
get_or-after (suc n) i x d ys = grind (arith, get_or-after n i x d ys)

none-placed : (bytes : List ℕ) (e : Ending) → IsPlaced bytes (no_bits e)
none-placed bytes e = record { sized = refl; each = λ i h. absurd (omega arith) }

-- one more byte in front, after which the bytes go on with rest
add-placed : (bytes rest : List ℕ) (b : ℕ) (t : Text) → ((n : ℕ) → after_bytes (suc n) bytes ≡ after_bytes n rest)
    → IsPlaced rest t → IsPlaced bytes (add_byte b rest t)
unfolding after_bytes
add-placed bytes rest b t step h = record {
  sized = let s = h.sized in grind (arith, length-append, length-replicate);
  each = λ i lt. elim (cases_lt i 8) [
    | inl low ↦
        let z : i / 8 ≡ 0 = omega arith in
        get_or_append_left (replicate 8 rest) t.following [] i (omega (arith, length-replicate 8 rest))
        ∙ get_or-replicate 8 i rest [] low
        ∙ sym (ap (λ (n : ℕ). after_bytes (suc n) bytes) z ∙ step 0)
    | inr high ↦
        let j = i - 8 in
        let e : i ≡ 8 + j = omega arith in
        let d : i / 8 ≡ suc (j / 8) = omega arith in
        ap (λ (k : ℕ). get_or (replicate 8 rest ++ t.following) k []) e ∙ get_or-after 8 j rest [] t.following
        ∙ h.each j (omega (arith, length-append (bits_of b) t.bits))
        ∙ sym (ap (λ (n : ℕ). after_bytes (suc n) bytes) d ∙ step (suc (j / 8)))
  ];
}

one-step : (b : ℕ) (n : ℕ) → after_bytes (suc n) (b ∷ []) ≡ after_bytes n []
unfolding after_bytes
one-step b n = grind arith

plain-step : (b c : ℕ) (rest : List ℕ) → eqb b 255 ≡ false → (n : ℕ)
    → after_bytes (suc n) (b ∷ c ∷ rest) ≡ after_bytes n (c ∷ rest)
unfolding after_bytes
plain-step b c rest e n = rw (e, after_bytes) refl

stuffed-step : (b c : ℕ) (rest : List ℕ) → eqb b 255 ≡ true → (n : ℕ)
    → after_bytes (suc n) (b ∷ c ∷ rest) ≡ after_bytes n rest
unfolding after_bytes
stuffed-step b c rest e n = rw (e, after_bytes) refl

pub placed : (bytes : List ℕ) → IsPlaced bytes (text_at bytes)
unfolding text_at
placed [] = none-placed [] (Broken End)
placed (b ∷ []) = go (eqb b 255)
  where
    go : (x : Bool) → IsPlaced (b ∷ []) (cond x (no_bits (Broken End)) (add_byte b [] (no_bits (Broken End))))
    go true = none-placed (b ∷ []) (Broken End)
    go false = add-placed (b ∷ []) [] b (no_bits (Broken End)) (one-step b) (none-placed [] (Broken End))
placed (b ∷ c ∷ rest) = go (eqb b 255) refl (eqb c 0) (placed rest) (placed (c ∷ rest))
  where
    go : (x : Bool) → eqb b 255 ≡ x → (y : Bool) → IsPlaced rest (text_at rest)
        → IsPlaced (c ∷ rest) (text_at (c ∷ rest))
        → IsPlaced (b ∷ c ∷ rest) (cond x (cond y (add_byte 255 rest (text_at rest))
        (no_bits (ending_at (c ∷ rest)))) (add_byte b (c ∷ rest) (text_at (c ∷ rest))))
    go true e true h k = add-placed (b ∷ c ∷ rest) rest 255 (text_at rest) (stuffed-step b c rest e) h
    go true e false h k = none-placed (b ∷ c ∷ rest) (ending_at (c ∷ rest))
    go false e y h k = add-placed (b ∷ c ∷ rest) (c ∷ rest) b (text_at (c ∷ rest)) (plain-step b c rest e) k

-- the end is met where at most 56 bits are left
pub end-met : (k : ℕ) (bytes : List ℕ) (left : List Bool) (e : Ending) → length left ≤ 56
    → end_after k bytes left e ≡ met e
unfolding end_after
end-met k bytes left e few = rw (le-leb (length left) 56 few, end_after) refl

-- the end is met whatever follows its marker
pub met-closed : (beyond : Beyond) (e : Ending) → met (closed beyond e) ≡ met e
met-closed Zeros e = refl
met-closed Nothing (Found m rest) = refl
met-closed Nothing (Stops m rest) = refl
met-closed Nothing (Broken f) = refl

none-follow : (following : List (List ℕ)) (e : Ending) → length following ≡ 0 → marker_by following e ≡ met e
none-follow following e h = grind arith

-- After k bits of the text that begins with bytes, the end is met where at most 56 bits are left, and otherwise
-- reading goes on after the bytes of the bits taken and 57 more.
pub ends-before : (beyond : Beyond) (k : ℕ) (bytes : List ℕ)
    → marker_from (advance k (upcoming (fresh_before beyond) bytes)) ≡ end_after k bytes (drop k (text_at bytes).bits)
    (text_at bytes).ending
unfolding upcoming end_after
ends-before beyond k bytes = go (cases_lt 56 (length (drop k t.bits)))
  where
    t : Text
    t = text_at bytes

    go : (56 < length (drop k (text_at bytes).bits)) ⊎ (length (drop k (text_at bytes).bits) ≤ 56)
        → marker_by (drop k (drop 56 (text_at bytes).following)) (closed beyond (text_at bytes).ending)
        ≡ end_after k bytes (drop k (text_at bytes).bits) (text_at bytes).ending
    go (inr few) =
        let t = text_at bytes in
        let is = placed bytes in
        let cut = length-drop 56 t.following in
        let same = met-closed beyond t.ending in
        grind (
          arith,
          end-met,
          none-follow,
          length-drop k (drop 56 t.following),
          cut,
          length-drop k t.bits,
          is.sized,
          same,
        )
    go (inl many) =
        let t = text_at bytes in
        let is = placed bytes in
        let within : k + 56 < length t.bits = omega (arith, length-drop k t.bits) in
        let order : 56 + k ≡ k + 56 = omega arith in
        let head : drop k (drop 56 t.following) ≡ get_or t.following (k + 56) [] ∷ drop (k + 56 +
        1) t.following
        = drop-drop k 56 t.following ∙ ap (λ (n : ℕ). drop n t.following) order
        ∙ drop_more t.following (k + 56) [] (omega (arith, is.sized)) in
        grind (arith, lt-leb)

pub ends-so : (k : ℕ) (bytes : List ℕ) → marker_from (advance k (upcoming fresh bytes)) ≡ end_after k bytes
    (drop k (text_at bytes).bits) (text_at bytes).ending
ends-so k bytes = ends-before Zeros k bytes

-- Bits beyond the last don't count: after a marker zeros come without end.
pub ends-within : (n : ℕ) (bits : List Bool) (bytes : List ℕ) (e : Ending)
    → end_after (length bits - length (drop n bits)) bytes (drop n bits) e ≡ end_after n bytes (drop n bits) e
ends-within n bits bytes e = grind (arith, cases_lt n (length bits), length-drop n bits, end-met)

-- what is read of a text that begins with some bytes, and the marker after it
abbrev pub ahead : {A : Type 0} → Reads A → List ℕ → Outcome (A × Option Marker)
ahead read bytes = read (upcoming fresh bytes) >>= λ r. marker_from r.1 >>= λ m. Ok ((r.0, m.0), m.1)

-- An interval is read as it is read ahead.
pub ahead-so : {A : Type 0} (read : Reads A) (bytes : List ℕ) → TakesBits read → interval read bytes ≡ ahead read bytes
unfolding TakesBits interval upcoming
ahead-so {A} read bytes h = go (h t.bits t.ending)
  where
    t : Text
    t = text_at bytes

    go : Taken read (text_at bytes).bits (text_at bytes).ending → interval read bytes ≡ ahead read bytes
    go (failed g fails) = grind (arith, fails)
    go (gave n x is) =
        let t = text_at bytes in
        let first = is t.ending t.following (inl refl) in
        let again = is t.ending (drop 56 t.following) (inl refl) in
        grind (arith, first, again, ends-within n t.bits bytes, ends-so n bytes)

-- ---- the next marker is at the least index

-- what a search finds, with what was found
abbrev pub Finds : List ℕ → Outcome Marker → Type 0
Finds bytes o = ((i : ℕ) × (m : Marker) × (rest : List ℕ) × (o ≡ Ok (m, rest)) × IsNextMarker bytes i m rest)
    ⊎ ((o ≡ Err End) × HasNoMarker bytes)

none-short : (bytes : List ℕ) → length bytes ≤ 1 → HasNoMarker bytes
none-short bytes h j lt = absurd (omega arith)

marker_at-none : (a b : ℕ) → marker_at a b ≡ None → a ≡ 255 → marker_of b ≡ None
marker_at-none a b h e = ap (λ (x : Bool). cond x (marker_of b) None) (sym (eq-eqb a 255 e)) ∙ h

-- a marker at the first byte
here : (a b : ℕ) (rest : List ℕ) (m : Marker) → (x : Bool) → eqb a 255 ≡ x → cond x (marker_of b) None ≡ Some m
    → IsNextMarker (a ∷ b ∷ rest) 0 m rest
here a b rest m x t e = grind (arith, eqb-true)

before : (a b : ℕ) (rest : List ℕ) → marker_at a b ≡ None → (n : ℕ) → ((j : ℕ) → j < n → IsNoMarker (b ∷ rest) j)
    → (j : ℕ) → j < suc n → IsNoMarker (a ∷ b ∷ rest) j
before a b rest h n k j lt = grind (arith, marker_at-none)

later : (a b : ℕ) (rest others : List ℕ) (i : ℕ) (m : Marker) → marker_at a b ≡ None
    → IsNextMarker (b ∷ rest) i m others → IsNextMarker (a ∷ b ∷ rest) (suc i) m others
later a b rest others i m h k =
    let e : suc i + 1 ≡ suc (i + 1) = omega arith in
    let f : suc i + 2 ≡ suc (i + 2) = omega arith in
    grind (arith, before)

step : (a b : ℕ) (rest : List ℕ) (x : Option Marker) → marker_at a b ≡ x → Finds (b ∷ rest) (next_marker (b ∷ rest))
    → Finds (a ∷ b ∷ rest) (found_or x rest (next_marker (b ∷ rest)))
step a b rest (Some m) e h = inl (0, m, rest, refl, here a b rest m (eqb a 255) refl e)
step a b rest None e (inl h) = inl (suc h.0, h.1, h.2, h.3, later a b rest h.2 h.0 h.1 e h.4)
step a b rest None e (inr h) = inr (h.0, λ j lt. before a b rest e j (λ k l. h.1 k (omega arith)) j (omega arith))

pub finds : (bytes : List ℕ) → Finds bytes (next_marker bytes)
unfolding next_marker
finds [] = inr (refl, none-short [] (omega arith))
finds (a ∷ []) = inr (refl, none-short (a ∷ []) (omega arith))
finds (a ∷ b ∷ rest) = step a b rest (marker_at a b) refl (finds (b ∷ rest))

-- a marker begins at one least index alone
same-index : (bytes : List ℕ) (i j : ℕ) (m n : Marker) (a b : List ℕ) → IsNextMarker bytes i m a
    → IsNextMarker bytes j n b → i < j → ⊥
same-index bytes i j m n a b p q lt = let e = q.least i lt p.first in let d = p.second in cc

only-one : (bytes : List ℕ) (i j : ℕ) (m n : Marker) (a b : List ℕ) → IsNextMarker bytes i m a
    → IsNextMarker bytes j n b → i ≡ j
only-one bytes i j m n a b p q = grind (arith, cases_lt, same-index)

marker-same : (bytes : List ℕ) (i j : ℕ) (m n : Marker) (a b : List ℕ) → IsNextMarker bytes i m a
    → IsNextMarker bytes j n b → i ≡ j → ◌≡◌ {A = Outcome Marker} (Ok (n, b)) (Ok (m, a))
marker-same bytes i j m n a b p q e = grind arith

pub is-found : (bytes : List ℕ) (i : ℕ) (m : Marker) (rest : List ℕ) → IsNextMarker bytes i m rest
    → next_marker bytes ≡ Ok (m, rest)
is-found bytes i m rest p = grind (arith, marker-same, only-one, finds bytes)

pub only-found : (bytes : List ℕ) (m : Marker) (rest : List ℕ) → next_marker bytes ≡ Ok (m, rest)
    → (i : ℕ) × IsNextMarker bytes i m rest
only-found bytes m rest e = grind (arith, false≢true, finds bytes)

pub none-found : (bytes : List ℕ) → HasNoMarker bytes → next_marker bytes ≡ Err End
none-found bytes none = grind (arith, finds bytes)

pub none-there : (bytes : List ℕ) (f : Fault) → next_marker bytes ≡ Err f → HasNoMarker bytes
none-there bytes f e = grind (arith, false≢true, finds bytes)

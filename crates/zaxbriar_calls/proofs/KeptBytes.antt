-- The first segment of bytes that may be cut off: what of them it depends on, and what it needs.
use Rattle.std.proofs.lemmas.Bool.{eqb-true}
use Rattle.std.proofs.lemmas.Bool.Decides.{nat_tests}
use Rattle.std.proofs.lemmas.Grind.{common_steps}
use Rattle.std.proofs.Common.{arith, ◌≡◌, ◌∙◌, ◌⊎◌, inl, inr, ℕ, suc, ◌+◌, ◌-◌, ◌≤◌, List, [], ◌∷◌, Ok, Err}
use Rattle.std.proofs.Common.{Bool, true, false, Option, Some, None, ap, drop, length, refl, slice_index}
use Rattle.std.proofs.Common.{subst, sym, take}
use Rattle.std.specs.Prelude.{IsErr, ◌++◌, ◌&&◌, ◌==◌, cond, nat_lt}
use Rattle.std.proofs.lemmas.List.{drop-drop, get_or-drop}
use Rattle.jpeg_bits.specs.Marker.{found_or, marker_at, marker_of, next_marker}
use Rattle.jpeg_bits.specs.Reading.{End, Fault, Outcome, length_at, next_u16, times}
use Rattle.jpeg_bits.specs.declared.marker.Marker.{Marker}
use Rattle.jpeg_bits.specs.declared.marker.Marker.TheVariants.{APP}
use Rattle.zaxbriar_calls.specs.StreamSegments.{IsCut, NeedsMore, next_code, next_segment, payload_at, payload_by}
use Rattle.zaxbriar_calls.specs.declared.segments.Segment.{Segment}
use Rattle.zaxbriar_calls.proofs.FoundSegments.{marked-long, marked-stands, no-marker}

-- the next marker in bytes depends on their end alone
pub record Keeps (bytes kept : List ℕ) : Type 0 where
  pub few : length kept ≤ length bytes
  pub is : drop (length bytes - length kept) bytes ≡ kept
  pub same : (more : List ℕ) → next_marker (bytes ++ more) ≡ next_marker (kept ++ more)

keeps-all : (bytes : List ℕ) → Keeps bytes bytes
keeps-all bytes =
    let none : length bytes - length bytes ≡ 0 = omega arith in
    record { few = omega arith; is = ap (λ n. drop n bytes) none; same = λ more. refl }

passed-over : (a b : ℕ) (rest : List ℕ) → marker_at a b ≡ None → next_marker (a ∷ b ∷ rest) ≡ next_marker (b ∷ rest)
unfolding next_marker
passed-over a b rest none = ap (λ (x : Option Marker). found_or x rest (next_marker (b ∷ rest))) none

keeps-later : (a b : ℕ) (rest kept : List ℕ) → marker_at a b ≡ None → Keeps (b ∷ rest) kept → Keeps (a ∷ b ∷ rest) kept
keeps-later a b rest kept none k =
    let one : length (a ∷ b ∷ rest) - length kept ≡ suc (length (b ∷ rest) - length kept) = omega (arith, k.few) in
    record {
      few = omega (arith, k.few);
      is = ap (λ n. drop n (a ∷ b ∷ rest)) one ∙ k.is;
      same = λ more. passed-over a b (rest ++ more) none ∙ k.same more;
    }

-- ---- without a marker

abbrev pub ends : List ℕ → Bool
ends bytes = nat_lt 0 (length bytes) && (slice_index bytes (length bytes - 1) == 255)

-- what is kept
abbrev pub last_of : Bool → List ℕ
last_of true = 255 ∷ []
last_of false = []

abbrev pub count_of : Bool → ℕ
count_of true = 1
count_of false = 0

unmarked : (a : ℕ) (more : List ℕ) → (a == 255) ≡ false → next_marker (a ∷ more) ≡ next_marker more
unfolding next_marker
unmarked a [] other = refl
unmarked a (b ∷ more) other = rw other refl

ends-later : (a b : ℕ) (rest : List ℕ) → ends (a ∷ b ∷ rest) ≡ ends (b ∷ rest)
ends-later a b rest =
    let one : length (a ∷ b ∷ rest) - 1 ≡ suc (length (b ∷ rest) - 1) = omega arith in
    let two : nat_lt 0 (length (a ∷ b ∷ rest)) ≡ true = grind (arith, common_steps, nat_tests) in
    let some : nat_lt 0 (length (b ∷ rest)) ≡ true = grind (arith, common_steps, nat_tests) in
    rw (two, some) (ap (λ n. slice_index (a ∷ b ∷ rest) n == 255) one)

kept-one : (a : ℕ) (t : Bool) → (a == 255) ≡ t → Keeps (a ∷ []) (last_of t)
kept-one a true e = subst (λ (k : ℕ). Keeps (k ∷ []) (255 ∷ [])) (sym (eqb-true a 255 e)) (keeps-all (255 ∷ []))
kept-one a false e = record { few = omega arith; is = refl; same = λ more. unmarked a more e }

pub none-kept : (bytes : List ℕ) → next_marker bytes ≡ Err End → Keeps bytes (last_of (ends bytes))
unfolding next_marker
none-kept [] h = keeps-all []
none-kept (a ∷ []) h = kept-one a (a == 255) refl
none-kept (a ∷ b ∷ rest) h = go (marker_at a b) refl (none-kept (b ∷ rest)) h
  where
    go : (x : Option Marker) → marker_at a b ≡ x
        → (next_marker (b ∷ rest) ≡ Err End → Keeps (b ∷ rest) (last_of (ends (b ∷ rest))))
        → found_or x rest (next_marker (b ∷ rest)) ≡ Err End
        → Keeps (a ∷ b ∷ rest) (last_of (ends (a ∷ b ∷ rest)))
    go None e later h = subst (λ (t : Bool). Keeps (a ∷ b ∷ rest) (last_of t)) (sym (ends-later a b rest))
        (keeps-later a b rest (last_of (ends (b ∷ rest))) e (later h))
    go (Some m) e later h = absurd cc

-- ---- with a marker

-- a marker stands at the beginning of what is kept
pub record KeepsMarker (bytes after : List ℕ) (m : Marker) : Type 0 where
  pub code : ℕ
  pub named : marker_of code ≡ Some m
  pub kept : Keeps bytes (255 ∷ code ∷ after)

are-marker : (a b : ℕ) (m : Marker) (t : Bool) → (a == 255) ≡ t → cond t (marker_of b) None ≡ Some m
    → (a ≡ 255) × (marker_of b ≡ Some m)
are-marker a b m true t e = (eqb-true a 255 t, e)
are-marker a b m false t e = absurd cc

found-here : (a b : ℕ) (rest : List ℕ) (m : Marker) → (a ≡ 255) × (marker_of b ≡ Some m)
    → KeepsMarker (a ∷ b ∷ rest) rest m
found-here a b rest m (first, second) = record {
  code = b;
  named = second;
  kept = subst (λ (k : ℕ). Keeps (k ∷ b ∷ rest) (255 ∷ b ∷ rest)) (sym first) (keeps-all (255 ∷ b ∷ rest));
}

found-same : (a b : ℕ) (rest after : List ℕ) (n m : Marker) → marker_at a b ≡ Some n → n ≡ m → rest ≡ after
    → KeepsMarker (a ∷ b ∷ rest) after m
found-same a b rest after n m e same left =
    subst (λ (k : Marker). KeepsMarker (a ∷ b ∷ rest) after k) same
    (subst (λ (l : List ℕ). KeepsMarker (a ∷ b ∷ rest) l n) left
    (found-here a b rest n (are-marker a b n (a == 255) refl e)))

pub found-kept : (bytes after : List ℕ) (m : Marker) → next_marker bytes ≡ Ok (m, after) → KeepsMarker bytes after m
unfolding next_marker
found-kept [] after m h = absurd cc
found-kept (a ∷ []) after m h = absurd cc
found-kept (a ∷ b ∷ rest) after m h = go (marker_at a b) refl (found-kept (b ∷ rest) after m) h
  where
    go : (x : Option Marker) → marker_at a b ≡ x
        → (next_marker (b ∷ rest) ≡ Ok (m, after) → KeepsMarker (b ∷ rest) after m)
        → found_or x rest (next_marker (b ∷ rest)) ≡ Ok (m, after) → KeepsMarker (a ∷ b ∷ rest) after m
    go None e later h =
        let k = later h in
        record { code = k.code; named = k.named; kept = keeps-later a b rest (255 ∷ k.code ∷ after) e k.kept }
    go (Some n) e later h = found-same a b rest after n m e (grind arith) (grind arith)

-- ---- segments

pub segment-none : (bytes : List ℕ) → next_marker bytes ≡ Err End → next_segment bytes ≡ Err End
unfolding next_segment
segment-none bytes h = rw h refl

pub segment-found : (bytes after payload rest : List ℕ) (m : Marker) → next_marker bytes ≡ Ok (m, after)
    → payload_by m after ≡ Ok (payload, rest) → next_segment bytes ≡ Ok ((m, payload), rest)
unfolding next_segment
segment-found bytes after payload rest m h p = rw (h, p) refl

pub segment-refused : (bytes after : List ℕ) (m : Marker) (fault : Fault) → next_marker bytes ≡ Ok (m, after)
    → payload_by m after ≡ Err fault → next_segment bytes ≡ Err fault
unfolding next_segment
segment-refused bytes after m fault h p = rw (h, p) refl

pub segment-cut : (bytes after : List ℕ) (m : Marker) → next_marker bytes ≡ Ok (m, after)
    → IsErr (payload_by m after) → IsErr (next_segment bytes)
unfolding next_segment
segment-cut bytes after m h e = grind (arith, common_steps)

same-segment : (a b : List ℕ) → next_marker a ≡ next_marker b → next_segment a ≡ next_segment b
unfolding next_segment
same-segment a b e = rw e refl

-- bytes need what is kept of them needs
needs-kept : (bytes kept : List ℕ) (n : ℕ) → Keeps bytes kept → NeedsMore next_segment kept n
    → NeedsMore next_segment bytes n
needs-kept bytes kept n k needs = record {
  some = needs.some;
  fewer = λ more few. same-segment (bytes ++ more) (kept ++ more) (k.same more) ∙ needs.fewer more few;
  enough = needs.enough;
  length_is = needs.length_is;
  reads = λ e. needs.reads
      (sym (same-segment (bytes ++ needs.enough) (kept ++ needs.enough) (k.same needs.enough)) ∙ e);
}

pub kept-cut : (bytes kept : List ℕ) (segment : Segment) → Keeps bytes kept
    → NeedsMore next_segment kept segment.needed → segment.skipped ≡ length bytes - length kept
    → ((segment.marker ≡ 0 → ⊥) → take 2 kept ≡ 255 ∷ segment.marker ∷ [])
    → (segment.marker ≡ 0 → (kept ≡ []) ⊎ (kept ≡ 255 ∷ [])) → IsCut bytes segment
kept-cut bytes kept segment k needs skipped begins last =
    let is : drop segment.skipped bytes ≡ kept = ap (λ n. drop n bytes) skipped ∙ k.is in
    record {
      needs = needs-kept bytes kept segment.needed k needs;
      within = omega (arith, skipped);
      skips = λ more. same-segment (bytes ++ more) (drop segment.skipped bytes ++ more)
          (k.same more ∙ ap (λ (l : List ℕ). next_marker (l ++ more)) (sym is));
      begins = λ there. ap (λ (l : List ℕ). take 2 l) is ∙ begins there;
      last = λ none. subst (λ (l : List ℕ). (l ≡ []) ⊎ (l ≡ 255 ∷ [])) (sym is) (last none);
    }

pub marker-long : (bytes after : List ℕ) (m : Marker) → next_marker bytes ≡ Ok (m, after)
    → length after + 2 ≤ length bytes
marker-long bytes after m h = let k = found-kept bytes after m h in let few = k.kept.few in omega (arith, few)

-- ---- what bytes need without a marker

end-read : next_segment (255 ∷ 217 ∷ []) ≡ Err End → ⊥
unfolding next_segment next_marker marker_of payload_by
end-read e = cc

needs-last : (t : Bool) → NeedsMore next_segment (last_of t) (2 - count_of t)
needs-last true = record {
  some = omega arith;
  fewer = λ more few. segment-none (255 ∷ more) (no-marker (255 ∷ more) (omega (arith, few)));
  enough = 217 ∷ [];
  length_is = refl;
  reads = end-read;
}
needs-last false = record {
  some = omega arith;
  fewer = λ more few. segment-none more (no-marker more (omega (arith, few)));
  enough = 255 ∷ 217 ∷ [];
  length_is = refl;
  reads = end-read;
}

last-length : (t : Bool) → length (last_of t) ≡ count_of t
last-length true = refl
last-length false = refl

is-last : (t : Bool) → (last_of t ≡ []) ⊎ (last_of t ≡ 255 ∷ [])
is-last true = inr refl
is-last false = inl refl

pub none-cut : (bytes : List ℕ) (segment : Segment) (n : ℕ) → next_marker bytes ≡ Err End → n ≡ count_of (ends bytes)
    → segment.needed ≡ 2 - n → segment.skipped ≡ length bytes - n → segment.marker ≡ 0 → IsCut bytes segment
none-cut bytes segment n h is needed skipped none =
    let count = last-length (ends bytes) in
    kept-cut bytes (last_of (ends bytes)) segment (none-kept bytes h)
    (subst (λ k. NeedsMore next_segment (last_of (ends bytes)) k) (ap (λ k. 2 - k) (sym is) ∙ sym needed)
    (needs-last (ends bytes)))
    (skipped ∙ ap (λ k. length bytes - k) (is ∙ sym count))
    (λ there. absurd (there none))
    (λ _. is-last (ends bytes))

-- ---- and with one

marker-first : (code : ℕ) (rest : List ℕ) (m : Marker) → marker_of code ≡ Some m
    → next_marker (255 ∷ code ∷ rest) ≡ Ok (m, rest)
unfolding next_marker
marker-first code rest m named = rw named refl

reads-on : (bytes after : List ℕ) (m : Marker) (o : Outcome (List ℕ)) → payload_by m after ≡ o
    → next_marker bytes ≡ Ok (m, after) → (o ≡ Err End → ⊥) → next_segment bytes ≡ Err End → ⊥
reads-on bytes after m (Ok p) is h reads e = let found = segment-found bytes after p.0 p.1 m h is in cc
reads-on bytes after m (Err fault) is h reads e =
    let refused = segment-refused bytes after m fault h is in reads (ap (λ f. Err f) cc)

needs-marker : (code n : ℕ) (after : List ℕ) (m : Marker) → marker_of code ≡ Some m
    → ((others : List ℕ) → payload_by m others ≡ payload_at others) → NeedsMore payload_at after n
    → NeedsMore next_segment (255 ∷ code ∷ after) n
needs-marker code n after m named sized needs = record {
  some = needs.some;
  fewer = λ more few. segment-refused (255 ∷ code ∷ (after ++ more)) (after ++ more) m End
      (marker-first code (after ++ more) m named) (sized (after ++ more) ∙ needs.fewer more few);
  enough = needs.enough;
  length_is = needs.length_is;
  reads = reads-on (255 ∷ code ∷ (after ++ needs.enough)) (after ++ needs.enough) m (payload_at (after ++ needs.enough))
      (sized (after ++ needs.enough)) (marker-first code (after ++ needs.enough) m named) needs.reads;
}

code-there : (bytes after : List ℕ) (code : ℕ)
    → drop (length bytes - length (255 ∷ code ∷ after)) bytes ≡ 255 ∷ code ∷ after
    → length after + 2 ≤ length bytes → slice_index bytes (length bytes - length after - 1) ≡ code
code-there bytes after code is long =
    let place : length bytes - length after - 1 ≡ (length bytes - length (255 ∷ code ∷ after)) + 1 =
    omega (arith, long) in
    ap (λ n. slice_index bytes n) place
    ∙ sym (get_or-drop (length bytes - length (255 ∷ code ∷ after)) bytes 1 0)
    ∙ ap (λ (l : List ℕ). slice_index l 1) is

is-none : (o : Option Marker) (m : Marker) → o ≡ Some m → o ≡ None → ⊥
is-none o m e none = cc

no-zero : (code : ℕ) (m : Marker) → marker_of code ≡ Some m → code ≡ 0 → ⊥
unfolding marker_of
no-zero code m is none = is-none (marker_of code) m is (ap (λ (c : ℕ). marker_of c) none)

pub marker-cut : (bytes after : List ℕ) (m : Marker) (segment : Segment) → next_marker bytes ≡ Ok (m, after)
    → ((others : List ℕ) → payload_by m others ≡ payload_at others) → NeedsMore payload_at after segment.needed
    → segment.skipped ≡ length bytes - length after - 2
    → segment.marker ≡ slice_index bytes (length bytes - length after - 1) → IsCut bytes segment
marker-cut bytes after m segment h sized needs skipped marker =
    let k = found-kept bytes after m h in
    let long = marker-long bytes after m h in
    let code : segment.marker ≡ k.code = marker ∙ code-there bytes after k.code k.kept.is long in
    kept-cut bytes (255 ∷ k.code ∷ after) segment k.kept
    (needs-marker k.code segment.needed after m k.named sized needs)
    (omega (arith, skipped, long))
    (λ there. ap (λ (c : ℕ). 255 ∷ c ∷ []) (sym code))
    (λ none. absurd (no-zero k.code m k.named (sym code ∙ none)))

-- ---- where a payload is

marker-after : (bytes after : List ℕ) (m : Marker) → next_marker bytes ≡ Ok (m, after)
    → drop (length bytes - length after) bytes ≡ after
marker-after bytes after m h =
    let k = found-kept bytes after m h in
    let long = marker-long bytes after m h in
    let before : ℕ = length bytes - length (255 ∷ k.code ∷ after) in
    let place : length bytes - length after ≡ before + 2 = omega (arith, long) in
    ap (λ n. drop n bytes) place ∙ sym (drop-drop 2 before bytes) ∙ ap (λ (l : List ℕ). drop 2 l) k.kept.is

pub segment-stands : (bytes after payload rest : List ℕ) (m : Marker) → next_marker bytes ≡ Ok (m, after)
    → payload_by m after ≡ Ok (payload, rest)
    → take (length payload) (drop (length bytes - length rest - length payload) bytes) ≡ payload
segment-stands bytes after payload rest m h p =
    let long = marker-long bytes after m h in
    let whole = marked-long m after payload rest p in
    let front : ℕ = length bytes - length after in
    let left : ℕ = length after - length rest - length payload in
    let place : length bytes - length rest - length payload ≡ front + left = omega (arith, long, whole) in
    ap (λ n. take (length payload) (drop n bytes)) place
    ∙ ap (λ (l : List ℕ). take (length payload) l)
    (sym (drop-drop left front bytes) ∙ ap (λ (l : List ℕ). drop left l) (marker-after bytes after m h))
    ∙ marked-stands m after payload rest p

-- worked by hand: a byte, a fill byte and an APP1 segment, after which one byte is left
worked : next_segment (7 ∷ 255 ∷ 255 ∷ 225 ∷ 0 ∷ 4 ∷ 1 ∷ 2 ∷ 255 ∷ []) ≡ Ok ((APP 1, 1 ∷ 2 ∷ []), 255 ∷ [])
unfolding next_segment next_marker marker_of payload_by payload_at length_at next_u16 times
worked = refl

-- ---- the code of the next marker

pub none-coded : (bytes : List ℕ) → next_marker bytes ≡ Err End → 0 ≡ next_code bytes
none-coded bytes e = rw (e, next_code) refl

pub marker-coded : (bytes after : List ℕ) (m : Marker) → next_marker bytes ≡ Ok (m, after)
    → slice_index bytes (length bytes - length after - 1) ≡ next_code bytes
marker-coded bytes after m e = rw (e, next_code) refl

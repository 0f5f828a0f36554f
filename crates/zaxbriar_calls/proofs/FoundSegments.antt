-- The next marker and the payload of a segment, as they are searched for, and what more bytes change.
use Rattle.std.proofs.Common.{arith, ◌≡◌, ◌∙◌, ◌⊎◌, inl, inr, ℕ, zero, suc, ◌+◌, ◌-◌, ◌*◌, ◌<◌, ◌≤◌, List}
use Rattle.std.proofs.Common.{[], ◌∷◌, Ok, Err}
use Rattle.std.proofs.Common.{Some, None, ap, drop, length, length-drop, ne_eqb, refl, slice_index, subst, sym, take}
use Rattle.std.specs.Prelude.{IsErr, ◌++◌, max, replicate}
use Rattle.std.proofs.lemmas.List.{length-append, length-replicate, length-take-le}
use Rattle.std.proofs.lemmas.Bool.{cases_lt}
use Rattle.std.proofs.lemmas.Grind.{common_steps}
use Rattle.jpeg_bits.specs.Marker.{HasLength, marker_of, next_marker}
use Rattle.jpeg_bits.specs.Reading.{End, Fault, Malformed, Outcome, ◌>>=◌, length_at, next_byte, next_u16, times}
use Rattle.jpeg_bits.specs.declared.marker.Marker.{Marker}
use Rattle.jpeg_bits.specs.declared.marker.Marker.TheVariants as markers
use Rattle.zaxbriar_calls.specs.StreamSegments.{NeedsMore, payload_at, payload_by}

-- ---- the next marker

pub no-marker : (bytes : List ℕ) → length bytes < 2 → next_marker bytes ≡ Err End
unfolding next_marker
no-marker [] h = refl
no-marker (a ∷ []) h = refl
no-marker (a ∷ b ∷ rest) h = absurd (omega (arith, h))

pub marker-here : (bytes : List ℕ) (m : Marker) → 2 ≤ length bytes → slice_index bytes 0 ≡ 255
    → marker_of (slice_index bytes 1) ≡ Some m → next_marker bytes ≡ Ok (m, drop 2 bytes)
unfolding next_marker
marker-here (a ∷ b ∷ rest) m h first second = rw (first, second) refl
marker-here (a ∷ []) m h first second = absurd (omega (arith, h))
marker-here [] m h first second = absurd (omega (arith, h))

pub marker-later : (bytes : List ℕ) → 2 ≤ length bytes → (slice_index bytes 0 ≡ 255 → ⊥)
    → next_marker bytes ≡ next_marker (drop 1 bytes)
unfolding next_marker
marker-later (a ∷ b ∷ rest) h other = rw (ne_eqb a 255 other) refl
marker-later (a ∷ []) h other = absurd (omega (arith, h))
marker-later [] h other = absurd (omega (arith, h))

pub marker-filled : (bytes : List ℕ) → 2 ≤ length bytes → slice_index bytes 0 ≡ 255
    → marker_of (slice_index bytes 1) ≡ None → next_marker bytes ≡ next_marker (drop 1 bytes)
unfolding next_marker
marker-filled (a ∷ b ∷ rest) h first second = rw (first, second) refl
marker-filled (a ∷ []) h first second = absurd (omega (arith, h))
marker-filled [] h first second = absurd (omega (arith, h))

-- ---- a payload

pub times-taken : (n : ℕ) (bytes : List ℕ) → n ≤ length bytes
    → times n next_byte bytes ≡ Ok (take n bytes, drop n bytes)
unfolding times
times-taken zero bytes h = refl
times-taken (suc n) (b ∷ bytes) h =
    ap (λ r. r >>= (λ (others : List ℕ × List ℕ). Ok (b ∷ others.0, others.1))) (times-taken n bytes (omega (arith, h)))
times-taken (suc n) [] h = absurd (omega (arith, h))

times-cut : (n : ℕ) (bytes : List ℕ) → length bytes < n → times n next_byte bytes ≡ Err End
unfolding times
times-cut (suc n) [] h = refl
times-cut (suc n) (b ∷ bytes) h =
    ap (λ r. r >>= (λ (others : List ℕ × List ℕ). Ok (b ∷ others.0, others.1))) (times-cut n bytes (omega (arith, h)))
times-cut zero bytes h = absurd (omega (arith, h))

pub payload-unsized : (bytes : List ℕ) → length bytes < 2 → IsErr (payload_at bytes)
unfolding payload_at length_at next_u16
payload-unsized [] h = refl
payload-unsized (a ∷ []) h = refl
payload-unsized (a ∷ b ∷ rest) h = absurd (omega (arith, h))

pub payload-short : (bytes : List ℕ) → 2 ≤ length bytes → 256 * slice_index bytes 0 + slice_index bytes 1 < 2
    → IsErr (payload_at bytes)
unfolding payload_at length_at next_u16
payload-short bytes h short = grind (arith, common_steps)

pub payload-cut : (bytes : List ℕ) (size : ℕ) → 2 ≤ length bytes
    → size ≡ 256 * slice_index bytes 0 + slice_index bytes 1 → 2 ≤ size → length (drop 2 bytes) < size - 2
    → IsErr (payload_at bytes)
unfolding payload_at length_at next_u16
payload-cut bytes size h is some cut = grind (arith, common_steps, times-cut)

pub payload-is : (bytes : List ℕ) (size : ℕ) → 2 ≤ length bytes
    → size ≡ 256 * slice_index bytes 0 + slice_index bytes 1 → 2 ≤ size → size - 2 ≤ length (drop 2 bytes)
    → payload_at bytes ≡ Ok (take (size - 2) (drop 2 bytes), drop (size - 2) (drop 2 bytes))
unfolding payload_at length_at next_u16
payload-is bytes size h is some fits = grind (arith, common_steps, times-taken)

-- ---- with and without a length field

-- a marker with a length field, or one without
abbrev Lengthy : Marker → Type 0
Lengthy m = (HasLength m × ((bytes : List ℕ) → payload_by m bytes ≡ payload_at bytes))
    ⊎ ((HasLength m → ⊥) × ((bytes : List ℕ) → payload_by m bytes ≡ Ok ([], bytes)))

lengthy : (m : Marker) → Lengthy m
unfolding payload_by
lengthy (markers.SOF n) = inl (tt, λ bytes. refl)
lengthy markers.JPG = inl (tt, λ bytes. refl)
lengthy markers.DHT = inl (tt, λ bytes. refl)
lengthy markers.DAC = inl (tt, λ bytes. refl)
lengthy (markers.RST n) = inr (λ h. h, λ bytes. refl)
lengthy markers.SOI = inr (λ h. h, λ bytes. refl)
lengthy markers.EOI = inr (λ h. h, λ bytes. refl)
lengthy markers.SOS = inl (tt, λ bytes. refl)
lengthy markers.DQT = inl (tt, λ bytes. refl)
lengthy markers.DNL = inl (tt, λ bytes. refl)
lengthy markers.DRI = inl (tt, λ bytes. refl)
lengthy markers.DHP = inl (tt, λ bytes. refl)
lengthy markers.EXP = inl (tt, λ bytes. refl)
lengthy (markers.APP n) = inl (tt, λ bytes. refl)
lengthy (markers.JPGn n) = inl (tt, λ bytes. refl)
lengthy markers.COM = inl (tt, λ bytes. refl)
lengthy markers.TEM = inr (λ h. h, λ bytes. refl)
lengthy markers.RES = inl (tt, λ bytes. refl)

pub sized : (m : Marker) (bytes : List ℕ) → HasLength m → payload_by m bytes ≡ payload_at bytes
sized m bytes h = go (lengthy m)
  where
    go : Lengthy m → payload_by m bytes ≡ payload_at bytes
    go (inl p) = p.1 bytes
    go (inr p) = absurd (p.0 h)

pub unsized : (m : Marker) (bytes : List ℕ) → (HasLength m → ⊥) → payload_by m bytes ≡ Ok ([], bytes)
unsized m bytes h = go (lengthy m)
  where
    go : Lengthy m → payload_by m bytes ≡ Ok ([], bytes)
    go (inl p) = absurd (h p.0)
    go (inr p) = p.1 bytes

ok-refused : {A : Type 0} (o : Outcome A) (x : A × List ℕ) → o ≡ Ok x → IsErr o → ⊥
ok-refused o x e h = grind arith

-- a payload that is refused has a length field
pub refused-sized : (m : Marker) (bytes : List ℕ) → IsErr (payload_by m bytes) → (others : List ℕ)
    → payload_by m others ≡ payload_at others
refused-sized m bytes h others = go (lengthy m)
  where
    go : Lengthy m → payload_by m others ≡ payload_at others
    go (inl p) = p.1 others
    go (inr p) = absurd (ok-refused (payload_by m bytes) ([], bytes) (p.1 bytes) h)

-- ---- what a payload needs that isn't whole

pub few-refused : (bytes : List ℕ) → 2 ≤ length bytes → 256 * slice_index bytes 0 + slice_index bytes 1 < 2
    → payload_at bytes ≡ Err Malformed
unfolding payload_at length_at next_u16
few-refused bytes h short = grind (arith, common_steps)

no-length : (bytes : List ℕ) → length bytes < 2 → payload_at bytes ≡ Err End
unfolding payload_at length_at next_u16
no-length [] h = refl
no-length (a ∷ []) h = refl
no-length (a ∷ b ∷ rest) h = absurd (omega (arith, h))

cut-off : (bytes : List ℕ) → 2 ≤ length bytes → 2 ≤ 256 * slice_index bytes 0 + slice_index bytes 1
    → length bytes < 256 * slice_index bytes 0 + slice_index bytes 1 → payload_at bytes ≡ Err End
unfolding payload_at length_at next_u16
cut-off bytes h some cut = grind (arith, common_steps, times-cut, length-drop)

is-read : (bytes : List ℕ) → 2 ≤ length bytes → length bytes ≡ 256 * slice_index bytes 0 + slice_index bytes 1
    → payload_at bytes ≡ Err End → ⊥
is-read bytes h whole e =
    let size : ℕ = 256 * slice_index bytes 0 + slice_index bytes 1 in
    let left : size - 2 ≤ length (drop 2 bytes) = omega (arith, whole, length-drop {A = ℕ}) in
    let p = payload-is bytes size h refl (omega (arith, h, whole)) left in cc

few-read : (bytes : List ℕ) → 2 ≤ length bytes → 256 * slice_index bytes 0 + slice_index bytes 1 < 2
    → payload_at bytes ≡ Err End → ⊥
few-read bytes h short e = let p = few-refused bytes h short in cc

pub some-left : (bytes : List ℕ) (size : ℕ) → IsErr (payload_at bytes) → 2 ≤ length bytes
    → size ≡ 256 * slice_index bytes 0 + slice_index bytes 1 → 2 ≤ size → length bytes < size
some-left bytes size h long is some = go (cases_lt (length bytes) size)
  where
    go : (length bytes < size) ⊎ (size ≤ length bytes) → length bytes < size
    go (inl less) = less
    go (inr whole) =
        let left : size - 2 ≤ length (drop 2 bytes) = omega (arith, whole, length-drop {A = ℕ}) in
        let p = payload-is bytes size long is some left in absurd (grind arith)

pub needs-length : (bytes : List ℕ) → length bytes < 1
    → NeedsMore payload_at bytes 2 × (payload_at bytes ≡ Err End)
needs-length [] h = (
  record {
    some = omega arith;
    fewer = no-length;
    enough = 0 ∷ 0 ∷ [];
    length_is = refl;
    reads = few-read (0 ∷ 0 ∷ []) (omega arith) (omega arith);
  },
  no-length [] (omega arith),
)
needs-length (a ∷ bytes) h = absurd (omega (arith, h))

low-fewer : (high : ℕ) (more : List ℕ) → length more < max (256 * high) 2 - 1 → payload_at (high ∷ more) ≡ Err End
low-fewer high [] h = no-length (high ∷ []) (omega arith)
low-fewer high (low ∷ more) h = cut-off (high ∷ low ∷ more) (omega arith) (omega (arith, h)) (omega (arith, h))

low-enough : (high : ℕ) → payload_at (high ∷ replicate (max (256 * high) 2 - 1) 0) ≡ Err End → ⊥
low-enough zero e = few-read (0 ∷ 0 ∷ []) (omega arith) (omega arith) e
low-enough (suc n) e =
    let count : max (256 * suc n) 2 - 1 ≡ suc (254 + 256 * n) = omega arith in
    is-read (suc n ∷ 0 ∷ replicate (254 + 256 * n) 0) (omega arith)
    (omega (arith, length-replicate {A = ℕ} (254 + 256 * n) 0)) (rw count at e)

pub needs-low : (bytes : List ℕ) (least : ℕ) → 1 ≤ length bytes → length bytes < 2
    → least ≡ max (256 * slice_index bytes 0) 2 → NeedsMore payload_at bytes (least - 1) × (payload_at bytes ≡ Err End)
needs-low (a ∷ []) least some few is = rw is (
  record {
    some = omega arith;
    fewer = low-fewer a;
    enough = replicate (max (256 * a) 2 - 1) 0;
    length_is = length-replicate (max (256 * a) 2 - 1) 0;
    reads = low-enough a;
  },
  no-length (a ∷ []) (omega arith),
)
needs-low [] least some few is = absurd (omega (arith, some))
needs-low (a ∷ b ∷ bytes) least some few is = absurd (omega (arith, few))

pub needs-payload : (bytes : List ℕ) (size : ℕ) → 2 ≤ length bytes
    → size ≡ 256 * slice_index bytes 0 + slice_index bytes 1 → length bytes < size
    → NeedsMore payload_at bytes (size - length bytes) × (payload_at bytes ≡ Err End)
needs-payload (a ∷ b ∷ rest) size long is cut = (
  record {
    some = omega (arith, cut);
    fewer = λ more few. cut-off (a ∷ b ∷ (rest ++ more)) (omega arith) (omega (arith, is, cut))
        (omega (arith, is, cut, few, length-append rest more));
    enough = replicate (size - length (a ∷ b ∷ rest)) 0;
    length_is = length-replicate (size - length (a ∷ b ∷ rest)) 0;
    reads = is-read (a ∷ b ∷ (rest ++ replicate (size - length (a ∷ b ∷ rest)) 0)) (omega arith)
        (omega (
          arith,
          is,
          cut,
          length-append rest (replicate (size - length (a ∷ b ∷ rest)) 0),
          length-replicate {A = ℕ} (size - length (a ∷ b ∷ rest)) 0,
        ));
  },
  cut-off (a ∷ b ∷ rest) (omega arith) (omega (arith, is, cut)) (omega (arith, is, cut)),
)
needs-payload [] size long is cut = absurd (omega (arith, long))
needs-payload (a ∷ []) size long is cut = absurd (omega (arith, long))

-- ---- where a payload is

same-parts : (o : Outcome (List ℕ)) (a b : List ℕ × List ℕ) → o ≡ Ok a → o ≡ Ok b → b ≡ a
same-parts o a b p q = grind arith

refused-long : (bytes : List ℕ) (p : List ℕ × List ℕ) (fault : Fault) → payload_at bytes ≡ Ok p
    → payload_at bytes ≡ Err fault → ⊥
refused-long bytes p fault h e = cc

-- a payload is the last of the bytes that were read
abbrev Lies : List ℕ → List ℕ × List ℕ → Type 0
Lies bytes p = (length p.0 + length p.1 ≤ length bytes)
    × (take (length p.0) (drop (length bytes - length p.1 - length p.0) bytes) ≡ p.0)

whole-lies : (bytes : List ℕ) (n : ℕ) (p : List ℕ × List ℕ) → payload_at bytes ≡ Ok p
    → payload_at bytes ≡ Ok (take n (drop 2 bytes), drop n (drop 2 bytes)) → 2 ≤ length bytes
    → n ≤ length (drop 2 bytes) → Lies bytes p
whole-lies bytes n p h is long few =
    let same = same-parts (payload_at bytes) p (take n (drop 2 bytes), drop n (drop 2 bytes)) h is in
    let size : length (take n (drop 2 bytes)) ≡ n = length-take-le n (drop 2 bytes) few in
    let place : length bytes - length (drop n (drop 2 bytes)) - n ≡ 2 =
    omega (arith, long, few, length-drop {A = ℕ}) in
    subst (λ (x : List ℕ × List ℕ). Lies bytes x) same (
      omega (arith, few, size, length-drop {A = ℕ}),
      ap (λ k. take k (drop (length bytes - length (drop n (drop 2 bytes)) - k) bytes)) size
          ∙ ap (λ k. take n (drop k bytes)) place,
    )

payload-lies : (bytes : List ℕ) (p : List ℕ × List ℕ) → payload_at bytes ≡ Ok p → Lies bytes p
payload-lies bytes p h = go (cases_lt (length bytes) 2)
  where
    size : ℕ
    size = 256 * slice_index bytes 0 + slice_index bytes 1

    whole : 2 ≤ length bytes → 2 ≤ size → (length bytes < size) ⊎ (size ≤ length bytes) → Lies bytes p
    whole long some (inl cut) = absurd (refused-long bytes p End h (cut-off bytes long some cut))
    whole long some (inr fits) =
        let left : size - 2 ≤ length (drop 2 bytes) = omega (arith, fits, length-drop {A = ℕ}) in
        whole-lies bytes (size - 2) p h (payload-is bytes size long refl some left) long left

    sized : 2 ≤ length bytes → (size < 2) ⊎ (2 ≤ size) → Lies bytes p
    sized long (inl short) = absurd (refused-long bytes p Malformed h (few-refused bytes long short))
    sized long (inr some) = whole long some (cases_lt (length bytes) size)

    go : (length bytes < 2) ⊎ (2 ≤ length bytes) → Lies bytes p
    go (inl few) = absurd (refused-long bytes p End h (no-length bytes few))
    go (inr long) = sized long (cases_lt size 2)

marked-lies : (m : Marker) (bytes payload rest : List ℕ) → payload_by m bytes ≡ Ok (payload, rest)
    → Lies bytes (payload, rest)
marked-lies m bytes payload rest h = go (lengthy m)
  where
    go : Lengthy m → Lies bytes (payload, rest)
    go (inl p) = payload-lies bytes (payload, rest) (sym (p.1 bytes) ∙ h)
    go (inr p) =
        let same = same-parts (payload_by m bytes) (payload, rest) ([], bytes) h (p.1 bytes) in
        subst (λ (x : List ℕ × List ℕ). Lies bytes x) same (omega arith, refl)

pub marked-long : (m : Marker) (bytes payload rest : List ℕ) → payload_by m bytes ≡ Ok (payload, rest)
    → length payload + length rest ≤ length bytes
marked-long m bytes payload rest h = (marked-lies m bytes payload rest h).0

pub marked-stands : (m : Marker) (bytes payload rest : List ℕ) → payload_by m bytes ≡ Ok (payload, rest)
    → take (length payload) (drop (length bytes - length rest - length payload) bytes) ≡ payload
marked-stands m bytes payload rest h = (marked-lies m bytes payload rest h).1

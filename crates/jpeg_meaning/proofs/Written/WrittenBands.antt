-- A band that was written is read again.
use Rattle.std.proofs.Common.{rules, ◌≢◌, zero, Bool, List, ◌++◌, length, take, drop, negsuc, refl, subst, arith, neg_ℤ}
use Rattle.std.proofs.Common.{◌≡◌, unsigned_abs, append_assoc, append-nil, pow_pos, le_refl, length-append}
use Rattle.std.proofs.Common.{ℕ, suc, ◌+◌, ◌-◌, ◌*◌, ◌^◌, ◌<◌, ◌≤◌, [], ◌∷◌, map, ℤ, pos, sym, ap, ◌∙◌, ap₂}
use Rattle.std.proofs.lemmas.List.{take-replicate, drop-replicate, length-replicate}
use Rattle.std.proofs.Math.Nat.{zero-mul, mul-le-mul_left}
use lib.Signed.{mag}
use Rattle.std.proofs.lemmas.Int.{int_wrap_fits}
use Rattle.std.proofs.lemmas.Bool.{lt-ltb}
use Rattle.std.proofs.lemmas.Bool.Decides.{nat_tests}
use Rattle.std.specs.List.{AllByRecursion}
use Rattle.jpeg_bits.specs.Codes.{Table}
use Rattle.jpeg_bits.specs.Written.{low_bits, IsCategory, IsCoded}
use Rattle.jpeg_bits.specs.Readers.{Reads, ReadsJust}
use Rattle.jpeg_bits.specs.Bands.{wrapped, Band, before_more, token_at, token_from, after_token, first_ac}
use Rattle.jpeg_bits.specs.declared.blocks.tokens.Token.{Token}
use Rattle.jpeg_bits.specs.declared.blocks.tokens.Token.TheVariants.{Value, Sixteen, Rest}
use Rattle.jpeg_meaning.specs.WrittenData.{bits_for, no_numbers, WritesBand}
use Rattle.jpeg_meaning.specs.WrittenData.WritesBand.{full, value, sixteen, ended}
use Rattle.jpeg_bits.proofs.WrittenBits.{takes-gives, takes-bind, takes-number, takes-map, takes-as}
use Rattle.jpeg_bits.proofs.Tables.{IsGood}
use Rattle.jpeg_meaning.proofs.Written.SentBlocks.{scaled, InRange}
use Rattle.jpeg_lossless.proofs.ReadBack.{takes-signed}

-- ---- tokens

pub takes-token : (table : Table) (al m j r s : ℕ) (code own bits : List Bool) (x : Token) (y : Band) → IsGood table
    → IsCoded table (16 * r + s) code → s ≤ 15
    → ((room size : ℕ) → room ≡ suc j → ReadsJust (token_at room size r s) own x)
    → ReadsJust (after_token al (first_ac table al m) (no_numbers (suc j)) x) bits y
    → ReadsJust (first_ac table al (suc m) (no_numbers (suc j))) ((code ++ own) ++ bits) y
unfolding first_ac token_from
takes-token table al m j r s code own bits x y good coded small token after =
    takes-bind (token_from table (length (no_numbers (suc j))))
    (after_token al (first_ac table al m) (no_numbers (suc j))) (code ++ own) bits x y
    (search (rules, takes-as, takes-bind, length-replicate))
    after

pub after-value : (al : ℕ) (others : List ℤ → Reads Band) (coefficients : List ℤ) (r : ℕ) (u : ℤ)
    (bits : List Bool) (more : Band) → wrapped (scaled al u) ≡ scaled al u
    → ReadsJust (others (drop (r + 1) coefficients)) bits more
    → ReadsJust (after_token al others coefficients (Value r u)) bits
    (before_more (take r coefficients ++ scaled al u ∷ []) more)
after-value al others coefficients r u bits more fits w = search (rules, takes-map, scaled)

pub after-sixteen : (al : ℕ) (others : List ℤ → Reads Band) (coefficients : List ℤ)
    (bits : List Bool) (more : Band) → ReadsJust (others (drop 16 coefficients)) bits more
    → ReadsJust (after_token al others coefficients Sixteen) bits
    (before_more (take 16 coefficients) more)
after-sixteen al others coefficients bits more w = search (rules, takes-map)

-- ---- bands

pub range-below : (al : ℕ) (u : ℤ) → InRange al u → unsigned_abs u < 2 ^ 15
range-below al u h = search (rules, pow_pos, mul-le-mul_left, unsigned_abs)

pub category-small : (al : ℕ) (u : ℤ) (s : ℕ) → InRange al u → IsCategory u s → s ≤ 15
category-small al u s h cat = cat.is_least 15 (range-below al u h)

pub abs-scaled : (al : ℕ) (u : ℤ) → unsigned_abs (scaled al u) ≡ unsigned_abs u * 2 ^ al
abs-scaled al (pos n) = refl
abs-scaled al (negsuc n) = search (rules, unsigned_abs, neg_ℤ)

pub mag-le : (z : ℤ) → mag z ≤ unsigned_abs z
mag-le (pos n) = le_refl n
mag-le (negsuc n) = omega arith

pub scaled-fits : (al : ℕ) (u : ℤ) → InRange al u → wrapped (scaled al u) ≡ scaled al u
scaled-fits al u h = search (rules, int_wrap_fits, scaled, abs-scaled, mag-le)

pub scaled-zero : (al : ℕ) → scaled al (pos 0) ≡ pos 0
scaled-zero al = ap pos (omega (arith, zero-mul (2 ^ al)))

pub map-no_numbers : (al r : ℕ) (more : List ℤ)
    → map (scaled al) (no_numbers r ++ more) ≡ no_numbers r ++ map (scaled al) more
map-no_numbers al zero more = refl
map-no_numbers al (suc r) more = ap₂ (λ (x : ℤ) (xs : List ℤ). x ∷ xs) (scaled-zero al) (map-no_numbers al r more)

pub length-no_numbers : (r : ℕ) (more : List ℤ) → length (no_numbers r ++ more) ≡ r + length more
length-no_numbers r more = rw (length-append (no_numbers r) more, length-replicate r (pos 0)) refl

pub abs-zero : (u : ℤ) → unsigned_abs u < 2 ^ 0 → u ≡ pos 0
abs-zero (pos zero) h = refl
abs-zero u h = absurd (omega arith)

pub band-value : (table : Table) (al r s n : ℕ) (u : ℤ) (code : List Bool) (more : List ℤ) (bits : List Bool) (run : ℕ)
    → IsGood table → InRange al u → u ≢ pos 0 → IsCategory u s → IsCoded table (16 * r + s) code
    → suc (r + length more) ≤ n → ((m : ℕ) → length more ≤ m
    → ReadsJust (first_ac table al m (no_numbers (length more))) bits (map (scaled al) more, run))
    → ReadsJust (first_ac table al n (no_numbers (length (no_numbers r ++ u ∷ more)))) (code ++ bits_for u s ++ bits)
    (map (scaled al) (no_numbers r ++ u ∷ more), run)
unfolding token_at
band-value table al r s zero u code more bits run good range nz cat coded room others = absurd (omega arith)
band-value table al r zero (suc m) u code more bits run good range nz cat coded room others = search (rules, abs-zero)
band-value table al r (suc t) (suc m) u code more bits run good range nz cat coded room others =
    let k = length more in
    let coefficients = no_numbers (suc (r + k)) in
    let long : length coefficients ≡ suc (r + k) = length-replicate (suc (r + k)) (pos 0) in
    let front : take r coefficients ≡ no_numbers r = search (rules, take-replicate) in
    let back : drop (r + 1) coefficients ≡ no_numbers k = grind (arith, drop-replicate) in
    let w = rw (sym back) at (others m (omega arith)) in
    let given : length (no_numbers r ++ u ∷ more) ≡ suc (r + k) = length-no_numbers r (u ∷ more) ∙ omega arith in
    let numbers : (take r coefficients ++ scaled al u ∷ []) ++ map (scaled al) more ≡ map (scaled al) (no_numbers r ++ u ∷ more)
    = search (rules, scaled, append_assoc, map-no_numbers) in
    let token = takes-token table al m (r + k) r (suc t) code (bits_for u (suc t)) bits (Value r u) _ good coded
    (category-small al u (suc t) range cat)
    (λ room size e. (grind (arith, lt-ltb 0 (suc t) (omega arith), lt-ltb r room (omega arith), takes-signed u (suc t) cat)))
    (after-value al (first_ac table al m) coefficients r u bits (map (scaled al) more, run)
    (scaled-fits al u range) w) in
    grind (arith, scaled al, takes-as)

pub band-sixteen : (table : Table) (al n : ℕ) (code : List Bool) (more : List ℤ) (bits : List Bool) (run : ℕ)
    → IsGood table → IsCoded table (16 * 15 + 0) code → 16 + length more ≤ n
    → ((m : ℕ) → length more ≤ m
    → ReadsJust (first_ac table al m (no_numbers (length more))) bits (map (scaled al) more, run))
    → ReadsJust (first_ac table al n (no_numbers (length (no_numbers 16 ++ more)))) (code ++ bits)
    (map (scaled al) (no_numbers 16 ++ more), run)
unfolding token_at
band-sixteen table al zero code more bits run good coded room others = absurd (omega arith)
band-sixteen table al (suc m) code more bits run good coded room others =
    let k = length more in
    let coefficients = no_numbers (suc (15 + k)) in
    let front : take 16 coefficients ≡ no_numbers 16 = search (rules, take-replicate) in
    let back : drop 16 coefficients ≡ no_numbers k = drop-replicate 16 (suc (15 + k)) (pos 0) ∙ ap
    no_numbers (omega arith) in
    let w = rw (sym back) at (others m (omega arith)) in
    let given : length (no_numbers 16 ++ more) ≡ suc (15 + k) = length-no_numbers 16 more ∙ omega arith in
    let numbers : take 16 coefficients ++ map (scaled al) more ≡ map (scaled al) (no_numbers 16 ++
    more)
    = ap (λ (l : List ℤ). l ++ map (scaled al) more) front ∙ sym (map-no_numbers al 16 more) in
    let token = takes-token table al m (15 + k) 15 0 code [] bits Sixteen _ good coded (omega arith)
    (λ room size e. (takes-gives Sixteen))
    (after-sixteen al (first_ac table al m) coefficients bits (map (scaled al) more, run) w) in
    subst (λ (l : ℕ). ReadsJust (first_ac table al (suc m) (no_numbers l)) (code ++ bits)
    (map (scaled al) (no_numbers 16 ++ more), run))
    (sym given) (grind (arith, append-nil code))

pub band-rest : (table : Table) (al k n r e : ℕ) (code : List Bool) → IsGood table → r ≤ 14 → e < 2 ^ r
    → IsCoded table (16 * r + 0) code → suc k ≤ n
    → ReadsJust (first_ac table al n (no_numbers (length (no_numbers (suc k))))) (code ++ low_bits r e)
    (map (scaled al) (no_numbers (suc k)), 2 ^ r - 1 + e)
unfolding token_at
band-rest table al k zero r e code good h f coded room = absurd (omega arith)
band-rest table al k (suc m) r e code good h f coded room =
    let numbers : no_numbers (suc k) ≡ map (scaled al) (no_numbers (suc k))
    = sym (append-nil (no_numbers (suc k))) ∙ sym (map-no_numbers al (suc k) [])
    ∙ ap (map (scaled al)) (append-nil (no_numbers (suc k))) in
    let token = takes-token table al m k r 0 code (low_bits r e) [] (Rest (2 ^ r - 1 + e)) _ good coded (omega arith)
    (λ room size q. (grind (arith, nat_tests, takes-number r e f)))
    (takes-gives (no_numbers (suc k), 2 ^ r - 1 + e)) in
    grind (arith, scaled al, length-replicate (suc k) (pos 0), takes-as, append-nil (code ++ low_bits r e))

pub all-after : (P : ℤ → Type 0) (r : ℕ) (more : List ℤ) → AllByRecursion P (no_numbers r ++ more)
    → AllByRecursion P more
all-after P zero more h = h
all-after P (suc r) more h = all-after P r more h.1

-- A band that was written is read as its numbers times 2 ^ al, and as the run after it.
pub takes-band : (table : Table) (al : ℕ) (band : List ℤ) (bits : List Bool) (run : ℕ) → IsGood table
    → AllByRecursion (InRange al) band → WritesBand table band bits run → (n : ℕ) → length band ≤ n
    → ReadsJust (first_ac table al n (no_numbers (length band))) bits (map (scaled al) band, run)
unfolding first_ac
takes-band table al band bits run good range full n room = takes-gives ([], 0)
takes-band table al band bits run good range (value r s u code more bits' run' h nz cat coded w) n room =
    let rest = all-after (InRange al) r (u ∷ more) range in
    let size = length-no_numbers r (u ∷ more) in
    band-value table al r s n u code more bits' run' good rest.0 nz cat coded (omega arith)
    (takes-band table al more bits' run' good rest.1 w)
takes-band table al band bits run good range (sixteen code more bits' run' coded w) n room =
    band-sixteen table al n code more bits' run' good coded (omega arith)
    (takes-band table al more bits' run' good (all-after (InRange al) 16 more range) w)
takes-band table al band bits run good range (ended k r e code h f coded) n room =
    search (rules, length-replicate, band-rest)

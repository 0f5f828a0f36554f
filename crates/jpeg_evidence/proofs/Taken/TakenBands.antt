-- The bits that were taken of a band in its first scan are those that are written for it.
use Rattle.std.proofs.lemmas.Grind.{common_steps}
use Rattle.std.proofs.Common.{rules, ◌≡◌, ◌≢◌, ℕ, zero, suc, ◌+◌, ◌-◌, ◌*◌, ◌^◌, ◌<◌, ◌≤◌, Bool, List, [], ◌∷◌}
use Rattle.std.proofs.Common.{◌++◌, map, length, refl, sym, ap, ap₂, ◌∙◌, subst, arith, Ok, ℤ, pos, append_assoc}
use Rattle.std.proofs.Common.{append-nil, length-append}
use Rattle.std.proofs.lemmas.List.{take-replicate, drop-replicate, length-replicate}
use Rattle.jpeg_bits.specs.Entropy.{Text}
use Rattle.jpeg_bits.specs.Codes.{Table, IsTable}
use Rattle.jpeg_bits.specs.Readers.{gives, ◌>>=◌}
use Rattle.jpeg_bits.specs.Bands.{Band, before_more, wrapped, token_from, after_token, first_ac}
use Rattle.jpeg_bits.specs.Written.{IsCoded}
use Rattle.jpeg_bits.specs.declared.blocks.tokens.Token.{Token}
use Rattle.jpeg_bits.specs.declared.blocks.tokens.Token.TheVariants.{Value, Sixteen, Rest, Overlong}
use Rattle.jpeg_meaning.specs.WrittenData.{no_numbers}
use Rattle.jpeg_meaning.specs.WrittenData.WritesBand.{full, value as a_value, sixteen as a_sixteen, ended as an_end}
use Rattle.jpeg_meaning.proofs.Written.SentBlocks.{scaled, InRange}
use Rattle.jpeg_meaning.proofs.Written.WrittenBands.{map-no_numbers, scaled-fits}
use Rattle.jpeg_evidence.specs.Strict.{alone, IsCut, IsNumber, IsValue, Follows, IsToken, IsTokenWithin, room_after}
use Rattle.jpeg_evidence.specs.Strict.{TokensFit, HasByteSymbols, IsBand}
use Rattle.jpeg_evidence.specs.Strict.Follows.{value, sixteen, ended}
use Rattle.jpeg_evidence.specs.Strict.TokensFit.{filled, token}
use Rattle.jpeg_evidence.proofs.Taken.TakenBits.{after-read, gives-taken, map-taken, cut-map, cut-then, After}
use Rattle.jpeg_evidence.proofs.Taken.TakenTokens.{token_taken}

of-value : (r s k : ℕ) (u : ℤ) (own : List Bool) → Follows r s (Value k u) own → (r ≡ k) × (0 < s) × IsValue s u own
of-value r s k u own (value r' s' u' own' is) = (refl, omega arith, is)

of-sixteen : (r s : ℕ) (own : List Bool) → Follows r s Sixteen own → (r ≡ 15) × (s ≡ 0) × (own ≡ [])
of-sixteen r s own (sixteen r' is) = (is, refl, refl)

of-rest : (r s run : ℕ) (own : List Bool) → Follows r s (Rest run) own
    → (r ≢ 15) × (s ≡ 0) × (e : ℕ) × (run ≡ 2 ^ r - 1 + e) × IsNumber r e own
of-rest r s run own (ended r' e own' n is) = (n, refl, e, refl, is)

pub run-small : (table : Table) (r s : ℕ) (code : List Bool) → HasByteSymbols table → IsCoded table
    (16 * r + s) code → r ≤ 15
run-small table r s code bytes coded = grind (arith, common_steps)

value-written : (table : Table) (al r : ℕ) (u : ℤ) (band : List ℤ) (run : ℕ) (own back : List Bool)
    → HasByteSymbols table
    → InRange al u → IsToken table (Value r u) own → IsBand table al band run back
    → IsBand table al ((no_numbers r ++ wrapped (scaled al u) ∷ []) ++ band) run (own ++ back)
value-written table al r u band run own back bytes range w b =
    let f = of-value w.r w.s r u w.after w.follows in
    let coded = subst (λ (k : ℕ). IsCoded table (16 * k + w.s) w.code) f.0 w.coded in
    let cat = f.2.category in
    let front = map-no_numbers al r (u ∷ b.numbers) in
    grind (arith, scaled-fits, append_assoc, a_value, run-small)

sixteen-written : (table : Table) (al : ℕ) (band : List ℤ) (run : ℕ) (own back : List Bool)
    → IsToken table Sixteen own → IsBand table al band run back
    → IsBand table al (no_numbers 16 ++ band) run (own ++ back)
sixteen-written table al band run own back w b =
    let f = of-sixteen w.r w.s w.after w.follows in
    let same : w.code ≡ own = sym (append-nil w.code) ∙ ap (λ (l : List Bool). w.code ++ l) (sym f.2) ∙ w.whole in
    let coded : IsCoded table (16 * 15 + 0) own = grind arith in
    record {
      numbers = no_numbers 16 ++ b.numbers;
      are = map-no_numbers al 16 b.numbers ∙ ap (λ (l : List ℤ). no_numbers 16 ++ l) b.are;
      written = a_sixteen own b.numbers back run coded b.written;
    }

rest-written : (table : Table) (al room run : ℕ) (own : List Bool) → HasByteSymbols table → IsToken
    table (Rest run) own
    → IsBand table al (no_numbers (suc room)) run own
rest-written table al room run own bytes w = record {
  numbers = no_numbers (suc room);
  are = ap (map (scaled al)) (sym (append-nil (no_numbers (suc room)))) ∙ map-no_numbers al (suc room) []
      ∙ append-nil (no_numbers (suc room));
  written = grind (arith, an_end, of-rest, run-small);
}

-- a band of this many coefficients
pub record IsLong (table : Table) (al room : ℕ) (y : Band) (own : List Bool) : Type 0 where
  pub band : IsBand table al y.0 y.1 own
  pub long : length y.0 ≡ room

-- what is written for a token and for what was read after it
abbrev IsAfter : Table → ℕ → ℕ → Token → Band → List Bool → Type 0
IsAfter table al room x y = After (IsToken table x) (IsLong table al room y)

step : (table : Table) (al n room : ℕ) (x : Token) (more : List Bool) (y : Band) (t : Text) →
    HasByteSymbols table
    → IsTokenWithin al (suc room) x
    → ((z : Band) → first_ac table al n (no_numbers (room_after (suc room) x)) (alone more) ≡ Ok (z, t)
    → IsCut (IsLong table al (room_after (suc room) x) z) more t)
    → after_token al (first_ac table al n) (no_numbers (suc room)) x (alone more) ≡ Ok (y, t)
    → IsCut (IsAfter table al (suc room) x y) more t
step table al n room (Value r u) more y t bytes fits others e =
    let low : r ≤ suc room = (let small = fits.0 in omega (arith, small)) in
    map-taken (first_ac table al n (no_numbers (suc room - (r + 1))))
    (λ (m : Band). before_more (no_numbers r ++ wrapped (scaled al u) ∷ []) m) (IsLong table al (suc room - (r + 1)))
    (IsAfter table al (suc room) (Value r u)) others
    (grind (arith, value-written, length-append, length-replicate))
    (rw (take-replicate r (suc room) (pos 0) low, drop-replicate (r + 1) (suc room) (pos 0)) at e)
step table al n room Sixteen more y t bytes fits others e =
    map-taken (first_ac table al n (no_numbers (suc room - 16))) (λ (m : Band). before_more (no_numbers 16) m)
    (IsLong table al (suc room - 16)) (IsAfter table al (suc room) Sixteen) others
    (λ z own b first w. search (rules, sixteen-written, length-append, length-replicate))
    (ap₂ (λ (f d : List ℤ). (first_ac table al n d >>= (λ (m : Band). gives (before_more f m))) (alone more))
    (sym (take-replicate 16 (suc room) (pos 0) fits)) (sym (drop-replicate 16 (suc room) (pos 0))) ∙ e)
step table al n room (Rest run) more y t bytes fits others e = grind (arith, gives-taken, append-nil, rest-written, length-replicate)
step table al n room Overlong more y t bytes fits others e = absurd fits

after-small : (k n : ℕ) (x : Token) → suc k ≤ suc n → room_after (suc k) x ≤ n
after-small k n x h = grind arith

-- The bits that were taken of a band whose tokens fit are written for it, and it has all its coefficients.
pub long-taken : {table : Table} {al n room : ℕ} {bits : List Bool} {y : Band} {t : Text} → IsTable table
    → HasByteSymbols table → TokensFit table al room bits → room ≤ n
    → first_ac table al n (no_numbers room) (alone bits) ≡ Ok (y, t) → IsCut (IsLong table al room y) bits t
unfolding first_ac
long-taken {table} {al} is bytes (filled bits') le e = search (rules, gives-taken, full)
long-taken {n = zero} is bytes (token k x bits' more h f w) le e = absurd (omega arith)
long-taken {table} {al} {n = suc n} {y = y} {t = t} is bytes (token k x bits' more h f w) le e =
    let long : length (no_numbers (suc k)) ≡ suc k = length-replicate (suc k) (pos 0) in
    let rest = after-read (token_from table (suc k)) (after_token al (first_ac table al n) (no_numbers (suc k))) h
    (rw long at e) in
    cut-then (token_taken (suc k) is h)
    (step table al n k x more y t bytes f (λ z. long-taken {n = n} is bytes w (after-small k n x le)) rest)

-- The bits that were taken of a band whose tokens fit are written for it.
pub band_taken : (table : Table) (al n room : ℕ) (bits : List Bool) (y : Band) (t : Text) → IsTable table
    → HasByteSymbols table → TokensFit table al room bits → room ≤ n
    → first_ac table al n (no_numbers room) (alone bits) ≡ Ok (y, t) → IsCut (IsBand table al y.0 y.1) bits t
band_taken table al n room bits y t is bytes fits le e =
    cut-map {P = IsLong table al room y} (λ own b. b.band) (long-taken is bytes fits le e)

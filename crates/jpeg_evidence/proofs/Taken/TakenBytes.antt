-- Bytes whose text ends with a marker are stuffed bytes of its bits, and the marker.
use Rattle.std.proofs.Common.{arith, ◌≡◌, ℕ, zero, suc, Bool, true, false, cond, List, [], ◌∷◌, ◌++◌, replicate}
use Rattle.std.proofs.Common.{refl, ap, ap₂, eqb, Option, Some}
use Rattle.std.proofs.lemmas.Bool.{eqb-true}
use Rattle.jpeg_bits.specs.Reading.{End, Fault}
use Rattle.jpeg_bits.specs.Entropy.{Ending, Found, Broken, bits_of, text_at, add_byte, no_bits, ended_by, ending_at}
use Rattle.jpeg_bits.specs.Marker.{marker_of}
use Rattle.jpeg_bits.specs.Written.{stuffed, bits_of_bytes}
use Rattle.jpeg_bits.specs.declared.marker.Marker.{Marker}
use Rattle.jpeg_evidence.specs.Strict.{IsData}

not-broken : (f : Fault) (m : Marker) (rest : List ℕ) → ◌≡◌ {A = Ending} (Broken f) (Found m rest) → ⊥
not-broken f m rest e = cc

end-named : (o : Option Marker) (r rest : List ℕ) (m : Marker) → ended_by o r ≡ Found m rest → (o ≡ Some m) × (r ≡ rest)
end-named o r rest m e = grind (arith, not-broken)

-- fill bytes, and a marker's second byte
filled-back : (bytes rest : List ℕ) (m : Marker) → ending_at bytes ≡ Found m rest
    → (fill : ℕ) × (code : ℕ) × (bytes ≡ replicate fill 0xFF ++ code ∷ rest) × (marker_of code ≡ Some m)
unfolding ending_at
filled-back [] rest m e = absurd (not-broken End m rest e)
filled-back (c ∷ bytes) rest m e = go (eqb c 255) refl (filled-back bytes rest m) e
  where
    go : (b : Bool) → eqb c 255 ≡ b
        → (ending_at bytes ≡ Found m rest
        → (fill : ℕ) × (code : ℕ) × (bytes ≡ replicate fill 0xFF ++ code ∷ rest) × (marker_of code ≡ Some m))
        → cond b (ending_at bytes) (ended_by (marker_of c) bytes) ≡ Found m rest
        → (fill : ℕ) × (code : ℕ) × (c ∷ bytes ≡ replicate fill 0xFF ++ code ∷ rest) × (marker_of code ≡ Some m)
    go true h more k =
        let r = more k in
        (suc r.0, r.1, ap₂ (λ (x : ℕ) (xs : List ℕ). x ∷ xs) (eqb-true c 255 h) r.2, r.3)
    go false h more k =
        let r = end-named (marker_of c) bytes rest m k in
        (zero, c, ap (λ (xs : List ℕ). c ∷ xs) r.1, r.0)

-- The bytes of data are its bits' bytes, stuffed, and the marker after them.
pub bytes_back : (bytes rest : List ℕ) (m : Marker) → (text_at bytes).ending ≡ Found m rest
    → IsData bytes (text_at bytes).bits m rest
unfolding text_at stuffed bits_of_bytes
bytes_back [] rest m e = absurd (not-broken End m rest e)
bytes_back (b ∷ []) rest m e = grind (arith, not-broken)
bytes_back (b ∷ c ∷ more) rest m e =
    go (eqb b 255) refl (eqb c 0) refl (bytes_back more rest m) (bytes_back (c ∷ more) rest m) e
  where
    go : (x : Bool) → eqb b 255 ≡ x → (y : Bool) → eqb c 0 ≡ y
        → ((text_at more).ending ≡ Found m rest → IsData more (text_at more).bits m rest)
        → ((text_at (c ∷ more)).ending ≡ Found m rest → IsData (c ∷ more) (text_at (c ∷ more)).bits m rest)
        → (cond x (cond y (add_byte 255 more (text_at more)) (no_bits (ending_at (c ∷ more))))
        (add_byte b (c ∷ more) (text_at (c ∷ more)))).ending ≡ Found m rest
        → IsData (b ∷ c ∷ more) (cond x (cond y (add_byte 255 more (text_at more))
        (no_bits (ending_at (c ∷ more)))) (add_byte b (c ∷ more) (text_at (c ∷ more)))).bits m rest
    go true h true k first second f =
        let r = first f in
        record {
          data_bytes = 255 ∷ r.data_bytes;
          fill = r.fill;
          code = r.code;
          parts = rw (eqb-true b 255 h, eqb-true c 0 k) (ap (λ (xs : List ℕ). 255 ∷ 0 ∷ xs) r.parts);
          names = r.names;
          has_bits = ap (λ (l : List Bool). bits_of 255 ++ l) r.has_bits;
        }
    go true h false k first second f =
        let r = filled-back (c ∷ more) rest m f in
        let e = ap₂ (λ (x : ℕ) (xs : List ℕ). x ∷ xs) (eqb-true b 255 h) r.2 in
        record { data_bytes = []; fill = r.0; code = r.1; parts = e; names = r.3; has_bits = refl }
    go false h y k first second f =
        let r = second f in
        record {
          data_bytes = b ∷ r.data_bytes;
          fill = r.fill;
          code = r.code;
          parts = rw (h, stuffed) (ap (λ (xs : List ℕ). b ∷ xs) r.parts);
          names = r.names;
          has_bits = ap (λ (l : List Bool). bits_of b ++ l) r.has_bits;
        }

-- The bits of stuffed bytes begin those of the text that they begin, and any bytes are stuffed ones and a rest.
use Rattle.std.proofs.Common.{◌≡◌, ℕ, ◌==◌, Bool, true, false, List, [], ◌∷◌, ◌++◌, refl, sym, ap, ◌∙◌, subst}
use Rattle.std.proofs.Common.{append_assoc}
use Rattle.std.proofs.lemmas.Bool.{eqb-true}
use Rattle.jpeg_bits.specs.Entropy.{Text, add_byte, bits_of, text_at}
use Rattle.jpeg_bits.specs.Written.{bits_of_bytes, stuffed}

-- a text that begins with these bits, and goes on as another one
pub record TextBegins (t : Text) (bits : List Bool) (rest : Text) : Type 0 where
  pub are : t.bits ≡ bits ++ rest.bits
  pub ends : t.ending ≡ rest.ending

plain-text : (b : ℕ) (rest : List ℕ) → (b == 255) ≡ false → text_at (b ∷ rest) ≡ add_byte b rest (text_at rest)
unfolding text_at
plain-text b [] h = rw (h, text_at) refl
plain-text b (c ∷ rest) h = rw (h, text_at) refl

stuffed-byte : (rest : List ℕ) → text_at (255 ∷ 0 ∷ rest) ≡ add_byte 255 rest (text_at rest)
unfolding text_at
stuffed-byte rest = refl

byte-begins : (b : ℕ) (rest : List ℕ) (t : Text) (bits : List Bool) (others : Text) → TextBegins t bits others
    → TextBegins (add_byte b rest t) (bits_of b ++ bits) others
byte-begins b rest t bits others h = record {
  are = ap (λ (l : List Bool). bits_of b ++ l) h.are ∙ sym (append_assoc (bits_of b) bits others.bits);
  ends = h.ends;
}

-- stuffed bytes begin a text with their bits
pub stuffed-begins : (bytes more : List ℕ)
    → TextBegins (text_at (stuffed bytes ++ more)) (bits_of_bytes bytes) (text_at more)
unfolding stuffed bits_of_bytes
stuffed-begins [] more = record { are = refl; ends = refl }
stuffed-begins (b ∷ bytes) more = go (b == 255) refl (stuffed-begins bytes more)
  where
    go : (t : Bool) → (b == 255) ≡ t
        → TextBegins (text_at (stuffed bytes ++ more)) (bits_of_bytes bytes) (text_at more)
        → TextBegins
        (text_at ((elim t as (λ _. List ℕ) [ true ↦ 255 ∷ 0 ∷ stuffed bytes | false ↦ b ∷ stuffed bytes ]) ++ more))
        (bits_of b ++ bits_of_bytes bytes) (text_at more)
    go true e h =
        let rest = stuffed bytes ++ more in
        subst (λ (c : ℕ). TextBegins (text_at (255 ∷ 0 ∷ rest)) (bits_of c ++ bits_of_bytes bytes) (text_at more))
        (sym (eqb-true b 255 e))
        (rw (stuffed-byte rest) (byte-begins 255 rest (text_at rest) (bits_of_bytes bytes) (text_at more) h))
    go false e h =
        let rest = stuffed bytes ++ more in
        rw (plain-text b rest e) (byte-begins b rest (text_at rest) (bits_of_bytes bytes) (text_at more) h)

-- ---- whole bytes

-- The whole bytes of some data, as they are without stuffing, and what comes after them.
pub record Unstuffed (bytes : List ℕ) : Type 0 where
  pub data_bytes : List ℕ
  pub more_bytes : List ℕ
  pub begins : bytes ≡ stuffed data_bytes ++ more_bytes
  pub are : (text_at bytes).bits ≡ bits_of_bytes data_bytes

stuffed-plain : (b : ℕ) (bytes : List ℕ) → (b == 255) ≡ false → stuffed (b ∷ bytes) ≡ b ∷ stuffed bytes
unfolding stuffed
stuffed-plain b bytes h = rw (h, stuffed) refl

stuffed-full : (bytes : List ℕ) → stuffed (255 ∷ bytes) ≡ 255 ∷ 0 ∷ stuffed bytes
unfolding stuffed
stuffed-full bytes = refl

byte-bits : (b : ℕ) (bytes : List ℕ) → bits_of_bytes (b ∷ bytes) ≡ bits_of b ++ bits_of_bytes bytes
unfolding bits_of_bytes
byte-bits b bytes = refl

no-bytes : bits_of_bytes [] ≡ []
unfolding bits_of_bytes
no-bytes = refl

stuffed-none : stuffed [] ≡ []
unfolding stuffed
stuffed-none = refl

-- no whole byte
nothing-whole : (bytes : List ℕ) → (text_at bytes).bits ≡ [] → Unstuffed bytes
nothing-whole bytes e = record {
  data_bytes = [];
  more_bytes = bytes;
  begins = ap (λ (l : List ℕ). l ++ bytes) (sym stuffed-none);
  are = e ∙ sym no-bytes;
}

plain-whole : (b : ℕ) (bytes : List ℕ) → (b == 255) ≡ false → Unstuffed bytes → Unstuffed (b ∷ bytes)
plain-whole b bytes h u = record {
  data_bytes = b ∷ u.data_bytes;
  more_bytes = u.more_bytes;
  begins = ap (λ (l : List ℕ). b ∷ l) u.begins
      ∙ ap (λ (l : List ℕ). l ++ u.more_bytes) (sym (stuffed-plain b u.data_bytes h));
  are = ap (λ (t : Text). t.bits) (plain-text b bytes h) ∙ ap (λ (l : List Bool). bits_of b ++ l) u.are
      ∙ sym (byte-bits b u.data_bytes);
}

full-whole : (bytes : List ℕ) → Unstuffed bytes → Unstuffed (255 ∷ 0 ∷ bytes)
full-whole bytes u = record {
  data_bytes = 255 ∷ u.data_bytes;
  more_bytes = u.more_bytes;
  begins = ap (λ (l : List ℕ). 255 ∷ 0 ∷ l) u.begins
      ∙ ap (λ (l : List ℕ). l ++ u.more_bytes) (sym (stuffed-full u.data_bytes));
  are = ap (λ (t : Text). t.bits) (stuffed-byte bytes) ∙ ap (λ (l : List Bool). bits_of 255 ++ l) u.are
      ∙ sym (byte-bits 255 u.data_bytes);
}

alone-bits : (text_at (255 ∷ [])).bits ≡ []
unfolding text_at
alone-bits = refl

ended-bits : (c : ℕ) (bytes : List ℕ) → (c == 0) ≡ false → (text_at (255 ∷ c ∷ bytes)).bits ≡ []
unfolding text_at
ended-bits c bytes h = rw (h, text_at) refl

pub unstuffed : (bytes : List ℕ) → Unstuffed bytes
unfolding text_at
unstuffed [] = nothing-whole [] refl
unstuffed (b ∷ []) = go (b == 255) refl
  where
    go : (t : Bool) → (b == 255) ≡ t → Unstuffed (b ∷ [])
    go true e = subst (λ (c : ℕ). Unstuffed (c ∷ [])) (sym (eqb-true b 255 e)) (nothing-whole (255 ∷ []) alone-bits)
    go false e = plain-whole b [] e (nothing-whole [] refl)
unstuffed (b ∷ c ∷ bytes) = go (b == 255) refl (c == 0) refl (unstuffed bytes) (unstuffed (c ∷ bytes))
  where
    go : (t : Bool) → (b == 255) ≡ t → (z : Bool) → (c == 0) ≡ z → Unstuffed bytes → Unstuffed (c ∷ bytes)
        → Unstuffed (b ∷ c ∷ bytes)
    go true e true f u v =
        subst (λ (d : ℕ). Unstuffed (d ∷ c ∷ bytes)) (sym (eqb-true b 255 e))
        (subst (λ (d : ℕ). Unstuffed (255 ∷ d ∷ bytes)) (sym (eqb-true c 0 f)) (full-whole bytes u))
    go true e false f u v =
        subst (λ (d : ℕ). Unstuffed (d ∷ c ∷ bytes)) (sym (eqb-true b 255 e))
        (nothing-whole (255 ∷ c ∷ bytes) (ended-bits c bytes f))
    go false e z f u v = plain-whole b (c ∷ bytes) e v

-- What the encoders of images and of samples share: tables, bits that are filled up to bytes, and scans of one component.
use Rattle.std.proofs.Common.{[], ap, ap₂, arith, Bool, cond, false, length, length-append, List, map, not, refl}
use Rattle.std.proofs.Common.{replicate, rules, suc, sum, true, unsigned_abs, zero, ℕ, ℤ, ◌%◌, ◌&&◌, ◌*◌, ◌++◌, ◌+◌}
use Rattle.std.proofs.Common.{◌-◌, ◌/◌, ◌<◌, ◌==◌, ◌^◌, ◌∙◌, ◌∷◌, ◌≡◌, ◌≤◌}
use Rattle.std.proofs.Math.Nat.{pow-le-pow_right}
use Rattle.std.proofs.lemmas.Bool.{and_parts, cases_lt, eq-eqb, lt-ltb, ltb-true, ne_eqb, or_parts as or-false}
use Rattle.std.proofs.lemmas.Bool.Decides.{nat_tests}
use Rattle.std.proofs.lemmas.Grind.{common_steps}
use Rattle.std.proofs.lemmas.List.{append-nil, length-replicate}
use Rattle.std.proofs.lemmas.List.FromFn.{get_or-range_with_len}
use Rattle.std.specs.List.{AllByRecursion, list_all, prefix_len, range_with_len}
use Rattle.std.specs.Prelude.{nat_le, nat_lt}
use Rattle.jpeg_bits.proofs.BufferedBits.{bit_le as at-most-one}
use Rattle.jpeg_bits.proofs.ReadIntervals.{all-append}
use Rattle.jpeg_bits.proofs.Tables.{tested-exist}
use Rattle.jpeg_bits.specs.Codes.{code_lengths, codes_exist, lengths_from, Table}
use Rattle.jpeg_bits.specs.Entropy.{bits_of}
use Rattle.jpeg_bits.specs.Written.{bits_of_bytes, code_bits, IsCategory, IsCoded, marker, stuffed, WritesInterval}
use Rattle.jpeg_bits.specs.Written.{WritesIntervals}
use Rattle.jpeg_bits.specs.Written.WritesIntervals.{another, last as last_interval}
use Rattle.jpeg_bits.specs.declared.huffman.codes.HuffmanTableClass.{HuffmanTableClass}
use Rattle.jpeg_segments.specs.Frame.{Component, component_of, Factors, frame_of, greatest, is_taken}
use Rattle.jpeg_segments.specs.HuffmanTables.{DefinedTable}
use Rattle.jpeg_segments.specs.ScanHeader.{index_of, is_band}
use Rattle.jpeg_segments.specs.ScanHeaders.{AreChoices, IsScan, ScanHeader}
use Rattle.jpeg_segments.specs.WrittenSegments.{frame_written, FrameHeader, IsHuffmanTable, u16_bytes, with_length}
use Rattle.jpeg_meaning.specs.FrameSamples.{AreBytes}

-- ---- tables

abbrev is_table : DefinedTable → Bool
is_table t =
    length t.table.counts == 16 && (length t.table.symbols == sum t.table.counts && (nat_le 1 (sum t.table.counts)
    && (nat_le (sum t.table.counts) 256 && codes_exist (code_lengths t.table.counts))))

pub table-by : (most : ℕ) (t : DefinedTable) → t.destination ≤ most → is_table t ≡ true →
    IsHuffmanTable most t
table-by most t h e = search (rules, nat_tests, tested-exist)

abbrev pub flat_counts : List ℕ
flat_counts = replicate 7 0 ++ 255 ∷ replicate 8 0

-- the symbols 0 to 254, each with a code of 8 bits
abbrev pub flat_table : HuffmanTableClass → Table
flat_table class = record { class = class; counts = flat_counts; symbols = range_with_len 0 255 }

pub flat-coded : (class : HuffmanTableClass) (symbol : ℕ) → symbol < 255
    → IsCoded (flat_table class) symbol (code_bits (flat_table class) symbol)
unfolding lengths_from
flat-coded class symbol h = grind (arith, get_or-range_with_len 0 255 symbol 0 h)

-- ---- categories

-- a value below 2 ^ b has a category of at most b
pub category-at_most : (d : ℤ) (b : ℕ) → unsigned_abs d < 2 ^ b → (s : ℕ) × (s ≤ b) × IsCategory d s
category-at_most d zero h = (0, omega arith, record { holds = h; is_least = λ t k. omega arith })
category-at_most d (suc b) h = search (rules, cases_lt, unsigned_abs, pow-le-pow_right, category-at_most d b)

-- ---- bytes

digit : (a : Bool) (n : ℕ) → n ≡ cond a 1 0 → (n == 1) ≡ a
digit true n e = eq-eqb n 1 e
digit false n e = ne_eqb n 1 (λ h. absurd (omega arith))

byte-for : (a b c d e f g h : Bool)
    → (byte : ℕ) × (bits_of byte ≡ a ∷ b ∷ c ∷ d ∷ e ∷ f ∷ g ∷ h ∷ []) × (byte < 256)
byte-for a b c d e f g h =
    let v : Bool → ℕ = λ x. cond x 1 0 in
    let n = 128 * v a + 64 * v b + 32 * v c + 16 * v d + 8 * v e + 4 * v f + 2 * v g + v h in
    grind (
      arith,
      at-most-one,
      digit a (n / 128 % 2) (omega (arith, at-most-one)),
      digit b (n / 64 % 2) (omega (arith, at-most-one)),
      digit c (n / 32 % 2) (omega (arith, at-most-one)),
      digit d (n / 16 % 2) (omega (arith, at-most-one)),
      digit e (n / 8 % 2) (omega (arith, at-most-one)),
      digit f (n / 4 % 2) (omega (arith, at-most-one)),
      digit g (n / 2 % 2) (omega (arith, at-most-one)),
      digit h (n % 2) (omega (arith, at-most-one)),
    )

byte-of : (bits : List Bool) → length bits ≡ 8 → (byte : ℕ) × (bits_of byte ≡ bits) × (byte < 256)
byte-of (a ∷ b ∷ c ∷ d ∷ e ∷ f ∷ g ∷ h ∷ []) eight = byte-for a b c d e f g h
byte-of bits eight = absurd (omega arith)

-- bits are filled up to whole bytes
record IsPacked (bits : List Bool) : Type 0 where
  bytes : List ℕ
  filling : List Bool
  is_short : length filling ≤ 7
  whole : bits_of_bytes bytes ≡ bits ++ filling
  are_bytes : AllByRecursion (λ b. b < 256) bytes

last-byte : (bits : List Bool) → 0 < length bits → length bits ≤ 7 → IsPacked bits
unfolding bits_of_bytes
last-byte bits some few =
    let filling = replicate (8 - length bits) false in
    let n = length-replicate (8 - length bits) false in
    let x = byte-of (bits ++ filling) (omega (arith, length-append bits filling)) in
    record {
      bytes = x.0 ∷ [];
      filling = filling;
      is_short = omega arith;
      whole = append-nil (bits_of x.0) ∙ x.1;
      are_bytes = (x.2, tt);
    }

packed : (bits : List Bool) → IsPacked bits
unfolding bits_of_bytes
packed [] = record { bytes = []; filling = []; is_short = omega arith; whole = refl; are_bytes = tt }
packed (a ∷ b ∷ c ∷ d ∷ e ∷ f ∷ g ∷ h ∷ more) =
    let x = byte-for a b c d e f g h in
    let r = packed more in
    record {
      bytes = x.0 ∷ r.bytes;
      filling = r.filling;
      is_short = r.is_short;
      whole = ap₂ (λ (p q : List Bool). p ++ q) x.1 r.whole;
      are_bytes = (x.2, r.are_bytes);
    }
packed bits = last-byte bits (omega arith) (omega arith)

-- the bytes of these bits
interval-packed : (writes : List Bool → Type 0) (bits : List Bool) → writes bits
    → WritesInterval writes (stuffed (packed bits).bytes)
interval-packed writes bits w = search rules

pub stuffed-bytes : (bytes : List ℕ) → AreBytes bytes → AreBytes (stuffed bytes)
unfolding stuffed
stuffed-bytes [] h = tt
stuffed-bytes (b ∷ bytes) h = search (rules, stuffed-bytes bytes h.1)

pub u16-bytes : (n : ℕ) → n < 65536 → AreBytes (u16_bytes n)
u16-bytes n h = (omega arith, (omega arith, tt))

-- a segment of bytes
pub sized-bytes : (payload : List ℕ) → length payload + 2 < 65536 → AreBytes payload → AreBytes
    (with_length payload)
sized-bytes payload h k = all-append (λ b. b < 256) (u16_bytes (length payload + 2)) payload (u16-bytes (length payload + 2) h) k

pub marked-bytes : (code : ℕ) (bytes : List ℕ) → code < 256 → AreBytes bytes → AreBytes (marker 0 code bytes)
marked-bytes code bytes h k = (omega arith, (h, k))

pub tested-bytes : (bytes : List ℕ) → list_all (λ b. nat_lt b 256) bytes ≡ true → AreBytes bytes
tested-bytes [] h = tt
tested-bytes (b ∷ bytes) h = search (rules, and_parts, ltb-true, tested-bytes bytes)

-- a segment, and what stands after it
pub segment-bytes : (code : ℕ) (sized more : List ℕ) → code < 256 → AreBytes sized → AreBytes more
    → AreBytes (marker 0 code (sized ++ more))
segment-bytes code sized more low h k = marked-bytes code (sized ++ more) low (all-append (λ b. b < 256) sized more h k)

-- what can be written
abbrev pub CanWrite : {A : Type 0} → (A → List Bool → Type 0) → A → Type 0
CanWrite writes x = (bits : List Bool) × writes x bits

-- intervals of which each can be written
pub intervals-packed : {A : Type 0} (writes : A → List Bool → Type 0) (k : ℕ) (one : A) (more : List A)
    → CanWrite writes one → AllByRecursion (CanWrite writes) more
    → (bytes : List ℕ) × WritesIntervals writes k one more bytes × AreBytes bytes
intervals-packed writes k one [] w all =
    let b = packed w.0 in (
      stuffed b.bytes,
      last_interval k one (stuffed b.bytes) (interval-packed (writes one) w.0 w.1),
      stuffed-bytes b.bytes b.are_bytes,
    )
intervals-packed writes k one (next ∷ more) w all =
    let b = packed w.0 in
    let r = intervals-packed writes (suc k) next more all.0 all.1 in (
      stuffed b.bytes ++ marker 0 (0xD0 + k % 8) r.0,
      another k 0 one next more (stuffed b.bytes) r.0 (interval-packed (writes one) w.0 w.1) r.1,
      all-append (λ b. b < 256) (stuffed b.bytes) (marker 0 (0xD0 + k % 8) r.0) (stuffed-bytes b.bytes b.are_bytes)
          (marked-bytes (0xD0 + k % 8) r.0 (omega arith) r.2),
    )

-- ---- lists

pub all-weaker : {A : Type 0} (P Q : A → Type 0) (xs : List A) → ((x : A) → P x → Q x) → AllByRecursion P xs → AllByRecursion Q xs
all-weaker P Q [] f h = tt
all-weaker P Q (x ∷ xs) f h = (f x h.0, all-weaker P Q xs f h.1)

pub in-range : (P : ℕ → Type 0) (a n : ℕ) → ((j : ℕ) → a ≤ j → j < a + n → P j) → AllByRecursion P (range_with_len a n)
in-range P a zero all = tt
in-range P a (suc n) all =
    (all a (omega arith) (omega arith), in-range P (a + 1) n (λ j le lt. all j (omega arith) (omega arith)))

-- ---- scans of one component

abbrev pub component_in : FrameHeader → Factors → Component
component_in h c = component_of h.width h.height (greatest (λ f. f.horizontal) h.components)
    (greatest (λ f. f.vertical) h.components) c

-- a scan of one component, first sent at level 0
abbrev pub lone_header : ℕ → ℕ → ℕ → Factors → ScanHeader
lone_header from to index c = record {
  choices = (c.identifier, record { component = index; dc = 0; ac = 0 }) ∷ [];
  first = from;
  last = to;
  high = 0;
  low = 0;
}

abbrev is_not : ℕ → Component → Bool
is_not identifier c = not (c.factors.identifier == identifier)

before-it : (h : FrameHeader) (front more : List Factors) (c : Factors) → is_taken front c.identifier ≡ false
    → prefix_len (is_not c.identifier) (map (component_in h) (front ++ c ∷ more)) ≡ length front
unfolding component_of
before-it h [] more c e = rw (eq-eqb c.identifier c.identifier refl) refl
before-it h (x ∷ front) more c e = search (rules, or-false, before-it h front more c)

pub lone-written : (from to number : ℕ) (h : FrameHeader) (front more : List Factors) (c : Factors)
    → is_band (frame_written number h).process 1 from to 0 0 ≡ true → 0 < h.precision
    → h.components ≡ front ++ c ∷ more → is_taken front c.identifier ≡ false
    → IsScan (frame_written number h) (lone_header from to (length front) c)
unfolding AreChoices frame_of
lone-written from to number h front more c band some e new = record {
  some = omega arith;
  most = omega arith;
  choices = (
    record {
      identified = ap (λ (cs : List Factors). index_of (map (component_in h) cs) c.identifier) e
          ∙ (grind (arith, common_steps, before-it, length-append, lt-ltb));
      ordered = omega arith;
      dc_bounded = omega arith;
      ac_bounded = omega arith;
    },
    tt,
  );
  fits = refl;
  narrow = omega arith;
  precise = lt-ltb 0 h.precision some;
  band = band;
}

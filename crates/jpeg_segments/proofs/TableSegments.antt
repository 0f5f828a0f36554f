-- Segments of tables: exactly what is written is read.
use Rattle.std.proofs.Common.{◌≡◌, ℕ, zero, suc, ◌≤◌, ◌<◌, ◌+◌, ◌-◌, ◌*◌, ◌/◌, ◌%◌, Bool, true, false, cond, List, []}
use Rattle.std.proofs.Common.{◌∷◌, ◌++◌, length, set, length-append, Option, Some, Ok, Err, refl, sym, ap, arith, eqb}
use Rattle.std.proofs.Common.{leb, ltb, fold, rules}
use Rattle.std.proofs.lemmas.Bool.{ltb-false, ltb-true, eq-eqb, eqb-true, eqb-false}
use Rattle.std.specs.Prelude.{◌&&◌, flat_map, sum}
use Rattle.std.specs.List.{AllByRecursion, list_all}
use Rattle.jpeg_bits.specs.Reading.{Malformed}
use Rattle.jpeg_bits.specs.Codes.{Table, code_lengths, codes_exist}
use Rattle.jpeg_bits.specs.declared.huffman.codes.HuffmanTableClass.{HuffmanTableClass}
use Rattle.jpeg_bits.proofs.Tables.{exist-tested, tested-exist}
use Rattle.jpeg_segments.specs.Quantization as quantization
use Rattle.jpeg_segments.specs.Quantization.{value_at, table_size, defined_table_at, dqt_at}
use Rattle.jpeg_segments.specs.HuffmanTables.{Tables, DefinedTable, size_of, class_of, no_tables, with_table}
use Rattle.jpeg_segments.specs.HuffmanTables.{greatest_destination, defined_codes_at, tables_from, dht_at}
use Rattle.jpeg_segments.specs.WrittenSegments.{u16_bytes, with_length, nibbles, QuantizationTable, IsQuantizationTable}
use Rattle.jpeg_segments.specs.WrittenSegments.{value_bytes, quantization_bytes, quantization_tables, IsHuffmanTable}
use Rattle.jpeg_segments.specs.WrittenSegments.{class_number, huffman_bytes, huffman_tables}
use Rattle.jpeg_segments.proofs.Fields.{nibbles-high, nibbles-low}
use Rattle.jpeg_segments.proofs.Codecs.{Codec, bind, ends, check-if, checked, choose, done, refused, remap, namely, nil}
use Rattle.jpeg_segments.proofs.Codecs.{cons, byte, u16, several, many, units, segment, outcome}
use Rattle.std.specs.Bool.{Decides}
use Rattle.std.proofs.lemmas.Grind.{common_steps}
use Rattle.std.proofs.lemmas.Bool.Decides.{Decides-and, Decides-ltb, nat_tests}

-- ---- quantization tables

abbrev wide_bytes : Bool → ℕ → List ℕ
wide_bytes is_wide v = cond is_wide (u16_bytes v) (v ∷ [])

value : (is_wide : Bool) → Codec (value_at is_wide) (λ (v : ℕ). v) (wide_bytes is_wide) (λ (v : ℕ). Unit {0})
unfolding value_at
value true = u16
value false = byte

wide-is : (p : ℕ) → p ≤ 1 → (vs : List ℕ) → flat_map (wide_bytes (eqb p 1)) vs ≡ flat_map (value_bytes p) vs
wide-is p h1 vs = grind (arith, nat_tests)

values-tested : (vs : List ℕ) → Decides (list_all (λ v. ltb 0 v) vs) (AllByRecursion (λ v. 0 < v) vs)
values-tested [] = (λ e. tt, λ all. refl)
values-tested (v ∷ vs) = Decides-and _ _ (Decides-ltb 0 v) (values-tested vs)

placed : (left : ℕ)
    → Codec (defined_table_at left)
    (λ (t : QuantizationTable). (table_size t.precision, t.destination, t.values))
    quantization_bytes
    (λ (t : QuantizationTable). IsQuantizationTable t × (table_size t.precision ≤ left))
unfolding defined_table_at quantization_bytes
placed left = remap (bind _ byte (λ (b : ℕ).
    checked (leb (b / 16) 1 && (leb (b % 16) 3 && leb (table_size (b / 16)) left))
    (ends _ (several (value (eqb (b / 16) 1)) 64) (λ (vs : List ℕ).
    checked (list_all (λ v. ltb 0 v) vs) (done (table_size (b / 16), b % 16, vs))))))
    (λ x is. namely (record { precision = x.0 / 16; destination = x.0 % 16; values = x.1 })
    (grind (arith, common_steps, nat_tests, values-tested)) refl
    (grind (arith, common_steps, nat_tests, wide-is)))
    (λ t is.
    let high : nibbles t.precision t.destination / 16 ≡ t.precision = search (rules, nibbles-high)
    in
    let low : nibbles t.precision t.destination % 16 ≡ t.destination = search (rules, nibbles-low)
    in
    namely (nibbles t.precision t.destination, t.values)
    (rw (high, low) (grind (arith, common_steps, nat_tests, values-tested, units))) (rw (high, low))
    (rw high (search (rules, wide-is))))

values-length : (p : ℕ) → p ≤ 1 → (vs : List ℕ) → length (flat_map (value_bytes p) vs) ≡ (p + 1) * length vs
values-length p h [] = omega arith
values-length zero h (v ∷ vs) = search (rules, length-append, values-length zero h vs)
values-length (suc zero) h (v ∷ vs) = search (rules, length-append, values-length (suc zero) h vs)
values-length (suc (suc n)) h (v ∷ vs) = absurd (omega arith)

table-length : (t : QuantizationTable) → IsQuantizationTable t → length (quantization_bytes t) ≡ table_size t.precision
unfolding quantization_bytes
table-length t is = grind (arith, common_steps, values-length)

abbrev with_values : quantization.QuantizationTables → QuantizationTable →
    quantization.QuantizationTables
with_values tables t = set tables t.destination (Some t.values)

-- these tables take `left` bytes
abbrev FillTables : ℕ → List QuantizationTable → Type 0
FillTables left ts = AllByRecursion IsQuantizationTable ts × (length (flat_map quantization_bytes ts) ≡ left)

no-tables : (left : ℕ) (old : quantization.QuantizationTables) → left ≡ 0
    → Codec (outcome old) (fold with_values old) (flat_map quantization_bytes) (FillTables left)
no-tables left old z = nil _ old _ _ refl (tt, sym z)
    (λ t ts is. omega (arith, z, is.1, table-length t is.0.0, length-append {A = ℕ}))

tables : (most left : ℕ) (old : quantization.QuantizationTables) → left ≤ most → Codec
    (quantization.quantization_from most left old)
    (fold with_values old) (flat_map quantization_bytes) (FillTables left)
unfolding quantization.quantization_from
tables zero left old le =
    remap (check-if (eqb left 0) Malformed (no-tables left old (omega (arith, le))))
    (λ ts is. namely ts is.1 refl refl)
    (λ ts is. namely ts (eq-eqb left 0 (omega (arith, le)), is) refl refl)
tables (suc most) left old le = choose (eqb left 0) (λ z. no-tables left old (eqb-true left 0 z))
    (λ z. cons _ _ _ (bind (λ (t : ℕ × ℕ × List ℕ).
    quantization.quantization_from most (left - t.0) (set old t.1 (Some t.2)))
    (placed left) (λ (t : QuantizationTable).
    tables most (left - table_size t.precision) (with_values old t) (omega (arith, le))))
    (λ t ts. refl)
    (λ t ts is. ((is.0.0, is.1.0), omega (arith, table-length t is.0.0, is.0.1, is.1.1, length-append {A = ℕ})))
    (λ is. eqb-false left 0 z (sym is.1))
    (λ t ts is.
    let size = table-length t is.0.0 in
    let both = length-append (quantization_bytes t) (flat_map quantization_bytes ts) in
    search rules))

pub dqt : Codec dqt_at quantization_tables
    (λ (ts : List QuantizationTable). with_length (flat_map quantization_bytes ts))
    (AllByRecursion IsQuantizationTable)
unfolding dqt_at
dqt = segment _ (λ (left : ℕ). tables left left _ (omega arith))

pub dqt-read : (ts : List QuantizationTable) (rest : List ℕ) → AllByRecursion IsQuantizationTable ts
    → dqt_at (with_length (flat_map quantization_bytes ts) ++ rest) ≡ Ok (
      quantization_tables ts,
      rest,
    )
dqt-read = dqt.reads

-- ---- Huffman tables

class-read : (c : HuffmanTableClass) → class_of (class_number c) ≡ c
class-read c = grind (arith, common_steps, nat_tests)

class-small : (c : HuffmanTableClass) → class_number c ≤ 1
class-small c = grind (arith, common_steps, nat_tests)

class-number : (n : ℕ) → n ≤ 1 → class_number (class_of n) ≡ n
class-number n h1 = grind (arith, nat_tests)

abbrev table : HuffmanTableClass → List ℕ → List ℕ → Table
table class counts symbols = record { class = class; counts = counts; symbols = symbols }

abbrev defined_table : ℕ → HuffmanTableClass → List ℕ → List ℕ → DefinedTable
defined_table destination class counts symbols = record {
  destination = destination;
  table = table
      class counts symbols;
}

defined_codes : (most left : ℕ) → most ≤ 3 → Codec (defined_codes_at most left)
    (λ (t : DefinedTable). t) huffman_bytes (λ (t : DefinedTable). IsHuffmanTable most t × (size_of
    t ≤ left))
unfolding defined_codes_at huffman_bytes
defined_codes most left few = remap (bind _ byte (λ (b : ℕ).
    checked (leb (b / 16) 1 && leb (b % 16) most) (bind _ (many 16) (λ (counts : List ℕ).
    checked (ltb 0 (sum counts) && (leb (sum counts) 256 && leb (17 + sum counts) left))
    (ends _ (many (sum counts)) (λ (symbols : List ℕ). checked (codes_exist (code_lengths counts))
    (done (defined_table (b % 16) (class_of (b / 16)) counts symbols))))))))
    (λ x is.
    let class : class_number (class_of (x.0 / 16)) ≡ x.0 / 16 =
    grind (arith, common_steps, nat_tests, class-number) in
    namely (defined_table (x.0 % 16) (class_of (x.0 / 16)) x.1.0 x.1.1)
    (grind (arith, common_steps, nat_tests, tested-exist)) refl
    (ap (λ (k : ℕ). k ∷ (x.1.0 ++ x.1.1)) (omega arith)))
    (λ t is.
    let class : ℕ = class_number t.table.class in
    let small = class-small t.table.class in
    let high : nibbles class t.destination / 16 ≡ class = search (rules, nibbles-high) in
    let low : nibbles class t.destination % 16 ≡ t.destination = search (rules, nibbles-low) in
    namely (nibbles class t.destination, (t.table.counts, t.table.symbols))
    (rw (high, low) (grind (arith, common_steps, nat_tests, exist-tested)))
    (rw (high, low, class-read)) refl)

codes-length : (most : ℕ) (t : DefinedTable) → IsHuffmanTable most t → length (huffman_bytes t) ≡
    size_of t
unfolding huffman_bytes
codes-length most t is = grind (arith, common_steps, length-append)

-- these tables take `left` bytes
abbrev FillCodes : ℕ → ℕ → List DefinedTable → Type 0
FillCodes most left ts = AllByRecursion (IsHuffmanTable most) ts × (length (flat_map huffman_bytes ts) ≡ left)

no-codes : (most left : ℕ) (old : Tables) → left ≤ 17
    → Codec (λ (bytes : List ℕ). cond (eqb left 0) (outcome old bytes) (Err Malformed))
    (fold with_table old) (flat_map huffman_bytes) (FillCodes most left)
no-codes most left old few = choose (eqb left 0)
    (λ z. nil _ old _ _ refl (tt, sym (eqb-true left 0 z)) (λ t ts is. too-long t ts is))
    (λ z. refused Malformed (go (eqb-false left 0 z)))
  where
    too-long : (t : DefinedTable) (ts : List DefinedTable) → FillCodes most left (t ∷ ts) → ⊥
    too-long t ts is =
        let some = is.0.0.some in
        omega (arith, is.1, codes-length most t is.0.0, length-append {A = ℕ})

    go : (left ≡ 0 → ⊥) → (ts : List DefinedTable) → FillCodes most left ts → ⊥
    go n [] is = n (sym is.1)
    go n (t ∷ ts) is = too-long t ts is

all-codes : (turns most left : ℕ) (old : Tables) → most ≤ 3 → left ≤ turns → Codec (tables_from turns most left old)
    (fold with_table old) (flat_map huffman_bytes) (FillCodes most left)
unfolding tables_from
all-codes zero most left old few le = no-codes most left old (omega (arith, le))
all-codes (suc turns) most left old few le = choose (ltb 17 left)
    (λ z. cons _ _ _ (bind (λ (t : DefinedTable).
    tables_from turns most (left - size_of t) (with_table old t))
    (defined_codes most left few) (λ (t : DefinedTable).
    all-codes turns most (left - size_of t) (with_table old t) few (omega (arith, le))))
    (λ t ts. refl)
    (λ t ts is. ((is.0.0, is.1.0), omega (arith, codes-length most t is.0.0, is.0.1, is.1.1, length-append {A = ℕ})))
    (λ is. let some : 17 < left = ltb-true 17 left z in omega (arith, some, is.1))
    (λ t ts is.
    let size = codes-length most t is.0.0 in
    let both = length-append (huffman_bytes t) (flat_map huffman_bytes ts) in
    search rules))
    (λ z. no-codes most left old (ltb-false 17 left z))

pub greatest-small : (b : Option Bool) → greatest_destination b ≤ 3
greatest-small b = grind (arith, nat_tests)

pub dht : (b : Option Bool)
    → Codec (dht_at b) huffman_tables (λ (ts : List DefinedTable). with_length (flat_map
    huffman_bytes ts))
    (AllByRecursion (IsHuffmanTable (greatest_destination b)))
unfolding dht_at
dht b = segment _ (λ (left : ℕ).
    all-codes left (greatest_destination b) left no_tables (greatest-small b) (omega arith))

pub dht-read : (b : Option Bool) (ts : List DefinedTable) (rest : List ℕ)
    → AllByRecursion (IsHuffmanTable (greatest_destination b)) ts
    → dht_at b (with_length (flat_map huffman_bytes ts) ++ rest) ≡ Ok (huffman_tables ts, rest)
dht-read b = (dht b).reads

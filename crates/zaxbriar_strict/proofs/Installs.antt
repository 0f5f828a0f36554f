-- Tables that are put in the places of earlier ones, one after the other.
use Rattle.std.proofs.Common.{◌≡◌, ℕ, zero, suc, ◌+◌, ◌*◌, ◌<◌, ◌≤◌, List, [], ◌∷◌, length, take, drop, set, map}
use Rattle.std.proofs.Common.{get_or, replicate, Option, Some, None, refl, sym, ap, ◌∙◌, subst, arith, length-set}
use Rattle.std.proofs.lemmas.List.{drop-set-add, drop-set-lt, get_or-drop, get_or-take, map-set, take-set-le}
use Rattle.std.specs.List.{AllByRecursion}
use Rattle.std.specs.Prelude.{fold, option_map, slice_set}
use Rattle.jpeg_bits.specs.declared.huffman.codes.HuffmanTableClass.{HuffmanTableClass}
use Rattle.jpeg_bits.specs.declared.huffman.codes.HuffmanTableClass.TheVariants.{AC, DC}
use Rattle.jpeg_meaning.specs.Segments.{updated, with_huffman}
use Rattle.jpeg_segments.specs.HuffmanTables.{DefinedTable, Tables, class_of, no_tables, with_table}
use Rattle.jpeg_segments.specs.WrittenSegments.{IsHuffmanTable, IsQuantizationTable, QuantizationTable}
use Rattle.jpeg_segments.specs.WrittenSegments.{huffman_tables, quantization_tables}
use Rattle.zaxbriar_strict.specs.Installed.{tables_of_class}
use Rattle.zaxbriar_strict.specs.Tables.{codes_in, defined_by}
use Rattle.zaxbriar_strict.specs.declared.huffman.HuffmanTable.{HuffmanTable}
use Rattle.zaxbriar_strict.specs.declared.quantization.Steps.{Steps}

-- ---- places

-- by the place of a table, in a list of any length
pub map-at : {A B : Type 0} (f : A → B) (xs : List (Option A)) (i : ℕ)
    → get_or (map (option_map f) xs) i None ≡ option_map f (get_or xs i None)
map-at f [] i = refl
map-at f (x ∷ xs) zero = refl
map-at f (x ∷ xs) (suc i) = map-at f xs i

take-put : {A : Type 0} (n : ℕ) (xs : List A) (i : ℕ) (x : A) → take n (set xs i x) ≡ set (take n xs) i x
take-put zero xs i x = refl
take-put (suc n) [] i x = refl
take-put (suc n) (y ∷ xs) zero x = refl
take-put (suc n) (y ∷ xs) (suc i) x = ap (λ l. y ∷ l) (take-put n xs i x)

set-updated : {A : Type 0} (old new : List (Option A)) (i : ℕ) (x : A) → i < length new
    → set (updated old new) i (Some x) ≡ updated old (set new i (Some x))
unfolding updated
set-updated [] new i x lt = refl
set-updated (o ∷ old) [] i x lt = absurd (omega arith)
set-updated (o ∷ old) (None ∷ new) zero x lt = refl
set-updated (o ∷ old) (Some n ∷ new) zero x lt = refl
set-updated (o ∷ old) (None ∷ new) (suc i) x lt = ap (λ r. o ∷ r) (set-updated old new i x (omega arith))
set-updated (o ∷ old) (Some n ∷ new) (suc i) x lt = ap (λ r. Some n ∷ r) (set-updated old new i x (omega arith))

updated-empty : {A : Type 0} (n : ℕ) (old : List (Option A)) → updated old (replicate n None) ≡ old
unfolding updated
updated-empty n [] = refl
updated-empty zero (o ∷ old) = refl
updated-empty (suc n) (o ∷ old) = ap (λ r. o ∷ r) (updated-empty n old)

-- ---- quantization tables

abbrev pub put_steps : List (Option (List ℕ)) → QuantizationTable → List (Option (List ℕ))
put_steps tables t = slice_set tables t.destination (Some t.values)

steps-put : (old new : List (Option (List ℕ))) (ts : List QuantizationTable) → length new ≡ 4
    → AllByRecursion IsQuantizationTable ts → fold put_steps (updated old new) ts ≡ updated old (fold put_steps new ts)
steps-put old new [] four all = refl
steps-put old new (t ∷ ts) four all =
    let placed = all.0.placed in
    ap (λ (l : List (Option (List ℕ))). fold put_steps l ts)
    (set-updated old new t.destination t.values (omega arith))
    ∙ steps-put old (put_steps new t) ts (length-set new t.destination (Some t.values) ∙ four) all.1

-- a table put among those that are held
pub step-put : (items : List (Option Steps)) (destination place : ℕ) (t : Steps) → place ≡ destination
    → map (option_map (λ s. s.steps)) (set items place (Some t))
    ≡ set (map (option_map (λ s. s.steps)) items) destination (Some t.steps)
step-put items destination place t e =
    map-set (option_map (λ (s : Steps). s.steps)) items place (Some t)
    ∙ ap (λ (k : ℕ). set (map (option_map (λ (s : Steps). s.steps)) items) k (Some t.steps)) e

-- Tables put one by one are the tables of the segment, put at once.
pub steps-installed : (old : List (Option (List ℕ))) (ts : List QuantizationTable)
    → AllByRecursion IsQuantizationTable ts → fold put_steps old ts ≡ updated old (quantization_tables ts)
steps-installed old ts all =
    ap (λ (l : List (Option (List ℕ))). fold put_steps l ts) (sym (updated-empty 4 old))
    ∙ steps-put old (replicate 4 None) ts refl all

-- ---- Huffman tables

record HasFour (t : Tables) : Type 0 where
  dc : length t.dc ≡ 4
  ac : length t.ac ≡ 4

four-more : (tables : Tables) (destination : ℕ) (class : HuffmanTableClass) (counts symbols : List ℕ) → HasFour tables
    → HasFour (with_table tables (record {
      destination = destination;
      table = record { class = class; counts = counts; symbols = symbols };
    }))
four-more tables d DC counts symbols four = record { dc = length-set tables.dc d _ ∙ four.dc; ac = four.ac }
four-more tables d AC counts symbols four = record { dc = four.dc; ac = length-set tables.ac d _ ∙ four.ac }

put-updated : (old new : Tables) (destination : ℕ) (class : HuffmanTableClass) (counts symbols : List ℕ)
    → HasFour new → destination ≤ 3
    → let t : DefinedTable = record {
      destination = destination;
      table = record { class = class; counts = counts; symbols = symbols };
    } in
    with_table (with_huffman old new) t ≡ with_huffman old (with_table new t)
put-updated old new d DC counts symbols four placed =
    let n = four.dc in
    let e = set-updated old.dc new.dc d (record { class = DC; counts = counts; symbols = symbols }) (omega arith) in
    λ i. record { dc = e i; ac = updated old.ac new.ac }
put-updated old new d AC counts symbols four placed =
    let n = four.ac in
    let e = set-updated old.ac new.ac d (record { class = AC; counts = counts; symbols = symbols }) (omega arith) in
    λ i. record { dc = updated old.dc new.dc; ac = e i }

codes-put : (most : ℕ) (old new : Tables) (ts : List DefinedTable) → most ≤ 3 → HasFour new
    → AllByRecursion (IsHuffmanTable most) ts
    → fold with_table (with_huffman old new) ts ≡ with_huffman old (fold with_table new ts)
codes-put most old new [] few four all = refl
codes-put most old new (t ∷ ts) few four all =
    let placed = all.0.placed in
    ap (λ (tables : Tables). fold with_table tables ts)
    (put-updated old new t.destination t.table.class t.table.counts t.table.symbols four (omega arith))
    ∙ codes-put most old (with_table new t) ts few
    (four-more new t.destination t.table.class t.table.counts t.table.symbols four) all.1

-- Tables put one by one are the tables of the segment, put at once.
pub codes-installed : (most : ℕ) (old : Tables) (ts : List DefinedTable) → most ≤ 3
    → AllByRecursion (IsHuffmanTable most) ts → fold with_table old ts ≡ with_huffman old (huffman_tables ts)
codes-installed most old ts few all =
    let none : with_huffman old no_tables ≡ old =
    λ i. record { dc = updated-empty 4 old.dc i; ac = updated-empty 4 old.ac i } in
    ap (λ (tables : Tables). fold with_table tables ts) (sym none)
    ∙ codes-put most old no_tables ts few (record { dc = refl; ac = refl }) all

-- ---- those of both classes, in one list

abbrev pub codes_by : List (Option HuffmanTable) → Tables
codes_by items = record {
  dc = map (option_map (codes_in DC)) (take 4 items);
  ac = map (option_map (codes_in AC)) (drop 4 items);
}

dc-put : (items : List (Option HuffmanTable)) (destination : ℕ) (t : HuffmanTable) → destination ≤ 3
    → codes_by (set items destination (Some t)) ≡ with_table (codes_by items) (defined_by 0 destination t)
dc-put items d t placed =
    let dc : map (option_map (codes_in DC)) (take 4 (set items d (Some t)))
    ≡ set (map (option_map (codes_in DC)) (take 4 items)) d (Some (codes_in DC t)) =
    ap (λ (l : List (Option HuffmanTable)). map (option_map (codes_in DC)) l) (take-put 4 items d (Some t))
    ∙ map-set (option_map (codes_in DC)) (take 4 items) d (Some t) in
    let ac : map (option_map (codes_in AC)) (drop 4 (set items d (Some t)))
    ≡ map (option_map (codes_in AC)) (drop 4 items) =
    ap (λ (l : List (Option HuffmanTable)). map (option_map (codes_in AC)) l)
    (drop-set-lt 4 items d (Some t) (omega arith)) in
    λ i. record { dc = dc i; ac = ac i }

ac-put : (items : List (Option HuffmanTable)) (destination : ℕ) (t : HuffmanTable)
    → codes_by (set items (4 + destination) (Some t)) ≡ with_table (codes_by items) (defined_by 1 destination t)
ac-put items d t =
    let dc : map (option_map (codes_in DC)) (take 4 (set items (4 + d) (Some t)))
    ≡ map (option_map (codes_in DC)) (take 4 items) =
    ap (λ (l : List (Option HuffmanTable)). map (option_map (codes_in DC)) l)
    (take-set-le 4 items (4 + d) (Some t) (omega arith)) in
    let ac : map (option_map (codes_in AC)) (drop 4 (set items (4 + d) (Some t)))
    ≡ set (map (option_map (codes_in AC)) (drop 4 items)) d (Some (codes_in AC t)) =
    ap (λ (l : List (Option HuffmanTable)). map (option_map (codes_in AC)) l) (drop-set-add 4 items d (Some t))
    ∙ map-set (option_map (codes_in AC)) (drop 4 items) d (Some t) in
    λ i. record { dc = dc i; ac = ac i }

-- a table more
pub class-put : (items : List (Option HuffmanTable)) (class destination : ℕ) (t : HuffmanTable) → class ≤ 1
    → destination ≤ 3 → codes_by (set items (4 * class + destination) (Some t))
    ≡ with_table (codes_by items) (defined_by class destination t)
class-put items zero d t classed placed =
    let e : d ≡ 4 * 0 + d = omega arith in
    subst (λ (k : ℕ). codes_by (set items k (Some t)) ≡ with_table (codes_by items) (defined_by 0 d t)) e
    (dc-put items d t placed)
class-put items (suc class) d t classed placed =
    let one : 1 ≡ suc class = omega arith in
    subst (λ (n : ℕ). codes_by (set items (4 * n + d) (Some t)) ≡ with_table (codes_by items) (defined_by n d t)) one
    (ac-put items d t)

-- the table of a class and a destination
pub class-at : (items : List (Option HuffmanTable)) (class destination : ℕ) → class ≤ 1 → destination ≤ 3
    → option_map (codes_in (class_of class)) (get_or items (4 * class + destination) None)
    ≡ get_or (tables_of_class (class_of class) (codes_by items)) destination None
class-at items zero d classed placed =
    let e : d ≡ 4 * 0 + d = omega arith in
    subst (λ (k : ℕ). option_map (codes_in DC) (get_or items k None)
    ≡ get_or (map (option_map (codes_in DC)) (take 4 items)) d None) e
    (sym (map-at (codes_in DC) (take 4 items) d
    ∙ ap (λ (o : Option HuffmanTable). option_map (codes_in DC) o) (get_or-take 4 items d None (omega arith))))
class-at items (suc class) d classed placed =
    let one : 1 ≡ suc class = omega arith in
    subst (λ (n : ℕ). option_map (codes_in (class_of n)) (get_or items (4 * n + d) None)
    ≡ get_or (tables_of_class (class_of n) (codes_by items)) d None) one
    (sym (map-at (codes_in AC) (drop 4 items) d
    ∙ ap (λ (o : Option HuffmanTable). option_map (codes_in AC) o) (get_or-drop 4 items d None)))

-- Tables of a segment that are put in place of those in force are the tables in force, updated.
use Rattle.std.proofs.Common.{◌≡◌, ◌∙◌, ℕ, zero, suc, ◌-◌, [], ◌∷◌, List, Bool, true, false, Option, Some, None}
use Rattle.std.proofs.Common.{Ok, Err, ap, arith, length, length-set, refl, set, sym}
use Rattle.std.specs.Prelude.{◌==◌, nat_lt, if◌then◌else◌, replicate}
use Rattle.std.proofs.lemmas.Grind.{common_steps}
use Rattle.jpeg_bits.specs.Reading.{Malformed, Outcome, ◌>>=◌, length_at}
use Rattle.jpeg_segments.specs.HuffmanTables.{DefinedTable, Tables, defined_codes_at, dht_at, greatest_destination}
use Rattle.jpeg_segments.specs.HuffmanTables.{no_tables, size_of, tables_from, with_table}
use Rattle.jpeg_segments.specs.Parts.{dht_onto}
use Rattle.jpeg_meaning.specs.Segments.{updated, with_huffman}

set-updated : {A : Type 0} (old new : List (Option A)) (i : ℕ) (x : A) → length old ≡ length new
    → set (updated old new) i (Some x) ≡ updated old (set new i (Some x))
unfolding updated
set-updated [] [] i x e = refl
set-updated (o ∷ old) (None ∷ new) zero x e = refl
set-updated (o ∷ old) (Some n ∷ new) zero x e = refl
set-updated (o ∷ old) (None ∷ new) (suc i) x e = ap (λ r. o ∷ r) (set-updated old new i x (omega arith))
set-updated (o ∷ old) (Some n ∷ new) (suc i) x e = ap (λ r. Some n ∷ r) (set-updated old new i x (omega arith))
set-updated [] (n ∷ new) i x e = absurd (omega arith)
set-updated (o ∷ old) [] i x e = absurd (omega arith)

updated-empty : {A : Type 0} (n : ℕ) (old : List (Option A)) → updated old (replicate n None) ≡ old
unfolding updated
updated-empty n [] = refl
updated-empty zero (o ∷ old) = refl
updated-empty (suc n) (o ∷ old) = ap (λ r. o ∷ r) (updated-empty n old)

-- both have as many destinations
abbrev Fit : Tables → Tables → Type 0
Fit old new = (length old.dc ≡ length new.dc) × (length old.ac ≡ length new.ac)

fit-more : (old new : Tables) (t : DefinedTable) → Fit old new → Fit old (with_table new t)
fit-more old new t h = grind (arith, common_steps, length-set)

more-updated : (old new : Tables) (t : DefinedTable) → Fit old new
    → with_table (with_huffman old new) t ≡ with_huffman old (with_table new t)
more-updated old new t h = grind (arith, common_steps, set-updated)

abbrev onto : Tables → Outcome Tables → Outcome Tables
onto old o = o >>= (λ (r : Tables × List ℕ). Ok (with_huffman old r.0, r.1))

ended : (b : Bool) (old new : Tables) (bytes : List ℕ)
    → (if b then Ok (with_huffman old new, bytes) else Err Malformed)
    ≡ onto old (if b then Ok (new, bytes) else Err Malformed)
ended true old new bytes = refl
ended false old new bytes = refl

either : (b : Bool) (old : Tables) (x x' y y' : Outcome Tables) → x ≡ onto old x' → y ≡ onto old y'
    → (if b then x else y) ≡ onto old (if b then x' else y')
either true old x x' y y' p q = p
either false old x x' y y' p q = q

abbrev Goes : ℕ → ℕ → Tables → Type 0
Goes most greatest old = (left : ℕ) (new : Tables) (bytes : List ℕ) → Fit old new
    → tables_from most greatest left (with_huffman old new) bytes ≡ onto old (tables_from most greatest left new bytes)

one-more : (most greatest left : ℕ) (old new : Tables) (o : Outcome DefinedTable) → Fit old new → Goes most greatest old
    → (o >>= (λ (t : DefinedTable × List ℕ). tables_from most greatest (left - size_of t.0)
    (with_table (with_huffman old new) t.0) t.1))
    ≡ onto old (o >>= (λ (t : DefinedTable × List ℕ). tables_from most greatest (left - size_of t.0)
    (with_table new t.0) t.1))
one-more most greatest left old new (Err f) h goes = refl
one-more most greatest left old new (Ok t) h goes =
    ap (λ tables. tables_from most greatest (left - size_of t.0) tables t.1) (more-updated old new t.0 h)
    ∙ goes (left - size_of t.0) (with_table new t.0) t.1 (fit-more old new t.0 h)

all-onto : (most greatest : ℕ) (old : Tables) → Goes most greatest old
unfolding tables_from
all-onto zero greatest old left new bytes h = ended (left == 0) old new bytes
all-onto (suc most) greatest old left new bytes h =
    either (nat_lt 17 left) old _ _ _ _
    (one-more most greatest left old new (defined_codes_at greatest left bytes) h (all-onto most greatest old))
    (ended (left == 0) old new bytes)

begun : (greatest : ℕ) (old : Tables) (o : Outcome ℕ) → length old.dc ≡ 4 → length old.ac ≡ 4
    → (o >>= (λ (left : ℕ × List ℕ). tables_from left.0 greatest left.0 old left.1))
    ≡ onto old (o >>= (λ (left : ℕ × List ℕ). tables_from left.0 greatest left.0 no_tables left.1))
begun greatest old (Err f) d a = refl
begun greatest old (Ok left) d a =
    let none : with_huffman old no_tables ≡ old =
    λ i. record { dc = updated-empty 4 old.dc i; ac = updated-empty 4 old.ac i } in
    ap (λ tables. tables_from left.0 greatest left.0 tables left.1) (sym none)
    ∙ all-onto left.0 greatest old left.0 no_tables left.1 (d, a)

pub dht-onto : (is_baseline : Option Bool) (old : Tables) (bytes : List ℕ) → length old.dc ≡ 4 → length old.ac ≡ 4
    → dht_onto is_baseline old bytes ≡ onto old (dht_at is_baseline bytes)
unfolding dht_onto dht_at
dht-onto is_baseline old bytes d a = begun (greatest_destination is_baseline) old (length_at bytes) d a

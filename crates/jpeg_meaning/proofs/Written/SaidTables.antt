-- The Huffman tables in force exist, where segments have set them.
use Rattle.std.proofs.Common.{rules, ◌≡◌, ℕ, suc, List, [], ◌∷◌, set, get_or, fold, Option, Some, None}
use Rattle.std.specs.List.{AllByRecursion}
use Rattle.std.specs.Prelude.{slice_index_or}
use Rattle.jpeg_bits.specs.Codes.{Table, IsTable}
use Rattle.jpeg_segments.specs.HuffmanTables.{Tables, DefinedTable, no_tables, with_table}
use Rattle.jpeg_meaning.specs.Segments.{updated}
use Rattle.jpeg_meaning.specs.Found.{Said}
use Rattle.jpeg_segments.specs.WrittenSegments.{Segment, Huffman, IsHuffmanTable, MayStand}
use Rattle.jpeg_meaning.specs.SaidSegments.{said_after}

abbrev pub IsTableOrNone : Option Table → Type 0
IsTableOrNone None = Unit {0}
IsTableOrNone (Some t) = IsTable t

pub record HasTables (h : Tables) : Type 0 where
  pub dc : AllByRecursion IsTableOrNone h.dc
  pub ac : AllByRecursion IsTableOrNone h.ac

set-all : {A : Type 0} (P : A → Type 0) (xs : List A) (i : ℕ) (x : A) → AllByRecursion P xs → P x
    → AllByRecursion P (set xs i x)
set-all P (y ∷ xs) (suc i) x all h = (all.0, set-all P xs i x all.1 h)
set-all P xs i x all h = search rules

pub get-all : {A : Type 0} (P : A → Type 0) (xs : List A) (i : ℕ) (d : A) → AllByRecursion P xs → P d → P (get_or xs i d)
get-all P (y ∷ xs) (suc i) d all h = get-all P xs i d all.1 h
get-all P xs i d all h = search rules

updated-all : (old new : List (Option Table)) → AllByRecursion IsTableOrNone old → AllByRecursion IsTableOrNone new
    → AllByRecursion IsTableOrNone (updated old new)
unfolding updated
updated-all (o ∷ old) (None ∷ new) p q = (p.0, updated-all old new p.1 q.1)
updated-all (o ∷ old) (Some t ∷ new) p q = (q.0, updated-all old new p.1 q.1)
updated-all old new p q = search rules

tables-all : (most : ℕ) (tables : Tables) (ts : List DefinedTable) → HasTables tables
    → AllByRecursion (IsHuffmanTable most) ts → HasTables (fold with_table tables ts)
tables-all most tables [] h all = h
tables-all most tables (t ∷ ts) h all = tables-all most (with_table tables t) ts (search (rules, set-all)) all.1

pub no-tables : HasTables no_tables
no-tables = record { dc = (tt, (tt, (tt, (tt, tt)))); ac = (tt, (tt, (tt, (tt, tt)))) }

pub segment-tables : (found : Said) (s : Segment) → MayStand found.frame s → HasTables found.huffman
    → HasTables (said_after found s).huffman
segment-tables found (Huffman ts) may h = search (rules, updated-all, tables-all, no-tables)
segment-tables found s may h = h

pub table-there : (tables : List (Option Table)) (index : ℕ) (t : Table)
    → AllByRecursion IsTableOrNone tables → slice_index_or tables index None ≡ Some t → IsTable t
table-there tables index t all e = search (rules, get-all)

-- Differences of samples that are read one after the other.
use Rattle.std.proofs.Common.{◌≡◌, ◌≢◌, ℕ, zero, suc, ◌+◌, ◌^◌, ◌<◌, ◌≤◌, Bool, true, false, List, [], ◌∷◌}
use Rattle.std.proofs.Common.{◌++◌, replicate, refl, sym, ap, ap₂, ◌∙◌, subst, arith, ℤ, pos}
use Rattle.std.proofs.Common.{append_assoc, append-nil, inl, inr, ◌⊎◌}
use Rattle.std.specs.Prelude.{None, Some, slice_index_or}
use Rattle.std.proofs.Math.Pow.{pow_mono}
use Rattle.std.proofs.lemmas.Bool.{cases_lt, ne_eqb}
use Rattle.std.proofs.lemmas.Int.{ints}
use Rattle.std.proofs.lemmas.List.{map-append, replicate-append-replicate}
use Rattle.jpeg_bits.specs.Codes.{Table}
use Rattle.jpeg_bits.specs.Written.{IsCategory, IsCoded, WritesEach, low_bits, number_for}
use Rattle.jpeg_bits.specs.Written.WritesEach.{none, one}
use Rattle.jpeg_bits.specs.declared.huffman.codes.HuffmanTableClass.TheVariants.{DC}
use Rattle.jpeg_lossless.specs.Differences.{row_tables}
use Rattle.jpeg_lossless.specs.Prediction.{residue}
use Rattle.jpeg_lossless.specs.Written.{WritesSampleDifference, bits_of_difference}
use Rattle.zaxbriar_strict.specs.Data.{Data, Reads, Takes}
use Rattle.zaxbriar_strict.specs.Installed.{codes_of}
use Rattle.zaxbriar_strict.specs.ScanSamples.{ReadsDifferences, codes_or_none, difference_codes}
use Rattle.zaxbriar_strict.specs.Tables.{codes_in}
use Rattle.zaxbriar_strict.specs.declared.huffman.HuffmanTable.{HuffmanTable}
use Rattle.zaxbriar_strict.specs.declared.scan.Member.{Member}
use Rattle.zaxbriar_strict.specs.declared.tables.Tables.{Tables}
use Rattle.zaxbriar_strict.proofs.Taken.{takes-none, takes-then}

-- ---- things that are written

pub each-append : {A : Type 0} (writes : A → List Bool → Type 0) (xs ys : List A) (own more : List Bool)
    → WritesEach writes xs own → WritesEach writes ys more → WritesEach writes (xs ++ ys) (own ++ more)
each-append writes xs ys own more none w = w
each-append writes xs ys own more (one x rest bits others first then) w =
    subst (λ (l : List Bool). WritesEach writes (x ∷ (rest ++ ys)) l) (sym (append_assoc bits others more))
    (one x (rest ++ ys) bits (others ++ more) first (each-append writes rest ys others more then w))

pub each-one : {A : Type 0} (writes : A → List Bool → Type 0) (x : A) (own : List Bool) → writes x own
    → WritesEach writes (x ∷ []) own
each-one writes x own w =
    subst (λ (l : List Bool). WritesEach writes (x ∷ []) l) (append-nil own) (one x [] own [] w none)

-- ---- a difference

-- the bits of a difference of a category below 16
few-bits : (d : ℤ) (s : ℕ) → s ≢ 16 → bits_of_difference d s ≡ low_bits s (number_for d s)
few-bits d s ne =
    ap (λ (b : Bool). elim b as (λ _. List Bool) [ true ↦ [] | false ↦ low_bits s (number_for d s) ]) (ne_eqb s 16 ne)

pub none-written : {a b : Data} (table : Table) (s : ℕ) → s ≡ 0 → Reads (IsCoded table s) a b
    → Reads (WritesSampleDifference table (residue (pos 0))) a b
unfolding low_bits
none-written table s zero_is r = record {
  own = r.own;
  taken = r.taken;
  holds = record {
    d = pos 0;
    s = 0;
    code = r.own;
    is = refl;
    low = omega (arith, ints);
    high = omega (arith, ints);
    category = record { holds = omega arith; is_least = λ t h. omega arith };
    coded = subst (λ (k : ℕ). IsCoded table k r.own) zero_is r.holds;
    has_bits = append-nil r.own;
  };
}

least-16 : (t : ℕ) → 32768 < 2 ^ t → 16 ≤ t
least-16 t h = go (cases_lt t 16)
  where
    go : (t < 16) ⊎ (16 ≤ t) → 16 ≤ t
    go (inr le) = le
    go (inl lt) = (
        let few : t ≤ 15 = omega (arith, lt) in
        let m = pow_mono few in
        absurd (omega (arith, m, h))
        )

pub greatest-written : {a b : Data} (table : Table) (s : ℕ) → s ≡ 16 → Reads (IsCoded table s) a b
    → Reads (WritesSampleDifference table (residue (pos 32768))) a b
greatest-written table s is r = record {
  own = r.own;
  taken = r.taken;
  holds = record {
    d = pos 32768;
    s = 16;
    code = r.own;
    is = refl;
    low = omega (arith, ints);
    high = omega (arith, ints);
    category = record { holds = omega arith; is_least = λ t h. least-16 t h };
    coded = subst (λ (k : ℕ). IsCoded table k r.own) is r.holds;
    has_bits = append-nil r.own;
  };
}

pub some-written : {a b c : Data} (table : Table) (s : ℕ) (d : ℤ) → s ≤ 15 → IsCategory d s
    → Reads (IsCoded table s) a b → Takes (low_bits s (number_for d s)) b c
    → Reads (WritesSampleDifference table (residue d)) a c
some-written table s d few category r t =
    let most = pow_mono few in
    let below = category.holds in
    record {
      own = r.own ++ low_bits s (number_for d s);
      taken = takes-then r.taken t;
      holds = record {
        d = d;
        s = s;
        code = r.own;
        is = refl;
        low = omega (arith, ints, most, below);
        high = omega (arith, ints, most, below);
        category = category;
        coded = r.holds;
        has_bits = ap (λ (l : List Bool). r.own ++ l) (few-bits d s (λ e. omega (arith, few, e)));
      };
    }

-- by the table that is installed at the destination of a component
pub installed-codes : (t : Tables) (m : Member) (own : HuffmanTable)
    → slice_index_or (codes_of t).dc m.dc None ≡ Some (codes_in DC own) → codes_in DC own ≡ difference_codes t m
installed-codes t m own e = sym (ap codes_or_none e)

pub by-installed : {a b : Data} (t : Tables) (m : Member) (own : HuffmanTable) (r : ℕ)
    → slice_index_or (codes_of t).dc m.dc None ≡ Some (codes_in DC own)
    → Reads (WritesSampleDifference (codes_in DC own) r) a b → Reads (WritesSampleDifference (difference_codes t m) r) a b
by-installed {a} {b} t m own r e w =
    subst (λ (k : Table). Reads (WritesSampleDifference k r) a b) (installed-codes t m own e) w

-- ---- differences

pub differences-none : (d : Data) → ReadsDifferences [] d d
differences-none d =
    record { differences = []; tables_are = refl; read = record { own = []; taken = takes-none d; holds = none } }

pub differences-one : {a b : Data} (table : Table) (r : ℕ) → Reads (WritesSampleDifference table r) a b
    → ReadsDifferences (table ∷ []) a b
differences-one table r w =
    let x : Table × ℕ = (table, r) in
    record {
      differences = x ∷ [];
      tables_are = refl;
      read = record {
        own = w.own;
        taken = w.taken;
        holds = each-one (λ (x : Table × ℕ). WritesSampleDifference x.0 x.1) x w.own w.holds;
      };
    }

pub differences-then : {s t : List Table} {a b c : Data} → ReadsDifferences s a b → ReadsDifferences t b c
    → ReadsDifferences (s ++ t) a c
differences-then x y = record {
  differences = x.differences ++ y.differences;
  tables_are = map-append (λ (x : Table × ℕ). x.0) x.differences y.differences
      ∙ ap₂ (λ (s t : List Table). s ++ t) x.tables_are y.tables_are;
  read = record {
    own = x.read.own ++ y.read.own;
    taken = takes-then x.read.taken y.read.taken;
    holds = each-append (λ (x : Table × ℕ). WritesSampleDifference x.0 x.1) x.differences y.differences x.read.own
        y.read.own x.read.holds y.read.holds;
  };
}

-- of one table, one more
pub differences-more : {a b c : Data} (n : ℕ) (table : Table) → ReadsDifferences (replicate n table) a b
    → ReadsDifferences (table ∷ []) b c → ReadsDifferences (replicate (n + 1) table) a c
differences-more {a} {b} {c} n table x y =
    subst (λ (l : List Table). ReadsDifferences l a c) (replicate-append-replicate n 1 table) (differences-then x y)

pub no-differences : (n : ℕ) (table : Table) (d : Data) → n ≡ 0 → ReadsDifferences (replicate n table) d d
no-differences n table d e =
    subst (λ (k : ℕ). ReadsDifferences (replicate k table) d d) (sym e) (differences-none d)

-- ---- MCUs of a row

rows-more : (n : ℕ) (tables : List Table) → row_tables n tables ++ tables ≡ row_tables (n + 1) tables
unfolding row_tables
rows-more zero tables = sym (append-nil tables)
rows-more (suc n) tables =
    let e : suc n + 1 ≡ suc (n + 1) = omega arith in
    append_assoc tables (row_tables n tables) tables ∙ ap (λ (l : List Table). tables ++ l) (rows-more n tables)
    ∙ ap (λ (k : ℕ). row_tables k tables) (sym e)

pub units-more : {a b c : Data} (n : ℕ) (tables : List Table) → ReadsDifferences (row_tables n tables) a b
    → ReadsDifferences tables b c → ReadsDifferences (row_tables (n + 1) tables) a c
units-more {a} {b} {c} n tables x y =
    subst (λ (l : List Table). ReadsDifferences l a c) (rows-more n tables) (differences-then x y)

pub no-units : (tables : List Table) (d : Data) → ReadsDifferences (row_tables 0 tables) d d
unfolding row_tables
no-units tables d = differences-none d

-- Segments of tables, table by table.
use Rattle.std.proofs.Common.{◌≡◌, ℕ, ◌<◌, ◌≤◌, Bool, true, false, List, [], ◌∷◌, ◌++◌, length, Option, None, Some}
use Rattle.std.proofs.Common.{refl, sym, ap, ◌∙◌, arith}
use Rattle.std.proofs.Common.{append_assoc, append-nil, length-append}
use Rattle.std.specs.List.{AllByRecursion, flat_map}
use Rattle.std.specs.Prelude.{fold, option_map, slice_set}
use Rattle.std.proofs.lemmas.List.{flat_map_more}
use Rattle.std.proofs.lemmas.List.Sums.{fold_push}
use Rattle.jpeg_segments.specs.HuffmanTables.{DefinedTable, greatest_destination, with_table}
use Rattle.jpeg_segments.specs.HuffmanTables.{Tables as CodeTables}
use Rattle.jpeg_segments.specs.WrittenSegments.{IsHuffmanTable, IsQuantizationTable, QuantizationTable}
use Rattle.jpeg_segments.specs.WrittenSegments.{huffman_bytes, quantization_bytes}
use Rattle.zaxbriar_strict.specs.Heads.{is_baseline_of}
use Rattle.zaxbriar_strict.specs.Installed.{InstallsCodes, InstallsSteps, codes_of, steps_of}
use Rattle.zaxbriar_strict.specs.Quantizations.{TakesSteps, table_by}
use Rattle.zaxbriar_strict.specs.Tables.{TakesCodes, defined_by}
use Rattle.zaxbriar_strict.specs.declared.frame.Frame.{Frame}
use Rattle.zaxbriar_strict.specs.declared.huffman.HuffmanTable.{HuffmanTable}
use Rattle.zaxbriar_strict.specs.declared.quantization.Steps.{Steps}
use Rattle.zaxbriar_strict.specs.declared.tables.Tables.{Tables}
use Rattle.zaxbriar_strict.proofs.Installs.{codes-installed, put_steps, steps-installed}

pub all-push : {A : Type 0} (P : A → Type 0) (xs : List A) (x : A) → AllByRecursion P xs → P x
    → AllByRecursion P (xs ++ x ∷ [])
all-push P [] x all h = (h, tt)
all-push P (y ∷ ys) x all h = (all.0, all-push P ys x all.1 h)

-- the bytes of one thing more
bytes-more : {A : Type 0} (f : A → List ℕ) (xs : List A) (x : A) (old middle new : List ℕ)
    → old ≡ flat_map f xs ++ middle → middle ≡ f x ++ new → old ≡ flat_map f (xs ++ x ∷ []) ++ new
bytes-more f xs x old middle new e h =
    e ∙ ap (λ (l : List ℕ). flat_map f xs ++ l) h
    ∙ sym (append_assoc (flat_map f xs) (f x) new)
    ∙ ap (λ (l : List ℕ). l ++ new) (flat_map_more f [] xs x)

-- those of all things, where no others follow
bytes-all : {A : Type 0} (f : A → List ℕ) (xs : List A) (bytes rest : List ℕ) → bytes ≡ flat_map f xs ++ rest
    → length rest ≡ 0 → bytes ≡ flat_map f xs
bytes-all f xs bytes [] e h = e ∙ append-nil (flat_map f xs)
bytes-all f xs bytes (b ∷ rest) e h = absurd (omega arith)

-- ---- DQT

-- the tables of the bytes before the rest, which were put in their places
pub record StepsRead (bytes rest : List ℕ) (old new : Tables) : Type 0 where
  pub each : List QuantizationTable
  pub legal : AllByRecursion IsQuantizationTable each
  pub parts : bytes ≡ flat_map quantization_bytes each ++ rest
  pub put : steps_of new ≡ fold put_steps (steps_of old) each
  pub codes : codes_of new ≡ codes_of old
  pub interval : new.interval ≡ old.interval

pub no-steps : (bytes : List ℕ) (t : Tables) → StepsRead bytes bytes t t
no-steps bytes t = record { each = []; legal = tt; parts = refl; put = refl; codes = refl; interval = refl }

pub steps-then : (bytes middle rest : List ℕ) (destination : ℕ) (t : Steps) (old before after : Tables)
    → StepsRead bytes middle old before → TakesSteps destination t middle rest
    → steps_of after ≡ slice_set (steps_of before) destination (Some t.steps)
    → codes_of after ≡ codes_of before → after.interval ≡ before.interval → StepsRead bytes rest old after
steps-then bytes middle rest destination t old before after r taken put codes interval =
    let x = table_by destination t in
    record {
      each = r.each ++ x ∷ [];
      legal = all-push IsQuantizationTable r.each x r.legal taken.legal;
      parts = bytes-more quantization_bytes r.each x bytes middle rest r.parts taken.parts;
      put = put ∙ ap (λ (l : List (Option (List ℕ))). put_steps l x) r.put
          ∙ sym (fold_push put_steps (steps_of old) r.each x);
      codes = codes ∙ r.codes;
      interval = interval ∙ r.interval;
    }

pub steps-fewer : (old new : List ℕ) (destination : ℕ) (t : Steps) → TakesSteps destination t old new
    → length new < length old
unfolding quantization_bytes
steps-fewer old new destination t taken =
    let q = quantization_bytes (table_by destination t) in
    let e = ap length taken.parts in
    omega (arith, e, length-append q new)

pub installs-steps : (bytes rest : List ℕ) (old new : Tables) → StepsRead bytes rest old new → length rest ≡ 0
    → InstallsSteps bytes old new
installs-steps bytes rest old new r none = record {
  tables = r.each;
  legal = r.legal;
  are = bytes-all quantization_bytes r.each bytes rest r.parts none;
  installed = r.put ∙ steps-installed (steps_of old) r.each r.legal;
  codes = r.codes;
  interval = r.interval;
}

-- ---- DHT

-- the greatest destination where there is such a frame, or none
abbrev pub most_of : Option Frame → ℕ
most_of frame = greatest_destination (option_map is_baseline_of frame)

-- the tables of the bytes before the rest, which were put in their places
pub record CodesRead (most : ℕ) (bytes rest : List ℕ) (old new : Tables) : Type 0 where
  pub each : List DefinedTable
  pub legal : AllByRecursion (IsHuffmanTable most) each
  pub parts : bytes ≡ flat_map huffman_bytes each ++ rest
  pub put : codes_of new ≡ fold with_table (codes_of old) each
  pub steps : steps_of new ≡ steps_of old
  pub interval : new.interval ≡ old.interval

pub no-codes : (most : ℕ) (bytes : List ℕ) (t : Tables) → CodesRead most bytes bytes t t
no-codes most bytes t =
    record { each = []; legal = tt; parts = refl; put = refl; steps = refl; interval = refl }

-- a table at a destination of fewer
placed-below : (most : ℕ) (t : DefinedTable) → IsHuffmanTable 3 t → t.destination ≤ most → IsHuffmanTable most t
placed-below most t h placed = record {
  placed = placed;
  counted = h.counted;
  has_symbols = h.has_symbols;
  some = h.some;
  at_most = h.at_most;
  exists = h.exists;
}

pub codes-then : (most : ℕ) (bytes middle rest : List ℕ) (class destination : ℕ) (t : HuffmanTable)
    (old before after : Tables) → CodesRead most bytes middle old before → TakesCodes class destination t middle rest
    → (destination ≤ 3 → destination ≤ most)
    → (class ≤ 1 → destination ≤ 3 → codes_of after
    ≡ with_table (codes_of before) (defined_by class destination t))
    → steps_of after ≡ steps_of before → after.interval ≡ before.interval → CodesRead most bytes rest old after
codes-then most bytes middle rest class destination t old before after r taken below put steps interval =
    let x = defined_by class destination t in
    let legal = placed-below most x taken.legal (below taken.legal.placed) in
    record {
      each = r.each ++ x ∷ [];
      legal = all-push (IsHuffmanTable most) r.each x r.legal legal;
      parts = bytes-more huffman_bytes r.each x bytes middle rest r.parts taken.parts;
      put = put taken.classed taken.legal.placed ∙ ap (λ (l : CodeTables). with_table l x) r.put
          ∙ sym (fold_push with_table (codes_of old) r.each x);
      steps = steps ∙ r.steps;
      interval = interval ∙ r.interval;
    }

pub codes-fewer : (old new : List ℕ) (class destination : ℕ) (t : HuffmanTable) → TakesCodes class destination t old new
    → length new < length old
unfolding huffman_bytes
codes-fewer old new class destination t taken =
    let q = huffman_bytes (defined_by class destination t) in
    let e = ap length taken.parts in
    omega (arith, e, length-append q new)

most-few : (frame : Option Frame) → most_of frame ≤ 3
most-few frame = go (option_map is_baseline_of frame)
  where
    go : (o : Option Bool) → greatest_destination o ≤ 3
    go None = omega arith
    go (Some true) = omega arith
    go (Some false) = omega arith

pub installs-codes : (frame : Option Frame) (bytes rest : List ℕ) (old new : Tables)
    → CodesRead (most_of frame) bytes rest old new → length rest ≡ 0 → InstallsCodes frame bytes old new
installs-codes frame bytes rest old new r none = record {
  tables = r.each;
  legal = r.legal;
  are = bytes-all huffman_bytes r.each bytes rest r.parts none;
  installed = r.put ∙ codes-installed (most_of frame) (codes_of old) r.each (most-few frame) r.legal;
  steps = r.steps;
  interval = r.interval;
}

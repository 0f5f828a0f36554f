-- Rows of MCUs as far as they can be read: what planes they give, and what is read where none is lacking.
use Rattle.std.proofs.Common.{rules, ◌≡◌, inl, inr, ℕ, ◌+◌, ◌*◌, Bool, true, List, [], ◌∷◌}
use Rattle.std.proofs.Common.{length, drop, replicate, Result, Ok, Err, refl, sym, ap, ◌∙◌, subst, arith, append-nil}
use Rattle.std.proofs.lemmas.List.{length-replicate}
use Rattle.std.specs.List.{AllByRecursion}
use Rattle.jpeg_bits.specs.Reading.{Fault}
use Rattle.jpeg_bits.specs.Codes.{Table}
use Rattle.jpeg_bits.specs.Entropy.{Ending, Text}
use Rattle.jpeg_bits.specs.Readers.{Reads, each, text}
use Rattle.jpeg_bits.proofs.ReadIntervals.{Holds, each-long}
use Rattle.jpeg_bits.proofs.TakenTexts.{IsStrict, Taken, TakesBits, each-takes}
use Rattle.jpeg_bits.proofs.TakenTexts.Taken.{gave, failed}
use Rattle.jpeg_segments.proofs.Codecs.{err-ok, ok-same}
use Rattle.jpeg_lossless.specs.Differences.{Part, differences, sample_difference}
use Rattle.jpeg_lossless.specs.PlanesRead.{IsWithinMcus, cut_planes}
use Rattle.jpeg_lossless.specs.Rows.{with_all_rows, with_mcu_rows}
use Rattle.jpeg_lossless.specs.RowsReached.{rows_reached}
use Rattle.jpeg_lossless.specs.Scans.{Way, lines_by_component, planes_of}
use Rattle.jpeg_lossless.proofs.LineSums.{Grid, Grids, AreLong}
use Rattle.jpeg_lossless.proofs.WholeScans.{AreWhole, appended, appended-assoc, difference-takes, each-component}
use Rattle.jpeg_lossless.proofs.WholeScans.{from-empty, joined, joined-append, length-appended, length-joined}
use Rattle.jpeg_lossless.proofs.WholeScans.{lines-there, planes-cut, rows-each}

-- ---- the planes of rows that were read

none-joined : (w : Way) (from : ℕ) (parts : List Part) (planes : Grid) → length planes ≡ length parts
    → planes ≡ appended planes (joined parts (lines_by_component w from parts []))
unfolding lines_by_component
none-joined w from [] [] l = refl
none-joined w from [] (plane ∷ planes) l = absurd (omega arith)
none-joined w from (p ∷ parts) [] l = absurd (omega arith)
none-joined w from (p ∷ parts) (plane ∷ planes) l =
    search (rules, append-nil, none-joined w (from + p.down * p.across) parts planes (omega arith))

module _ (w : Way) (fits : AllByRecursion (IsWithinMcus w.wide) w.parts) where
  rows-joined : (rows planes : Grid) → length planes ≡ length w.parts → AreWhole w fits rows
      → with_mcu_rows w true rows planes ≡ appended planes (joined w.parts (lines_by_component w 0 w.parts (rows ∷ [])))
  rows-joined rows planes l long =
      rows-each w true rows planes ∙ each-component w fits 0 w.parts planes rows l (omega arith) fits long

  all-joined : (by_interval : Grids) (planes : Grid) → length planes ≡ length w.parts
      → AllByRecursion (AreWhole w fits) by_interval
      → with_all_rows w by_interval planes
      ≡ appended planes (joined w.parts (lines_by_component w 0 w.parts by_interval))
  all-joined [] planes l long = none-joined w 0 w.parts planes l
  all-joined (rows ∷ by_interval) planes l long =
      let next = with_mcu_rows w true rows planes in
      let here = joined w.parts (lines_by_component w 0 w.parts (rows ∷ [])) in
      let others = joined w.parts (lines_by_component w 0 w.parts by_interval) in
      let grown : next ≡ appended planes here = rows-joined rows planes l long.0 in
      let same : length next ≡ length w.parts = ap (λ (g : Grid). length g) grown
      ∙ length-appended planes here (l ∙ sym (length-joined w fits 0 w.parts (rows ∷ []))) ∙ l in
      all-joined by_interval next same long.1 ∙ ap (λ (g : Grid). appended g others) grown
      ∙ appended-assoc planes here others
      ∙ ap (appended planes) (sym (joined-append w fits 0 w.parts (rows ∷ []) by_interval))

  -- The planes of rows that were read one after the other, cut to the components' own samples, are those of the
  -- definition.
  pub reached-planes : (point : ℕ) (by_interval : Grids) → AllByRecursion (AreWhole w fits) by_interval
      → cut_planes point w.parts (with_all_rows w by_interval (replicate (length w.parts) []))
      ≡ planes_of point w.parts (lines_by_component w 0 w.parts by_interval)
  reached-planes point by_interval long =
      let empty : Grid = replicate (length w.parts) [] in
      ap (cut_planes point w.parts) (all-joined by_interval empty (length-replicate (length w.parts) []) long
      ∙ from-empty (length w.parts) _ (length-joined w fits 0 w.parts by_interval))
      ∙ planes-cut point _ w.parts (lines_by_component w 0 w.parts by_interval) (lines-there w fits by_interval long)

-- ---- how long rows and planes are

abbrev After : Type 0
After = Grid × Result (List Bool) Fault

-- what is reached from a row on
abbrev after_row : List (List Table) → Result (List ℕ × Text) Fault → After
after_row rows o = elim o [
  | Ok r ↦ let more = rows_reached rows r.1 in (r.0 ∷ more.0, more.1)
  | Err fault ↦ ([], Err fault)
]

long-after : (n : ℕ) (tables : List Table) (rows : List (List Table)) (o : Result (List ℕ × Text) Fault)
    → length tables ≡ n → Holds (λ (row : List ℕ). length row ≡ length tables) o
    → ((u : Text) → AreLong n (rows_reached rows u).0) → AreLong n (after_row rows o).0
long-after n tables rows (Ok r) e h others = (h ∙ e, others r.1)
long-after n tables rows (Err fault) e h others = tt

-- Each row that is reached has a difference for each of its tables.
pub reached-long : (n : ℕ) (rows : List (List Table)) (t : Text) → AllByRecursion (λ ts. length ts ≡ n) rows
    → AreLong n (rows_reached rows t).0
unfolding rows_reached
reached-long n [] t all = tt
reached-long n (tables ∷ rows) t all =
    long-after n tables rows (differences tables t) all.0 (each-long sample_difference tables t)
    (λ u. reached-long n rows u all.1)

-- ---- what is read before a strict end

-- Of these bits x is read before any end, and these bits are left.
pub record IsRead {A : Type 0} (p : Reads A) (bits : List Bool) (x : A) (left : List Bool) : Type 0 where
  pub taken : ℕ
  pub rest : left ≡ drop taken bits
  pub read :
      (f : Ending) (ps : List (List ℕ)) → p (text bits ps f) ≡ Ok (x, text (drop taken bits) (drop taken ps) f)

-- x is reached, and after it these bits or this fault, where this is read
abbrev pub IsReached : {A : Type 0} → A → Result (List Bool) Fault → Result (A × Text) Fault → Type 0
IsReached x o (Ok r) = (x ≡ r.0) × (o ≡ Ok r.1.bits)
IsReached x o (Err fault) = o ≡ Err fault

-- What is reached of bits that no other follows is read of these bits before any end.
pub strict-read : {A : Type 0} (p : Reads A) (bits left : List Bool) (ps : List (List ℕ)) (e : Ending) (x : A)
    (o : Result (List Bool) Fault) → TakesBits p → IsStrict e → IsReached x o (p (text bits ps e)) → o ≡ Ok left
    → IsRead p bits x left
unfolding TakesBits
strict-read {A} p bits left ps e x o takes strict same h = go (takes bits e)
  where
    go : Taken p bits e → IsRead p bits x left
    go (failed g is) = absurd (err-ok g left (sym (subst (IsReached x o) (is ps) same) ∙ h))
    go (gave n y is) =
        let s = subst (IsReached x o) (is e ps (inl refl)) same in
        record {
          taken = n;
          rest = ok-same left (drop n bits) (sym h ∙ s.1);
          read = λ f qs. is f qs (inr strict) ∙ ap (λ (z : A). Ok (z, text (drop n bits) (drop n qs) f)) (sym s.0);
        }

-- ---- rows that are all reached

abbrev pub each_row : List (List Table) → Reads Grid
each_row rows = each (each sample_difference) rows

pub rows-same : (rows : List (List Table)) (t : Text)
    → IsReached (rows_reached rows t).0 (rows_reached rows t).1 (each_row rows t)
unfolding rows_reached each
rows-same [] t = (refl, refl)
rows-same (tables ∷ rows) t = search (rules, rows-same rows)

-- Where all rows are reached of bits that no other follows, they are read of these bits before any end.
pub rows-are-read : (rows : List (List Table)) (bits left : List Bool) (ps : List (List ℕ)) (e : Ending) → IsStrict e
    → (rows_reached rows (text bits ps e)).1 ≡ Ok left
    → IsRead (each_row rows) bits (rows_reached rows (text bits ps e)).0 left
rows-are-read rows bits left ps e strict h =
    let r = rows_reached rows (text bits ps e) in
    let takes = each-takes (each sample_difference) rows
    (λ tables. each-takes sample_difference tables difference-takes) in
    strict-read (each_row rows) bits left ps e r.0 r.1 takes strict (rows-same rows (text bits ps e)) h

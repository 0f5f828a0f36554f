-- Longer data of a lossless scan bring the rows of MCUs that their front brings, and more after them.
use Rattle.std.proofs.Common.{rules, ◌≡◌, ℕ, suc, Bool, List, [], ◌∷◌, ◌++◌, length, drop, refl, sym, ap, ◌∙◌, subst}
use Rattle.std.proofs.Common.{Ok, Err, Result, append_assoc}
use Rattle.jpeg_bits.specs.Reading.{Fault}
use Rattle.jpeg_bits.specs.Reading as outcomes
use Rattle.jpeg_bits.specs.Entropy.{Ending, Text, text_at}
use Rattle.jpeg_bits.specs.Codes.{Table}
use Rattle.jpeg_bits.specs.Readers.{ReadsJust, each, text}
use Rattle.jpeg_bits.proofs.TakenTexts.{IsStrict, stopping-strict}
use Rattle.jpeg_segments.proofs.Codecs.{bind-ok}
use Rattle.jpeg_lossless.specs.Differences.{sample_difference}
use Rattle.jpeg_lossless.specs.RowsReached.{rows_reached}
use Rattle.jpeg_lossless.proofs.ReachedRows.{each_row, rows-same}
use Rattle.jpeg_meaning.specs.Brought.{after_interval, interval_rows_reached, scan_rows_reached, stopping}
use Rattle.jpeg_meaning.proofs.Partial.RowIntervals.{Scanned, next_reached}
use Rattle.jpeg_meaning.specs.LongerStreams.{RowsGoOn}
use Rattle.jpeg_meaning.proofs.Longer.FrontReaders.{Front, TakesFront, bind-front, each-front, gives-front, if-front}
use Rattle.jpeg_meaning.proofs.Longer.FrontReaders.{own-read, refused-front, signed-front, strict-fault, symbol-front}
use Rattle.jpeg_meaning.proofs.Longer.FrontReaders.Front.{gave, failed}
use Rattle.jpeg_meaning.proofs.Longer.LongerData.{Met, StaysBrought, text-grows, text-stays}
use Rattle.jpeg_meaning.proofs.Longer.LongerScans.{after-same, last-stays, next-stays}

-- the differences of rows of MCUs, and those of some intervals
abbrev pub Rows : Type 0
Rows = List (List ℕ)

-- ---- rows of bits

difference-front : (table : Table) → TakesFront ⊥ (sample_difference table)
unfolding sample_difference
difference-front table =
    let none : ⊥ → length table.counts ≡ 16 = λ n. absurd n in
    search (rules, bind-front, symbol-front, if-front, signed-front, gives-front, refused-front ⊥ ℕ)

pub row-front : (tables : List Table) → TakesFront ⊥ (each sample_difference tables)
row-front tables = each-front ⊥ sample_difference tables difference-front

-- the others go on after these
abbrev pub GoOn : {A : Type 0} → List A → List A → Type 0
GoOn {A} xs ys = (more : List A) × (ys ≡ xs ++ more)

abbrev After : Type 0
After = Rows × Result (List Bool) Fault

-- what is reached after the next row
abbrev after_row : List (List Table) → Result (List ℕ × Text) Fault → After
after_row rows o = elim o [
  | Ok r ↦ (r.0 ∷ (rows_reached rows r.1).0, (rows_reached rows r.1).1)
  | Err fault ↦ ([], Err fault)
]

-- the next row of bits that begin with its own
next-row : (tables : List Table) (rows : List (List Table)) (x : List ℕ) (own rest bits : List Bool)
    (ps : List (List ℕ)) (e : Ending) → bits ≡ own ++ rest → ReadsJust (each sample_difference tables) own x
    → rows_reached (tables ∷ rows) (text bits ps e) ≡ after_row rows (Ok (x, text rest (drop (length own) ps) e))
unfolding rows_reached
next-row tables rows x own rest bits ps e is r =
    ap (after_row rows) (own-read (each sample_difference tables) own rest bits x ps e is r)

-- what is reached before a strict end, and first of more bits before any end
rows-on : (rows : List (List Table)) (bits more : List Bool) (ps qs : List (List ℕ)) (e f : Ending) → IsStrict e
    → GoOn (rows_reached rows (text bits ps e)).0 (rows_reached rows (text (bits ++ more) qs f)).0
unfolding rows_reached TakesFront
rows-on [] bits more ps qs e f strict = ([], refl)
rows-on (tables ∷ rows) bits more ps qs e f strict =
    go (row-front tables bits) (λ left ls ms. rows-on rows left more ls ms e f strict)
  where
    longer : Rows
    longer = (rows_reached (tables ∷ rows) (text (bits ++ more) qs f)).0

    go : Front ⊥ (each sample_difference tables) bits
        → ((left : List Bool) (ls ms : List (List ℕ))
        → GoOn (rows_reached rows (text left ls e)).0 (rows_reached rows (text (left ++ more) ms f)).0)
        → GoOn (rows_reached (tables ∷ rows) (text bits ps e)).0 longer
    go (failed g is) others = (
      longer,
      ap (λ (a : After). a.0 ++ longer) (ap (after_row rows) (sym ((strict-fault _ bits g e strict is).1 ps))),
    )
    go (gave own left x is r) others =
        let n = length own in
        let first = others left (drop n ps) (drop n qs) in (
          first.0,
          ap (λ (a : After). a.0) (next-row tables rows x own (left ++ more) (bits ++ more) qs f
              (ap (λ (b : List Bool). b ++ more) is ∙ append_assoc own left more) r)
              ∙ ap (λ (l : Rows). x ∷ l) first.1
              ∙ ap (λ (a : After). a.0 ++ first.0) (sym (next-row tables rows x own left bits ps e is r)),
        )

-- ---- an interval

interval-first : (rows : List (List Table)) (bytes more : List ℕ)
    → GoOn (interval_rows_reached rows bytes).0 (interval_rows_reached rows (bytes ++ more)).0
unfolding interval_rows_reached
interval-first rows bytes more =
    let t = stopping bytes in
    let u = stopping (bytes ++ more) in
    let g = text-grows bytes more in
    subst (λ (b : List Bool). GoOn (rows_reached rows t).0 (rows_reached rows (text b u.following u.ending)).0)
    (sym g.are)
    (rows-on rows t.bits g.bits t.following u.following t.ending u.ending (stopping-strict (text_at bytes).ending))

abbrev Interval : Type 0
Interval = Rows × Met

rows-front : (rows : List (List Table)) → TakesFront ⊥ (each_row rows)
rows-front rows = each-front ⊥ (each sample_difference) rows row-front

interval-stays : (rows : List (List Table)) (bytes more : List ℕ)
    → StaysBrought more (interval_rows_reached rows bytes) (interval_rows_reached rows (bytes ++ more))
unfolding interval_rows_reached TakesFront
interval-stays rows bytes more =
    text-stays (each_row rows) (rows_reached rows) (rows-same rows) bytes more (λ (r : Rows). r)
    (rows-front rows (text_at bytes).bits)

-- ---- a scan

-- the first rows of an interval, and perhaps other intervals
last-go : (rows all : Rows) (others : List Rows) → GoOn rows all → RowsGoOn (rows ∷ []) (all ∷ others)
last-go rows all others first = record {
  front = [];
  last = rows;
  more = first.0;
  others = others;
  shorter_is = refl;
  longer_is = ap (λ (l : Rows). l ∷ others) first.1;
}

-- after an interval that both have
another-goes : (rows : Rows) (shorter longer : List Rows) → RowsGoOn shorter longer
    → RowsGoOn (rows ∷ shorter) (rows ∷ longer)
another-goes rows shorter longer r = record {
  front = rows ∷ r.front;
  last = r.last;
  more = r.more;
  others = r.others;
  shorter_is = ap (λ (l : List Rows). rows ∷ l) r.shorter_is;
  longer_is = ap (λ (l : List Rows). rows ∷ l) r.longer_is;
}

-- where the first interval of the shorter data has a fault
stopped-goes : (rows : Rows) (s : Interval) (reached : List ℕ → Scanned) → GoOn rows s.0
    → (q : Result (List ℕ) Fault) → RowsGoOn (rows ∷ []) (next_reached reached s.0 q).0
stopped-goes rows s reached first (Err g) = last-go rows s.0 [] first
stopped-goes rows s reached first (Ok b) = last-go rows s.0 (reached b).0 first

next-goes : (k : ℕ) (r s : Interval) (more : List ℕ) (reached : List ℕ → Scanned) → GoOn r.0 s.0
    → StaysBrought more r s → ((b : List ℕ) → RowsGoOn (reached b).0 (reached (b ++ more)).0)
    → (q : Result (List ℕ) Fault) → outcomes.◌>>=◌ r.1 (after_interval k) ≡ q
    → RowsGoOn (next_reached reached r.0 q).0
    (next_reached reached s.0 (outcomes.◌>>=◌ s.1 (after_interval k))).0
next-goes k r s more reached first stays on (Err g) h =
    stopped-goes r.0 s reached first (outcomes.◌>>=◌ s.1 (after_interval k))
next-goes k r s more reached first stays on (Ok b) h =
    let x = bind-ok r.1 (after_interval k) b h in
    subst (λ (q : Interval). RowsGoOn (r.0 ∷ (reached b).0)
    (next_reached reached q.0 (outcomes.◌>>=◌ q.1 (after_interval k))).0) (sym (stays x.0 x.1))
    (subst (λ (o : Result (List ℕ) Fault). RowsGoOn (r.0 ∷ (reached b).0) (next_reached reached r.0 o).0)
    (sym (after-same k x.0 b more x.2)) (another-goes r.0 (reached b).0 (reached (b ++ more)).0 (on b)))

-- Longer data of a lossless scan bring the rows of MCUs of shorter ones, and more after them.
pub longer_rows_go_on : (k : ℕ) (rows : List (List Table)) (groups : List (List (List Table))) (bytes more : List ℕ)
    → RowsGoOn (scan_rows_reached k rows groups bytes).0 (scan_rows_reached k rows groups (bytes ++ more)).0
unfolding scan_rows_reached
longer_rows_go_on k rows [] bytes more =
    last-go (interval_rows_reached rows bytes).0 (interval_rows_reached rows (bytes ++ more)).0 []
    (interval-first rows bytes more)
longer_rows_go_on k rows (next ∷ groups) bytes more =
    let r = interval_rows_reached rows bytes in
    next-goes k r (interval_rows_reached rows (bytes ++ more)) more (scan_rows_reached (suc k) next groups)
    (interval-first rows bytes more) (interval-stays rows bytes more)
    (λ b. longer_rows_go_on (suc k) next groups b more) (outcomes.◌>>=◌ r.1 (after_interval k)) refl

-- ---- a scan that is read

-- Where a scan is reached up to its end, it is so of longer data.
pub scan-rows-stay : (more : List ℕ) (k : ℕ) (rows : List (List Table)) (groups : List (List (List Table)))
    (bytes : List ℕ)
    → StaysBrought more (scan_rows_reached k rows groups bytes) (scan_rows_reached k rows groups (bytes ++ more))
unfolding scan_rows_reached
scan-rows-stay more k rows [] bytes =
    last-stays more (λ (r : Rows). r ∷ []) (interval_rows_reached rows bytes)
    (interval_rows_reached rows (bytes ++ more)) (interval-stays rows bytes more)
scan-rows-stay more k rows (next ∷ groups) bytes =
    let r = interval_rows_reached rows bytes in
    let after = next_reached (scan_rows_reached (suc k) next groups) in
    next-stays more k after after r (interval_rows_reached rows (bytes ++ more)) (λ g. refl)
    (interval-stays rows bytes more)
    (λ b x h. ap (λ (z : Scanned). (r.0 ∷ z.0, z.1)) (scan-rows-stay more (suc k) next groups b x h))
    (outcomes.◌>>=◌ r.1 (after_interval k)) refl

-- The rows of MCUs of a lossless scan are reached as far as their data go, interval by interval; and what calls leave
-- that read them, and pass over the restart markers after them.
use Rattle.std.proofs.Common.{◌≡◌, ◌∙◌, ◌+◌, ◌-◌, ◌<◌, ◌≤◌, inl, ℕ, zero, suc, Bool, true, false, List, [], ◌∷◌, length}
use Rattle.std.proofs.Common.{⊎_elim, ap₂, drop, refl, sym, ap, arith, subst, Result, Ok, Err, take}
use Rattle.std.proofs.lemmas.Bool.{cases_lt}
use Rattle.std.proofs.lemmas.List.{drop-replicate, drop_all, length-replicate, take-replicate, take_all}
use Rattle.std.specs.Prelude.{IfErr, IfOk, Option}
use Rattle.jpeg_bits.specs.Codes.{Table}
use Rattle.jpeg_bits.specs.Entropy.{Ending, Text, closed, fresh_before, marker_from, text_at, upcoming}
use Rattle.jpeg_bits.specs.Intervals.{groups}
use Rattle.jpeg_bits.specs.Reading.{Answers, Fault, Outcome, ◌>>=◌}
use Rattle.jpeg_bits.specs.Readers.{Reads, read_on, text}
use Rattle.jpeg_bits.specs.Stream.{Stream}
use Rattle.jpeg_bits.specs.declared.beyond.Beyond.TheVariants.{Nothing}
use Rattle.jpeg_bits.specs.declared.error.Error.{Error}
use Rattle.jpeg_bits.specs.declared.error.Error.TheVariants as errors
use Rattle.jpeg_bits.specs.declared.marker.Marker.{Marker}
use Rattle.jpeg_bits.proofs.Loops.{Continues-answers, Names-through}
use Rattle.jpeg_bits.proofs.TakenTexts.{Taken, TakesBits, bind-takes, each-takes, gives-takes}
use Rattle.jpeg_bits.proofs.TakenTexts.Taken.{gave, failed}
use Rattle.jpeg_lossless.specs.Differences.{differences, mcu_tables, row_tables, sample_difference}
use Rattle.jpeg_lossless.specs.PlanesRead.{PlanesTo, interval_through, intervals_through}
use Rattle.jpeg_lossless.specs.Rows.{planes_after_rows, with_all_rows, with_mcu_rows}
use Rattle.jpeg_lossless.specs.RowsReached.{rows_reached}
use Rattle.jpeg_lossless.specs.Scans.{Way, scan_tables}
use Rattle.jpeg_lossless.proofs.ThroughRows.{LeavesPlanes, end_of, next_through, through-last, through-more}
use Rattle.jpeg_lossless.proofs.WholeScans.{difference-takes, groups-none}
use Rattle.jpeg_meaning.specs.Brought.{after_interval, after_intervals, interval_rows_reached, scan_rows_reached}
use Rattle.jpeg_meaning.specs.Brought.{stopped, stopping}
use Rattle.jpeg_meaning.specs.States.{IfRefused, OnTold}
use Rattle.jpeg_meaning.proofs.Partial.RowIntervals.{next_reached}
use Rattle.jpeg_decoder.specs.Reaching.{planes_reached}
use Rattle.jpeg_decoder.specs.Steps.{after_all}
use Rattle.jpeg_decoder.proofs.Partial.Refused.{told-any}
use Rattle.jpeg_decoder.proofs.Partial.StoppedIntervals.{left-ahead, stopped-ahead}

-- ---- rows go by the bits of a text and its end alone

differences-take : (tables : List Table) → TakesBits (differences tables)
differences-take tables = each-takes sample_difference tables difference-takes

planes-take : (w : Way) (is_first : Bool) (n : ℕ) (planes : List (List ℕ))
    → TakesBits (planes_after_rows w is_first n planes)
unfolding planes_after_rows
planes-take w is_first zero planes = gives-takes planes
planes-take w is_first (suc n) planes =
    bind-takes (differences (row_tables w.wide (mcu_tables w.parts))) _ (differences-take _)
    (λ row. planes-take w false n _)

abbrev Rows : Type 0
Rows = List (List ℕ) × Result (List Bool) Fault

-- what is reached after the next row
abbrev after_row : List (List Table) → Result (List ℕ × Text) Fault → Rows
after_row rows o = elim o [
  | Ok r ↦ let more = rows_reached rows r.1 in (r.0 ∷ more.0, more.1)
  | Err fault ↦ ([], Err fault)
]

abbrev below_row : List ℕ → Rows → Rows
below_row row more = (row ∷ more.0, more.1)

row-alike : (tables : List Table) (rows : List (List Table)) (bits : List Bool) (e : Ending) (ps qs : List (List ℕ))
    → Taken (differences tables) bits e → ((left : List Bool) (ps qs : List (List ℕ))
    → rows_reached rows (text left ps e) ≡ rows_reached rows (text left qs e))
    → after_row rows (differences tables (text bits ps e)) ≡ after_row rows (differences tables (text bits qs e))
row-alike tables rows bits e ps qs (failed g is) others = ap (after_row rows) (is ps ∙ sym (is qs))
row-alike tables rows bits e ps qs (gave n x is) others =
    ap (after_row rows) (is e ps (inl refl)) ∙ ap (below_row x) (others (drop n bits) (drop n ps) (drop n qs))
    ∙ sym (ap (after_row rows) (is e qs (inl refl)))

rows-followed : (rows : List (List Table)) (bits : List Bool) (e : Ending) (ps qs : List (List ℕ))
    → rows_reached rows (text bits ps e) ≡ rows_reached rows (text bits qs e)
unfolding TakesBits rows_reached
rows-followed [] bits e ps qs = refl
rows-followed (tables ∷ rows) bits e ps qs =
    row-alike tables rows bits e ps qs (differences-take tables bits e)
    (λ left qs rs. rows-followed rows left e qs rs)

-- ---- an interval

abbrev pub Planes : Type 0
Planes = List (List ℕ)

-- What is reached of rows ends as what is read of them.
abbrev IsAlike : Result (List Bool) Fault → Result (Planes × Text) Fault → Type 0
IsAlike o (Ok r) = o ≡ Ok r.1.bits
IsAlike o (Err fault) = o ≡ Err fault

below-alike : (rows : List (List Table)) (next : List ℕ → Reads Planes) (o : Result (List ℕ × Text) Fault)
    → ((row : List ℕ) (u : Text) → IsAlike (rows_reached rows u).1 (next row u))
    → IsAlike (after_row rows o).1 (read_on next o)
below-alike rows next (Ok r) more = more r.0 r.1
below-alike rows next (Err fault) more = refl

rows-alike : (w : Way) (is_first : Bool) (n : ℕ) (planes : Planes) (t : Text)
    → IsAlike (rows_reached (scan_tables w n) t).1 (planes_after_rows w is_first n planes t)
unfolding rows_reached planes_after_rows
rows-alike w is_first zero planes t = refl
rows-alike w is_first (suc n) planes t =
    below-alike (scan_tables w n) _ (differences (row_tables w.wide (mcu_tables w.parts)) t)
    (λ row u. rows-alike w false n _ u)

marker-same : (w : Way) (n : ℕ) (planes : Planes) (bytes : List ℕ) (o : Result (Planes × Text) Fault)
    (left : Result (List Bool) Fault)
    → planes_after_rows w true n planes (upcoming (fresh_before Nothing) bytes) ≡ o → IsAlike left o
    → (o >>= λ r. marker_from r.1) ≡ stopped bytes left
marker-same w n planes bytes (Ok r) left is alike =
    let k = left-ahead (planes_after_rows w true n planes) r.0 (upcoming (fresh_before Nothing) bytes) r.1
    (planes-take w true n planes) is in
    sym (ap (stopped bytes) alike ∙ stopped-ahead k.0 bytes r.1 k.1)
marker-same w n planes bytes (Err fault) left is alike = sym (ap (stopped bytes) alike)

rows-stop : (rows : List (List Table)) (bytes : List ℕ)
    → rows_reached rows (upcoming (fresh_before Nothing) bytes) ≡ rows_reached rows (stopping bytes)
unfolding upcoming
rows-stop rows bytes =
    let t = text_at bytes in
    rows-followed rows t.bits (closed Nothing t.ending) (drop 56 t.following) t.following

-- An interval is read as far as it is reached.
interval-same : (w : Way) (n : ℕ) (planes : Planes) (bytes : List ℕ)
    → let r = interval_rows_reached (scan_tables w n) bytes in
    ◌≡◌ {A = PlanesTo} (interval_through w n planes bytes) (with_mcu_rows w true r.0 planes, r.1)
unfolding interval_through interval_rows_reached
interval-same w n planes bytes =
    let rows = scan_tables w n in
    let t = upcoming (fresh_before Nothing) bytes in
    ap (λ (o : Outcome (Option Marker)). (with_mcu_rows w true (rows_reached rows t).0 planes, o))
    (marker-same w n planes bytes (planes_after_rows w true n planes t) (rows_reached rows t).1 refl
    (rows-alike w true n planes t))
    ∙ ap (λ (r : Rows). (with_mcu_rows w true r.0 planes, stopped bytes r.1)) (rows-stop rows bytes)

-- ---- the intervals of a scan

-- planes with the rows of a scan appended, from an interval on
abbrev planes_from : Way → ℕ → List (List Table) → List (List (List Table)) → Planes → List ℕ → PlanesTo
planes_from w k rows others planes bytes =
    let r = scan_rows_reached k rows others bytes in (with_all_rows w r.0 planes, r.1)

-- what intervals bring, where the restart markers after them are passed over
abbrev pub passed_over : PlanesTo → PlanesTo
passed_over r = (r.0, r.1 >>= after_intervals)

-- What is left of a scan is read as far as it is reached.
abbrev AreAlike : Way → ℕ → ℕ → ℕ → ℕ → Planes → List ℕ → Type 0
AreAlike w n turns k left planes bytes = ◌≡◌ {A = PlanesTo}
    (planes_from w k (take n (scan_tables w left)) (groups turns n (drop n (scan_tables w left))) planes bytes)
    (passed_over (intervals_through (suc turns) w n k left planes bytes))

rows-count : (w : Way) (left : ℕ) → length (scan_tables w left) ≡ left
rows-count w left = length-replicate left (row_tables w.wide (mcu_tables w.parts))

last-alike : (w : Way) (n turns k left : ℕ) (planes : Planes) (bytes : List ℕ) → left ≤ n
    → AreAlike w n turns k left planes bytes
unfolding scan_rows_reached
last-alike w n turns k left planes bytes last =
    let rows = scan_tables w left in
    let long : length rows ≤ n = omega (arith, rows-count w left) in
    ap₂ (λ (g : List (List Table)) (more : List (List (List Table))). planes_from w k g more planes bytes)
    (take_all n rows long) (ap (groups turns n) (drop_all n rows long) ∙ groups-none turns n)
    ∙ ap passed_over (sym (interval-same w left planes bytes)
    ∙ sym (through-last (suc turns) w n k left planes bytes (omega arith) last))

-- the planes that the next interval and those after it leave
next-alike : (w : Way) (n turns k left m : ℕ) (next : List (List Table)) (more : List (List (List Table)))
    (rows planes : Planes) (o : Result (List ℕ) Fault) → left - n ≡ m
    → ((read : Planes) (rest : List ℕ) → ◌≡◌ {A = PlanesTo} (planes_from w (suc k) next more read rest)
    (passed_over (intervals_through turns w n (suc k) m read rest)))
    → let s = next_reached (scan_rows_reached (suc k) next more) rows o in
    ◌≡◌ {A = PlanesTo} (with_all_rows w s.0 planes, s.1)
    (passed_over (next_through turns w n k left (with_mcu_rows w true rows planes) o))
next-alike w n turns k left m next more rows planes (Ok rest) less again =
    again (with_mcu_rows w true rows planes) rest
    ∙ ap (λ (l : ℕ). passed_over (intervals_through turns w n (suc k) l (with_mcu_rows w true rows planes) rest))
    (sym less)
next-alike w n turns k left m next more rows planes (Err fault) less again = refl

more-alike : (w : Way) (n turns k m : ℕ) (planes : Planes) (bytes : List ℕ) → 0 < n
    → ((read : Planes) (rest : List ℕ) → AreAlike w n turns (suc k) (suc m) read rest)
    → AreAlike w n (suc turns) k (n + suc m) planes bytes
unfolding scan_rows_reached groups
more-alike w n turns k m planes bytes some again =
    let left = n + suc m in
    let tables = row_tables w.wide (mcu_tables w.parts) in
    let fewer : left - n ≡ suc m = omega arith in
    let less : suc (suc turns) - 1 ≡ suc turns = omega arith in
    let r = interval_rows_reached (scan_tables w n) bytes in
    let next = take n (scan_tables w (suc m)) in
    let more = groups turns n (drop n (scan_tables w (suc m))) in
    ap₂ (λ (g l : List (List Table)). planes_from w k g (groups (suc turns) n l) planes bytes)
    (take-replicate n left tables (omega arith)) (drop-replicate n left tables ∙ ap (scan_tables w) fewer)
    ∙ next-alike w n (suc turns) k left (suc m) next more r.0 planes (r.1 >>= after_interval k) fewer again
    ∙ ap passed_over (ap (λ (r : PlanesTo). next_through (suc turns) w n k left r.0 (r.1 >>= after_interval k))
    (sym (interval-same w n planes bytes))
    ∙ ap (λ (t : ℕ). next_through t w n k left (interval_through w n planes bytes).0
    ((interval_through w n planes bytes).1 >>= after_interval k)) (sym less)
    ∙ sym (through-more (suc (suc turns)) w n k left planes bytes (omega arith) (omega arith)))

all-alike : (w : Way) (n turns k left : ℕ) (planes : Planes) (bytes : List ℕ) → 0 < n → left ≤ suc turns
    → AreAlike w n turns k left planes bytes
all-alike w n zero k left planes bytes some h = last-alike w n zero k left planes bytes (omega arith)
all-alike w n (suc turns) k left planes bytes some h = ⊎_elim
    (λ lt. let e : n + suc (left - n - 1) ≡ left = omega (arith, lt) in
    subst (λ (l : ℕ). AreAlike w n (suc turns) k l planes bytes) e
    (more-alike w n turns k (left - n - 1) planes bytes some
    (λ read rest. all-alike w n turns (suc k) (suc (left - n - 1)) read rest some (omega (arith, lt)))))
    (last-alike w n (suc turns) k left planes bytes) (cases_lt n left)

-- A scan is read as far as it is reached.
pub scan-through : (w : Way) (n high : ℕ) (planes : Planes) (bytes : List ℕ) → 0 < n
    → ◌≡◌ {A = PlanesTo} (planes_reached w n high planes bytes)
    (passed_over (intervals_through (high + 1) w n 0 high planes bytes))
scan-through w zero high planes bytes some = absurd (omega arith)
scan-through w (suc n) high planes bytes some =
    let rows = scan_tables w high in
    let turns : suc high ≡ high + 1 = omega arith in
    ap (λ (t : ℕ). planes_from w 0 (take (suc n) rows) (groups t (suc n) (drop (suc n) rows)) planes bytes)
    (rows-count w high)
    ∙ all-alike w (suc n) high 0 high planes bytes some (omega arith)
    ∙ ap (λ (t : ℕ). passed_over (intervals_through t w (suc n) 0 high planes bytes)) turns

-- ---- the calls

-- what is so of what was read before a refusal
if-lasting : {X P : Type 0} (e : Error)
    → ((◌≡◌ {A = Result X Error} (Err e) (Err errors.OutOfMemory) → ⊥) → P) → IfRefused e P
if-lasting errors.OutOfMemory h = tt
if-lasting (errors.Format text) h = h (λ is. cc)
if-lasting (errors.Unsupported feature) h = h (λ is. cc)
if-lasting (errors.Io x) h = h (λ is. cc)
if-lasting (errors.Internal text) h = h (λ is. cc)

-- After the intervals were read, from old to mid, restart markers were passed over, to new.
module _ (w : Way) (n high : ℕ) (planes : Planes) (some : 0 < n) (old mid new : Stream) where
  abbrev read_at : List ℕ → PlanesTo
  read_at bytes = intervals_through (high + 1) w n 0 high planes bytes

  abbrev reached_at : List ℕ → PlanesTo
  reached_at bytes = planes_reached w n high planes bytes

  same-at : (bytes : List ℕ) → ◌≡◌ {A = PlanesTo} (reached_at bytes) (passed_over (read_at bytes))
  same-at bytes = scan-through w n high planes bytes some

  -- the marker after them
  pub passed-answers : (read passed : Result (Option Marker) Error) → Answers (λ m. m) (end_of read_at) old read mid
      → IfOk read (λ met. Answers (λ m. m) (after_all met) mid passed new)
      → IfErr read (λ e. (passed ≡ Err e) × (new ≡ mid)) → Answers (λ m. m) (end_of reached_at) old passed new
  unfolding after_all
  passed-answers (Ok met) passed a after refused =
      Continues-answers (λ m. m) (end_of reached_at) (after_all met) old mid new passed (
        a.0,
        λ known. (
          (a.1 known).0,
          ap (λ (r : PlanesTo). r.1) (same-at old.bytes)
              ∙ ap (λ (o : Outcome (Option Marker)). o >>= after_intervals) (a.1 known).1,
        ),
      ) after
  passed-answers (Err e) passed a after refused =
      rw (refused.0, refused.1) (
        a.0,
        λ k l. Names-through e (end_of read_at old.bytes) (end_of reached_at old.bytes)
            (λ f h. ap (λ (r : PlanesTo). r.1) (same-at old.bytes)
            ∙ ap (λ (o : Outcome (Option Marker)). o >>= after_intervals) h) (a.1 k l),
        a.2,
      )

  -- the planes
  pub passed-planes : (read passed : Result (Option Marker) Error) (now : Planes)
      → Answers (λ m. m) (end_of read_at) old read mid → LeavesPlanes old read mid now (read_at old.bytes).0
      → IfErr read (λ e. (passed ≡ Err e) × (new ≡ mid)) → OnTold old new passed (now ≡ (reached_at old.bytes).0)
  passed-planes (Ok met) passed now a is refused =
      told-any old new passed (λ known. is known (a.1 known).0 (λ e. cc)
      ∙ sym (ap (λ (r : PlanesTo). r.0) (same-at old.bytes)))
  passed-planes (Err e) passed now a is refused =
      rw (refused.0, refused.1) (λ known l. if-lasting {X = Option Marker} e (λ there. is known l there
      ∙ sym (ap (λ (r : PlanesTo). r.0) (same-at old.bytes))))

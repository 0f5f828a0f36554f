-- Rows of MCUs for any lines of the components of a scan, under any restart interval.
use Rattle.std.proofs.lemmas.Grind.{common_steps}
use Rattle.std.proofs.Common.{◌≡◌, ◌⊎◌, inl, inr, ℕ, zero, suc, ◌+◌, ◌*◌, ◌<◌, ◌≤◌, List, [], ◌∷◌, ◌++◌, rules}
use Rattle.std.proofs.Common.{length, map, take, drop, refl, sym, ap, ap₂, ◌∙◌, arith, subst, append_assoc}
use Rattle.std.proofs.Common.{append-nil, length-append, length-drop, take-append-drop}
use Rattle.std.proofs.Math.Nat.{add-mul}
use Rattle.std.proofs.lemmas.Bool.{cases_lt}
use Rattle.std.proofs.lemmas.List.{drop_all, drop_at, length-map, length-take-le, take_all, take_at}
use Rattle.std.specs.List.{AllByRecursion, flat_map}
use Rattle.jpeg_bits.specs.Intervals.{first_group, groups, other_groups}
use Rattle.jpeg_bits.specs.declared.scan.Predictor.{Predictor}
use Rattle.jpeg_bits.proofs.ReadIntervals.{all-append, all-drop, all-take}
use Rattle.jpeg_bits.proofs.WrittenIntervals.{all-groups}
use Rattle.jpeg_lossless.specs.Differences.{Part, lines_in, mcu_tables, strand, strands}
use Rattle.jpeg_lossless.specs.Prediction.{predicted_lines}
use Rattle.jpeg_lossless.specs.SampleDifferences.{AreLines, AreSamples, differences_of}
use Rattle.jpeg_lossless.proofs.Inverse.{all_back}
use Rattle.jpeg_lossless.proofs.WholeScans.{appended, length-mcu}
use Rattle.jpeg_meaning.proofs.Encoded.EncodedSamples.{AreResidues, AreRows, AreWide, below-rows, rows-count}

abbrev pub Lines : Type 0
Lines = List (List ℕ)

-- the lines of each component of a scan, by its place in the scan
abbrev pub Parted : Type 0
Parted = ℕ → Lines

-- those of the components after the first
abbrev pub later : Parted → Parted
later f = λ place. f (suc place)

-- Each component has the lines of m rows of n MCUs, of numbers below 2 ^ 16.
abbrev pub Fit : ℕ → ℕ → List Part → Parted → Type 0
Fit m n [] f = Unit {0}
Fit m n (p ∷ parts) f =
    (length (f 0) ≡ m * p.down) × AreRows (n * p.across) (f 0) × Fit m n parts (later f)

-- ---- an MCU

-- of each line its first numbers
abbrev pieces : ℕ → Lines → List ℕ
pieces across [] = []
pieces across (line ∷ lines) = take across line ++ pieces across lines

-- the first MCU of a row
abbrev mcu_of : List Part → Parted → List ℕ
mcu_of [] f = []
mcu_of (p ∷ parts) f = pieces p.across (f 0) ++ mcu_of parts (later f)

-- the lines after it
abbrev after_mcu : List Part → Parted → Parted
after_mcu [] f place = f place
after_mcu (p ∷ parts) f zero = map (drop p.across) (f 0)
after_mcu (p ∷ parts) f (suc place) = after_mcu parts (later f) place

one-mul : (n : ℕ) → 1 * n ≡ n
one-mul n = omega arith

pub suc-mul : (n k : ℕ) → suc n * k ≡ k + n * k
suc-mul n k = ap (λ (j : ℕ). j * k) next ∙ add-mul 1 n k ∙ ap (λ (j : ℕ). j + n * k) (one-mul k)
  where
    next : suc n ≡ 1 + n
    next = omega arith

long-enough : (n across : ℕ) (line : List ℕ) → length line ≡ suc n * across → across ≤ length line
long-enough n across line e = let k = suc-mul n across in omega arith

pieces-length : (n across : ℕ) (lines : Lines) → AreRows (suc n * across) lines
    → length (pieces across lines) ≡ length lines * across
pieces-length n across [] h = omega arith
pieces-length n across (line ∷ lines) h =
    search (rules, length-take-le, long-enough, suc-mul, length-append, pieces-length n across lines h.1)

mcu-length : (n : ℕ) (parts : List Part) (f : Parted) → Fit 1 (suc n) parts f
    → length (mcu_of parts f) ≡ length (mcu_tables parts)
unfolding mcu_tables
mcu-length n [] f h = refl
mcu-length n (p ∷ parts) f h =
    search (rules, length-append, pieces-length, one-mul, length-mcu, mcu-length n parts (later f) h.2)

dropped-rows : (n across : ℕ) (lines : Lines) → AreRows (suc n * across) lines
    → AreRows (n * across) (map (drop across) lines)
dropped-rows n across [] h = tt
dropped-rows n across (line ∷ lines) h =
    search (rules, suc-mul, length-drop, all-drop, dropped-rows n across lines h.1)

after-fit : (n : ℕ) (parts : List Part) (f : Parted) → Fit 1 (suc n) parts f → Fit 1 n parts (after_mcu parts f)
after-fit n [] f h = tt
after-fit n (p ∷ parts) f h = search (rules, length-map, dropped-rows, after-fit n parts (later f) h.2)

pieces-low : (n across : ℕ) (lines : Lines) → AreRows n lines → AreResidues (pieces across lines)
pieces-low n across [] h = tt
pieces-low n across (line ∷ lines) h = search (rules, all-append, all-take, pieces-low n across lines h.1)

mcu-low : (m n : ℕ) (parts : List Part) (f : Parted) → Fit m n parts f → AreResidues (mcu_of parts f)
mcu-low m n [] f h = tt
mcu-low m n (p ∷ parts) f h = search (rules, all-append, pieces-low, mcu-low m n parts (later f) h.2)

-- ---- a row of MCUs

abbrev row_of : ℕ → List Part → Parted → List ℕ
row_of zero parts f = []
row_of (suc n) parts f = mcu_of parts f ++ row_of n parts (after_mcu parts f)

row-length : (n : ℕ) (parts : List Part) (f : Parted) → Fit 1 n parts f
    → length (row_of n parts f) ≡ n * length (mcu_tables parts)
row-length zero parts f h = omega arith
row-length (suc n) parts f h =
    search (
      rules,
      mcu-length,
      after-fit,
      length-append,
      suc-mul,
      row-length n parts (after_mcu parts f) (after-fit n parts f h),
    )

row-low : (n : ℕ) (parts : List Part) (f : Parted) → Fit 1 n parts f → AreResidues (row_of n parts f)
row-low zero parts f h = tt
row-low (suc n) parts f h =
    search (rules, all-append, mcu-low, row-low n parts (after_mcu parts f) (after-fit n parts f h))

-- what the first MCU of a row has of each line
abbrev cut : ℕ → ℕ → ℕ → List ℕ → Lines
cut zero from across row = []
cut (suc down) from across row = take across (drop from row) ∷ cut down (from + across) across row

strands-step : (down n size from across : ℕ) (row : List ℕ)
    → strands down (suc n) size from across row
    ≡ appended (cut down from across row) (strands down n size from across (drop size row))
unfolding strand strands
strands-step zero n size from across row = refl
strands-step (suc down) n size from across row = search (rules, strands-step down n size (from + across) across row)

cut-pieces : (n across from : ℕ) (front more row : List ℕ) (lines : Lines) → AreRows (suc n * across) lines
    → length front ≡ from → row ≡ front ++ (pieces across lines ++ more)
    → cut (length lines) from across row ≡ map (take across) lines
cut-pieces n across from front more row [] h e is = refl
cut-pieces n across from front more row (line ∷ lines) h e is =
    let size = length-take-le across line (long-enough n across line h.0.0) in
    let assoc = append_assoc (take across line) (pieces across lines) more in
    let here : drop from row ≡ take across line ++ (pieces across lines ++ more) =
    ap (drop from) is ∙ drop_at front _ from e ∙ assoc in
    let both = length-append front (take across line) in
    ap₂ (λ (l : List ℕ) (ls : Lines). l ∷ ls)
    (ap (take across) here ∙ take_at (take across line) (pieces across lines ++ more) across size)
    (cut-pieces n across (from + across) (front ++ take across line) more row lines h.1 (omega arith)
    (is ∙ ap (λ (l : List ℕ). front ++ l) assoc
    ∙ sym (append_assoc front (take across line) (pieces across lines ++ more))))

halves : (across : ℕ) (lines : Lines) → appended (map (take across) lines) (map (drop across) lines) ≡ lines
halves across [] = refl
halves across (line ∷ lines) = search (rules, take-append-drop, halves across lines)

-- A row of n MCUs of `size` samples gives each component its lines. The samples of the first begin at `from` in an MCU.
abbrev Gives : ℕ → ℕ → ℕ → List Part → Parted → List ℕ → Type 0
Gives n size from [] f row = Unit {0}
Gives n size from (p ∷ parts) f row = (strands p.down n size from p.across row ≡ f 0)
    × Gives n size (from + p.down * p.across) parts (later f) row

no-mcus : (down size from across n : ℕ) (row : List ℕ) (lines : Lines) → length lines ≡ down → AreRows n lines → n ≡ 0
    → strands down 0 size from across row ≡ lines
unfolding strand strands
no-mcus zero size from across n row [] e h z = refl
no-mcus (suc down) size from across n row ([] ∷ lines) e h z =
    ap (λ (ls : Lines). [] ∷ ls) (no-mcus down size (from + across) across n row lines (omega arith) h.1 z)
no-mcus (suc down) size from across n row ((x ∷ line) ∷ lines) e h z = let k = h.0.0 in absurd (omega arith)
no-mcus down size from across n row lines e h z = absurd (omega arith)

no-row : (size from : ℕ) (parts : List Part) (f : Parted) → Fit 1 0 parts f → Gives 0 size from parts f []
no-row size from [] f h = tt
no-row size from (p ∷ parts) f h =
    search (rules, no-mcus, one-mul, no-row size (from + p.down * p.across) parts (later f) h.2)

one-more : (n size from : ℕ) (parts : List Part) (front more row : List ℕ) (f : Parted) → Fit 1 (suc n) parts f
    → row ≡ front ++ (mcu_of parts f ++ more) → length front ≡ from → drop size row ≡ more
    → Gives n size from parts (after_mcu parts f) more → Gives (suc n) size from parts f row
one-more n size from [] front more row f h is e d g = tt
one-more n size from (p ∷ parts) front more row f h is e d g =
    let mine = pieces p.across (f 0) in
    let others = mcu_of parts (later f) in
    let down : p.down ≡ length (f 0) = sym (h.0 ∙ one-mul p.down) in
    let assoc = append_assoc mine others more in
    let first : cut p.down from p.across row ≡ map (take p.across) (f 0) =
    ap (λ (k : ℕ). cut k from p.across row) down
    ∙ cut-pieces n p.across from front (others ++ more) row (f 0) h.1 e (is ∙ ap (λ (l : List ℕ). front ++ l) assoc) in
    let size_of : length mine ≡ p.down * p.across =
    pieces-length n p.across (f 0) h.1 ∙ ap (λ (k : ℕ). k * p.across) (sym down) in
    let both = length-append front mine in (
      strands-step p.down n size from p.across row
          ∙ ap₂ appended first (ap (strands p.down n size from p.across) d ∙ g.0)
          ∙ halves p.across (f 0),
      one-more n size (from + p.down * p.across) parts (front ++ mine) more row (later f) h.2
          (is ∙ ap (λ (l : List ℕ). front ++ l) assoc ∙ sym (append_assoc front mine (others ++ more)))
          (omega arith) d g.1,
    )

row-gives : (n : ℕ) (parts : List Part) (f : Parted) → Fit 1 n parts f
    → Gives n (length (mcu_tables parts)) 0 parts f (row_of n parts f)
row-gives zero parts f h = no-row (length (mcu_tables parts)) 0 parts f h
row-gives (suc n) parts f h =
    let more = row_of n parts (after_mcu parts f) in
    one-more n (length (mcu_tables parts)) 0 parts [] more (mcu_of parts f ++ more) f h refl refl
    (drop_at (mcu_of parts f) more (length (mcu_tables parts)) (mcu-length n parts f h))
    (row-gives n parts (after_mcu parts f) (after-fit n parts f h))

-- ---- rows of MCUs

-- the lines of the first row of MCUs, and those below it
abbrev pub tops : List Part → Parted → Parted
tops [] f place = f place
tops (p ∷ parts) f zero = take p.down (f 0)
tops (p ∷ parts) f (suc place) = tops parts (later f) place

abbrev pub lowers : List Part → Parted → Parted
lowers [] f place = f place
lowers (p ∷ parts) f zero = drop p.down (f 0)
lowers (p ∷ parts) f (suc place) = lowers parts (later f) place

tops-fit : (m n : ℕ) (parts : List Part) (f : Parted) → Fit (suc m) n parts f → Fit 1 n parts (tops parts f)
tops-fit m n [] f h = tt
tops-fit m n (p ∷ parts) f h =
    search (rules, suc-mul, length-take-le, one-mul, all-take, tops-fit m n parts (later f) h.2)

lowers-fit : (m n : ℕ) (parts : List Part) (f : Parted) → Fit (suc m) n parts f → Fit m n parts (lowers parts f)
lowers-fit m n [] f h = tt
lowers-fit m n (p ∷ parts) f h = search (rules, suc-mul, length-drop, all-drop, lowers-fit m n parts (later f) h.2)

abbrev pub rows_of : ℕ → ℕ → List Part → Parted → Lines
rows_of zero n parts f = []
rows_of (suc m) n parts f = row_of n parts (tops parts f) ∷ rows_of m n parts (lowers parts f)

-- rows of MCUs give each component its lines
abbrev GiveLines : ℕ → ℕ → ℕ → List Part → Parted → Lines → Type 0
GiveLines n size from [] f rows = Unit {0}
GiveLines n size from (p ∷ parts) f rows = (lines_in p n size from rows ≡ f 0)
    × GiveLines n size (from + p.down * p.across) parts (later f) rows

none-left : (m d : ℕ) (lines : Lines) → length lines ≡ m * d → m ≡ 0 → lines ≡ []
none-left m d [] e z = refl
none-left m d (line ∷ lines) e z = let k : m * d ≡ 0 * d = ap (λ (j : ℕ). j * d) z in absurd (omega arith)

no-rows : (n size from : ℕ) (parts : List Part) (f : Parted) → Fit 0 n parts f → GiveLines n size from parts f []
unfolding lines_in
no-rows n size from [] f h = tt
no-rows n size from (p ∷ parts) f h =
    grind (arith, common_steps, none-left, no-rows n size (from + p.down * p.across) parts (later f) h.2)

row-more : (n size from : ℕ) (parts : List Part) (f : Parted) (row : List ℕ) (rows : Lines)
    → Gives n size from parts (tops parts f) row → GiveLines n size from parts (lowers parts f) rows
    → GiveLines n size from parts f (row ∷ rows)
unfolding lines_in
row-more n size from [] f row rows g h = tt
row-more n size from (p ∷ parts) f row rows g h =
    search (rules, take-append-drop, row-more n size (from + p.down * p.across) parts (later f) row rows g.1 h.1)

rows-give : (m n : ℕ) (parts : List Part) (f : Parted) → Fit m n parts f
    → GiveLines n (length (mcu_tables parts)) 0 parts f (rows_of m n parts f)
rows-give zero n parts f h = no-rows n (length (mcu_tables parts)) 0 parts f h
rows-give (suc m) n parts f h =
    search (rules, row-more, row-gives, tops-fit, rows-give m n parts (lowers parts f) (lowers-fit m n parts f h))

pub rows-length : (m n : ℕ) (parts : List Part) (f : Parted) → length (rows_of m n parts f) ≡ m
rows-length zero n parts f = refl
rows-length (suc m) n parts f = ap suc (rows-length m n parts (lowers parts f))

pub rows-whole : (m n : ℕ) (parts : List Part) (f : Parted) → Fit m n parts f
    → AreRows (n * length (mcu_tables parts)) (rows_of m n parts f)
rows-whole zero n parts f h = tt
rows-whole (suc m) n parts f h =
    search (rules, tops-fit, row-length, row-low, rows-whole m n parts (lowers parts f) (lowers-fit m n parts f h))

-- ---- lines by rows of MCUs

-- the lines of each of m rows of MCUs
abbrev pub bands_of : ℕ → List Part → Parted → List Parted
bands_of zero parts f = []
bands_of (suc m) parts f = tops parts f ∷ bands_of m parts (lowers parts f)

-- those of some rows, one below the other
abbrev pub column : List Parted → Parted
column [] place = []
column (band ∷ bands) place = band place ++ column bands place

abbrev pub AllFit : ℕ → List Part → List Parted → Type 0
AllFit n parts bands = AllByRecursion (Fit 1 n parts) bands

-- the same lines of each component
abbrev pub AreSame : List Part → Parted → Parted → Type 0
AreSame [] f g = Unit {0}
AreSame (p ∷ parts) f g = (f 0 ≡ g 0) × AreSame parts (later f) (later g)

pub bands-fit : (m n : ℕ) (parts : List Part) (f : Parted) → Fit m n parts f → AllFit n parts (bands_of m parts f)
bands-fit zero n parts f h = tt
bands-fit (suc m) n parts f h =
    (tops-fit m n parts f h, bands-fit m n parts (lowers parts f) (lowers-fit m n parts f h))

pub bands-length : (m : ℕ) (parts : List Part) (f : Parted) → length (bands_of m parts f) ≡ m
bands-length zero parts f = refl
bands-length (suc m) parts f = ap suc (bands-length m parts (lowers parts f))

same-none : (n : ℕ) (parts : List Part) (f g : Parted) → ((place : ℕ) → g place ≡ []) → Fit 0 n parts f → AreSame parts g f
same-none n [] f g e h = tt
same-none n (p ∷ parts) f g e h = (
  e 0 ∙ sym (none-left 0 p.down (f 0) h.0 refl),
  same-none n parts (later f) (later g) (λ place. e (suc place)) h.2,
)

same-more : (parts : List Part) (f g b : Parted) → ((place : ℕ) → g place ≡ tops parts f place ++ b place)
    → AreSame parts b (lowers parts f) → AreSame parts g f
same-more [] f g b e h = tt
same-more (p ∷ parts) f g b e h = (
  e 0 ∙ ap (λ (l : Lines). take p.down (f 0) ++ l) h.0 ∙ take-append-drop p.down (f 0),
  same-more parts (later f) (later g) (later b) (λ place. e (suc place)) h.1,
)

pub bands-same : (m n : ℕ) (parts : List Part) (f : Parted) → Fit m n parts f
    → AreSame parts (column (bands_of m parts f)) f
bands-same zero n parts f h = same-none n parts f (column []) (λ place. refl) h
bands-same (suc m) n parts f h =
    search (rules, same-more, bands-same m n parts (lowers parts f) (lowers-fit m n parts f h))

fit-none : (n : ℕ) (parts : List Part) (f : Parted) → ((place : ℕ) → f place ≡ []) → Fit 0 n parts f
fit-none n [] f e = tt
fit-none n (p ∷ parts) f e = (
  ap length (e 0) ∙ sym (none-of p.down),
  subst (AreRows (n * p.across)) (sym (e 0)) tt,
  fit-none n parts (later f) (λ place. e (suc place)),
)
  where
    none-of : (d : ℕ) → 0 * d ≡ 0
    none-of d = omega arith

fit-more : (m n : ℕ) (parts : List Part) (a b c : Parted) → ((place : ℕ) → c place ≡ a place ++ b place)
    → Fit 1 n parts a → Fit m n parts b → Fit (suc m) n parts c
fit-more m n [] a b c e h k = tt
fit-more m n (p ∷ parts) a b c e h k =
    let both : length (c 0) ≡ length (a 0) + length (b 0) = ap length (e 0) ∙ length-append (a 0) (b 0) in
    let size = suc-mul m p.down in
    let x = h.0 in
    let y = k.0 in (
      omega arith,
      subst (AreRows (n * p.across)) (sym (e 0))
          (all-append (λ rs. (length rs ≡ n * p.across) × AreResidues rs) (a 0) (b 0) h.1 k.1),
      fit-more m n parts (later a) (later b) (later c) (λ place. e (suc place)) h.2 k.2,
    )

column-fit : (n : ℕ) (parts : List Part) (bands : List Parted) → AllFit n parts bands
    → Fit (length bands) n parts (column bands)
column-fit n parts [] h = fit-none n parts (column []) (λ place. refl)
column-fit n parts (band ∷ bands) h = search (rules, fit-more, column-fit n parts bands h.1)

column-append : (a b : List Parted) (place : ℕ) → column (a ++ b) place ≡ column a place ++ column b place
column-append [] b place = refl
column-append (band ∷ a) b place = search (rules, append_assoc, column-append a b place)

-- ---- differences

module _ (selection : Predictor) (start : ℕ) where
  -- the differences of the lines of an interval
  abbrev pub differing : Parted → Parted
  differing f = λ place. differences_of selection start [] (f place)

  wide-rows : (n : ℕ) (lines : Lines) → AreRows n lines → AreWide n lines
  wide-rows n [] h = tt
  wide-rows n (line ∷ lines) h = (h.0.0, wide-rows n lines h.1)

  low-line : (line : List ℕ) → AreResidues line → AreSamples line
  low-line [] h = tt
  low-line (x ∷ line) h = (h.0, low-line line h.1)

  low-lines : (n : ℕ) (lines : Lines) → AreRows n lines → AreLines n lines
  low-lines n [] h = tt
  low-lines n (line ∷ lines) h = ((h.0.0, low-line line h.0.1), low-lines n lines h.1)

  pub differing-fit : (m n : ℕ) (parts : List Part) (f : Parted) → Fit m n parts f → Fit m n parts (differing f)
  differing-fit m n [] f h = tt
  differing-fit m n (p ∷ parts) f h = (
    rows-count selection start [] (f 0) ∙ h.0,
    below-rows selection start (n * p.across) [] (f 0) (inl refl) (wide-rows (n * p.across) (f 0) h.1),
    differing-fit m n parts (later f) h.2,
  )

  -- rows of MCUs give each component its samples
  abbrev GiveSamples : ℕ → ℕ → ℕ → List Part → Parted → Lines → Type 0
  GiveSamples n size from [] f rows = Unit {0}
  GiveSamples n size from (p ∷ parts) f rows =
      (predicted_lines selection start (lines_in p n size from rows) ≡ f 0)
      × GiveSamples n size (from + p.down * p.across) parts (later f) rows

  samples-given : (m n size from : ℕ) (parts : List Part) (f : Parted) (rows : Lines) → Fit m n parts f
      → GiveLines n size from parts (differing f) rows → GiveSamples n size from parts f rows
  samples-given m n size from [] f rows h g = tt
  samples-given m n size from (p ∷ parts) f rows h g = (
    ap (predicted_lines selection start) g.0
        ∙ all_back selection start (n * p.across) (f 0) (low-lines (n * p.across) (f 0) h.1),
    samples-given m n size (from + p.down * p.across) parts (later f) rows h.2 g.1,
  )

  -- ---- an interval

  -- the rows of differences of an interval
  abbrev pub interval_for : ℕ → List Part → List Parted → Lines
  interval_for n parts bands = rows_of (length bands) n parts (differing (column bands))

  interval-gives : (n : ℕ) (parts : List Part) (bands : List Parted) → AllFit n parts bands
      → GiveSamples n (length (mcu_tables parts)) 0 parts (column bands) (interval_for n parts bands)
  interval-gives n parts bands h =
      let fit = column-fit n parts bands h in
      samples-given (length bands) n (length (mcu_tables parts)) 0 parts (column bands) (interval_for n parts bands) fit
      (rows-give (length bands) n parts (differing (column bands))
      (differing-fit (length bands) n parts (column bands) fit))

  interval-whole : (n : ℕ) (parts : List Part) (bands : List Parted) → AllFit n parts bands
      → AreRows (n * length (mcu_tables parts)) (interval_for n parts bands)
  interval-whole n parts bands h =
      rows-whole (length bands) n parts (differing (column bands))
      (differing-fit (length bands) n parts (column bands) (column-fit n parts bands h))

  -- ---- intervals

  -- the lines that some intervals give each component
  abbrev pub GiveAll : ℕ → ℕ → ℕ → List Part → Parted → List Lines → Type 0
  GiveAll n size from [] f intervals = Unit {0}
  GiveAll n size from (p ∷ parts) f intervals =
      (flat_map (λ rows. predicted_lines selection start (lines_in p n size from rows)) intervals ≡ f 0)
      × GiveAll n size (from + p.down * p.across) parts (later f) intervals

  all-none : (n size from : ℕ) (parts : List Part) (f : Parted) → ((place : ℕ) → f place ≡ [])
      → GiveAll n size from parts f []
  all-none n size from [] f e = tt
  all-none n size from (p ∷ parts) f e =
      (sym (e 0), all-none n size (from + p.down * p.across) parts (later f) (λ place. e (suc place)))

  all-more : (n size from : ℕ) (parts : List Part) (a b c : Parted) (rows : Lines) (intervals : List Lines)
      → ((place : ℕ) → c place ≡ a place ++ b place) → GiveSamples n size from parts a rows
      → GiveAll n size from parts b intervals → GiveAll n size from parts c (rows ∷ intervals)
  all-more n size from [] a b c rows intervals e g h = tt
  all-more n size from (p ∷ parts) a b c rows intervals e g h = (
    ap₂ (λ (x y : Lines). x ++ y) g.0 h.0 ∙ sym (e 0),
    all-more n size (from + p.down * p.across) parts (later a) (later b) (later c) rows intervals
        (λ place. e (suc place)) g.1 h.1,
  )

  pub intervals-give : (n : ℕ) (parts : List Part) (gs : List (List Parted))
      → AllByRecursion (λ bands. AllFit n parts bands) gs
      → GiveAll n (length (mcu_tables parts)) 0 parts (column (flat_map (λ (g : List Parted). g) gs))
      (map (interval_for n parts) gs)
  intervals-give n parts [] h = all-none n (length (mcu_tables parts)) 0 parts (column []) (λ place. refl)
  intervals-give n parts (g ∷ gs) h =
      all-more n (length (mcu_tables parts)) 0 parts (column g) (column (flat_map (λ (g : List Parted). g) gs))
      (column (g ++ flat_map (λ (g : List Parted). g) gs)) (interval_for n parts g) (map (interval_for n parts) gs)
      (column-append g (flat_map (λ (g : List Parted). g) gs)) (interval-gives n parts g h.0)
      (intervals-give n parts gs h.1)

  pub intervals-whole : (n : ℕ) (parts : List Part) (gs : List (List Parted))
      → AllByRecursion (λ bands. AllFit n parts bands) gs
      → AreRows (n * length (mcu_tables parts)) (flat_map (interval_for n parts) gs)
  intervals-whole n parts [] h = tt
  intervals-whole n parts (g ∷ gs) h =
      all-append (λ rs. (length rs ≡ n * length (mcu_tables parts)) × AreResidues rs)
      (interval_for n parts g) (flat_map (interval_for n parts) gs)
      (interval-whole n parts g h.0) (intervals-whole n parts gs h.1)

-- ---- groups

-- a part of a list of this size, or the last
abbrev IsChunk : {A : Type 0} → ℕ → List A → List A → Type 0
IsChunk k a b = (length a ≡ k) ⊎ ((length a ≤ k) × (b ≡ []))

take-chunk : {A : Type 0} (k : ℕ) (a b : List A) → IsChunk k a b → take k (a ++ b) ≡ a
take-chunk k a b (inl e) = take_at a b k e
take-chunk {A} k a b (inr h) = search (rules, append-nil, take_all)

drop-chunk : {A : Type 0} (k : ℕ) (a b : List A) → IsChunk k a b → drop k (a ++ b) ≡ b
drop-chunk k a b (inl e) = drop_at a b k e
drop-chunk {A} k a b (inr h) = search (rules, append-nil, drop_all)

is-chunk : {A : Type 0} (k : ℕ) (xs : List A) → (length xs < k) ⊎ (k ≤ length xs) → IsChunk k (take k xs) (drop k xs)
is-chunk k xs (inr h) = inl (length-take-le k xs h)
is-chunk k xs (inl h) = search (rules, take_all, drop_all)

no-groups : {A : Type 0} (turns n : ℕ) → ◌≡◌ {A = List (List A)} (groups turns n []) []
unfolding groups
no-groups zero n = refl
no-groups (suc turns) n = refl

groups-step : {A : Type 0} (turns n : ℕ) (xs : List A) → 0 < length xs
    → groups (suc turns) n xs ≡ take n xs ∷ groups turns n (drop n xs)
unfolding groups
groups-step turns n [] h = absurd (omega arith)
groups-step turns n (x ∷ xs) h = refl

-- what each group of a list gives
abbrev pub by_groups : {A B : Type 0} → (List A → List B) → ℕ → List A → List B
by_groups f n xs = f (first_group n xs) ++ flat_map f (other_groups n xs)

module _ {A B : Type 0} (f : List A → List B) (same : (xs : List A) → length (f xs) ≡ length xs) where
  chunk-onward : (k turns : ℕ) (xs : List A) → IsChunk k (take k xs) (drop k xs)
      → IsChunk k (f (take k xs)) (flat_map f (groups turns k (drop k xs)))
  chunk-onward k turns xs (inl e) = inl (same (take k xs) ∙ e)
  chunk-onward k turns xs (inr h) = inr (
    subst (λ (i : ℕ). i ≤ k) (sym (same (take k xs))) h.0,
    ap (λ (l : List A). flat_map f (groups turns k l)) h.1 ∙ ap (flat_map f) (no-groups turns k),
  )

  grouped-again : (turns n : ℕ) (xs : List A)
      → groups turns (suc n) (flat_map f (groups turns (suc n) xs)) ≡ map f (groups turns (suc n) xs)
  unfolding groups
  grouped-again zero n [] = refl
  grouped-again (suc turns) n [] = refl
  grouped-again zero n (x ∷ xs) = refl
  grouped-again (suc turns) n (x ∷ xs) =
      let all = x ∷ xs in
      let first = take (suc n) all in
      let rest = flat_map f (groups turns (suc n) (drop (suc n) all)) in
      let chunk = chunk-onward (suc n) turns all (is-chunk (suc n) all (cases_lt (length all) (suc n))) in
      let size : length (f first) ≡ suc (length (take n xs)) = same first in
      let some = length-append (f first) rest in
      groups-step turns (suc n) (f first ++ rest) (omega arith)
      ∙ ap₂ (λ (a : List B) (b : List (List B)). a ∷ b) (take-chunk (suc n) (f first) rest chunk)
      (ap (groups turns (suc n)) (drop-chunk (suc n) (f first) rest chunk)
      ∙ grouped-again turns n (drop (suc n) all))

  all-same : (gs : List (List A)) → length (flat_map f gs) ≡ length (flat_map (λ (g : List A). g) gs)
  all-same [] = refl
  all-same (g ∷ gs) =
      length-append (f g) (flat_map f gs) ∙ ap₂ (λ (a b : ℕ). a + b) (same g) (all-same gs)
      ∙ sym (length-append g (flat_map (λ (g : List A). g) gs))

  pub by-length : (n : ℕ) (xs : List A) → length (by_groups f n xs) ≡ length xs
  by-length n xs =
      length-append (f (first_group n xs)) (flat_map f (other_groups n xs))
      ∙ ap₂ (λ (a b : ℕ). a + b) (same (first_group n xs)) (all-same (other_groups n xs))
      ∙ sym (length-append (first_group n xs) (flat_map (λ (g : List A). g) (other_groups n xs)))
      ∙ ap length (all-groups n xs)

  pub first-again : (n : ℕ) (xs : List A) → first_group n (by_groups f n xs) ≡ f (first_group n xs)
  first-again zero xs = append-nil (f xs)
  first-again (suc n) xs =
      take-chunk (suc n) (f (take (suc n) xs)) (flat_map f (other_groups (suc n) xs))
      (chunk-onward (suc n) (length xs) xs (is-chunk (suc n) xs (cases_lt (length xs) (suc n))))

  pub others-again : (n : ℕ) (xs : List A) → other_groups n (by_groups f n xs) ≡ map f (other_groups n xs)
  others-again zero xs = refl
  others-again (suc n) xs =
      let chunk = chunk-onward (suc n) (length xs) xs (is-chunk (suc n) xs (cases_lt (length xs) (suc n))) in
      ap₂ (λ (k : ℕ) (l : List B). groups k (suc n) l) (by-length (suc n) xs)
      (drop-chunk (suc n) (f (take (suc n) xs)) (flat_map f (other_groups (suc n) xs)) chunk)
      ∙ grouped-again (length xs) n (drop (suc n) xs)

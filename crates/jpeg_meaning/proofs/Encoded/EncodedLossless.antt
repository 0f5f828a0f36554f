-- Each script of a lossless stream has a stream: tables for each destination, and then its scans, each after its restart interval.
use Rattle.std.proofs.Common.{[], ap, append_assoc, arith, Bool, false, inr, length, length-append, List, map}
use Rattle.std.proofs.Common.{None, refl, replicate, rules, Some, subst, suc, sym, take, true, zero, ℕ, ◌*◌, ◌++◌}
use Rattle.std.proofs.Common.{◌+◌, ◌-◌, ◌<◌, ◌^◌, ◌∙◌, ◌∷◌, ◌≡◌, ◌≤◌}
use Rattle.std.proofs.Math.Logic.{⊎_elim}
use Rattle.std.proofs.Math.Nat.{zero-mod}
use Rattle.std.proofs.Math.Pow.{pow_mono}
use Rattle.std.proofs.lemmas.Bool.{cases_lt, eq-eqb, or_right}
use Rattle.std.proofs.lemmas.List.{length-map, length-replicate, take_at}
use Rattle.std.proofs.lemmas.List.Folds.{list_any-append}
use Rattle.std.specs.List.{AllByRecursion, flat_map}
use Rattle.std.specs.Prelude.{slice_get, slice_index_or, zip, ◌==◌, ◌||◌}
use Rattle.jpeg_bits.proofs.ReadIntervals.{all-again, all-append, all-map}
use Rattle.jpeg_bits.proofs.WrittenIntervals.{all-groups, first-all, first-map, others-all, others-map}
use Rattle.jpeg_bits.specs.Codes.{code_value, codes_exist, lengths_from, Table}
use Rattle.jpeg_bits.specs.DefaultTables.{names}
use Rattle.jpeg_bits.specs.Intervals.{first_group, other_groups}
use Rattle.jpeg_bits.specs.Written.{marker, WritesIntervals}
use Rattle.jpeg_segments.specs.Frame.{Component, Factors, Frame, frame_of}
use Rattle.jpeg_segments.specs.HuffmanTables.{DefinedTable}
use Rattle.jpeg_segments.specs.ScanHeader.{predictor_by, scan_of, Selector}
use Rattle.jpeg_segments.specs.ScanHeaders.{IsScan, scan_written, ScanHeader, selectors_in}
use Rattle.jpeg_segments.specs.WrittenSegments.{AreComponents, frame_payload, frame_written, FrameHeader, Header}
use Rattle.jpeg_segments.specs.WrittenSegments.{Huffman, huffman_bytes, Interval, IsFrameHeader, IsHuffmanTable}
use Rattle.jpeg_segments.specs.WrittenSegments.{payload_of, with_length}
use Rattle.jpeg_lossless.specs.Codings.{IsCovered}
use Rattle.jpeg_lossless.specs.Differences.{mcu_tables, Part, row_tables}
use Rattle.jpeg_lossless.specs.Scans.{is_of_rows, lines_by_component, rows_of_interval, samples_an_mcu, Way}
use Rattle.jpeg_lossless.specs.Written.{WritesRows}
use Rattle.jpeg_meaning.specs.AcceptedFrames.{HasSamples}
use Rattle.jpeg_meaning.specs.Found.{nothing_said, Said}
use Rattle.jpeg_meaning.specs.FrameSamples.{AreBytes, AreSamplesOf, AreWrittenIn, FitsFields, IsLineOf}
use Rattle.jpeg_meaning.specs.LosslessScans.{LosslessCoding, mcus_across, mcus_down, part_of, parts_of, way_of}
use Rattle.jpeg_meaning.specs.LosslessScripts.{AreWrittenUnder, IsLosslessScan, IsLosslessScript}
use Rattle.jpeg_meaning.specs.SaidSegments.{said_after}
use Rattle.jpeg_meaning.specs.Scripts.{indices_in, scans_in, ScriptedScan}
use Rattle.jpeg_meaning.specs.Segments.{updated}
use Rattle.jpeg_meaning.specs.WrittenLossless.{AreSampleCodings, ClosesSamples, HoldSamples, IsLossless, own_lines}
use Rattle.jpeg_meaning.specs.WrittenLossless.{Samples, SendsSamples, WritesSamplesScan}
use Rattle.jpeg_meaning.specs.WrittenStreams.{end, scan, segment, Writes}
use Rattle.jpeg_meaning.proofs.Encoded.EncodedParts.{all-weaker, CanWrite, in-range, intervals-packed, lone-written}
use Rattle.jpeg_meaning.proofs.Encoded.EncodedParts.{lone_header, marked-bytes, segment-bytes, sized-bytes, table-by}
use Rattle.jpeg_meaning.proofs.Encoded.EncodedParts.{tested-bytes, u16-bytes}
use Rattle.jpeg_meaning.proofs.Encoded.EncodedSamples.{AreResidues, AreRows, components-bytes, even_table, factors-length}
use Rattle.jpeg_meaning.proofs.Encoded.EncodedSamples.{pairs, rows-written, values-of}
use Rattle.jpeg_meaning.proofs.Encoded.EncodedScripts.{AreNamed, choices-named, four-at, IsNamed, named-components}
use Rattle.jpeg_meaning.proofs.Encoded.EncodedScripts.{scan-bytes, scan_segments}
use Rattle.jpeg_meaning.proofs.Encoded.InterleavedRows.{AllFit, AreSame, bands-fit, bands-length, bands-same, bands_of}
use Rattle.jpeg_meaning.proofs.Encoded.InterleavedRows.{by-length, by_groups, column, first-again, Fit, GiveAll, interval_for}
use Rattle.jpeg_meaning.proofs.Encoded.InterleavedRows.{intervals-give, intervals-whole, later, Lines, others-again, Parted}
use Rattle.jpeg_meaning.proofs.Encoded.InterleavedRows.{rows-length, suc-mul}
use Rattle.jpeg_meaning.proofs.Pictures.LosslessSizes.{all-at, all-covered, IsMade}
use Rattle.jpeg_meaning.proofs.Pictures.PaddingUnseen.{header-made}
use Rattle.jpeg_meaning.proofs.Written.WalkedStreams.{closes}

-- ---- padding: zeros to the right and below

abbrev padded_line : ℕ → List ℕ → List ℕ
padded_line wide line = line ++ replicate (wide - length line) 0

abbrev padded : ℕ → ℕ → Lines → Lines
padded wide high lines =
    map (padded_line wide) lines ++ replicate (high - length lines) (replicate wide 0)

zeros-low : (n : ℕ) → AreResidues (replicate n 0)
zeros-low n = all-again (λ r. r < 65536) n 0 (omega arith)

wider-rows : (wide width : ℕ) (lines : Lines) → width ≤ wide → AreRows width lines
    → AreRows wide (map (padded_line wide) lines)
wider-rows wide width [] le h = tt
wider-rows wide width (line ∷ lines) le h =
    search (rules, length-append, length-replicate, all-append, zeros-low, wider-rows wide width lines le h.1)

padded-rows : (wide high width : ℕ) (lines : Lines) → width ≤ wide → AreRows width lines
    → AreRows wide (padded wide high lines)
padded-rows wide high width lines le h =
    search (rules, all-append, wider-rows, all-again, length-replicate, zeros-low)

padded-length : (wide high : ℕ) (lines : Lines) → length lines ≤ high → length (padded wide high lines) ≡ high
padded-length wide high lines le = search (rules, length-append, length-map, length-replicate)

own-each : (wide width : ℕ) (lines : Lines) → AreRows width lines
    → map (take width) (map (padded_line wide) lines) ≡ lines
own-each wide width [] h = refl
own-each wide width (line ∷ lines) h = search (rules, take_at, own-each wide width lines h.1)

padded-own : (p : Part) (wide high : ℕ) (lines : Lines) → length lines ≡ p.height → AreRows p.width lines
    → own_lines p (padded wide high lines) ≡ lines
padded-own p wide high lines e h = search (rules, take_at, length-map, own-each)

-- ---- the parts of a scan

-- A part of a scan of `wide` and `high` MCUs is that of a component with its samples.
record IsPart (wide high : ℕ) (samples : Samples) (k : LosslessCoding) (p : Part) : Type 0 where
  counted : length (samples k.index) ≡ p.height
  lined : AreRows p.width (samples k.index)
  across : p.width ≤ wide * p.across
  down : p.height ≤ high * p.down
  table : p.table ≡ even_table

abbrev AreParts : ℕ → ℕ → Samples → List LosslessCoding → List Part → Type 0
AreParts wide high samples [] [] = Unit {0}
AreParts wide high samples (k ∷ codings) (p ∷ parts) =
    IsPart wide high samples k p × AreParts wide high samples codings parts
AreParts wide high samples _ _ = ⊥

abbrev padded_by : ℕ → ℕ → Samples → List LosslessCoding → List Part → Parted
padded_by wide high samples [] parts place = []
padded_by wide high samples (k ∷ codings) [] place = []
padded_by wide high samples (k ∷ codings) (p ∷ parts) zero =
    padded (wide * p.across) (high * p.down) (samples k.index)
padded_by wide high samples (k ∷ codings) (p ∷ parts) (suc place) = padded_by wide high samples codings parts place

padded-fit : (wide high : ℕ) (samples : Samples) (codings : List LosslessCoding) (parts : List Part)
    → AreParts wide high samples codings parts → Fit high wide parts (padded_by wide high samples codings parts)
padded-fit wide high samples [] [] h = tt
padded-fit wide high samples [] (p ∷ parts) h = absurd h
padded-fit wide high samples (k ∷ codings) [] h = absurd h
padded-fit wide high samples (k ∷ codings) (p ∷ parts) h =
    search (rules, padded-length, padded-rows, padded-fit wide high samples codings parts h.1)

all-held : (w : Way) (high from : ℕ) (samples : Samples) (codings : List LosslessCoding) (parts : List Part)
    (f : Parted) (intervals : List Lines) → AreParts w.wide high samples codings parts
    → GiveAll w.selection w.start w.wide (samples_an_mcu w) from parts f intervals
    → AreSame parts f (padded_by w.wide high samples codings parts)
    → HoldSamples samples codings parts (lines_by_component w from parts intervals)
unfolding HoldSamples lines_by_component
all-held w high from samples [] [] f intervals are g s = tt
all-held w high from samples [] (p ∷ parts) f intervals are g s = absurd are
all-held w high from samples (k ∷ codings) [] f intervals are g s = absurd are
all-held w high from samples (k ∷ codings) (p ∷ parts) f intervals are g s =
    search (
      rules,
      padded-own,
      all-held w high (from + p.down * p.across) samples codings parts (later f) intervals are.1 g.1 s.1,
    )

-- ---- tables

abbrev AreEven : List Table → Type 0
AreEven tables = AllByRecursion (λ t. t ≡ even_table) tables

mcu-even : (wide high : ℕ) (samples : Samples) (codings : List LosslessCoding) (parts : List Part)
    → AreParts wide high samples codings parts → AreEven (mcu_tables parts)
unfolding mcu_tables
mcu-even wide high samples codings [] h = tt
mcu-even wide high samples [] (p ∷ parts) h = absurd h
mcu-even wide high samples (k ∷ codings) (p ∷ parts) h =
    search (rules, all-append, all-again, mcu-even wide high samples codings parts h.1)

row-even : (n : ℕ) (tables : List Table) → AreEven tables
    → AreEven (row_tables n tables) × (length (row_tables n tables) ≡ n * length tables)
unfolding row_tables
row-even zero tables h = (tt, omega arith)
row-even (suc n) tables h = search (rules, length-append, suc-mul, all-append, even_table, row-even n tables h)

tables-even : (tables : List Table) (rs : List ℕ) → AreEven tables → length rs ≡ length tables
    → map (λ x. x.0) (pairs rs) ≡ tables
tables-even [] [] h e = refl
tables-even [] (r ∷ rs) h e = absurd (omega arith)
tables-even (t ∷ tables) [] h e = absurd (omega arith)
tables-even (t ∷ tables) (r ∷ rs) h e = search (rules, tables-even tables rs h.1 (omega arith))

all-even : (n : ℕ) (tables : List Table) (rows : Lines) → AreEven tables → n ≡ length tables → AreRows n rows
    → map (map (λ x. x.0)) (map pairs rows) ≡ replicate (length rows) tables
all-even n tables [] h e rs = refl
all-even n tables (row ∷ rows) h e rs = search (rules, tables-even, all-even n tables rows h e rs.1)

-- ---- data

rows-in_bytes : (size n : ℕ) (rows : Lines) → AreRows size rows
    → (bytes : List ℕ) × WritesIntervals WritesRows 0 (first_group n (map pairs rows)) (other_groups n (map pairs rows)) bytes
    × AreBytes bytes
rows-in_bytes size n rows h =
    let w = intervals-packed WritesRows 0 (map pairs (first_group n rows)) (map (map pairs) (other_groups n rows))
    (rows-written size (first_group n rows) (first-all (λ rs. (length rs ≡ size) × AreResidues rs) n rows h))
    (all-map (AreRows size) (CanWrite WritesRows) (map pairs) (other_groups n rows) (rows-written size)
    (others-all (λ rs. (length rs ≡ size) × AreResidues rs) n rows h)) in
    (w.0, rw (← first-map pairs n rows, ← others-map pairs n rows) w.1, w.2)

-- The rows of differences of a scan, which give its components their samples.
record HasRows (w : Way) (high n : ℕ) (samples : Samples) (codings : List LosslessCoding) : Type 0 where
  rows : Lines
  whole : AreRows (w.wide * samples_an_mcu w) rows
  counted : length rows ≡ high
  held : HoldSamples samples codings w.parts (lines_by_component w 0 w.parts (first_group n rows ∷ other_groups n rows))

scan-rows : (w : Way) (high n : ℕ) (samples : Samples) (codings : List LosslessCoding)
    → AreParts w.wide high samples codings w.parts → HasRows w high n samples codings
scan-rows w high n samples codings are =
    let f = padded_by w.wide high samples codings w.parts in
    let fit = padded-fit w.wide high samples codings w.parts are in
    let bands = bands_of high w.parts f in
    let all = bands-fit high w.wide w.parts f fit in
    let one_of = interval_for w.selection w.start w.wide w.parts in
    let same : (g : List Parted) → length (one_of g) ≡ length g = λ g. rows-length (length g) w.wide w.parts _ in
    let gs = first_group n bands ∷ other_groups n bands in
    let each : AllByRecursion (λ g. AllFit w.wide w.parts g) gs =
    (first-all (Fit 1 w.wide w.parts) n bands all, others-all (Fit 1 w.wide w.parts) n bands all) in
    let give : GiveAll w.selection w.start w.wide (samples_an_mcu w) 0 w.parts (column bands) (map one_of gs) =
    subst (λ (l : List Parted). GiveAll w.selection w.start w.wide (samples_an_mcu w) 0 w.parts (column l) (map one_of gs))
    (all-groups n bands) (intervals-give w.selection w.start w.wide w.parts gs each) in
    record {
      rows = by_groups one_of n bands;
      whole = intervals-whole w.selection w.start w.wide w.parts gs each;
      counted = by-length one_of same n bands ∙ bands-length high w.parts f;
      held = rw (first-again one_of same n bands, others-again one_of same n bands)
          (all-held w high 0 samples codings w.parts (column bands) (map one_of gs) are give
          (bands-same high w.wide w.parts f fit));
    }

data-written : (now : Said) (frame : Frame) (h : ScanHeader) (samples : Samples) (codings : List LosslessCoding)
    → AreSampleCodings now.huffman.dc frame
    (zip (scan_written frame h).components (scan_written frame h).dc_destinations) codings
    → h.low ≡ 0 → is_of_rows (mcus_across frame codings) (mcus_down frame codings) now.restart ≡ true
    → AreParts (mcus_across frame codings) (mcus_down frame codings) samples codings (parts_of codings)
    → (bytes : List ℕ) × WritesSamplesScan now frame h samples bytes × AreBytes bytes
data-written now frame h samples codings coded point of_rows are =
    let w = way_of frame (predictor_by h.first) 0 codings in
    let high = mcus_down frame codings in
    let n = rows_of_interval w.wide high now.restart in
    let r = scan-rows w high n samples codings are in
    let size = w.wide * samples_an_mcu w in
    let b = rows-in_bytes size n r.rows r.whole in
    let even = row-even w.wide (mcu_tables w.parts) (mcu-even w.wide high samples codings w.parts are) in (
      b.0,
      record {
        codings = codings;
        coded = coded;
        point = point;
        interval = of_rows;
        rows = map pairs r.rows;
        tables = all-even size (row_tables w.wide (mcu_tables w.parts)) r.rows even.0 (sym even.1) r.whole
            ∙ ap (λ (k : ℕ). replicate k (row_tables w.wide (mcu_tables w.parts))) r.counted;
        kept = rw (values-of r.rows) r.held;
        written = b.1;
      },
      b.2,
    )

-- ---- codings

-- What is said has the table for each destination that a scan of the frame may name.
record IsReady (frame : Frame) (now : Said) : Type 0 where
  framed : now.frame ≡ Some frame
  tabled : (d : ℕ) → d ≤ 3 → slice_index_or now.huffman.dc d None ≡ Some even_table

ready-onward : (frame : Frame) (now : Said) (n : ℕ) (b : Bool) → IsReady frame now
    → IsReady frame (record now { restart = n; scanned = b })
ready-onward frame now n b ready = record { framed = ready.framed; tabled = ready.tabled }

component-there : (components : List Component) (index : ℕ) → index < length components
    → (c : Component) × (slice_get components index ≡ Some c)
component-there [] index h = absurd (omega arith)
component-there (c ∷ components) zero h = (c, refl)
component-there (c ∷ components) (suc index) h = component-there components index (omega arith)

-- a coding is that of a component of the frame, by the even table
record IsEven (frame : Frame) (k : LosslessCoding) : Type 0 where
  stands : slice_get frame.components k.index ≡ Some k.component
  table : k.table ≡ even_table

-- the codings of some components of a scan
record HasCodings (now : Said) (frame : Frame) (selectors : List Selector) : Type 0 where
  codings : List LosslessCoding
  coded : AreSampleCodings now.huffman.dc frame (zip (map (λ s. s.component) selectors) (map (λ s. s.dc) selectors))
      codings
  indices : map (λ k. k.index) codings ≡ map (λ s. s.component) selectors
  stand : AllByRecursion (λ k. slice_get frame.components k.index ≡ Some k.component) codings
  are_even : AllByRecursion (IsEven frame) codings

codings-for : (now : Said) (frame : Frame) (selectors : List Selector) → IsReady frame now
    → AllByRecursion (IsNamed frame) selectors → HasCodings now frame selectors
unfolding AreSampleCodings
codings-for now frame [] ready named = search rules
codings-for now frame (s ∷ selectors) ready named =
    let c = component-there frame.components s.component named.0.component in
    let k : LosslessCoding = record { index = s.component; component = c.0; table = even_table } in
    let more = codings-for now frame selectors ready named.1 in
    record {
      codings = k ∷ more.codings;
      coded = (
        record { index = refl; component = c.1; table = ready.tabled s.dc named.0.dc },
        more.coded,
      );
      indices = ap (λ (l : List ℕ). s.component ∷ l) more.indices;
      stand = (c.1, more.stand);
      are_even = (record { stands = c.1; table = refl }, more.are_even);
    }

-- ---- the parts of codings

low-rows : (bound n : ℕ) (lines : Lines) → bound ≤ 65536 → AllByRecursion (IsLineOf n bound) lines → AreRows n lines
low-rows bound n lines le = search (rules, all-weaker)

part-is : (frame : Frame) (wide high across down : ℕ) (samples : Samples) (k : LosslessCoding)
    → 2 ^ frame.precision ≤ 65536 → AreSamplesOf frame samples → IsEven frame k
    → IsCovered wide high (part_of across down k) → IsPart wide high samples k (part_of across down k)
part-is frame wide high across down samples k low are even covered = search (rules, low-rows)

several-parts : (frame : Frame) (wide high : ℕ) (samples : Samples) (codings : List LosslessCoding)
    → 2 ^ frame.precision ≤ 65536 → AreSamplesOf frame samples → AllByRecursion (IsEven frame) codings
    → AllByRecursion (IsCovered wide high)
    (map (λ k. part_of k.component.factors.horizontal k.component.factors.vertical k) codings)
    → AreParts wide high samples codings
    (map (λ k. part_of k.component.factors.horizontal k.component.factors.vertical k) codings)
several-parts frame wide high samples [] low are even covered = tt
several-parts frame wide high samples (k ∷ codings) low are even covered =
    search (rules, part-is, several-parts frame wide high samples codings low are even.1 covered.1)

parts-are : (frame : Frame) (wide high : ℕ) (samples : Samples) (codings : List LosslessCoding)
    → 2 ^ frame.precision ≤ 65536 → AreSamplesOf frame samples → AllByRecursion (IsEven frame) codings
    → AllByRecursion (IsCovered wide high) (parts_of codings)
    → AreParts wide high samples codings (parts_of codings)
unfolding parts_of
parts-are frame wide high samples [] low are even covered = tt
parts-are frame wide high samples (k ∷ []) low are even covered = search (rules, part-is)
parts-are frame wide high samples (k ∷ l ∷ codings) low are even covered = search (rules, several-parts)

made-codings : (frame : Frame) (codings : List LosslessCoding) → AllByRecursion (IsMade frame) frame.components
    → AllByRecursion (IsEven frame) codings → AllByRecursion (λ k. IsMade frame k.component) codings
made-codings frame [] made even = tt
made-codings frame (k ∷ codings) made even = search (rules, all-at, made-codings frame codings made even.1)

-- ---- a scan

-- A frame of samples of at most 16 bits, whose components have their sizes.
record IsGood (frame : Frame) (samples : Samples) : Type 0 where
  low : 2 ^ frame.precision ≤ 65536
  made : AllByRecursion (IsMade frame) frame.components
  sampled : AreSamplesOf frame samples

scan-sent : (frame : Frame) (samples : Samples) (now : Said) (s : ScriptedScan) → IsGood frame samples
    → IsReady frame now → now.restart ≡ s.restart → IsLosslessScan frame s
    → (bytes : List ℕ) × WritesSamplesScan now frame s.header samples bytes × AreBytes bytes
unfolding scan_of
scan-sent frame samples now s good ready e is =
    let ks = codings-for now frame (selectors_in s.header) ready (choices-named frame 0 s.header.choices is.is_scan.choices) in
    data-written now frame s.header samples ks.codings ks.coded is.point
    (subst (λ (n : ℕ). is_of_rows (mcus_across frame ks.codings) (mcus_down frame ks.codings) n ≡ true) (sym e)
    (is.rows ks.codings ks.indices ks.stand))
    (parts-are frame (mcus_across frame ks.codings) (mcus_down frame ks.codings) samples ks.codings good.low good.sampled
    ks.are_even
    (all-covered frame ks.codings (made-codings frame ks.codings good.made ks.are_even)))

-- ---- the scans

-- the segments and scans after some, whose scans are these
record Sends (frame : Frame) (script : List ScriptedScan) (samples : Samples) (now : Said) (sent : List ℕ) : Type 0 where
  bytes : List ℕ
  final : Said
  last_sent : List ℕ
  written : Writes (λ said s. IsLossless s) (SendsSamples samples) ClosesSamples now sent bytes final last_sent
  framed : final.frame ≡ Some frame
  scripted : scans_in written ≡ script
  are_bytes : AreNamed frame.components → AreBytes bytes

or-onward : (a b c : Bool) → (a || (b || c)) ≡ true → ((b || a) || c) ≡ true
or-onward true true c e = refl
or-onward true false c e = refl
or-onward false true c e = refl
or-onward false false c e = e

or-last : (a : Bool) → (a || false) ≡ true → a ≡ true
or-last true e = refl
or-last false e = e

-- the components of the scans of a script
abbrev all_indices : List ScriptedScan → List ℕ
all_indices script = flat_map (λ s. indices_in s.header) script

-- scans have had a component, or will have it
abbrev IsAnywhere : List ℕ → List ScriptedScan → ℕ → Type 0
IsAnywhere sent script index = (names sent index || names (all_indices script) index) ≡ true

anywhere-onward : (sent : List ℕ) (s : ScriptedScan) (script : List ScriptedScan) (index : ℕ)
    → IsAnywhere sent (s ∷ script) index → IsAnywhere (indices_in s.header ++ sent) script index
anywhere-onward sent s script index h = search (rules, list_any-append, or-onward)

script-sent : (frame : Frame) (samples : Samples) (script : List ScriptedScan) (now : Said) (sent : List ℕ)
    → IsGood frame samples → IsReady frame now → AllByRecursion (IsLosslessScan frame) script
    → ((index : ℕ) → index < length frame.components → IsAnywhere sent script index)
    → Sends frame script samples now sent
unfolding scans_in
script-sent frame samples [] now sent good ready all whole = record {
  bytes = marker 0 217 [];
  final = now;
  last_sent = sent;
  written = end now sent _ (closes now frame 0 ready.framed
      (in-range (λ k. names sent k ≡ true) 0 (length frame.components)
      (λ j low lt. or-last (names sent j) (whole j (omega arith)))));
  framed = ready.framed;
  scripted = refl;
  are_bytes = λ named. marked-bytes 217 [] (omega arith) tt;
}
script-sent frame samples (s ∷ script) now sent good ready all whole =
    let here = record now { restart = s.restart } in
    let d = scan-sent frame samples here s good (ready-onward frame now s.restart now.scanned ready) refl all.0 in
    let rest = script-sent frame samples script (record here { scanned = true }) (indices_in s.header ++ sent) good
    (ready-onward frame now s.restart true ready) all.1
    (λ index h. anywhere-onward sent s script index (whole index h)) in
    record {
      bytes = scan_segments s d.0 rest.bytes;
      final = rest.final;
      last_sent = rest.last_sent;
      written = segment now rest.final sent rest.last_sent 0 (Interval s.restart) _ (tt, tt) tt
          (scan here rest.final sent (indices_in s.header ++ sent) rest.last_sent frame 0 s.header d.0 rest.bytes
          ready.framed all.0.is_scan (d.1, refl) rest.written);
      framed = rest.framed;
      scripted = ap (λ (l : List ScriptedScan). s ∷ l) rest.scripted;
      are_bytes = λ named.
          scan-bytes frame s d.0 rest.bytes all.0.is_scan all.0.fits named d.2 (rest.are_bytes named);
    }

-- ---- the stream

abbrev even_at : ℕ → DefinedTable
even_at d = record { destination = d; table = even_table }

abbrev four_tables : List DefinedTable
four_tables = even_at 0 ∷ even_at 1 ∷ even_at 2 ∷ even_at 3 ∷ []

abbrev said_1 : FrameHeader → Said
said_1 h = said_after nothing_said (Header 3 h)

abbrev said_2 : FrameHeader → Said
said_2 h = said_after (said_1 h) (Huffman four_tables)

said-ready : (h : FrameHeader) → IsReady (frame_written 3 h) (said_2 h)
unfolding nothing_said updated
said-ready h = record { framed = refl; tabled = λ d le. four-at even_table (said_2 h).huffman.dc d refl le }

four-stand : AllByRecursion (IsHuffmanTable 3) four_tables
unfolding codes_exist lengths_from code_value
four-stand = search (rules, table-by)

four-bytes : AreBytes (with_length (payload_of (Huffman four_tables)))
unfolding huffman_bytes
four-bytes = tested-bytes (with_length (payload_of (Huffman four_tables))) refl

frame-bytes : (h : FrameHeader) → IsFrameHeader 3 h → HasSamples 3 h → FitsFields h
    → AreBytes (with_length (payload_of (Header 3 h)))
unfolding frame_payload
frame-bytes h is p fits = search (rules, factors-length, sized-bytes, all-append, u16-bytes, components-bytes)

abbrev front_bytes : FrameHeader → List ℕ → List ℕ
front_bytes h more = marker 0 195 (with_length (payload_of (Header 3 h))
    ++ marker 0 196 (with_length (payload_of (Huffman four_tables)) ++ more))

good-frame : (h : FrameHeader) (samples : Samples) → IsFrameHeader 3 h → HasSamples 3 h
    → AreSamplesOf (frame_written 3 h) samples → IsGood (frame_written 3 h) samples
unfolding frame_of
good-frame h samples is p are = search (rules, pow_mono, header-made)

named-frame : (h : FrameHeader) → FitsFields h → AreNamed (frame_written 3 h).components
unfolding frame_of
named-frame h fits = named-components h h.components fits.identified

pub lossless-script-written : (h : FrameHeader) (script : List ScriptedScan) (samples : Samples) → IsFrameHeader 3 h
    → HasSamples 3 h → IsLosslessScript (frame_written 3 h) script → AreSamplesOf (frame_written 3 h) samples
    → (bytes : List ℕ) × AreWrittenUnder h script samples bytes
unfolding nothing_said frame_of scans_in
lossless-script-written h script samples is p scripted are =
    let r = script-sent (frame_written 3 h) samples script (said_2 h) [] (good-frame h samples is p are) (said-ready h)
    scripted.scans scripted.whole in (
      255 ∷ 216 ∷ front_bytes h r.bytes,
      record {
        final = r.final;
        written = record {
          sent = r.last_sent;
          written = record {
            after = front_bytes h r.bytes;
            starts = refl;
            written = segment nothing_said r.final [] r.last_sent 0 (Header 3 h) _ ((refl, is), inr p) refl
                (segment (said_1 h) r.final [] r.last_sent 0 (Huffman four_tables) _ (four-stand, tt) tt r.written);
          };
        };
        framed = r.framed;
        scripted = r.scripted;
        are_bytes = λ fits.
            let from_tables = marker 0 196 (with_length (payload_of (Huffman four_tables)) ++ r.bytes) in
            let tables : AreBytes from_tables = segment-bytes 196 (with_length (payload_of (Huffman four_tables)))
            r.bytes (omega arith) four-bytes (r.are_bytes (named-frame h fits)) in
            let all : AreBytes (front_bytes h r.bytes) = segment-bytes 195 (with_length (payload_of (Header 3 h)))
            from_tables (omega arith) (frame-bytes h is p fits) tables in
            (omega arith, (omega arith, all));
      },
    )

-- ---- a scan for each component

abbrev lone_scan : ℕ → Factors → ScriptedScan
lone_scan index c = record { header = lone_header 1 0 index c; restart = 0 }

-- those of some components, the first of which has this index
abbrev lone_scans : ℕ → List Factors → List ScriptedScan
lone_scans index [] = []
lone_scans index (c ∷ cs) = lone_scan index c ∷ lone_scans (suc index) cs

no-restart : (wide high : ℕ) → is_of_rows wide high 0 ≡ true
no-restart wide high = rw zero-mod refl

lone-legal : (h : FrameHeader) (cs front : List Factors) (index : ℕ) → HasSamples 3 h → h.components ≡ front ++ cs
    → AreComponents 3 front cs → length front ≡ index
    → AllByRecursion (IsLosslessScan (frame_written 3 h)) (lone_scans index cs)
unfolding AreComponents frame_of
lone-legal h [] front index p e all n = tt
lone-legal h (c ∷ cs) front index p e all n =
    let size = length-append front (c ∷ []) in (
      record {
        is_scan = subst (λ (i : ℕ). IsScan (frame_written 3 h) (lone_header 1 0 i c)) n
            (lone-written 1 0 3 h front cs c refl (let q = p.least in omega arith) e all.0.is_new);
        point = refl;
        rows = λ codings indices stand.
            no-restart (mcus_across (frame_written 3 h) codings) (mcus_down (frame_written 3 h) codings);
        fits = omega arith;
      },
      lone-legal h cs (front ++ c ∷ []) (suc index) p (e ∙ sym (append_assoc front (c ∷ []) cs)) all.1 (omega arith),
    )

lone-named : (cs : List Factors) (from index : ℕ) → from ≤ index → index < from + length cs
    → names (all_indices (lone_scans from cs)) index ≡ true
lone-named [] from index low high = absurd (omega arith)
lone-named (c ∷ cs) from index low high = ⊎_elim
    (λ less. or_right (from == index) (names (all_indices (lone_scans (suc from) cs)) index)
    (lone-named cs (suc from) index (omega arith) (omega arith)))
    (λ more. ap (λ (b : Bool). b || names (all_indices (lone_scans (suc from) cs)) index)
    (eq-eqb from index (omega arith)))
    (cases_lt from index)

-- Every picture of samples has a stream: a scan for each component.
pub samples-written : (h : FrameHeader) (samples : Samples) → IsFrameHeader 3 h → HasSamples 3 h
    → AreSamplesOf (frame_written 3 h) samples → (bytes : List ℕ) × AreWrittenIn h samples bytes
unfolding frame_of
samples-written h samples is p are =
    let count : length (frame_written 3 h).components ≡ length h.components = length-map h.components _ in
    let w = lossless-script-written h (lone_scans 0 h.components) samples is p
    (record {
      scans = lone-legal h h.components [] 0 p refl is.components refl;
      whole = λ index lt. lone-named h.components 0 index (omega arith) (omega arith);
    })
    are in
    (w.0, record { final = w.1.final; written = w.1.written; framed = w.1.framed; are_bytes = w.1.are_bytes })

-- A lossless scan that is written is read as its samples.
use Rattle.std.proofs.Common.{rules, ◌≡◌, ℕ, zero, suc, ◌*◌, true, List, [], ◌∷◌, ◌++◌, map, length, replicate}
use Rattle.std.proofs.Common.{take, Option, Some, None, Ok, refl, ap, ◌∙◌, subst, arith, sym}
use Rattle.std.specs.List.{AllByRecursion, concat}
use Rattle.std.specs.Prelude.{slice_get, slice_index_or}
use Rattle.std.proofs.lemmas.List.{length-map, length-take-le, map-append}
use Rattle.jpeg_meaning.proofs.Written.WalkedStreams.{beside}
use Rattle.jpeg_bits.specs.Codes.{IsTable, Table}
use Rattle.jpeg_bits.specs.Marker.{marker_of}
use Rattle.jpeg_bits.specs.declared.marker.Marker.{Marker}
use Rattle.jpeg_bits.specs.declared.marker.Marker.TheVariants.{EOI}
use Rattle.jpeg_segments.specs.Frame.{Component, Frame}
use Rattle.jpeg_segments.specs.Checks.{gathered, needed}
use Rattle.jpeg_segments.specs.ScanHeader.{Selector, predictor_by, predictor_of, scan_of}
use Rattle.jpeg_segments.specs.ScanHeaders.{IsScan, ScanHeader, scan_payload, scan_written}
use Rattle.jpeg_segments.specs.WrittenSegments.{with_length}
use Rattle.jpeg_segments.specs.declared.frame.CodingProcess.{CodingProcess}
use Rattle.jpeg_segments.specs.declared.frame.CodingProcess.TheVariants.{Lossless}
use Rattle.jpeg_segments.proofs.Fields.{nibbles-low}
use Rattle.jpeg_segments.proofs.HeaderSegments.{sos-read}
use Rattle.jpeg_lossless.specs.Codings.{IsCovered}
use Rattle.jpeg_lossless.specs.Differences.{Part, mcu_tables, row_tables}
use Rattle.jpeg_lossless.specs.Positions.{AreEven}
use Rattle.jpeg_lossless.specs.SampleDifferences.{AreLines, AreSamples}
use Rattle.jpeg_lossless.specs.Scans.{lines_by_component, planes_of, rows_of_interval, scan_at, shifted}
use Rattle.jpeg_lossless.specs.Written.{AreTables}
use Rattle.jpeg_bits.specs.Written.{marker}
use Rattle.jpeg_bits.proofs.ReadIntervals.{all-again, all-append}
use Rattle.jpeg_lossless.proofs.ReadBack.{grouped, reads-scan, written-lines}
use Rattle.jpeg_lossless.proofs.Sizes.{covered-within}
use Rattle.jpeg_lossless.proofs.WholeScans.{HaveLines}
use Rattle.jpeg_meaning.specs.LosslessScans.{LosslessCoding, lossless_coding, lossless_codings, mcus_across, mcus_down}
use Rattle.jpeg_meaning.specs.LosslessScans.{part_of, parts_of, way_of, with_samples}
use Rattle.jpeg_meaning.specs.ScanSegments.{lossless_scan, scan_segment, scan_turn}
use Rattle.jpeg_meaning.specs.Found.{Found, Said, nothing_found}
use Rattle.jpeg_meaning.specs.WrittenLossless.{HoldSamples, Samples, WritesSamplesScan}
use Rattle.jpeg_meaning.proofs.Written.ReadTurns.{IsEnd, bind-ok, needed-some, ok-same, then-ok}
use Rattle.jpeg_meaning.proofs.Written.CodingsInForce.{samples-found}
use Rattle.jpeg_meaning.proofs.Pictures.LosslessSizes.{IsShaped, IsMade, all-at, all-covered}
use Rattle.jpeg_meaning.proofs.Written.SaidTables.{HasTables, table-there}
use Rattle.std.proofs.lemmas.Grind.{common_steps}

-- the samples that scans have given
abbrev pub bring_samples : List (Option (List ℕ)) → Found
bring_samples samples = record nothing_found { samples = samples }

-- ---- the lines of a component

own-even : (wide high : ℕ) (lines : List (List ℕ)) → AreLines wide (map (take wide) lines)
    → AreEven wide (map (take wide) (take high lines))
unfolding AreEven
own-even wide (suc high) (l ∷ lines) h = (h.0.0, own-even wide high lines h.1)
own-even wide _ _ h = tt

unshifted : (xs : List ℕ) → AreSamples xs → map (shifted 0) xs ≡ xs
unshifted [] h = refl
unshifted (x ∷ xs) h = grind (arith, unshifted xs h.1)

own-unshifted : (wide high : ℕ) (lines : List (List ℕ)) → AreLines wide (map (take wide) lines)
    → map (shifted 0) (concat (map (take wide) (take high lines))) ≡ concat (map (take wide) (take high lines))
own-unshifted wide (suc high) (l ∷ lines) h =
    grind (arith, common_steps, map-append, unshifted, own-unshifted wide high lines h.1)
own-unshifted wide _ _ h = search rules

-- the samples of a component have its size
pub record HasSize (lines : List (List ℕ)) (c : Component) : Type 0 where
  pub count : length lines ≡ c.height
  pub even : AreEven c.width lines

-- ---- what a scan names

-- the indices of the components
abbrev pub indices_of : List (ℕ × Selector) → List ℕ
indices_of choices = map (λ s. s.component) (map (λ c. c.1) choices)

-- components of the frame, of their sizes, with tables that exist
record AreFound (frame : Frame) (choices : List (ℕ × Selector)) (codings : List LosslessCoding) : Type 0 where
  indices : map (λ k. k.index) codings ≡ indices_of choices
  stand : AllByRecursion (λ k. slice_get frame.components k.index ≡ Some k.component) codings
  made : AllByRecursion (λ k. IsMade frame k.component) codings
  tables : AllByRecursion (λ k. IsTable k.table) codings

codings-found : (said : Said) (frame : Frame) (choices : List (ℕ × Selector)) (codings : List LosslessCoding)
    → AllByRecursion (IsMade frame) frame.components → HasTables said.huffman
    → lossless_codings said.huffman.dc frame (indices_of choices) (map (λ s. s.dc) (map (λ c. c.1) choices))
    ≡ Ok codings → AreFound frame choices codings
unfolding lossless_codings lossless_coding gathered
codings-found said frame [] codings made all e =
    subst (AreFound frame []) (ok-same [] codings e)
    (record { indices = refl; stand = tt; made = tt; tables = tt })
codings-found said frame (c ∷ choices) codings made all e =
    let one = bind-ok (lossless_coding said.huffman.dc frame c.1.component c.1.dc) _ codings e in
    let more = bind-ok (lossless_codings said.huffman.dc frame _ _) _ codings one.2 in
    let component = bind-ok (needed (slice_get frame.components c.1.component)) _ one.0 one.1 in
    let table = bind-ok (needed (slice_index_or said.huffman.dc c.1.dc None)) _ one.0 component.2 in
    let rest = codings-found said frame choices more.0 made all more.1 in
    grind (arith, common_steps, ok-same, needed-some, all-at, table-there)

-- what an MCU has of a component
record IsPartOf (k : LosslessCoding) (p : Part) : Type 0 where
  width : p.width ≡ k.component.width
  height : p.height ≡ k.component.height
  table : p.table ≡ k.table

abbrev AreParts : List LosslessCoding → List Part → Type 0
AreParts [] [] = Unit {0}
AreParts (k ∷ codings) (p ∷ parts) = IsPartOf k p × AreParts codings parts
AreParts _ _ = ⊥

several : (codings : List LosslessCoding)
    → AreParts codings (map (λ k. part_of k.component.factors.horizontal k.component.factors.vertical k) codings)
several [] = tt
several (k ∷ codings) = search (rules, several codings)

parts-are : (codings : List LosslessCoding) → AreParts codings (parts_of codings)
unfolding parts_of
parts-are [] = tt
parts-are (k ∷ []) = search rules
parts-are (k ∷ j ∷ codings) = several (k ∷ j ∷ codings)

-- ---- tables

parts-tables : (codings : List LosslessCoding) (parts : List Part) → AreParts codings parts
    → AllByRecursion (λ k. IsTable k.table) codings → AreTables (mcu_tables parts)
unfolding mcu_tables
parts-tables [] [] are h = tt
parts-tables (k ∷ codings) (p ∷ parts) are h =
    all-append IsTable (replicate (p.down * p.across) p.table) (mcu_tables parts)
    (all-again IsTable (p.down * p.across) p.table (subst IsTable (sym are.0.table) h.0))
    (parts-tables codings parts are.1 h.1)
parts-tables _ _ are h = absurd are

all-tables : (n : ℕ) (tables : List Table) → AreTables tables → AreTables (row_tables n tables)
unfolding row_tables
all-tables zero tables h = tt
all-tables (suc n) tables h = all-append IsTable tables (row_tables n tables) h (all-tables n tables h)

-- ---- samples

-- the samples of the components at some indices
abbrev pub planes_for : Samples → List ℕ → List (List ℕ)
planes_for samples indices = map (λ k. concat (samples k)) indices

-- the samples of the component at an index have its size
abbrev pub SizedAt : Samples → List Component → ℕ → Type 0
SizedAt samples all k = (c : Component) → slice_get all k ≡ Some c → HasSize (samples k) c

same-component : (a b : Component) → ◌≡◌ {A = Option Component} (Some a) (Some b) → a ≡ b
same-component a b e = cc

-- The planes of a scan are its samples, and have their sizes.
samples-are : (samples : Samples) (all : List Component) (wide high : ℕ) (codings : List LosslessCoding)
    (parts : List Part) (lines : List (List (List ℕ))) → AreParts codings parts
    → AllByRecursion (λ k. slice_get all k.index ≡ Some k.component) codings
    → AllByRecursion (IsCovered wide high) parts → HaveLines high parts lines
    → HoldSamples samples codings parts lines
    → let indices = map (λ k. k.index) codings in
    (planes_of 0 parts lines ≡ planes_for samples indices) × AllByRecursion (SizedAt samples all) indices
unfolding planes_of HoldSamples
samples-are samples all wide high [] [] [] are stand cover have hold = (refl, tt)
samples-are samples all wide high (k ∷ codings) (p ∷ parts) (l ∷ lines) are stand cover have hold =
    let rest = samples-are samples all wide high codings parts lines are.1 stand.1 cover.1 have.1 hold.1 in
    grind (arith, common_steps, length-map, length-take-le, own-even, own-unshifted, same-component)
samples-are samples all wide high _ _ _ are stand cover have hold = absurd hold

-- ---- the data

-- The scan of data and a marker after it; the samples have their sizes.
data-read : (said : Said) (frame : Frame) (h : ScanHeader) (samples : Samples) (bytes rest : List ℕ)
    (fill code : ℕ) (m : Marker)
    (w : WritesSamplesScan said frame h samples bytes) → IsShaped frame → HasTables said.huffman →
    marker_of code ≡ Some m
    → (scan_at (way_of frame (predictor_by h.first) 0 w.codings) (mcus_down frame w.codings) said.restart 0
    (bytes ++ marker fill code rest)
    ≡ Ok ((planes_for samples (map (λ k. k.index) w.codings), Some m), rest))
    × (map (λ k. k.index) w.codings ≡ indices_of h.choices)
    × AllByRecursion (SizedAt samples frame.components) (map (λ k. k.index) w.codings)
unfolding scan_of
data-read said frame h samples bytes rest fill code m w is all makes =
    let way = way_of frame (predictor_by h.first) 0 w.codings in
    let wide = mcus_across frame w.codings in
    let high = mcus_down frame w.codings in
    let scan = scan_written frame h in
    let ok = samples-found said.huffman.dc frame scan.components scan.dc_destinations w.codings w.coded in
    let found = codings-found said frame h.choices w.codings is.made all ok in
    let parts = parts-are w.codings in
    let cover = all-covered frame w.codings found.made in
    let n = rows_of_interval wide high said.restart in
    let tables = all-tables wide (mcu_tables way.parts) (parts-tables w.codings way.parts parts found.tables) in
    let have = written-lines way high n w.rows (covered-within wide high way.parts cover) w.tables in
    let are = samples-are samples frame.components wide high w.codings way.parts
    (lines_by_component way 0 way.parts (grouped n w.rows)) parts found.stand cover have w.kept in (
      reads-scan way high said.restart 0 w.rows bytes fill code m rest w.interval (record { is = makes }) tables
          w.tables w.written
          ∙ ap (λ (l : List (List ℕ)). Ok ((l, Some m), rest)) are.0,
      found.indices,
      are.1,
    )

pub scan-sized : (said : Said) (frame : Frame) (h : ScanHeader) (samples : Samples) (bytes : List ℕ)
    → IsShaped frame → HasTables said.huffman → WritesSamplesScan said frame h samples bytes
    → AllByRecursion (SizedAt samples frame.components) (indices_of h.choices)
unfolding marker_of
scan-sized said frame h samples bytes is all w =
    let r = data-read said frame h samples bytes [] 0 0xD9 EOI w is all refl in
    subst (AllByRecursion (SizedAt samples frame.components)) r.1 r.2

-- ---- a scan

point-of : (frame : Frame) (h : ScanHeader) → IsScan frame h → h.low ≡ 0 → (scan_written frame h).point_transform ≡ 0
unfolding scan_of
point-of frame h is e = nibbles-low h.high h.low is.narrow ∙ e

predictor-of : (frame : Frame) (h : ScanHeader) → frame.process ≡ Lossless
    → (scan_written frame h).predictor ≡ predictor_by h.first
unfolding scan_of
predictor-of frame h e = ap (λ (p : CodingProcess). predictor_of p h.first) e

pub scan-read : (said : Said) (decided : List (Option (List ℕ))) (frame : Frame) (h : ScanHeader)
    (samples : Samples) (bytes rest : List ℕ)
    (fill code : ℕ) (m : Marker) → WritesSamplesScan said frame h samples bytes → said.frame ≡ Some
    frame → IsScan frame h
    → frame.process ≡ Lossless → IsShaped frame → HasTables said.huffman → marker_of code ≡ Some m → IsEnd m
    → scan_segment (beside bring_samples said decided) (with_length (scan_payload h) ++ (bytes ++ marker
    fill code rest))
    ≡ Ok (
      scan_turn (beside bring_samples said decided) (beside bring_samples (record said { scanned = true })
          (with_samples (indices_of h.choices) (planes_for samples (indices_of h.choices)) decided)) (Some m),
      rest,
    )
unfolding scan_segment lossless_scan scan_of
scan-read said decided frame h samples bytes rest fill code m w framed scan lossless is tables makes end =
    let r = data-read said frame h samples bytes rest fill code m w is tables makes in
    let head = scan_written frame h in
    let ok = samples-found said.huffman.dc frame head.components head.dc_destinations w.codings w.coded in
    grind (arith, common_steps, then-ok, sos-read, predictor-of, point-of)

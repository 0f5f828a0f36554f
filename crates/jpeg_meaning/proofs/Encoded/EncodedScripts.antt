-- Each script has a stream: tables for each destination, and then its scans, each after its restart interval.
use Rattle.std.proofs.Common.{[], ap, arith, Bool, false, get_or, inl, inr, leb-true, length, length-append, List}
use Rattle.std.proofs.Common.{map, None, Option, refl, replicate, rules, Some, subst, suc, sym, true, zero, ℕ, ◌*◌}
use Rattle.std.proofs.Common.{◌++◌, ◌+◌, ◌<◌, ◌==◌, ◌∷◌, ◌≡◌, ◌≤◌, ◌⊎◌}
use Rattle.std.proofs.lemmas.Bool.{eq-eqb, eqb-true, lt-ltb, ltb-true}
use Rattle.std.proofs.lemmas.Bool.Decides.{nat_tests}
use Rattle.std.proofs.lemmas.Grind.{common_steps}
use Rattle.std.proofs.lemmas.List.Quantifiers.{position-Some}
use Rattle.std.specs.List.{AllByRecursion}
use Rattle.std.specs.Prelude.{flat_map, nat_lt, slice_get, slice_index_or, zip}
use Rattle.jpeg_bits.proofs.ReadIntervals.{all-again, all-append}
use Rattle.jpeg_bits.specs.Codes.{code_value, codes_exist, lengths_from, Table}
use Rattle.jpeg_bits.specs.Passes.{Pass}
use Rattle.jpeg_bits.specs.Written.{marker}
use Rattle.jpeg_bits.specs.declared.huffman.codes.HuffmanTableClass.{HuffmanTableClass}
use Rattle.jpeg_segments.specs.Frame.{Component, component_of, Factors, Frame, frame_of, is_destination, is_factor}
use Rattle.jpeg_segments.specs.Frame.{is_lossless_number}
use Rattle.jpeg_segments.specs.HuffmanTables.{DefinedTable, greatest_destination}
use Rattle.jpeg_segments.specs.ScanHeader.{is_band, Scan, scan_of, Selector}
use Rattle.jpeg_segments.specs.ScanHeaders.{AreChoices, choice_bytes, IsChoice, IsScan, scan_payload, scan_written}
use Rattle.jpeg_segments.specs.ScanHeaders.{ScanHeader, selectors_in}
use Rattle.jpeg_segments.specs.WrittenSegments.{AreComponents, factors_bytes, frame_payload, frame_written, FrameHeader}
use Rattle.jpeg_segments.specs.WrittenSegments.{Header, Huffman, huffman_bytes, Interval, IsFrameHeader, IsHuffmanTable}
use Rattle.jpeg_segments.specs.WrittenSegments.{IsQuantizationTable, nibbles, payload_of, Quantization}
use Rattle.jpeg_segments.specs.WrittenSegments.{quantization_bytes, QuantizationTable, u16_bytes, with_length}
use Rattle.jpeg_segments.specs.declared.frame.CodingProcess.{CodingProcess}
use Rattle.jpeg_segments.specs.declared.frame.CodingProcess.TheVariants.{DctProgressive, DctSequential, Lossless}
use Rattle.jpeg_meaning.specs.AcceptedFrames.{HasPicture}
use Rattle.jpeg_meaning.specs.Found.{nothing_said, Said}
use Rattle.jpeg_meaning.specs.FrameSamples.{AreBytes, FitsFields}
use Rattle.jpeg_meaning.specs.Levels.{Is8Bit, IsLegal, Levels, nothing_sent}
use Rattle.jpeg_meaning.specs.SaidSegments.{said_after}
use Rattle.jpeg_meaning.specs.ScanSegments.{Coding, is_progressive, pass_of, tables_of}
use Rattle.jpeg_meaning.specs.Scans.{no_table}
use Rattle.jpeg_meaning.specs.Scripts.{AreLegal, greatest_category, HasAcCodes, HasDcCodes, indices_in, IsAllSent}
use Rattle.jpeg_meaning.specs.Scripts.{IsLegalHere, IsScript, IsWrittenUnder, none_sent, scans_in, ScriptedScan}
use Rattle.jpeg_meaning.specs.Scripts.{sent_after_scan, sent_by, SentLevels, Suffices}
use Rattle.jpeg_meaning.specs.Segments.{updated}
use Rattle.jpeg_meaning.specs.WholeImages.{AllComplete}
use Rattle.jpeg_meaning.specs.WrittenImages.{ClosesImage, WritesImageScan, WritesPart}
use Rattle.jpeg_meaning.specs.WrittenScans.{AreInForce, Coefficients, HasCodings, HasTable, IsComplete, IsTableAt}
use Rattle.jpeg_meaning.specs.WrittenScans.{levels_after}
use Rattle.jpeg_meaning.specs.WrittenStreams.{end, scan, segment}
use Rattle.jpeg_meaning.proofs.Encoded.EncodedData.{scan-sent}
use Rattle.jpeg_meaning.proofs.Encoded.EncodedParts.{component_in, flat-coded, flat_table, in-range, marked-bytes}
use Rattle.jpeg_meaning.proofs.Encoded.EncodedParts.{segment-bytes, sized-bytes, table-by, tested-bytes, u16-bytes}
use Rattle.jpeg_meaning.proofs.Encoded.EncodedSamples.{factors-length}
use Rattle.jpeg_meaning.proofs.Written.ScriptLevels.{all-legal, AreAllLevels, complete-by, none-at_first, scan-after}
use Rattle.jpeg_meaning.proofs.Written.WalkedStreams.{closes}
use Rattle.jpeg_bits.specs.declared.huffman.codes.HuffmanTableClass.TheVariants as classes

abbrev pass_in : Frame → ScanHeader → Pass
pass_in frame h = pass_of (scan_written frame h)

-- ---- tables

flat-dc : HasDcCodes (flat_table classes.DC)
flat-dc s h = (_, flat-coded classes.DC s (omega arith))

flat-ac : (f : Bool) → HasAcCodes (greatest_category f) (flat_table classes.AC)
flat-ac true = record {
  value = λ r s a b c. (_, flat-coded classes.AC (16 * r + s) (omega arith));
  sixteen = (_, flat-coded classes.AC (16 * 15 + 0) (omega arith));
  ended = (_, flat-coded classes.AC (16 * 0 + 0) (omega arith));
}
flat-ac false = record {
  value = λ r s a b c. (_, flat-coded classes.AC (16 * r + s) (omega arith));
  sixteen = (_, flat-coded classes.AC (16 * 15 + 0) (omega arith));
  ended = (_, flat-coded classes.AC (16 * 0 + 0) (omega arith));
}

-- a table that is needed
abbrev table_if : Bool → HuffmanTableClass → Table
table_if true class = flat_table class
table_if false class = no_table class

table-there : (b : Bool) (class : HuffmanTableClass) (tables : List (Option Table)) (d : ℕ)
    → slice_index_or tables d None ≡ Some (flat_table class) → IsTableAt b class tables d (table_if b class)
table-there true class tables d e = e
table-there false class tables d e = refl

-- a quantization table of one value
abbrev table_of_one : ℕ → ℕ → QuantizationTable
table_of_one index v = record { precision = 0; destination = index; values = replicate 64 v }

one-quantizes : (index v : ℕ) → index ≤ 3 → 0 < v → IsQuantizationTable (table_of_one index v)
one-quantizes index v h k = search (rules, all-again)

abbrev all_ones : List QuantizationTable
all_ones = table_of_one 0 1 ∷ table_of_one 1 1 ∷ table_of_one 2 1 ∷ table_of_one 3 1 ∷ []

-- What is said has tables for each destination that a scan of the frame may name.
record IsReady (frame : Frame) (w : Said) : Type 0 where
  framed : w.frame ≡ Some frame
  plain : w.metadata.avi1 ≡ false
  quantized : (d : ℕ) → d ≤ 3 → slice_index_or w.quantization d None ≡ Some (replicate 64 1)
  dc : (d : ℕ) → d ≤ 3 → slice_index_or w.huffman.dc d None ≡ Some (flat_table classes.DC)
  ac : (d : ℕ) → d ≤ 3 → slice_index_or w.huffman.ac d None ≡ Some (flat_table classes.AC)

-- ---- the codings of a scan

-- a component of the frame, with a quantization table's destination
record IsPlaced (components : List Component) (index : ℕ) : Type 0 where
  component : Component
  stands : slice_get components index ≡ Some component
  low : component.factors.quantization ≤ 3

abbrev AreLow : List Component → Type 0
AreLow components = AllByRecursion (λ c. c.factors.quantization ≤ 3) components

placed-at : (components : List Component) (index : ℕ) → AreLow components → index < length components
    → IsPlaced components index
placed-at [] index low h = absurd (omega arith)
placed-at (c ∷ more) zero low h = record { component = c; stands = refl; low = low.0 }
placed-at (c ∷ more) (suc index) low h =
    let p = placed-at more index low.1 (omega arith) in
    record { component = p.component; stands = p.stands; low = p.low }

abbrev coding_with : Pass → ℕ → Component → Coding
coding_with p index c = record {
  index = index;
  component = c;
  quantization = replicate 64 1;
  dc = table_if (p.ss == 0) classes.DC;
  ac = table_if (nat_lt 0 p.se) classes.AC;
}

with-suffices : (p : Pass) (index : ℕ) (c : Component) → Suffices p (coding_with p index c)
with-suffices p index c = record {
  dc = λ s f. subst (λ (b : Bool). HasDcCodes (table_if b classes.DC)) (sym (eq-eqb p.ss 0 s)) flat-dc;
  ac = λ h. subst (λ (b : Bool). HasAcCodes (greatest_category p.is_first) (table_if b classes.AC))
      (sym (lt-ltb 0 p.se h)) (flat-ac p.is_first);
}

-- a component of a scan that the frame has, with destinations of tables
pub record IsNamed (frame : Frame) (s : Selector) : Type 0 where
  pub component : s.component < length frame.components
  pub dc : s.dc ≤ 3
  pub ac : s.ac ≤ 3

-- the codings of some components of a scan, which stand in these slots
record HasCoding (w : Said) (frame : Frame) (p : Pass) (levels : ℕ → Levels) (selectors : List Selector) : Type 0 where
  codings : List Coding
  in_force : AreInForce w frame p w.huffman
      (zip (map (λ s. s.component) selectors) (zip (map (λ s. s.dc) selectors) (map (λ s. s.ac) selectors))) codings
  suffice : AllByRecursion (Suffices p) codings
  indices : map (λ c. c.index) codings ≡ map (λ s. s.component) selectors
  legal : AllByRecursion (λ c. IsLegal p (levels c.index)) codings

codings-for : (w : Said) (frame : Frame) (p : Pass) (levels : ℕ → Levels) (selectors : List Selector)
    → IsReady frame w → AreLow frame.components → AllByRecursion (IsNamed frame) selectors
    → AllByRecursion (λ index. IsLegal p (levels index)) (map (λ s. s.component) selectors)
    → HasCoding w frame p levels selectors
unfolding AreInForce
codings-for w frame p levels [] ready low named legal =
    record { codings = []; in_force = tt; suffice = tt; indices = refl; legal = tt }
codings-for w frame p levels (s ∷ selectors) ready low named legal =
    let at = placed-at frame.components s.component low named.0.component in
    let k = coding_with p s.component at.component in
    let more = codings-for w frame p levels selectors ready low named.1 legal.1 in
    record {
      codings = k ∷ more.codings;
      in_force = (
        record {
          index = refl;
          component = at.stands;
          quantization = ready.quantized at.component.factors.quantization at.low;
          dc = table-there (p.ss == 0) classes.DC w.huffman.dc s.dc (ready.dc s.dc named.0.dc);
          ac = table-there (nat_lt 0 p.se) classes.AC w.huffman.ac s.ac (ready.ac s.ac named.0.ac);
        },
        more.in_force,
      );
      suffice = (with-suffices p s.component at.component, more.suffice);
      indices = ap (λ (l : List ℕ). s.component ∷ l) more.indices;
      legal = (legal.0, more.legal);
    }

-- ---- what headers name

few-destinations : (b : Bool) (d : ℕ) → d ≤ greatest_destination (Some b) → d ≤ 3
few-destinations true d h = omega arith
few-destinations false d h = h

pub choices-named : (frame : Frame) (least : ℕ) (choices : List (ℕ × Selector)) → AreChoices frame least choices
    → AllByRecursion (IsNamed frame) (map (λ c. c.1) choices)
unfolding AreChoices
choices-named frame least [] all = tt
choices-named frame least (c ∷ choices) all = (
  record {
    component = grind (arith, common_steps, position-Some);
    dc = few-destinations frame.is_baseline c.1.dc all.0.dc_bounded;
    ac = few-destinations frame.is_baseline c.1.ac all.0.ac_bounded;
  },
  choices-named frame (c.1.component + 1) choices all.1,
)

index-low : (number index : ℕ) → number ≤ 2 → is_destination (is_lossless_number number) index ≡
    true → index ≤ 3
index-low (suc (suc (suc number))) index le e = absurd (omega arith)
index-low number index le e = leb-true index 3 e

components-low : (number : ℕ) (h : FrameHeader) (front cs : List Factors) → number ≤ 2 → AreComponents number front cs
    → AreLow (map (component_in h) cs)
unfolding AreComponents component_of
components-low number h front [] le a = tt
components-low number h front (c ∷ cs) le a =
    (index-low number c.quantization le a.0.placed, components-low number h (front ++ c ∷ []) cs le a.1)

low-tables : (frame : Frame) (w : Said) (cs : List Component) → IsReady frame w → AreLow cs
    → AllByRecursion (HasTable w) cs
low-tables frame w [] ready low = tt
low-tables frame w (c ∷ cs) ready low = search (rules, low-tables frame w cs)

pub plain-tables : (w : Said) (s : Scan) → w.metadata.avi1 ≡ false → tables_of w s ≡ w.huffman
unfolding tables_of
plain-tables w s e = rw e refl

-- the codings of a scan
scan-codings : (w : Said) (frame : Frame) (sent : SentLevels) (levels : ℕ → Levels) (s : ScriptedScan) → IsReady frame w
    → AreLow frame.components → AreAllLevels sent levels → IsLegalHere frame sent s
    → HasCoding w frame (pass_in frame s.header) levels (selectors_in s.header)
scan-codings w frame sent levels s ready low are is =
    codings-for w frame (pass_in frame s.header) levels (selectors_in s.header) ready low
    (choices-named frame 0 s.header.choices is.is_scan.choices)
    (all-legal frame s.header sent levels (indices_in s.header) is.is_scan are is.allowed)

have-codings : (w : Said) (frame : Frame) (h : ScanHeader) (codings : List Coding) → w.metadata.avi1 ≡ false
    → AreInForce w frame (pass_in frame h) w.huffman
    (zip (map (λ s. s.component) (selectors_in h))
    (zip (map (λ s. s.dc) (selectors_in h)) (map (λ s. s.ac) (selectors_in h)))) codings
    → HasCodings w frame (scan_written frame h) codings
unfolding scan_of
have-codings w frame h codings e are = rw (plain-tables w (scan_written frame h) e) are

-- ---- bytes

-- the identifiers of components are bytes
abbrev pub AreNamed : List Component → Type 0
AreNamed components = AllByRecursion (λ c. c.factors.identifier < 256) components

abbrev pub blank : Component
blank = record {
  factors = record { identifier = 0; horizontal = 0; vertical = 0; quantization = 0 };
  scale = 0;
  width = 0;
  height = 0;
  blocks_wide = 0;
  blocks_high = 0;
}

named-at : (cs : List Component) (i : ℕ) → AreNamed cs → i < length cs → (get_or cs i blank).factors.identifier < 256
named-at [] i all h = absurd (omega arith)
named-at (c ∷ cs) zero all h = all.0
named-at (c ∷ cs) (suc i) all h = named-at cs i all.1 (omega arith)

choice-named : (frame : Frame) (least : ℕ) (c : ℕ × Selector) → IsChoice frame least c → AreNamed frame.components
    → c.0 < 256
choice-named frame least c is all =
    let found = position-Some (λ (k : Component). k.factors.identifier == c.0) frame.components c.1.component blank
    is.identified in
    subst (λ (n : ℕ). n < 256) (eqb-true (get_or frame.components c.1.component blank).factors.identifier c.0 found.1)
    (named-at frame.components c.1.component all found.0)

choices-length : (choices : List (ℕ × Selector)) → length (flat_map choice_bytes choices) ≡ 2 * length choices
choices-length [] = refl
choices-length (c ∷ choices) = let e = choices-length choices in omega arith

choices-bytes : (frame : Frame) (least : ℕ) (choices : List (ℕ × Selector)) → AreChoices frame least choices
    → AreNamed frame.components → AreBytes (flat_map choice_bytes choices)
unfolding AreChoices
choices-bytes frame least [] all named = tt
choices-bytes frame least (c ∷ choices) all named =
    let dc = few-destinations frame.is_baseline c.1.dc all.0.dc_bounded in
    let ac = few-destinations frame.is_baseline c.1.ac all.0.ac_bounded in (
      choice-named frame least c all.0 named,
      (omega arith, choices-bytes frame (c.1.component + 1) choices all.1 named),
    )

band-small : (process : CodingProcess) (count first last high low : ℕ) → is_band process count first last high low ≡ true
    → (first ≤ 63) × (last ≤ 63) × (high ≤ 13)
band-small DctSequential count first last high low e =
    (grind (arith, nat_tests), grind (arith, nat_tests), grind (arith, nat_tests))
band-small DctProgressive count first last high low e =
    (grind (arith, nat_tests), grind (arith, nat_tests), grind (arith, nat_tests))
band-small Lossless count first last high low e =
    (grind (arith, nat_tests), grind (arith, nat_tests), grind (arith, nat_tests))

pub header-bytes : (frame : Frame) (h : ScanHeader) → IsScan frame h → AreNamed frame.components
    → AreBytes (with_length (scan_payload h))
unfolding scan_payload
header-bytes frame h is named =
    let small = band-small frame.process (length h.choices) h.first h.last h.high h.low is.band in
    let few = is.most in
    let narrow = is.narrow in
    let size = choices-length h.choices in
    let whole = length-append (flat_map choice_bytes h.choices) (h.first ∷ h.last ∷ nibbles h.high h.low ∷ []) in
    let a = small.0 in
    let b = small.1 in
    let c = small.2 in
    sized-bytes (scan_payload h) (omega arith) (
      omega arith,
      all-append (λ b. b < 256) (flat_map choice_bytes h.choices) (h.first ∷ h.last ∷ nibbles h.high h.low ∷ [])
          (choices-bytes frame 0 h.choices is.choices named) (omega arith, (omega arith, (omega arith, tt))),
    )

-- ---- the scans

-- a scan after its restart interval, and what stands after it
abbrev pub scan_segments : ScriptedScan → List ℕ → List ℕ → List ℕ
scan_segments s sent more = marker 0 221 (with_length (payload_of (Interval s.restart))
    ++ marker 0 218 (with_length (scan_payload s.header) ++ (sent ++ more)))

pub scan-bytes : (frame : Frame) (s : ScriptedScan) (sent more : List ℕ) → IsScan frame s.header → s.restart < 65536
    → AreNamed frame.components → AreBytes sent → AreBytes more → AreBytes (scan_segments s sent more)
scan-bytes frame s sent more is fits named h k =
    segment-bytes 221 (with_length (payload_of (Interval s.restart)))
    (marker 0 218 (with_length (scan_payload s.header) ++ (sent ++ more))) (omega arith)
    (sized-bytes (u16_bytes s.restart) (omega arith) (u16-bytes s.restart fits))
    (segment-bytes 218 (with_length (scan_payload s.header)) (sent ++ more) (omega arith)
    (header-bytes frame s.header is named) (all-append (λ b. b < 256) sent more h k))

-- the segments and scans after some, whose scans are these
record Sends (frame : Frame) (script : List ScriptedScan) (array : Coefficients) (w : Said) (sent : SentLevels)
    (levels : ℕ → Levels) : Type 0 where
  bytes : List ℕ
  final : Said
  last : ℕ → Levels
  written : WritesPart array ClosesImage w levels bytes final last
  framed : final.frame ≡ Some frame
  scripted : scans_in written ≡ script
  are_last : AreAllLevels (sent_by frame sent script) last
  are_bytes : AreNamed frame.components → AreBytes bytes

ready-onward : (frame : Frame) (w : Said) (n : ℕ) (b : Bool) → IsReady frame w
    → IsReady frame (record w { restart = n; scanned = b })
ready-onward frame w n b ready = record {
  framed = ready.framed;
  plain = ready.plain;
  quantized = ready.quantized;
  dc = ready.dc;
  ac = ready.ac;
}

pub all-complete : (frame : Frame) (sent : SentLevels) (levels : ℕ → Levels) → AreAllLevels sent levels
    → IsAllSent frame sent → AllComplete frame levels
all-complete frame sent levels are all = in-range (λ k. IsComplete (levels k)) 0 (length frame.components)
    (λ j low lt. complete-by (sent j) (levels j) (are j) (λ k h. all j k (omega arith) h))

script-ended : (frame : Frame) (array : Coefficients) (w : Said) (sent : SentLevels) (levels : ℕ → Levels)
    → IsReady frame w → AreLow frame.components → w.scanned ≡ true → AreAllLevels sent levels
    → (is_progressive frame.process ≡ false → IsAllSent frame sent)
    → Sends frame [] array w sent levels
unfolding scans_in sent_by
script-ended frame array w sent levels ready low is are whole = record {
  bytes = marker 0 217 [];
  final = w;
  last = levels;
  written = end w levels _ (closes w frame 0 ready.framed
      (is, low-tables frame w frame.components ready low, λ e. all-complete frame sent levels are (whole e)));
  framed = ready.framed;
  scripted = refl;
  are_last = are;
  are_bytes = λ named. marked-bytes 217 [] (omega arith) tt;
}

script-sent : (frame : Frame) (array : Coefficients) (script : List ScriptedScan) (w : Said) (sent : SentLevels)
    (levels : ℕ → Levels) → ((index row column : ℕ) → Is8Bit (array index row column))
    → IsReady frame w → AreLow frame.components → (script ≡ [] → w.scanned ≡ true) → AreAllLevels sent levels
    → AreLegal frame sent script
    → (is_progressive frame.process ≡ false → IsAllSent frame (sent_by frame sent script))
    → Sends frame script array w sent levels
unfolding scans_in sent_by AreLegal
script-sent frame array [] w sent levels range ready low is are legal whole =
    script-ended frame array w sent levels ready low (is refl) are whole
script-sent frame array (s ∷ more) w sent levels range ready low is are legal whole =
    let now = record w { restart = s.restart } in
    let p = pass_in frame s.header in
    let after = levels_after p (indices_in s.header) levels in
    let ks = scan-codings now frame sent levels s (ready-onward frame w s.restart w.scanned ready) low are legal.0 in
    let d = scan-sent now frame levels s.header ks.codings array range
    (record { are_in_force = have-codings now frame s.header ks.codings ready.plain ks.in_force; legal = ks.legal })
    ks.suffice in
    let sends : WritesImageScan array now levels frame s.header d.0 after =
    subst (λ (is : List ℕ). WritesImageScan array now levels frame s.header d.0 (levels_after p is levels)) ks.indices d.1 in
    let rest = script-sent frame array more (record now { scanned = true })
    (sent_after_scan frame.process s.header sent) after range (ready-onward frame w s.restart true ready) low
    (λ e. refl) (scan-after frame s.header sent levels legal.0.is_scan.narrow are) legal.1 whole in
    record {
      bytes = scan_segments s d.0 rest.bytes;
      final = rest.final;
      last = rest.last;
      written = segment w rest.final levels rest.last 0 (Interval s.restart) _ (tt, tt) tt
          (scan now rest.final levels after rest.last frame 0 s.header d.0 rest.bytes ready.framed
          legal.0.is_scan sends rest.written);
      framed = rest.framed;
      scripted = ap (λ (l : List ScriptedScan). s ∷ l) rest.scripted;
      are_last = rest.are_last;
      are_bytes = λ named.
          scan-bytes frame s d.0 rest.bytes legal.0.is_scan legal.0.fits named d.2 (rest.are_bytes named);
    }

-- ---- the stream

abbrev dc_at : ℕ → DefinedTable
dc_at d = record { destination = d; table = flat_table classes.DC }

abbrev ac_at : ℕ → DefinedTable
ac_at d = record { destination = d; table = flat_table classes.AC }

abbrev both_at : ℕ → List DefinedTable
both_at d = dc_at d ∷ ac_at d ∷ []

abbrev eight_tables : List DefinedTable
eight_tables = both_at 0 ++ (both_at 1 ++ (both_at 2 ++ both_at 3))

abbrev said_1 : Said
said_1 = said_after nothing_said (Quantization all_ones)

abbrev said_2 : Said
said_2 = said_after said_1 (Huffman eight_tables)

abbrev said_3 : ℕ → FrameHeader → Said
said_3 number h = said_after said_2 (Header number h)

pub four-at : {A : Type 0} (x : A) (tables : List (Option A)) (d : ℕ) → tables ≡ Some x ∷ Some x ∷ Some x ∷ Some x ∷ []
    → d ≤ 3 → slice_index_or tables d None ≡ Some x
four-at x tables zero e h = rw e refl
four-at x tables (suc zero) e h = rw e refl
four-at x tables (suc (suc zero)) e h = rw e refl
four-at x tables (suc (suc (suc zero))) e h = rw e refl
four-at x tables (suc (suc (suc (suc d)))) e h = absurd (omega arith)

said-ready : (number : ℕ) (h : FrameHeader) → IsReady (frame_written number h) (said_3 number h)
unfolding nothing_said updated
said-ready number header = record {
  framed = refl;
  plain = refl;
  quantized = λ d h. four-at (replicate 64 1) (said_3 number header).quantization d refl h;
  dc = λ d h. four-at (flat_table classes.DC) (said_3 number header).huffman.dc d refl h;
  ac = λ d h. four-at (flat_table classes.AC) (said_3 number header).huffman.ac d refl h;
}

-- what each of them has
each-table : (Q : DefinedTable → Type 0) → ((d : ℕ) → d ≤ 3 → AllByRecursion Q (both_at d)) → AllByRecursion Q eight_tables
each-table Q h = all-append Q (both_at 0) (both_at 1 ++ (both_at 2 ++ both_at 3)) (h 0 (omega arith))
    (all-append Q (both_at 1) (both_at 2 ++ both_at 3) (h 1 (omega arith))
    (all-append Q (both_at 2) (both_at 3) (h 2 (omega arith)) (h 3 (omega arith))))

eight-stand : AllByRecursion (IsHuffmanTable 3) eight_tables
unfolding codes_exist lengths_from code_value
eight-stand = each-table (IsHuffmanTable 3) (λ d h. (table-by 3 (dc_at d) h refl, (table-by 3 (ac_at d) h refl, tt)))

abbrev front_bytes : ℕ → FrameHeader → List ℕ → List ℕ
front_bytes number h more = marker 0 219 (with_length (payload_of (Quantization all_ones))
    ++ marker 0 196 (with_length (payload_of (Huffman eight_tables))
    ++ marker 0 (192 + number) (with_length (payload_of (Header number h)) ++ more)))

-- the bytes of the segments
ones-bytes : AreBytes (with_length (payload_of (Quantization all_ones)))
unfolding quantization_bytes
ones-bytes = tested-bytes (with_length (payload_of (Quantization all_ones))) refl

flat-bytes : (ts : List DefinedTable) → AllByRecursion (λ t. AreBytes (huffman_bytes t)) ts
    → AreBytes (flat_map huffman_bytes ts)
flat-bytes [] h = tt
flat-bytes (t ∷ ts) h = all-append (λ b. b < 256) (huffman_bytes t) (flat_map huffman_bytes ts) h.0 (flat-bytes ts h.1)

eight-bytes : AreBytes (with_length (payload_of (Huffman eight_tables)))
unfolding huffman_bytes
eight-bytes = sized-bytes (flat_map huffman_bytes eight_tables)
    (ltb-true (length (flat_map huffman_bytes eight_tables) + 2) 65536 refl)
    (flat-bytes eight_tables (each-table (λ t. AreBytes (huffman_bytes t)) both-bytes))
  where
    both-bytes : (d : ℕ) → d ≤ 3 → AllByRecursion (λ t. AreBytes (huffman_bytes t)) (both_at d)
    both-bytes d h = (
      (omega arith, tested-bytes ((flat_table classes.DC).counts ++ (flat_table classes.DC).symbols) refl),
      ((omega arith, tested-bytes ((flat_table classes.AC).counts ++ (flat_table classes.AC).symbols) refl), tt),
    )

factor-small : (n : ℕ) → is_factor n ≡ true → n ≤ 4
factor-small n e = grind (arith, nat_tests)

factors-bytes : (number : ℕ) (front cs : List Factors) → number ≤ 2 → AreComponents number front cs
    → AllByRecursion (λ c. c.identifier < 256) cs → AreBytes (flat_map factors_bytes cs)
unfolding AreComponents
factors-bytes number front [] le are named = tt
factors-bytes number front (c ∷ cs) le are named =
    let across = factor-small c.horizontal are.0.across in
    let down = factor-small c.vertical are.0.down in
    let placed = index-low number c.quantization le are.0.placed in
    (named.0, (omega arith, (omega arith, factors-bytes number (front ++ c ∷ []) cs le are.1 named.1)))

frame-bytes : (number : ℕ) (h : FrameHeader) → number ≤ 2 → IsFrameHeader number h → HasPicture h → FitsFields h
    → AreBytes (with_length (payload_of (Header number h)))
unfolding frame_payload
frame-bytes number h le is has fits =
    let few : length h.components ≤ 4 = few-components h has in
    let size = factors-length h.components in
    let eight = has.precise in
    let rest = length h.components ∷ flat_map factors_bytes h.components in
    let tail : AreBytes rest = (omega arith, factors-bytes number [] h.components le is.components fits.identified) in
    let wide : AreBytes (u16_bytes h.width ++ rest) =
    all-append (λ b. b < 256) (u16_bytes h.width) rest (u16-bytes h.width fits.width) tail in
    let high : AreBytes (u16_bytes h.height ++ (u16_bytes h.width ++ rest)) =
    all-append (λ b. b < 256) (u16_bytes h.height) (u16_bytes h.width ++ rest) (u16-bytes h.height fits.height) wide in
    let all : AreBytes (payload_of (Header number h)) = (omega arith, high) in
    sized-bytes (payload_of (Header number h)) (omega arith) all
  where
    few-components : (h : FrameHeader) → HasPicture h → length h.components ≤ 4
    few-components h has = few-of (length h.components) has.counted
      where
        few-of : (n : ℕ) → (n ≡ 1) ⊎ ((n ≡ 3) ⊎ (n ≡ 4)) → n ≤ 4
        few-of n (inl e) = omega arith
        few-of n (inr (inl e)) = omega arith
        few-of n (inr (inr e)) = omega arith

pub named-components : (h : FrameHeader) (cs : List Factors) → AllByRecursion (λ c. c.identifier < 256) cs
    → AreNamed (map (component_in h) cs)
unfolding component_of
named-components h [] all = tt
named-components h (c ∷ cs) all = (all.0, named-components h cs all.1)

pub script-written : (number : ℕ) (h : FrameHeader) (script : List ScriptedScan) (array : Coefficients) → number ≤ 2
    → IsFrameHeader number h → HasPicture h → IsScript (frame_written number h) script
    → ((index row column : ℕ) → Is8Bit (array index row column))
    → (bytes : List ℕ) × IsWrittenUnder number h script array bytes
unfolding nothing_said frame_of codes_exist lengths_from code_value scans_in
script-written number h script array le is has scripted range =
    let frame = frame_written number h in
    let low : AreLow frame.components = components-low number h [] h.components le is.components in
    let r = script-sent frame array script (said_3 number h) none_sent (λ k. nothing_sent) range (said-ready number h)
    low (λ e. absurd (scripted.some e)) none-at_first scripted.legal scripted.whole in (
      255 ∷ 216 ∷ front_bytes number h r.bytes,
      record {
        final = r.final;
        last = r.last;
        written = record {
          after = front_bytes number h r.bytes;
          starts = refl;
          written =
              segment nothing_said r.final (λ k. nothing_sent) r.last 0 (Quantization all_ones) _
              (search (rules, one-quantizes)) refl (
              segment said_1 r.final (λ k. nothing_sent) r.last 0 (Huffman eight_tables) _
              (eight-stand, tt) tt (
              segment said_2 r.final (λ k. nothing_sent) r.last 0 (Header number h) _ ((refl, is), inl (le, has))
              le r.written));
        };
        framed = r.framed;
        scripted = r.scripted;
        sent = r.are_last;
        are_bytes = λ fits.
            let from_frame = marker 0 (192 + number) (with_length (payload_of (Header number h)) ++ r.bytes) in
            let from_tables = marker 0 196 (with_length (payload_of (Huffman eight_tables)) ++ from_frame) in
            let header : AreBytes from_frame = segment-bytes (192 + number) (with_length (payload_of (Header number h)))
            r.bytes (omega arith) (frame-bytes number h le is has fits)
            (r.are_bytes (named-components h h.components fits.identified)) in
            let tables : AreBytes from_tables = segment-bytes 196 (with_length (payload_of (Huffman eight_tables)))
            from_frame (omega arith) eight-bytes header in
            let all : AreBytes (front_bytes number h r.bytes) =
            segment-bytes 219 (with_length (payload_of (Quantization all_ones))) from_tables (omega arith) ones-bytes tables in
            (omega arith, (omega arith, all));
      },
    )

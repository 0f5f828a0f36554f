-- Whole streams, tested as they are read. What is read of a segment was written, so a segment proves itself. The data of
-- scans are made from what is to be written, and compared.
use Rattle.std.specs.Prelude.{⊤, nat_le, slice_get, slice_index, slice_index_or, ◌≤◌, ◌≤ℤ◌, get_or, ◌/◌, ◌%◌}
use Rattle.jpeg_bits.specs.Written.{bits_of_bytes, low_bits, number_for, stuffed, marker, WritesEach}
use Rattle.jpeg_meaning.specs.WrittenData.{corrections, count_unknown, WritesBlocks}
use Rattle.jpeg_meaning.proofs.OnLiterals.{samples_on_literals, streams_on_literals}
use Rattle.std.proofs.Common.{rules, ◌≡◌, ℕ, zero, suc, ◌+◌, ◌-◌, ◌*◌, ◌==◌, ◌&&◌, not, nat_lt, Bool, true, false}
use Rattle.std.proofs.Common.{List, [], ◌∷◌, ◌++◌, length, drop, map, Option, Some, None, Ok, Err, Result, is_ok}
use Rattle.std.proofs.Common.{is_some, option_map, refl, sym, ap, ◌∙◌, subst, arith, ◌%◌, ℤ, pos, negsuc, ap₂, ◌≢◌}
use Rattle.std.proofs.Common.{unsigned_abs, true≢false}
use Rattle.std.proofs.lemmas.Bool.{and_parts, ltb-true, not-true, eq-eqb, eqb-true, leb-true, ne_eqb}
use Rattle.std.proofs.lemmas.Bool.Decides.{nat_tests}
use Rattle.std.proofs.lemmas.Grind.{common_steps}
use Rattle.std.specs.List.{list_all, position_or_len, range_with_len, flat_map}
use Rattle.jpeg_bits.specs.Intervals.{first_group, other_groups, intervals}
use Rattle.jpeg_bits.specs.Passes.{Block, predictors_at_start, band_of, Pass}
use Rattle.jpeg_bits.specs.Reading.{Fault, Outcome}
use Rattle.jpeg_segments.specs.Application.{Application as Says, app_at}
use Rattle.jpeg_segments.specs.Frame.{Component, Frame}
use Rattle.jpeg_segments.specs.HuffmanTables.{Tables}
use Rattle.jpeg_segments.specs.ScanHeader.{Scan, predictor_by, scan_of}
use Rattle.jpeg_segments.specs.ScanHeaders.{IsScan, ScanHeader, scan_payload, scan_written}
use Rattle.jpeg_segments.specs.WrittenSegments.{Application, Header, Huffman, Interval, Quantization, Segment}
use Rattle.jpeg_segments.specs.WrittenSegments.{marker_code, payload_of, with_length}
use Rattle.jpeg_segments.proofs.ApplicationParts.{app-only}
use Rattle.jpeg_segments.proofs.Codecs.{AreBytes, Codec, Written}
use Rattle.jpeg_segments.proofs.HeaderSegments.{sof, sos}
use Rattle.jpeg_segments.proofs.OtherSegments.{dri}
use Rattle.jpeg_segments.proofs.TableSegments.{dht, dqt}
use Rattle.jpeg_meaning.specs.Found.{Said, nothing_said}
use Rattle.jpeg_meaning.specs.Levels.{Is8Bit, IsLegal, Levels, nothing_sent, numbers_at}
use Rattle.jpeg_meaning.specs.Order.{Spot, mcu_size, spots_of}
use Rattle.jpeg_meaning.specs.SaidSegments.{Stands, said_after}
use Rattle.jpeg_meaning.specs.Scans.{turns_of}
use Rattle.jpeg_meaning.specs.ScanSegments.{Coding, codings_of, components_of, pass_of, vias_from}
use Rattle.jpeg_meaning.specs.Segments.{accepted, updated, with_application, with_huffman}
use Rattle.jpeg_meaning.specs.WholeImages.{AllComplete}
use Rattle.jpeg_meaning.specs.WorkedImages.{IsWhollyWritten, flat_block, in_column}
use Rattle.jpeg_meaning.specs.WrittenImages.{ClosesImage, MayStandInImage, WritesImageScan}
use Rattle.jpeg_meaning.specs.WrittenScans.{Coefficients, HasTable, IsComplete, IsLegalScan, WritesScan, levels_after}
use Rattle.jpeg_meaning.specs.WrittenStreams.{Writes, end, scan, segment}
use Rattle.jpeg_meaning.proofs.Tested.TestedData.{◌>>=◌, Made, Next, blocks_for, intervals_for, intervals_in, when, same_for}
use Rattle.jpeg_meaning.proofs.Tested.TestedData.{category_for, all_for, equal_for, most_for, all-by}
use Rattle.std.proofs.lemmas.Int.{ints}
use Rattle.jpeg_bits.specs.Codes.{Table}
use Rattle.jpeg_meaning.proofs.Written.SaidTables.{get-all}
use Rattle.jpeg_meaning.proofs.Written.CodingsInForce.{found-codings, found-samples}
use Rattle.jpeg_meaning.proofs.Pictures.DecodedHeaders.{accepted-decoded}
use Rattle.jpeg_meaning.proofs.Written.WalkedStreams.{closes}
use Rattle.jpeg_bits.specs.DefaultTables.{names}
use Rattle.jpeg_bits.specs.Written.WritesEach.{none, one}
use Rattle.jpeg_lossless.specs.Differences.{Part, interval_rows}
use Rattle.jpeg_lossless.specs.Prediction.{residue}
use Rattle.jpeg_lossless.specs.Scans.{is_of_rows, lines_by_component, rows_of_interval, scan_tables}
use Rattle.jpeg_lossless.specs.Written.{WritesRows, WritesSampleDifference, bits_of_difference}
use Rattle.jpeg_meaning.specs.LosslessScans.{LosslessCoding, lossless_codings, mcus_across, mcus_down, way_of}
use Rattle.jpeg_meaning.specs.WorkedSamples.{AreWritten}
use Rattle.jpeg_meaning.specs.WrittenLossless.{ClosesSamples, HoldSamples, IsLossless, Samples, SendsSamples}
use Rattle.jpeg_meaning.specs.WrittenLossless.{WritesSamplesScan, own_lines}

-- ---- what is there

abbrev pub known : {A : Type 0} → (o : Option A) → Option (Made (λ x. o ≡ Some x))
known None = None
known (Some x) = Some (x, refl)

abbrev pub known_ok : {A : Type 0} → (o : Result A Fault) → Option (Made (λ x. o ≡ Ok x))
known_ok (Err e) = None
known_ok (Ok x) = Some (x, refl)

abbrev pub bytes_for : (a b : List ℕ) → Option (a ≡ b)
bytes_for a b = same_for equal_for a b

-- ---- segments

pub none-is : {A : Type 0} (o : Option A) → not (is_some o) ≡ true → o ≡ None
none-is None e = refl
none-is (Some a) e = absurd (true≢false (sym e))

pub accepted-same : (f : Frame) → is_ok (accepted f) ≡ true → accepted f ≡ Ok f
unfolding accepted
accepted-same f e = grind (arith, common_steps, nat_tests)

-- A segment of this marker code where so much was said, what is said after it, and the bytes after it.
abbrev Read : Said → ℕ → List ℕ → Type 0
Read said code bytes =
    (s : Segment) × (next : Said) × (rest : List ℕ) × Stands said s × (marker_code s ≡ code)
    × (said_after said s ≡ next) × (bytes ≡ with_length (payload_of s) ++ rest)

-- what bytes that were read were written for
abbrev read_for : {A C : Type 0} {parse : List ℕ → Outcome C} {view : A → C} {print : A → List ℕ} {Valid : A → Type 0}
    → Codec parse view print Valid → (bytes : List ℕ) → AreBytes bytes
    → Option ((y : C) × (rest : List ℕ) × Written view print Valid bytes rest y)
read_for {A} {C} {parse} codec bytes all = do
  r ← known_ok (parse bytes)
  Some (r.0.0, r.0.1, codec.only bytes r.0.1 r.0.0 all r.1)

abbrev segment_for : (said : Said) (code : ℕ) (bytes : List ℕ) → AreBytes bytes → Option (Read said code bytes)
segment_for said code bytes all = elim (equal_for 219 code) [
  | Some e ↦ do
    r ← read_for dqt bytes all
    let after = λ (ts : List (Option (List ℕ))). record said { quantization = updated said.quantization ts }
    Some (Quantization r.2.value, after r.0, r.1, (r.2.valid, tt), e, ap after (sym r.2.made), r.2.is)
  | None ↦ elim (equal_for 196 code) [
    | Some e ↦ do
      r ← read_for (dht (option_map (λ (f : Frame). f.is_baseline) said.frame)) bytes all
      let after = λ (ts : Tables). record said { huffman = with_huffman said.huffman ts }
      Some (Huffman r.2.value, after r.0, r.1, (r.2.valid, tt), e, ap after (sym r.2.made), r.2.is)
    | None ↦ elim (equal_for 221 code) [
      | Some e ↦ do
        r ← read_for dri bytes all
        let after = λ (n : ℕ). record said { restart = n }
        Some (Interval r.2.value, after r.0, r.1, (tt, tt), e, ap after (sym r.2.made), r.2.is)
      | None ↦ elim (equal_for (224 + (code - 224)) code) [
        | Some e ↦ do
          few ← most_for (code - 224) 15
          r ← known_ok (app_at (code - 224) bytes)
          let w = app-only (code - 224) bytes r.0.1 r.0.0 few all r.1
          let after = λ (a : Option Says). record said { metadata = with_application said.metadata a }
          let numbered = ap (λ n. 224 + n) w.2 ∙ e
          Some (Application w.0, after r.0.0, r.0.1, (w.1, tt), numbered, ap after (sym w.3), w.4)
        | None ↦ do
          e ← equal_for (192 + (code - 192)) code
          few ← most_for (code - 192) 3
          r ← read_for (sof (code - 192) few) bytes all
          first ← when (not (is_some said.frame))
          taken ← when (is_ok (accepted r.0))
          let accepts = subst (λ f. accepted f ≡ Ok f) r.2.made (accepted-same r.0 taken)
          let decoded = accepted-decoded (code - 192) r.2.value few accepts
          let stands : Stands said (Header (code - 192) r.2.value) = ((none-is _ first, r.2.valid), decoded)
          let after = λ (f : Frame). record said { frame = Some f }
          Some (Header (code - 192) r.2.value, after r.0, r.1, stands, e, ap after (sym r.2.made), r.2.is)
      ]
    ]
  ]
]

-- ---- streams

-- a writer of scans that are read with these headers
abbrev ScansBy : {Sent : Type 0} → (Frame → ScanHeader → List ℕ → Sent → Type 0) → Type 0
ScansBy scans =
    (frame : Frame) (h : ScanHeader) (x : Scan) → x ≡ scan_written frame h → IsScan frame h → List ℕ →
    Option (Next (scans frame h))

module _ {Sent : Type 0} (may : Said → Segment → Type 0)
    (scans : Said → Sent → Frame → ScanHeader → List ℕ → Sent → Type 0)
    (ends : Said → Sent → List ℕ → Type 0) where
  -- At most n segments and scans, and then the end.
  abbrev pub stream_for : ((said : Said) (s : Segment) → Option (may said s))
      → ((said : Said) (sent : Sent) → ScansBy (scans said sent))
      → ((said : Said) (sent : Sent) (fill : ℕ) → Option (ends said sent (marker fill 217 [])))
      → (n : ℕ) (said : Said) (sent : Sent) (bytes : List ℕ)
      → Option ((final : Said) × (last : Sent) × Writes may scans ends said sent bytes final last)
  stream_for may_for scan_for end_for zero said sent bytes = None
  stream_for may_for scan_for end_for (suc n) said sent bytes = do
    let fill = position_or_len (λ b. not (b == 0xFF)) bytes - 1
    let code = slice_index bytes (fill + 1)
    let rest = drop (fill + 2) bytes
    all ← all_for (λ b. nat_lt b 256) (λ b. ltb-true b 256) rest
    marked ← bytes_for bytes (marker fill code rest)
    elim (equal_for code 218) [
      | Some e ↦ do
        frame ← known said.frame
        r ← read_for (sos frame.0) rest all
        let h = r.2
        s ← scan_for said sent frame.0 h.value r.0 h.made h.valid r.1
        let more = (intervals_in [] false r.1).1
        cut ← bytes_for r.1 (s.0 ++ more)
        w ← stream_for may_for scan_for end_for n (record said { scanned = true }) s.1 more
        let whole = marked ∙ ap₂ (marker fill) e (h.is ∙ ap (λ l. with_length (scan_payload h.value) ++ l) cut)
        let written = scan said w.0 sent s.1 w.1 frame.0 fill h.value s.0 more frame.1 h.valid s.2 w.2
        Some (_, _, subst (λ bytes. Writes may scans ends said sent bytes w.0 w.1) (sym whole) written)
      | None ↦ elim (bytes_for bytes (marker fill 217 [])) [
        | Some same ↦ do
          closed ← end_for said sent fill
          Some (said, sent, end said sent bytes (subst (ends said sent) (sym same) closed))
        | None ↦ do
          p ← segment_for said code rest all
          allowed ← may_for said p.0
          w ← stream_for may_for scan_for end_for n p.1 sent p.2
          let whole = marked ∙ ap₂ (marker fill) (sym p.4) p.6
          let after = subst (λ f. Writes may scans ends f sent p.2 w.0 w.1) (sym p.5) w.2
          let written = segment said w.0 sent w.1 fill p.0 p.2 p.3 allowed after
          Some (_, _, subst (λ bytes. Writes may scans ends said sent bytes w.0 w.1) (sym whole) written)
      ]
    ]

-- ---- what scans may send

abbrev pub is_at : Option ℕ → ℕ → Bool
is_at None n = false
is_at (Some a) n = a == n

pub at-is : (o : Option ℕ) (n : ℕ) → is_at o n ≡ true → o ≡ Some n
at-is None n e = absurd (true≢false (sym e))
at-is (Some a) n e = ap (λ (k : ℕ). Some k) (eqb-true a n e)

-- by a first scan or a refinement at a level
abbrev ac_legal : Bool → ℕ → Option ℕ → Bool
ac_legal true al l = not (is_some l)
ac_legal false al l = is_at l (suc al)

-- where the scan has DC, and where not
abbrev dc_legal : Bool → Bool → ℕ → Option ℕ → Bool
dc_legal true first al l = ac_legal first al l
dc_legal false first al l = is_some l

abbrev pub is_legal : Pass → Levels → Bool
is_legal p l = nat_le p.al 7 && (dc_legal (p.ss == 0) p.is_first p.al l.dc
    && list_all (ac_legal p.is_first p.al) (band_of p l.acs))

some-is : (o : Option ℕ) → is_some o ≡ true → o ≢ None
some-is None e f = absurd (true≢false (sym e))
some-is (Some a) e f = cc

pub legal-by : (p : Pass) (l : Levels) → is_legal p l ≡ true → IsLegal p l
legal-by p l e =
    search (rules, and_parts, leb-true, none-is, eq-eqb, at-is, some-is, ne_eqb, all-by)

-- from -1024 to 1023
abbrev pub is_dc : ℤ → Bool
is_dc (pos n) = nat_le n 1023
is_dc (negsuc n) = nat_le n 1023

dc-range : (z : ℤ) → is_dc z ≡ true → (negsuc 1023 ≤ℤ z) × (z ≤ℤ pos 1023)
dc-range (pos n) e = let h : n ≤ 1023 = leb-true n 1023 e in (omega (arith, ints), omega (arith, ints))
dc-range (negsuc n) e = let h : n ≤ 1023 = leb-true n 1023 e in (omega (arith, ints), omega (arith, ints))

abbrev pub is_8_bit : Block → Bool
is_8_bit b =
    length b.acs == 63 && (is_dc b.dc && list_all (λ x. nat_le (unsigned_abs x) 1023) b.acs)

pub range-by : (b : Block) → is_8_bit b ≡ true → Is8Bit b
range-by b e =
    let sized = and_parts (length b.acs == 63) (is_dc b.dc && list_all (λ x. nat_le (unsigned_abs x) 1023) b.acs) e in
    let rest = and_parts (is_dc b.dc) (list_all (λ x. nat_le (unsigned_abs x) 1023) b.acs) sized.1 in
    let dc = dc-range b.dc rest.0 in
    record {
      count = eqb-true (length b.acs) 63 sized.0;
      dc_low = dc.0;
      dc_high = dc.1;
      acs = all-by (λ x. nat_le (unsigned_abs x) 1023) (λ x. unsigned_abs x ≤ 1023)
          (λ x h. leb-true (unsigned_abs x) 1023 h) b.acs rest.1;
    }

in-list : {A : Type 0} (P : A → Type 0) (test : A → Bool) (d : A) → ((x : A) → test x ≡ true → P x) → test d ≡ true
    → (xs : List A) → list_all test xs ≡ true → (i : ℕ) → P (get_or xs i d)
in-list P test d h is xs e i = get-all P xs i d (all-by test P h xs e) (h d is)

-- the blocks in the columns of a line, of some lines, and of some components, with zeros beyond them
pub range-in : (blocks : List Block) → list_all is_8_bit blocks ≡ true → (column : ℕ) → Is8Bit (in_column blocks column)
range-in = in-list Is8Bit is_8_bit (flat_block (pos 0)) range-by refl

pub lines-in : (lines : List (List Block)) → list_all (list_all is_8_bit) lines ≡ true → (row column : ℕ)
    → Is8Bit (in_column (get_or lines row []) column)
lines-in = in-list (λ line. (column : ℕ) → Is8Bit (in_column line column)) (list_all is_8_bit) [] range-in refl

pub blocks-in : (blocks : List (List (List Block))) → list_all (list_all (list_all is_8_bit)) blocks ≡ true
    → (index row column : ℕ) → Is8Bit (in_column (get_or (get_or blocks index []) row []) column)
blocks-in =
    in-list (λ lines. (row column : ℕ) → Is8Bit (in_column (get_or lines row []) column)) (list_all (list_all is_8_bit))
    [] lines-in refl

-- ---- images

-- the block of a spot, where its component has this coding
abbrev sent_of : (array : Coefficients) → ((index row column : ℕ) → Is8Bit (array index row column)) → Spot
    → Option Coding → Made Is8Bit
sent_of array range s None = (_, range 0 0 0)
sent_of array range s (Some k) =
    (_, range k.index (s.index / k.component.blocks_wide) (s.index % k.component.blocks_wide))

abbrev is_complete : Levels → Bool
is_complete l = is_at l.dc 0 && list_all (λ x. is_at x 0) l.acs

pub complete-by : (l : Levels) → is_complete l ≡ true → IsComplete l
complete-by l e = search (rules, and_parts, at-is, all-by)

abbrev complete_for : (frame : Frame) (levels : ℕ → Levels) → Option (AllComplete frame levels)
complete_for frame levels =
    all_for (λ k. is_complete (levels k)) (λ k. complete-by (levels k)) (range_with_len 0 (length frame.components))

abbrev may_in_image : (said : Said) (s : Segment) → Option (MayStandInImage said s)
may_in_image said (Quantization ts) = do
  is ← when (not said.scanned)
  Some (not-true _ is)
may_in_image said (Header number h) = most_for number 2
may_in_image said s = Some tt

abbrev end_of_image : (said : Said) (levels : ℕ → Levels) (fill : ℕ)
    → Option (ClosesImage said levels (marker fill 217 []))
end_of_image said levels fill = do
  frame ← known said.frame
  scanned ← when said.scanned
  let has = λ (c : Component). is_some (slice_index_or said.quantization c.factors.quantization None)
  tables ← all_for {P = HasTable said} has (λ c h. h) frame.0.components
  complete ← complete_for frame.0 levels
  Some (closes said frame.0 fill frame.1 (scanned, tables, λ _. complete))

module _ (array : Coefficients) (range : (index row column : ℕ) → Is8Bit (array index row column)) where
  abbrev scan_of_image : (said : Said) (levels : ℕ → Levels) → ScansBy (WritesImageScan array said levels)
  scan_of_image said levels frame h x made is bytes = do
    let p = pass_of x
    codings ← known_ok (codings_of said frame x)
    legal ← all_for (λ c. is_legal p (levels c.index)) (λ c. legal-by p (levels c.index)) codings.0
    let sent = λ (s : Spot). sent_of array range s (slice_get codings.0 s.slot)
    let n = said.restart * mcu_size (components_of codings.0)
    let turns = turns_of (vias_from 0 codings.0) (spots_of frame (components_of codings.0))
        (λ s. numbers_at p.al (sent s).0)
    w ← intervals_for (WritesBlocks p predictors_at_start 0) (blocks_for p predictors_at_start 0) 0 (first_group n turns)
        (other_groups n turns) (intervals_in [] false bytes).0
    let written : WritesScan frame said.restart p codings.0 array w.0 = record {
      sent = λ s. (sent s).0;
      in_range = λ s. (sent s).1;
      is_own = λ s c e own. ap (λ k. (sent_of array range s k).0) e;
      coded = w.1;
    }
    let after = λ (x : Scan). levels_after (pass_of x) (map (λ c. c.index) codings.0) levels
    let scanned : WritesImageScan array said levels frame h w.0 (after x) = record {
      codings = codings.0;
      legal = subst (λ x. IsLegalScan said frame levels x codings.0) made
          (record { are_in_force = found-codings said frame x codings.0 codings.1; legal = legal });
      written = subst (λ x. WritesScan frame said.restart (pass_of x) codings.0 array w.0) made written;
      sent = ap after (sym made);
    }
    Some (_, _, scanned)

  -- a stream that is an image of the array, where each block is in range
  abbrev pub image_for : (bytes : List ℕ) → Option (IsWhollyWritten array bytes)
  image_for bytes = do
    starts ← bytes_for bytes (255 ∷ 216 ∷ drop 2 bytes)
    w ← stream_for MayStandInImage (WritesImageScan array) ClosesImage may_in_image scan_of_image end_of_image
        (length bytes) nothing_said (λ k. nothing_sent) (drop 2 bytes)
    frame ← known w.0.frame
    complete ← complete_for frame.0 w.1
    Some (record {
      final = w.0;
      last = w.1;
      frame = frame.0;
      written = record { after = drop 2 bytes; starts = starts; written = w.2 };
      framed = frame.1;
      complete = complete;
    })

-- ---- differences of samples

-- the number from -32767 to 32768 that a difference stands for
abbrev signed : ℕ → ℤ
signed r = elim (nat_le r 32768) [ true ↦ pos r | false ↦ negsuc (65535 - r) ]

pub signed-range : (r : ℕ) → (negsuc 32766 ≤ℤ signed r) × (signed r ≤ℤ pos 32768)
signed-range r = grind (arith, nat_tests, ints)

abbrev difference_for : (x : Table × ℕ) → Option (Made (WritesSampleDifference x.0 x.1))
difference_for x = do
  c ← category_for x.0 (λ s. s) (signed x.1)
  is ← equal_for (residue (signed x.1)) x.1
  let range = signed-range x.1
  let written : WritesSampleDifference x.0 x.1 (c.1 ++ bits_of_difference (signed x.1) c.0) = record {
    d = signed x.1;
    s = c.0;
    code = c.1;
    is = is;
    low = range.0;
    high = range.1;
    category = c.2;
    coded = c.3;
    has_bits = refl;
  }
  Some (_, written)

abbrev each_for : {A : Type 0} (writes : A → List Bool → Type 0) → ((x : A) → Option (Made (writes x))) → (xs : List A)
    → Option (Made (WritesEach writes xs))
each_for writes write [] = Some ([], none)
each_for writes write (x ∷ xs) = do
  bits ← write x
  more ← each_for writes write xs
  Some (bits.0 ++ more.0, one x xs bits.0 more.0 bits.1 more.1)

-- ---- rows of MCUs

-- things of which f gives these keys, each by its own value
abbrev paired : {A B V : Type 0} (f : B → A) → ((a : A) → V → Option (Made (λ b. f b ≡ a))) → (keys : List A) → List V
    → Option (Made (λ bs. map f bs ≡ keys))
paired f pair [] vs = Some ([], refl)
paired f pair (a ∷ keys) [] = None
paired f pair (a ∷ keys) (v ∷ vs) = do
  b ← pair a v
  more ← paired f pair keys vs
  Some (b.0 ∷ more.0, ap₂ (λ x xs. x ∷ xs) b.1 more.1)

unfoldable pub holds_for : (samples : Samples) (codings : List LosslessCoding) (parts : List Part)
    (lines : List (List (List ℕ))) → Option (HoldSamples samples codings parts lines)
unfolding HoldSamples
holds_for samples [] [] [] = Some tt
holds_for samples (k ∷ codings) (p ∷ parts) (lines ∷ more) = do
  is ← same_for bytes_for (own_lines p lines) (samples k.index)
  others ← holds_for samples codings parts more
  Some (is, others)
holds_for samples codings parts lines = None

-- ---- lossless streams

abbrev may_be_lossless : (said : Said) (s : Segment) → Option (IsLossless s)
may_be_lossless said (Header number h) = equal_for number 3
may_be_lossless said s = Some tt

abbrev end_of_samples : (said : Said) (sent : List ℕ) (fill : ℕ) → Option (ClosesSamples said sent (marker fill 217 []))
end_of_samples said sent fill = do
  frame ← known said.frame
  all ← all_for (names sent) (λ k h. h) (range_with_len 0 (length frame.0.components))
  Some (closes said frame.0 fill frame.1 all)

pub no-point : (frame : Frame) (h : ScanHeader) (x : Scan) → x ≡ scan_written frame h → IsScan frame h → x.low ≡ 0
    → h.low ≡ 0
unfolding scan_of
no-point frame h x made is low = search rules

unfoldable pub scan_of_samples : (samples : Samples) (said : Said) (sent : List ℕ)
    → ScansBy (SendsSamples samples said sent)
unfolding scan_of
scan_of_samples samples said sent frame h x made is bytes = do
  codings ← known_ok (lossless_codings said.huffman.dc frame x.components x.dc_destinations)
  point ← equal_for x.low 0
  whole ← when (is_of_rows (mcus_across frame codings.0) (mcus_down frame codings.0) said.restart)
  let way = λ (x : Scan). way_of frame (predictor_by x.first) 0 codings.0
  let n = rows_of_interval (way x).wide (mcus_down frame codings.0) said.restart
  let tables = scan_tables (way x) (mcus_down frame codings.0)
  r ← known_ok (intervals interval_rows 0 (first_group n tables) (other_groups n tables) bytes)
  rows ← paired (map (λ (x : Table × ℕ). x.0)) (paired (λ (x : Table × ℕ). x.0) (λ t d. Some ((t, d), refl))) tables
      (flat_map (λ interval. interval) r.0.0.0)
  let values = map (map (λ (x : Table × ℕ). x.1)) rows.0
  let lines = λ (x : Scan). lines_by_component (way x) 0 (way x).parts (first_group n values ∷ other_groups n values)
  kept ← holds_for samples codings.0 (way x).parts (lines x)
  i ← intervals_for WritesRows (each_for _ (each_for _ difference_for)) 0 (first_group n rows.0) (other_groups n rows.0)
      (intervals_in [] false bytes).0
  let scanned : WritesSamplesScan said frame h samples i.0 = record {
    codings = codings.0;
    coded = let of = λ (x : Scan). lossless_codings said.huffman.dc frame x.components x.dc_destinations in
        let y = scan_written frame h in
        found-samples said.huffman.dc frame y.components y.dc_destinations codings.0
        (subst (λ x. of x ≡ Ok codings.0) made codings.1);
    point = no-point frame h x made is point;
    interval = whole;
    rows = rows.0;
    tables = rows.1;
    kept = subst (λ x. HoldSamples samples codings.0 (way x).parts (lines x)) made kept;
    written = i.1;
  }
  Some (_, _, (scanned, ap (λ (x : Scan). x.components ++ sent) (sym made)))

-- a stream for these samples
abbrev pub samples_for : (samples : Samples) (bytes : List ℕ) → Option (AreWritten samples bytes)
samples_for samples bytes = do
  starts ← bytes_for bytes (255 ∷ 216 ∷ drop 2 bytes)
  w ← stream_for (λ said s. IsLossless s) (SendsSamples samples) ClosesSamples may_be_lossless (scan_of_samples samples)
      end_of_samples (length bytes) nothing_said [] (drop 2 bytes)
  Some (record {
    final = w.0;
    written = record { sent = w.1; written = record { after = drop 2 bytes; starts = starts; written = w.2 } };
  })

-- What is unfolded to compute that a literal is written.
unfoldable pub written_on_literals : ⊤
unfolding streams_on_literals samples_on_literals bits_of_bytes corrections count_unknown holds_for
    levels_after low_bits number_for scan_of_samples stuffed
written_on_literals = tt

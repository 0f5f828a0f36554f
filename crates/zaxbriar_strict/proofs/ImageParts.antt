-- The image of a stream as far as it was read: segments and scans that a writer emits for the
-- coefficients of the components that have scans, whatever those of the others are.
use Rattle.std.proofs.Common.{◌≡◌, ℕ, ◌<◌, ◌≤◌, ◌⊎◌, inl, inr, Bool, true, false, List, [], ◌∷◌, ◌++◌, length}
use Rattle.std.proofs.Common.{Option, Some, get_or, map, refl, sym, ap, ◌∙◌, subst, arith, append_assoc}
use Rattle.std.specs.List.{AllByRecursion}
use Rattle.std.proofs.lemmas.Bool.{false≢true}
use Rattle.std.proofs.lemmas.Option.{slice_get_within}
use Rattle.jpeg_bits.proofs.PieceWalks.{by_bool}
use Rattle.jpeg_bits.specs.Passes.{Block, Pass, whole_pass, zero_block}
use Rattle.jpeg_bits.specs.Written.{marker}
use Rattle.jpeg_segments.specs.Frame.{Frame as WrittenFrame}
use Rattle.jpeg_segments.specs.ScanHeaders.{IsScan, scan_payload, scan_written}
use Rattle.jpeg_segments.specs.WrittenSegments.{Segment, marker_code, payload_of, with_length}
use Rattle.jpeg_meaning.specs.Found.{Said, nothing_said}
use Rattle.jpeg_meaning.specs.Levels.{Is8Bit, Levels, nothing_sent}
use Rattle.jpeg_meaning.specs.SaidSegments.{Stands, said_after}
use Rattle.jpeg_meaning.specs.ScanSegments.{Coding, pass_of}
use Rattle.jpeg_meaning.specs.WholeImages.{AllComplete}
use Rattle.jpeg_meaning.specs.WrittenImages.{ClosesImage, MayStandInImage, WritesImageScan, WritesPart}
use Rattle.jpeg_meaning.specs.WrittenScans.{Coefficients, HasTable, IsComplete, WritesScan, levels_after}
use Rattle.jpeg_meaning.specs.WrittenStreams.Writes.{end, scan, segment}
use Rattle.jpeg_meaning.proofs.Encoded.EncodedParts.{in-range}
use Rattle.jpeg_meaning.proofs.Order.Apart.{all-from, at-got}
use Rattle.zaxbriar_strict.specs.Exact.{HasLaterTables, IsUpTo, IsWhollyWritten, WritesSegments}
use Rattle.zaxbriar_strict.specs.Exact.WritesSegments.{more, none}
use Rattle.zaxbriar_strict.specs.Changes.{kept_in}
use Rattle.zaxbriar_strict.specs.Heads.{IsMade, IsSequential, ReadsHeader, has_scans, header_of, members_of}
use Rattle.zaxbriar_strict.specs.Heads.{is_progressive_process, scan_header_of, sent_with, written_frame}
use Rattle.zaxbriar_strict.specs.Installed.{codes_of, steps_of}
use Rattle.zaxbriar_strict.specs.ScanData.{ReadsIfEight}
use Rattle.zaxbriar_strict.specs.ScanData.Sends.{sends_all}
use Rattle.zaxbriar_strict.specs.declared.frame.Frame.{Frame}
use Rattle.zaxbriar_strict.specs.declared.scan.Scan.{Scan}
use Rattle.zaxbriar_strict.specs.declared.tables.Tables.{Tables}
use Rattle.zaxbriar_strict.proofs.LegalScans.{AreTabled, HasCoded, coded-at, coded-member, coded-rising, legal-scan}
use Rattle.zaxbriar_strict.proofs.LegalScans.{leveled, tabled, whole-complete}
use Rattle.zaxbriar_strict.proofs.SameFrames.{plain-process, same-made, same-precision, same-sequential, same-written}
use Rattle.zaxbriar_strict.proofs.ScanTurns.{SequentialData, array-in-range, scan-written, sequential-data, scan_array, zero-in-range}
use Rattle.zaxbriar_strict.proofs.SentComponents.{AreLevels, level_of, sent-member, still-sent, unsent-member}
use Rattle.zaxbriar_strict.proofs.SequentialHeaders.{has-members, pass-whole, process-is, same-members}
use Rattle.zaxbriar_strict.proofs.SequentialHeaders.{sent-once}
use Rattle.zaxbriar_strict.proofs.UnitWays.{coded-fit}
use Rattle.zaxbriar_strict.proofs.WalkedBytes.{EndsWith, after-marker}

-- ---- what is written, in parts

-- An array has the blocks of another one, at the components that have scans.
abbrev pub Agrees : List Bool → Coefficients → Coefficients → Type 0
Agrees sent array other =
    (index : ℕ) → get_or sent index true ≡ true → (row column : ℕ) → other index row column ≡ array index row column

-- What is written up to some bytes goes on with what they are.
pub onward : (array : Coefficients) (ends : Said → (ℕ → Levels) → List ℕ → Type 0) (at : List ℕ)
    (start now final : Said) (sent levels last : ℕ → Levels) (bytes : List ℕ)
    → WritesPart array (IsUpTo at) start sent bytes now levels
    → WritesPart array ends now levels at final last → WritesPart array ends start sent bytes final last
onward array ends at start now final sent levels last bytes (end said' sent' bytes' e) w =
    subst (λ (l : List ℕ). WritesPart array ends start sent l final last) (sym e) w
onward array ends at start now final sent levels last bytes
    (segment said' now' sent' levels' fill s others stands may x) w =
    segment start final sent last fill s others stands may
    (onward array ends at (said_after start s) now final sent levels last others x w)
onward array ends at start now final sent levels last bytes
    (scan said' now' sent' next levels' frame fill h data_bytes others framed is sends x) w =
    scan start final sent next last frame fill h data_bytes others framed is sends
    (onward array ends at (record start { scanned = true }) now final next levels last others x w)

-- segments alone
pub segments-part : (array : Coefficients) (after : List ℕ) {said : Said} {at : List ℕ}
    → WritesSegments nothing_said after said at
    → WritesPart array (IsUpTo at) nothing_said (λ k. nothing_sent) after said (λ k. nothing_sent)
segments-part array after none = end nothing_said (λ k. nothing_sent) after refl
segments-part array after (more said fill s rest front stands may) =
    onward array (IsUpTo rest) (marker fill (marker_code s) (with_length (payload_of s) ++ rest)) nothing_said said
    (said_after said s) (λ k. nothing_sent) (λ k. nothing_sent) (λ k. nothing_sent) after
    (segments-part array after front)
    (segment said (said_after said s) (λ k. nothing_sent) (λ k. nothing_sent) fill s rest stands may
    (end (said_after said s) (λ k. nothing_sent) rest refl))

-- they stand before these bytes
pub writes-front : (array : Coefficients) (at : List ℕ) (start now : Said) (sent levels : ℕ → Levels) (bytes : List ℕ)
    → WritesPart array (IsUpTo at) start sent bytes now levels → EndsWith bytes at
writes-front array at start now sent levels bytes (end said' sent' bytes' e) = record { front = []; parts = e }
writes-front array at start now sent levels bytes (segment said' now' sent' levels' fill s others stands may x) =
    let f = writes-front array at (said_after start s) now sent levels others x in
    let own = with_length (payload_of s) in
    let code = marker_code s in
    record {
      front = marker fill code (own ++ f.front);
      parts = ap (λ (l : List ℕ). marker fill code (own ++ l)) f.parts
          ∙ ap (λ (l : List ℕ). marker fill code l) (sym (append_assoc own f.front at))
          ∙ after-marker fill code (own ++ f.front) at;
    }
writes-front array at start now sent levels bytes
    (scan said' now' sent' next levels' frame fill h data_bytes others framed is sends x) =
    let f = writes-front array at (record start { scanned = true }) now next levels others x in
    let own = with_length (scan_payload h) in
    record {
      front = marker fill 218 (own ++ (data_bytes ++ f.front));
      parts = ap (λ (l : List ℕ). marker fill 218 (own ++ (data_bytes ++ l))) f.parts
          ∙ ap (λ (l : List ℕ). marker fill 218 (own ++ l)) (sym (append_assoc data_bytes f.front at))
          ∙ ap (λ (l : List ℕ). marker fill 218 l) (sym (append_assoc own (data_bytes ++ f.front) at))
          ∙ after-marker fill 218 (own ++ (data_bytes ++ f.front)) at;
    }

-- ---- the image so far

-- What was read of an image, from what follows SOI up to these bytes: `sent` tells which components
-- of the frame have scans.
pub record ImagePart (after at : List ℕ) (said : Said) (frame : WrittenFrame) (sent : List Bool) : Type 0 where
  pub array : Coefficients
  pub in_range : (index row column : ℕ) → Is8Bit (array index row column)
  pub levels : ℕ → Levels
  pub leveled : AreLevels sent levels
  pub written : (other : Coefficients) → Agrees sent array other
      → WritesPart other (IsUpTo at) nothing_said (λ k. nothing_sent) after said levels
  pub tabled : AreTabled said frame sent
  pub unscanned : said.scanned ≡ false → (i : ℕ) → i < length sent → get_or sent i true ≡ false

abbrev own-part : (after at : List ℕ) (said : Said) (frame : WrittenFrame) (sent : List Bool)
    (p : ImagePart after at said frame sent)
    → WritesPart p.array (IsUpTo at) nothing_said (λ k. nothing_sent) after said p.levels
own-part after at said frame sent p = p.written p.array (λ index e row column. refl)

pub part-front : (after at : List ℕ) (said : Said) (frame : WrittenFrame) (sent : List Bool)
    → ImagePart after at said frame sent → EndsWith after at
part-front after at said frame sent p =
    writes-front p.array at nothing_said said (λ k. nothing_sent) p.levels after
    (own-part after at said frame sent p)

-- quantization tables after a scan
pub later-tables : (after at : List ℕ) (said : Said) (frame : WrittenFrame) (sent : List Bool)
    → ImagePart after at said frame sent → (fill : ℕ) (payload rest : List ℕ)
    → at ≡ marker fill 219 (with_length payload ++ rest) → said.scanned ≡ true → HasLaterTables after
later-tables after at said frame sent p fill payload rest is scanned = record {
  array = p.array;
  said = said;
  sent = p.levels;
  fill = fill;
  payload = payload;
  rest = rest;
  written = subst (λ (l : List ℕ). WritesPart p.array (IsUpTo l) nothing_said (λ k. nothing_sent) after said p.levels) is
      (own-part after at said frame sent p);
  scanned = scanned;
}

-- a header, and no scan yet
pub part-headed : (after at : List ℕ) (said : Said) (frame : WrittenFrame) (sent : List Bool)
    → WritesSegments nothing_said after said at → length sent ≡ length frame.components
    → ((i : ℕ) → i < length sent → get_or sent i true ≡ false) → ImagePart after at said frame sent
part-headed after at said frame sent segments sized unsent = record {
  array = λ index row column. zero_block;
  in_range = λ index row column. zero-in-range;
  levels = λ k. nothing_sent;
  leveled = λ k lt. ap level_of (sym (unsent k lt));
  written = λ other agrees. segments-part other after segments;
  tabled = λ i c is e.
      let lt = slice_get_within frame.components i c is in
      absurd (false≢true (sym (unsent i (omega (arith, lt, sized))) ∙ e));
  unscanned = λ e. unsent;
}

-- One segment more: if it has quantization tables, then there was no scan.
pub part-segment : (after at rest : List ℕ) (said : Said) (frame : WrittenFrame) (sent : List Bool) (fill : ℕ)
    (s : Segment) → ImagePart after at said frame sent
    → length sent ≡ length frame.components
    → at ≡ marker fill (marker_code s) (with_length (payload_of s) ++ rest)
    → Stands said s → MayStandInImage said s → (said_after said s).scanned ≡ said.scanned
    → ((said_after said s).quantization ≡ said.quantization) ⊎ (said.scanned ≡ false)
    → ImagePart after rest (said_after said s) frame sent
part-segment after at rest said frame sent fill s p sized parts stands may scanned tables = record {
  array = p.array;
  in_range = p.in_range;
  levels = p.levels;
  leveled = p.leveled;
  written = λ other agrees.
      onward other (IsUpTo rest) at nothing_said said (said_after said s) (λ k. nothing_sent) p.levels p.levels after
      (p.written other agrees)
      (subst (λ (l : List ℕ). WritesPart other (IsUpTo rest) said p.levels l (said_after said s) p.levels) (sym parts)
      (segment said (said_after said s) p.levels p.levels fill s rest stands may
      (end (said_after said s) p.levels rest refl)));
  tabled = λ i c is e. elim tables [
    | inl same ↦ subst (λ (l : List (Option (List ℕ))). HasTable (record said { quantization = l }) c) (sym same)
        (p.tabled i c is e)
    | inr unscanned ↦
        let lt = slice_get_within frame.components i c is in
        absurd (false≢true (sym (p.unscanned unscanned i (omega (arith, lt, sized))) ∙ e))
  ];
  unscanned = λ e. p.unscanned (sym scanned ∙ e);
}

-- ---- a scan more

-- the blocks of a scan beside those of scans before it
abbrev joined : List Bool → Coefficients → Coefficients → Coefficients
joined sent array own index =
    elim (get_or sent index true) as (λ _. ℕ → ℕ → Block) [ true ↦ array index | false ↦ own index ]

joined-in-range : (sent : List Bool) (array own : Coefficients)
    → ((index row column : ℕ) → Is8Bit (array index row column))
    → ((index row column : ℕ) → Is8Bit (own index row column))
    → (index row column : ℕ) → Is8Bit (joined sent array own index row column)
joined-in-range sent array own f g index row column = go (get_or sent index true)
  where
    go : (b : Bool) → Is8Bit ((elim b as (λ _. ℕ → ℕ → Block) [ true ↦ array index | false ↦ own index ]) row column)
    go true = f index row column
    go false = g index row column

joined-before : (sent : List Bool) (array own : Coefficients) (index row column : ℕ) → get_or sent index true ≡ true
    → joined sent array own index row column ≡ array index row column
joined-before sent array own index row column e =
    ap (λ (b : Bool). (elim b as (λ _. ℕ → ℕ → Block) [ true ↦ array index | false ↦ own index ]) row column) e

joined-own : (sent : List Bool) (array own : Coefficients) (index row column : ℕ) → get_or sent index true ≡ false
    → joined sent array own index row column ≡ own index row column
joined-own sent array own index row column e =
    ap (λ (b : Bool). (elim b as (λ _. ℕ → ℕ → Block) [ true ↦ array index | false ↦ own index ]) row column) e

-- What was read of a scan of a frame. `old` is the frame as scan::read_header found it, `new` as
-- transform::read_scan did; `payload` are the bytes of the scan header.
module _ (after at start rest payload : List ℕ) (fill : ℕ) (t : Tables) (old new : Frame) (s : Scan) (said : Said)
    (made : IsMade old) (sequential : IsSequential old) (eight : old.precision ≡ 8)
    (sized : length s.members ≡ 4) (head : ReadsHeader payload s old new) (last : Frame)
    (read : ReadsIfEight t new last s start rest)
    (steps : steps_of t ≡ said.quantization) (codes : codes_of t ≡ said.huffman) (interval : t.interval ≡ said.restart)
    (framed : said.frame ≡ Some (written_frame old))
    (parts : at ≡ marker fill 218 (with_length (scan_payload (scan_header_of old s)) ++ start))
    (p : ImagePart after at said (written_frame old) (has_scans old)) where
  pub part-scan : ImagePart after rest (record said { scanned = true }) (written_frame old)
      (sent_with (members_of s) (has_scans old))
  part-scan =
      let frame = written_frame old in
      let h = scan_header_of old s in
      let ms = members_of s in
      let sent = has_scans old in
      let factors = (header_of old).components in
      let legal : IsScan frame h = head.legal (sent-once old sequential) in
      let unsent = head.unsent (sent-once old sequential) in
      let final : Said = record said { scanned = true } in
      let members = has-members payload s old new sized head in
      let r : SequentialData t frame ms start rest =
      subst (λ (f : WrittenFrame). SequentialData t f ms start rest) (same-written head.same)
      (sequential-data (is_progressive_process new.process) t (written_frame new) ms
      (kept_in new.components.items) (kept_in last.components.items) start rest
      (plain-process new.process (same-sequential head.same sequential))
      (read whole_pass (same-made head.same made) (sends_all (same-sequential head.same sequential) refl) (same-precision head.same ∙ eight)
      (same-members old new s head.same members))) in
      let codings = r.installed.codings in
      let coded = r.installed.are in
      let has : HasCoded said frame h codings ms sent = record {
        t = t;
        factors = factors;
        coded = coded;
        unsent = unsent;
        steps = steps;
        codes = codes;
        choices = refl;
        passes = pass-whole frame h (process-is old sequential) legal;
      } in
      let pass = pass_of (scan_written frame h) in
      let own = scan_array frame codings r.blocks in
      let next = levels_after pass (map (λ (c : Coding). c.index) codings) p.levels in
      record {
        array = joined sent p.array own;
        in_range = joined-in-range sent p.array own p.in_range (array-in-range frame codings r.blocks r.in_range);
        levels = next;
        leveled = leveled said frame h codings ms sent p.levels has p.leveled;
        written = λ other agrees.
            let before : Agrees sent p.array other = λ index e row column.
            agrees index (still-sent ms sent index e) row column
            ∙ joined-before sent p.array own index row column e in
            let w : WritesScan frame t.interval whole_pass codings other r.groups.data_bytes =
            scan-written frame codings r.blocks other t.interval r.groups.data_bytes (coded-fit whole_pass t old ms codings made coded)
            (coded-rising whole_pass t frame factors 0 ms codings coded legal.choices)
            (λ slot k here. coded-at whole_pass t frame slot ms codings k coded here)
            (λ slot k here row column.
            let m = coded-member whole_pass t frame slot ms codings k coded here in
            subst (λ (i : ℕ). other i row column ≡ own i row column) m.2
            (agrees m.0.component (sent-member ms sent slot m.0 m.1) row column
            ∙ joined-own sent p.array own m.0.component row column (unsent-member ms sent slot m.0 unsent m.1)))
            r.counted r.in_range r.groups.coded in
            let sends : WritesImageScan other said p.levels frame h r.groups.data_bytes next = record {
              codings = codings;
              legal = legal-scan said frame h codings ms sent p.levels has p.leveled;
              written = subst (λ (q : Pass). WritesScan frame said.restart q codings other r.groups.data_bytes)
                  (sym has.passes)
                  (subst (λ (n : ℕ). WritesScan frame n whole_pass codings other r.groups.data_bytes) interval w);
              sent = refl;
            } in
            onward other (IsUpTo rest) at nothing_said said final (λ k. nothing_sent) p.levels next after
            (p.written other before)
            (subst (λ (l : List ℕ). WritesPart other (IsUpTo rest) said p.levels l final next)
            (sym (parts ∙ ap (λ (l : List ℕ). marker fill 218 (with_length (scan_payload h) ++ l)) r.groups.parts))
            (scan said final p.levels next next frame fill h r.groups.data_bytes rest framed legal sends
            (end final next rest refl)));
        tabled = tabled whole_pass t frame said steps ms codings sent coded p.tabled;
        unscanned = λ e. absurd (false≢true (sym e));
      }

-- ---- its end

-- EOI, after all that is written of an array, where components have tables and all bits were sent.
pub image-closed : (array : Coefficients) (after at : List ℕ) (said : Said) (frame : WrittenFrame)
    (levels : ℕ → Levels) (fill : ℕ) → ((index row column : ℕ) → Is8Bit (array index row column))
    → WritesPart array (IsUpTo at) nothing_said (λ k. nothing_sent) after said levels → said.scanned ≡ true
    → AllByRecursion (HasTable said) frame.components → AllComplete frame levels → said.frame ≡ Some frame
    → at ≡ marker fill 217 [] → IsWhollyWritten (255 ∷ 216 ∷ after)
image-closed array after at said frame levels fill full part scanned tables complete framed closed = record {
  image = record {
    array = array;
    final = said;
    last = levels;
    written = record {
      after = after;
      starts = refl;
      written = onward array ClosesImage at nothing_said said said (λ k. nothing_sent) levels levels after part
          (end said levels at (record {
            frame = frame;
            fill = fill;
            is_said = framed;
            ended = (scanned, tables, λ e. complete);
            closed = closed;
          }));
    };
    in_range = full;
  };
  frame = frame;
  framed = framed;
  complete = complete;
}

-- EOI, where all components have scans.
pub part-closed : (after at : List ℕ) (said : Said) (frame : WrittenFrame) (sent : List Bool) (fill : ℕ)
    → ImagePart after at said frame sent → length sent ≡ length frame.components → 1 ≤ length sent
    → ((i : ℕ) → get_or sent i true ≡ true) → said.frame ≡ Some frame → at ≡ marker fill 217 []
    → IsWhollyWritten (255 ∷ 216 ∷ after)
part-closed after at said frame sent fill p sized some all framed closed =
    let scanned : said.scanned ≡ true =
    by_bool said.scanned (λ t. t) (λ f. absurd (false≢true (sym (p.unscanned f 0 some) ∙ all 0))) in
    let complete : AllComplete frame p.levels =
    in-range (λ k. IsComplete (p.levels k)) 0 (length frame.components)
    (λ k least below.
    subst (λ (l : Levels). IsComplete l)
    (sym (p.leveled k (omega (arith, below, sized)) ∙ ap level_of (all k))) whole-complete) in
    let tables : AllByRecursion (HasTable said) frame.components =
    all-from (HasTable said) frame.components
    (λ j c here. p.tabled j c (at-got j frame.components c here) (all j)) in
    image-closed p.array after at said frame p.levels fill p.in_range (own-part after at said frame sent p) scanned
    tables complete framed closed

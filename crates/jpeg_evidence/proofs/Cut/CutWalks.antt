-- A stream goes by the whole segments and scans in its front, with what they have said and sent.
use Rattle.std.proofs.Common.{rules, ◌≡◌, ◌<◌, ℕ, zero, suc, true, false, List, [], ◌++◌, length, append-nil}
use Rattle.std.proofs.Common.{Option, Some, None, Ok, refl, sym, ap, ◌∙◌, subst, arith, length-append}
use Rattle.std.specs.Prelude.{◌≢◌}
use Rattle.jpeg_bits.specs.Marker.{marker_of}
use Rattle.jpeg_bits.specs.Written.{marker}
use Rattle.jpeg_bits.specs.declared.marker.Marker.{Marker}
use Rattle.jpeg_bits.specs.declared.marker.Marker.TheVariants.{SOS}
use Rattle.jpeg_segments.specs.Checks.{needed}
use Rattle.jpeg_segments.specs.Frame.{Frame}
use Rattle.jpeg_segments.specs.ScanHeader.{Scan, sos_at}
use Rattle.jpeg_segments.specs.ScanHeaders.{IsScan, ScanHeader, scan_payload, scan_written}
use Rattle.jpeg_segments.specs.WrittenSegments.{Application, Comment, Header, Huffman, Interval, Quantization, Segment}
use Rattle.jpeg_segments.specs.WrittenSegments.{marker_code, payload_of, with_length}
use Rattle.jpeg_segments.specs.declared.frame.CodingProcess.{CodingProcess}
use Rattle.jpeg_segments.specs.declared.frame.CodingProcess.TheVariants.{Lossless}
use Rattle.jpeg_segments.proofs.HeaderSegments.{sos-read}
use Rattle.jpeg_meaning.specs.Brought.{blocks_brought, blocks_brought_by, brought_by, frame_and_scan, scan_brought}
use Rattle.jpeg_meaning.specs.Brought.{unbrought}
use Rattle.jpeg_meaning.specs.Found.{Found, Said}
use Rattle.jpeg_meaning.specs.Levels.{Is8Bit, Levels}
use Rattle.jpeg_meaning.specs.SaidSegments.{Stands, said_after}
use Rattle.jpeg_meaning.specs.Scans.{Arrays}
use Rattle.jpeg_meaning.specs.ScanSegments.{Coding, after_restarts, after_scan, codings_of, scan_before}
use Rattle.jpeg_meaning.specs.ScanSegments.{scan_turn}
use Rattle.jpeg_meaning.specs.Segments.{Turn, onward}
use Rattle.jpeg_meaning.specs.Stream.{Walked, brought_after, scan_turn_at, segment_at, turn_at, walk}
use Rattle.jpeg_meaning.specs.WrittenImages.{MayStandInImage, WritesImageScan}
use Rattle.jpeg_meaning.specs.WrittenScans.{Coefficients}
use Rattle.jpeg_meaning.specs.WrittenStreams.{Writes, end, scan, segment}
use Rattle.jpeg_meaning.specs.declared.before.Before.{Before}
use Rattle.jpeg_meaning.specs.declared.before.Before.TheVariants.{Elsewhere}
use Rattle.jpeg_bits.specs.declared.beyond.Beyond.TheVariants.{Nothing}
use Rattle.jpeg_meaning.proofs.Written.CodingsInForce.{codings-found}
use Rattle.jpeg_meaning.proofs.Partial.Faultless.{scan_of_codings}
use Rattle.jpeg_meaning.proofs.Pictures.DecodedHeaders.{stands-taken}
use Rattle.jpeg_meaning.proofs.Written.ReadTurns.{Begins, IsEnd, StandsAt, scan-by, then-ok, marker-begins, marker-longer}
use Rattle.jpeg_meaning.proofs.Written.ReadTurns.{marker-turn, marker_for, ok-same, same-turn, scan-tail, scan-turn}
use Rattle.jpeg_meaning.proofs.Written.ReadTurns.{segment-ends, segment-marker, segment-tail, segment-turn, stands-here}
use Rattle.jpeg_meaning.proofs.Written.ReadTurns.{stands-met, walk-on}
use Rattle.jpeg_meaning.proofs.Written.WalkedStreams.{IsSaid, beside, segment-said}
use Rattle.jpeg_meaning.proofs.Written.WrittenPictures.{Holds, IsDrawn, Progress, bring, drawn-said, image-read, known_scan}
use Rattle.jpeg_evidence.proofs.Cut.CutFrames.{scanned, whole-reached}
use Rattle.jpeg_meaning.proofs.Longer.LongerData.{both}
use Rattle.jpeg_meaning.proofs.Longer.LongerTurns.{by_header, scan_led}

-- ---- turns

-- the turn of a marker that is met or stands next
pub turn-next : (before : Before) (found : Found) (met : Option Marker) (all : List ℕ) (fill code : ℕ) (m : Marker)
    (rest : List ℕ) → StandsAt met all (marker fill code rest) → marker_of code ≡ Some m
    → turn_at Nothing before found met all ≡ brought_after Nothing m before found rest
turn-next before found met all fill code m rest at makes =
    at.turn Nothing before found ∙ marker-turn Nothing before found fill code m rest makes

-- a segment that is no scan
pub plain-brought : (s : Segment) (before : Before) (found : Found) (bytes : List ℕ)
    → brought_after Nothing (marker_for s) before found bytes
    ≡ unbrought found (segment_at (marker_for s) before found bytes)
unfolding brought_after
plain-brought (Quantization ts) before found bytes = refl
plain-brought (Huffman ts) before found bytes = refl
plain-brought (Interval n) before found bytes = refl
plain-brought (Application d) before found bytes = refl
plain-brought (Comment payload) before found bytes = refl
plain-brought (Header number h) before found bytes = refl

-- a segment's turn
pub segment-brings : (before : Before) (now : Found) (s : Segment) (met : Option Marker) (all : List ℕ) (fill : ℕ)
    (more : List ℕ) → Stands now.said s
    → StandsAt met all (marker fill (marker_code s) (with_length (payload_of s) ++ more))
    → (turn_at Nothing before now met all).turn ≡ Ok (onward (record now { said = said_after now.said s }), more)
segment-brings before now s met all fill more stands at =
    subst (λ (l : List ℕ). (turn_at Nothing before now met all).turn
    ≡ Ok (onward (record now { said = said_after now.said s }), l)) (append-nil more)
    (segment-turn Nothing before now s met all fill more [] stands.0 (stands-taken now.said s stands)
    (subst (StandsAt met all) (sym (append-nil (marker fill (marker_code s) (with_length (payload_of s) ++ more)))) at))

-- ---- a scan

lossy-brings : (process : CodingProcess) (found : Found) (f : Frame) (s : Scan) (bytes : List ℕ) → process ≢ Lossless
    → brought_by process found f s bytes ≡ blocks_brought found f s bytes
lossy-brings Lossless found f s bytes n = absurd (n refl)
lossy-brings process found f s bytes n = refl

header-is : (found : Found) (f : Frame) (s : Scan) (bytes rest : List ℕ) → found.said.frame ≡ Some f
    → sos_at f bytes ≡ Ok (s, rest) → frame_and_scan found bytes ≡ Ok (f, (s, rest))
header-is found f s bytes rest e h =
    then-ok (needed found.said.frame) _ f _ (ap needed e) (then-ok (sos_at f bytes) _ (s, rest) _ h refl)

header-brings : (found : Found) (f : Frame) (s : Scan) (bytes rest : List ℕ) → f.process ≢ Lossless
    → found.said.frame ≡ Some f → sos_at f bytes ≡ Ok (s, rest)
    → scan_brought found bytes ≡ blocks_brought found f s rest
unfolding scan_brought
header-brings found f s bytes rest n e h =
    ap (by_header found) (header-is found f s bytes rest e h) ∙ lossy-brings f.process found f s rest n

codings-bring : (found : Found) (f : Frame) (s : Scan) (codings : List Coding) (bytes : List ℕ)
    → codings_of found.said f s ≡ Ok codings
    → blocks_brought found f s bytes ≡ blocks_brought_by found f s codings bytes
unfolding blocks_brought
codings-bring found f s codings bytes e = rw (e, blocks_brought) refl

-- a scan of blocks, by its header and its tables
pub scan-brings : (found : Found) (f : Frame) (s : Scan) (codings : List Coding) (bytes rest : List ℕ)
    → f.process ≢ Lossless → found.said.frame ≡ Some f → sos_at f bytes ≡ Ok (s, rest)
    → codings_of found.said f s ≡ Ok codings → scan_brought found bytes ≡ blocks_brought_by found f s codings rest
scan-brings found f s codings bytes rest n e h is =
    header-brings found f s bytes rest n e h ∙ codings-bring found f s codings rest is

blocks-bring : (found : Found) (f : Frame) (s : Scan) (codings : List Coding) (bytes rest : List ℕ) (arrays : Arrays)
    (m : Marker)
    → both (scan_of_codings found f s codings bytes) ≡ (arrays, Ok (Some m, rest))
    → (blocks_brought_by found f s codings bytes).turn
    ≡ Ok (scan_turn found (after_scan found f s codings arrays) (Some m), rest)
unfolding blocks_brought_by
blocks-bring found f s codings bytes rest arrays m e = ap (scan_led found (after_scan found f s codings)) e

pub sos_code : marker_of 218 ≡ Some SOS
unfolding marker_of
sos_code = refl

-- the turn of a scan at its marker
pub scan-next : (before : Before) (found : Found) (met : Option Marker) (all : List ℕ) (fill : ℕ) (rest : List ℕ)
    → StandsAt met all (marker fill 218 rest) → turn_at Nothing before found met all ≡ scan_brought found rest
unfolding brought_after scan_turn_at
scan-next before found met all fill rest at = turn-next before found met all fill 218 SOS rest at sos_code

module _ (array : Coefficients) (range : (index row column : ℕ) → Is8Bit (array index row column)) where
  -- A whole scan is brought, up to the marker after it: what is held then, and what is found.
  pub record BringsScan (said : Said) (next : ℕ → Levels) (x : Progress) (h : ScanHeader) (bytes : List ℕ)
      : Type 0 where
    pub brought : Progress
    pub held : Holds array (record said { scanned = true }) next brought
    pub found : (fill code : ℕ) (m : Marker) (left : List ℕ) → marker_of code ≡ Some m → IsEnd m
        → (scan_brought (beside bring said x) (with_length (scan_payload h) ++ (bytes ++ marker fill code left))).turn
        ≡ Ok (
          scan_turn (beside bring said x) (beside bring (record said { scanned = true }) brought) (Some m),
          left,
        )

  scan-is_brought : (said : Said) (levels next : ℕ → Levels) (x : Progress) (f : Frame) (h : ScanHeader)
      (bytes : List ℕ) → IsSaid IsDrawn said → said.frame ≡ Some f → IsScan f h
      → WritesImageScan array said levels f h bytes next → Holds array said levels x
      → BringsScan said next x h bytes
  scan-is_brought said levels next x f h bytes is e written w held =
      let now = beside bring said x in
      let s = scan_written f h in
      let shape = (is.shaped f e).0 in
      let codings = codings-found said f s w.codings w.legal.are_in_force in
      let known = known_scan array range said levels next x f h bytes is e written w held in
      let b = scanned known in
      let r = (image-read array range).reads said levels next x f h bytes is e written w held in
      record {
        brought = r.brought;
        held = r.held;
        found = λ fill code m left makes ends.
            let data_bytes = bytes ++ marker fill code left in
            let reached = whole-reached known fill code m left (record { is = makes }) (ends (length left) left) in
            let read = scan-by now f s w.codings b.arrays m _ data_bytes left shape.lossy e
            (sos-read f h data_bytes written) codings (b.read fill code m left (record { is = makes }))
            (ends (length left) left) in
            let same : after_scan now f s w.codings b.arrays
            ≡ beside bring (record said { scanned = true }) r.brought
            = ap (λ (y : Turn × List ℕ). y.0.found) (ok-same _ _ (sym read ∙ r.found fill code m left makes ends)) in
            same-turn _ _ (scan-brings now f s w.codings _ data_bytes shape.lossy e (sos-read f h data_bytes written)
            codings)
            ∙ blocks-bring now f s w.codings data_bytes left b.arrays m reached
            ∙ ap (λ (y : Found). Ok (scan_turn now y (Some m), left)) same;
      }

  -- ---- the front

  front-begins : (said next : Said) (levels reached : ℕ → Levels) (front rest : List ℕ)
      → Writes MayStandInImage (WritesImageScan array) (λ said sent bytes. bytes ≡ []) said levels front next reached
      → Begins rest → Begins (front ++ rest)
  unfolding marker_of after_restarts
  front-begins said next levels reached front rest (end said' sent' bytes' none) b =
      subst (λ (l : List ℕ). Begins (l ++ rest)) (sym none) b
  front-begins said next levels reached front rest (segment said' final' sent' last' fill s more stands allowed w) b =
      search (rules, marker-begins, marker_for, segment-marker, stands, segment-ends)
  front-begins said next levels reached front rest
      (scan said' final' sent' between last' f fill h data_bytes more framed is sends w) b =
      marker-begins fill 218 SOS _ rest refl (λ turns bytes. refl)

  -- A walk is at the bytes after the front: so much is said and held, and the walk goes on so.
  pub record IsPast (next : Said) (reached : ℕ → Levels) (rest : List ℕ) (w : Walked) : Type 0 where
    pub brought : Progress
    pub said : IsSaid IsDrawn next
    pub held : Holds array next reached brought
    pub turns : ℕ
    pub before : Before
    pub met : Option Marker
    pub all : List ℕ
    pub at : StandsAt met all rest
    pub goes_on : w ≡ walk None Nothing (suc turns) false before (beside bring next brought) met all

  -- A walk comes by the whole segments and scans of an image that stand in front of a marker.
  pub front-walked : (said next : Said) (levels reached : ℕ → Levels) (front rest : List ℕ) (x : Progress)
      (turns : ℕ) (before : Before) (met : Option Marker) (all : List ℕ)
      → Writes MayStandInImage (WritesImageScan array) (λ said sent bytes. bytes ≡ []) said levels front next reached
      → Begins rest → IsSaid IsDrawn said → Holds array said levels x → StandsAt met all (front ++ rest)
      → length (front ++ rest) < turns
      → IsPast next reached rest (walk None Nothing turns false before (beside bring said x) met all)
  unfolding scan_turn_at
  front-walked said next levels reached front rest x zero before met all w b is held at room = absurd (omega arith)
  front-walked said next levels reached front rest x (suc turns) before met all (end said' sent' bytes' none) b is held at
      room =
      record {
        brought = x;
        said = is;
        held = held;
        turns = turns;
        before = before;
        met = met;
        all = all;
        at = subst (λ (l : List ℕ). StandsAt met all (l ++ rest)) none at;
        goes_on = refl;
      }
  front-walked said next levels reached front rest x (suc turns) before met all
      (segment said' final' sent' last' fill s more stands allowed w) b is held at room =
      let payload = with_length (payload_of s) in
      let now = beside bring said x in
      let r = front-walked (said_after said s) next levels reached more rest x turns Elsewhere None (more ++ rest) w b
      (segment-said MayStandInImage IsDrawn drawn-said said s stands allowed is)
      ((image-read array range).holds said levels x s stands allowed held) (stands-here (more ++ rest))
      (marker-longer fill (marker_code s) turns payload (more ++ rest)
      (subst (λ (l : List ℕ). length l < suc turns) (segment-tail fill (marker_code s) payload more rest) room)) in
      subst (IsPast next reached rest) (sym (walk-on None Nothing turns false before now met all (more ++ rest)
      (onward (beside bring (said_after said s) x)) refl
      (segment-turn Nothing before now s met all fill more rest stands.0 (stands-taken said s stands) at) refl)) r
  front-walked said next levels reached front rest x (suc turns) before met all
      (scan said' final' sent' between last' f fill h data_bytes more framed is_scan sends w) b is held at room =
      let header = with_length (scan_payload h) in
      let now = beside bring said x in
      let later = record said { scanned = true } in
      let n = front-begins later next between reached more rest w b in
      let c = scan-is_brought said levels between x f h data_bytes is framed is_scan sends held in
      let r = front-walked later next between reached more rest c.brought turns (scan_before now) (Some n.m) n.after w b
      (record { tables = is.tables; shaped = is.shaped }) c.held
      (subst (StandsAt (Some n.m) n.after) (sym n.is) (stands-met n.fill n.code n.m n.after n.makes))
      (let l = marker-longer fill 218 turns header (data_bytes ++ (more ++ rest))
      (subst (λ (l : List ℕ). length l < suc turns) (scan-tail fill 218 header data_bytes more rest) room) in
      let k = length-append data_bytes (more ++ rest) in
      omega arith) in
      subst (IsPast next reached rest) (sym (walk-on None Nothing turns false before now met all n.after
      (scan_turn now (beside bring later c.brought) (Some n.m)) refl
      (same-turn _ _ (at.turn Nothing before now ∙ scan-turn Nothing before now fill header data_bytes more rest
      ∙ ap (λ (l : List ℕ). scan_turn_at Nothing now (header ++ (data_bytes ++ l))) n.is)
      ∙ c.found n.fill n.code n.m n.after n.makes n.ends) refl)) r

-- A stream of a writer that is cut brings what was said and sent up to the cut.
use Rattle.std.proofs.Common.{append-nil, [], subst, ◌≡◌, ℕ, suc, false, List, ◌++◌, length}
use Rattle.std.proofs.Common.{Option, Some, None, Err, refl, sym, ap, ◌∙◌, arith}
use Rattle.std.specs.Prelude.{option_map}
use Rattle.jpeg_bits.specs.Marker.{marker_of}
use Rattle.jpeg_bits.specs.Reading.{◌>>=◌, End, Outcome}
use Rattle.jpeg_bits.specs.Written.{marker}
use Rattle.jpeg_bits.specs.declared.marker.Marker.{Marker}
use Rattle.jpeg_bits.specs.declared.marker.Marker.TheVariants.{SOS}
use Rattle.jpeg_segments.specs.Checks.{needed}
use Rattle.jpeg_segments.specs.ScanHeader.{sos_at, Scan}
use Rattle.jpeg_segments.specs.Frame.{Frame}
use Rattle.jpeg_segments.specs.ScanHeaders.{IsScan, ScanHeader, scan_payload, scan_written}
use Rattle.jpeg_segments.specs.WrittenSegments.{with_length, Segment, marker_code, payload_of}
use Rattle.jpeg_segments.proofs.HeaderSegments.{sos-read}
use Rattle.jpeg_meaning.specs.Brought.{BlocksTo, Brought, blocks_brought_by, scan_brought, unbrought}
use Rattle.jpeg_meaning.proofs.Written.ReadTurns.{Begins, IsEnd, marker-turn, marker_for, same-turn}
use Rattle.jpeg_meaning.proofs.Written.ReadTurns.{refused_walk, segment-ends, segment-marker, stands-here, then-ok}
use Rattle.jpeg_meaning.proofs.Written.ReadTurns.{walk-refused}
use Rattle.jpeg_meaning.specs.declared.before.Before.{Before}
use Rattle.jpeg_meaning.specs.declared.before.Before.TheVariants.{Elsewhere}
use Rattle.jpeg_bits.specs.declared.beyond.Beyond.TheVariants.{Nothing}
use Rattle.jpeg_meaning.specs.Found.{Found, Said, nothing_found, nothing_said}
use Rattle.jpeg_meaning.specs.Levels.{Is8Bit, Levels, nothing_sent}
use Rattle.jpeg_meaning.specs.ScanSegments.{Coding, after_restarts, after_scan, components_of, pass_of}
use Rattle.jpeg_meaning.specs.WholeRows.{rows_above}
use Rattle.jpeg_meaning.specs.WrittenImages.{WritesImageScan}
use Rattle.jpeg_meaning.specs.WrittenScans.{Coefficients}
use Rattle.jpeg_meaning.proofs.Order.Apart.{get-at}
use Rattle.jpeg_meaning.proofs.Partial.Faultless.{scan_of_codings}
use Rattle.jpeg_meaning.proofs.Written.CodingsInForce.{codings-found}
use Rattle.jpeg_meaning.proofs.Written.WalkedStreams.{beside, nothing-said}
use Rattle.jpeg_meaning.proofs.Written.BroughtLevels.{KnownScan}
use Rattle.jpeg_meaning.proofs.Written.WrittenPictures.{IsDrawn, bring, framed-now, holds-nothing, known_scan, no_progress}
use Rattle.jpeg_meaning.specs.SaidSegments.{Stands, said_after}
use Rattle.jpeg_meaning.specs.Segments.{Turn, onward}
use Rattle.jpeg_meaning.specs.Stream.{Walked, all_brought, segment_at, turn_at, walk}
use Rattle.jpeg_evidence.proofs.Cut.CutWalks.{IsPast, front-walked, plain-brought, scan-brings, scan-next, segment-brings}
use Rattle.jpeg_evidence.proofs.Cut.CutWalks.{sos_code, turn-next}
use Rattle.jpeg_meaning.proofs.Longer.LongerSegments.{short-ends, sos-stays}
use Rattle.jpeg_evidence.specs.CutImages.{BringsCut, BringsFront, WritesFront}
use Rattle.jpeg_evidence.specs.FirstBlocks.{StandWhole}
use Rattle.jpeg_meaning.specs.LongerStreams.{IsMost}
use Rattle.jpeg_meaning.proofs.Longer.LongerTurns.{by_header, scan_led, segment-stays, with_frame}
use Rattle.jpeg_evidence.proofs.Cut.CutFrames.{cut-own, cut-stops, reached_of, scan-cut}

-- what a scan brings that stops
abbrev stopped : Found → Frame → Scan → List Coding → BlocksTo (Option Marker) → Outcome Turn → Brought
stopped found f s codings r turn = record {
  found = after_scan found f s codings r.reached;
  rows = option_map (rows_above f (components_of codings)) r.unread;
  turn = turn;
}

blocks-stop : (found : Found) (f : Frame) (s : Scan) (codings : List Coding) (bytes : List ℕ)
    → (scan_of_codings found f s codings bytes).rest ≡ Err End
    → blocks_brought_by found f s codings bytes
    ≡ stopped found f s codings (scan_of_codings found f s codings bytes) (Err End)
unfolding blocks_brought_by
blocks-stop found f s codings bytes h =
    let r = scan_of_codings found f s codings bytes in
    ap (λ (o : Outcome (Option Marker)).
    stopped found f s codings r (scan_led found (after_scan found f s codings) (r.reached, o))) h

pub begins-marker : (fill code : ℕ) (m : Marker) (rest : List ℕ) → marker_of code ≡ Some m → IsEnd m
    → Begins (marker fill code rest)
begins-marker fill code m rest makes ends =
    record { fill = fill; code = code; m = m; after = rest; is = refl; makes = makes; ends = ends }

pub begins-scan : (fill : ℕ) (rest : List ℕ) → Begins (marker fill 218 rest)
unfolding after_restarts
begins-scan fill rest = begins-marker fill 218 SOS rest sos_code (λ turns bytes. refl)

pub unscanned : nothing_said.scanned ≡ false
unfolding nothing_said
unscanned = refl

pub found-nothing : beside bring nothing_said no_progress ≡ nothing_found
unfolding nothing_found
found-nothing = refl

-- ---- a cut within a segment that is no scan

pub begins-segment : (fill : ℕ) (said : Said) (s : Segment) (rest : List ℕ) → Stands said s
    → Begins (marker fill (marker_code s) rest)
begins-segment fill said s rest stands =
    begins-marker fill (marker_code s) (marker_for s) rest (segment-marker said.frame s stands.0) (segment-ends s)

-- a segment that isn't there whole ends
segment-stops : (before : Before) (now : Found) (s : Segment) (part more : List ℕ) → Stands now.said s
    → with_length (payload_of s) ≡ part ++ more → (more ≡ [] → ⊥)
    → segment_at (marker_for s) before now part ≡ Err End
segment-stops before now s part more stands parts some =
    let m = marker_for s in
    let payload = with_length (payload_of s) in
    let all = marker 0 (marker_code s) (payload ++ []) in
    let whole = same-turn _ _ (sym (marker-turn Nothing before now 0 (marker_code s) m (payload ++ [])
    (segment-marker now.said.frame s stands.0) ∙ plain-brought s before now (payload ++ [])))
    ∙ segment-brings before now s None all 0 [] stands (stands-here all) in
    short-ends more _ _ (onward (record now { said = said_after now.said s })) (segment-stays more m before now part)
    (ap (segment_at m before now) (sym parts ∙ sym (append-nil payload)) ∙ whole) some

-- ---- a cut within the header of a scan

header-stops : (found : Found) (f : Frame) (h : ScanHeader) (part more : List ℕ) → found.said.frame ≡ Some f
    → IsScan f h → with_length (scan_payload h) ≡ part ++ more → (more ≡ [] → ⊥)
    → scan_brought found part ≡ unbrought found (Err End)
unfolding scan_brought
header-stops found f h part more e written parts some =
    let short = short-ends more _ _ (scan_written f h) (sos-stays more f part)
    (ap (sos_at f) (sym parts ∙ sym (append-nil (with_length (scan_payload h)))) ∙ sos-read f h [] written) some in
    ap (by_header found) (then-ok (needed found.said.frame) _ f (Err End) (ap needed e)
    (ap (λ (o : Outcome Scan). o >>= with_frame f) short))

-- ---- what is found of a stream that is cut

-- A walk at whose end the bytes end has found this, and these rows of a scan are whole.
pub record EndsSo (w : Walked) (found : Found) (rows : Option ℕ) : Type 0 where
  pub found_is : w.found ≡ found
  pub rows_are : w.rows ≡ rows
  pub rest_is : w.rest ≡ Err End

module _ (array : Coefficients) (range : (index row column : ℕ) → Is8Bit (array index row column)) where
  -- A walk comes by the whole segments and scans in the front of a stream.
  pub past-of : (said : Said) (levels : ℕ → Levels) (first rest : List ℕ) → WritesFront array said levels first
      → Begins rest → IsPast array range said levels rest (all_brought None nothing_found (first ++ rest))
  past-of said levels first rest w b =
      subst (λ (f : Found). IsPast array range said levels rest
      (walk None Nothing (suc (length (first ++ rest))) false Elsewhere f None (first ++ rest))) found-nothing
      (front-walked array range nothing_said said (λ k. nothing_sent) levels first rest no_progress
      (suc (length (first ++ rest))) Elsewhere None (first ++ rest) w b (nothing-said IsDrawn)
      (holds-nothing array nothing_said unscanned) (stands-here (first ++ rest)) (omega arith))

  -- what is found where the bytes end in the turn that comes next
  past-end : (said : Said) (levels : ℕ → Levels) (rest : List ℕ) (w : Walked)
      (past : IsPast array range said levels rest w) (b : Brought)
      → turn_at Nothing past.before (beside bring said past.brought) past.met past.all ≡ b → b.turn ≡ Err End
      → EndsSo w b.found b.rows
  past-end said levels rest w past b e fault =
      let stops = past.goes_on ∙ walk-refused None Nothing past.turns false past.before (beside bring said past.brought)
      past.met past.all End refl (same-turn _ _ e ∙ fault) ∙ ap (λ (y : Brought). refused_walk false y End) e in
      record {
        found_is = ap (λ (y : Walked). y.found) stops;
        rows_are = ap (λ (y : Walked). y.rows) stops;
        rest_is = ap (λ (y : Walked). y.rest) stops;
      }

  -- what is found where the data of a scan end, and which rows of the scan are whole
  pub scan-past : (said : Said) (levels : ℕ → Levels) (frame : Frame) (fill : ℕ) (h : ScanHeader)
      (codings : List Coding) (bytes front : List ℕ) (w : Walked)
      (past : IsPast array range said levels (marker fill 218 (with_length (scan_payload h) ++ front)) w)
      (known : KnownScan said frame array levels said.scanned past.brought (scan_written frame h) codings bytes)
      → said.frame ≡ Some frame → IsScan frame h → (reached_of known front).rest ≡ Err End
      → EndsSo w
      (after_scan (beside bring said past.brought) frame (scan_written frame h) codings
      (reached_of known front).reached)
      (option_map (rows_above frame (components_of codings)) (reached_of known front).unread)
  scan-past said levels frame fill h codings bytes front w past known e written short =
      let rest = with_length (scan_payload h) ++ front in
      let now = beside bring said past.brought in
      let s = scan_written frame h in
      past-end said levels (marker fill 218 rest) w past
      (stopped now frame s codings (reached_of known front) (Err End))
      (scan-next past.before now past.met past.all fill rest past.at
      ∙ scan-brings now frame s codings rest front known.shape.lossy e (sos-read frame h front written)
      (codings-found said frame s codings known.legal.are_in_force)
      ∙ blocks-stop now frame s codings front short) refl

  -- what is found where a segment ends: no scan lacks rows
  pub segment-past : (said : Said) (levels : ℕ → Levels) (fill : ℕ) (s : Segment) (part more : List ℕ) (w : Walked)
      (past : IsPast array range said levels (marker fill (marker_code s) part) w)
      → Stands said s → with_length (payload_of s) ≡ part ++ more → (more ≡ [] → ⊥)
      → EndsSo w (beside bring said past.brought) None
  segment-past said levels fill s part more w past stands parts some =
      let now = beside bring said past.brought in
      past-end said levels (marker fill (marker_code s) part) w past (unbrought now (Err End))
      (turn-next past.before now past.met past.all fill (marker_code s) (marker_for s) part past.at
      (segment-marker said.frame s stands.0)
      ∙ plain-brought s past.before now part
      ∙ ap (unbrought now) (segment-stops past.before now s part more stands parts some)) refl

  -- and where the header of a scan ends
  pub header-past : (said : Said) (levels : ℕ → Levels) (frame : Frame) (fill : ℕ) (h : ScanHeader)
      (part more : List ℕ) (w : Walked)
      (past : IsPast array range said levels (marker fill 218 part) w)
      → said.frame ≡ Some frame → IsScan frame h → with_length (scan_payload h) ≡ part ++ more → (more ≡ [] → ⊥)
      → EndsSo w (beside bring said past.brought) None
  header-past said levels frame fill h part more w past e written parts some =
      let now = beside bring said past.brought in
      past-end said levels (marker fill 218 part) w past (unbrought now (Err End))
      (scan-next past.before now past.met past.all fill part past.at
      ∙ header-stops now frame h part more e written parts some) refl

  -- where that is all that is found
  front-brought : (said : Said) (levels : ℕ → Levels) (rest : List ℕ) (w : Walked)
      (past : IsPast array range said levels rest w) → w.found ≡ beside bring said past.brought
      → BringsFront array said levels w.found
  front-brought said levels rest w past same = subst (BringsFront array said levels) (sym same) (record {
    is_said = refl;
    keeps = λ frame e. record {
      kept = λ p k c index t own.
          (((framed-now array range said levels past.brought frame past.held e).kept p).each k c
          (get-at k frame.components c t)).each index own;
    };
  })

-- What is brought of a stream that is cut within the data of a scan.
pub cut_images_bring_what_was_sent : (array : Coefficients) (said : Said) (levels next : ℕ → Levels) (frame : Frame)
    (first front more : List ℕ) (fill : ℕ) (h : ScanHeader)
    → ((index row column : ℕ) → Is8Bit (array index row column)) → WritesFront array said levels first
    → said.frame ≡ Some frame → IsScan frame h
    → (sends : WritesImageScan array said levels frame h (front ++ more) next)
    → (has : BringsCut array said levels frame (scan_written frame h) sends.codings
    (all_brought None nothing_found (first ++ marker fill 218 (with_length (scan_payload h) ++ front))).found)
    × IsMost (λ count. StandWhole frame said.restart (pass_of (scan_written frame h)) sends.codings sends.written.sent
    count front) (length has.done)
cut_images_bring_what_was_sent array said levels next frame first front more fill h range w e written sends =
    let rest = with_length (scan_payload h) ++ front in
    let past = past-of array range said levels first (marker fill 218 rest) w (begins-scan fill rest) in
    let known = known_scan array range said levels next past.brought frame h (front ++ more) past.said e written sends
    past.held in
    let sent = scan-cut known front more refl in
    let own = cut-own known front more refl in (
      record {
        before = beside bring said past.brought;
        blocks = (reached_of known front).reached;
        done = sent.holds.done;
        others = sent.holds.others;
        is_said = refl;
        before_scan = record {
          kept = λ p k c index t own.
              ((known.framed.kept p).each k c (get-at k frame.components c t)).each index own;
        };
        brought = (scan-past array range said levels frame fill h sends.codings (front ++ more) front
            (all_brought None nothing_found (first ++ marker fill 218 rest)) past known e written
            (cut-stops known front more refl)).found_is;
        parts = sent.holds.parts;
        sent = λ y k t is here. own.sent k y (get-at y.slot sends.codings k t) is here;
        kept = λ y k t is away. own.kept k y (get-at y.slot sends.codings k t) is away;
      },
      sent.most,
    )

-- What is brought of a stream that is cut within a segment, or right after its marker.
pub cut_segments_add_nothing : (array : Coefficients) (said : Said) (levels : ℕ → Levels) (first part more : List ℕ)
    (fill : ℕ) (s : Segment) → ((index row column : ℕ) → Is8Bit (array index row column))
    → WritesFront array said levels first → Stands said s → with_length (payload_of s) ≡ part ++ more
    → (more ≡ [] → ⊥)
    → BringsFront array said levels (all_brought None nothing_found (first ++ marker fill (marker_code s) part)).found
cut_segments_add_nothing array said levels first part more fill s range w stands parts some =
    let rest = marker fill (marker_code s) part in
    let walked = all_brought None nothing_found (first ++ rest) in
    let past = past-of array range said levels first rest w (begins-segment fill said s part stands) in
    front-brought array range said levels rest walked past
    (segment-past array range said levels fill s part more walked past stands parts some).found_is

-- What is brought of a stream that is cut within the header of a scan, or right after its marker.
pub cut_headers_add_nothing : (array : Coefficients) (said : Said) (levels : ℕ → Levels) (frame : Frame)
    (first part more : List ℕ) (fill : ℕ) (h : ScanHeader) → ((index row column : ℕ) → Is8Bit (array index row column))
    → WritesFront array said levels first → said.frame ≡ Some frame → IsScan frame h
    → with_length (scan_payload h) ≡ part ++ more → (more ≡ [] → ⊥)
    → BringsFront array said levels (all_brought None nothing_found (first ++ marker fill 218 part)).found
cut_headers_add_nothing array said levels frame first part more fill h range w e written parts some =
    let rest = marker fill 218 part in
    let walked = all_brought None nothing_found (first ++ rest) in
    let past = past-of array range said levels first rest w (begins-scan fill part) in
    front-brought array range said levels rest walked past
    (header-past array range said levels frame fill h part more walked past e written parts some).found_is

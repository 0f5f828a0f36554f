-- Where a written image is cut, what was found holds an image of which each block was sent at levels of its own.
use Rattle.std.proofs.Common.{◌≡◌, ℕ, suc, false, true, List, [], ◌++◌, length, replicate, Option, Some, None, Ok, Err, refl}
use Rattle.std.proofs.Common.{sym, ap, ◌∙◌, subst, is_some}
use Rattle.std.specs.Prelude.{option_map, unwrap_or}
use Rattle.jpeg_bits.specs.Reading.{End, Malformed}
use Rattle.jpeg_bits.specs.declared.marker.Marker.{Marker}
use Rattle.jpeg_bits.specs.Written.{marker}
use Rattle.jpeg_bits.specs.declared.marker.Marker.TheVariants.{EOI}
use Rattle.jpeg_segments.specs.Frame.{Frame}
use Rattle.jpeg_segments.specs.ScanHeaders.{IsScan, ScanHeader, scan_payload, scan_written}
use Rattle.jpeg_segments.specs.WrittenSegments.{Segment, marker_code, payload_of, with_length}
use Rattle.jpeg_segments.proofs.Fields.{kept}
use Rattle.jpeg_meaning.specs.ArrayPictures.{as_sent}
use Rattle.jpeg_meaning.specs.Found.{Found, Said, nothing_found, nothing_said}
use Rattle.jpeg_meaning.specs.Levels.{Is8Bit, Levels, nothing_sent}
use Rattle.jpeg_meaning.specs.SaidSegments.{Stands, said_after}
use Rattle.jpeg_meaning.specs.Scans.{Arrays}
use Rattle.jpeg_meaning.specs.ScanSegments.{after_restarts, after_scan, components_of}
use Rattle.jpeg_meaning.specs.Segments.{Turn, onward}
use Rattle.jpeg_meaning.specs.Stream.{Walked, all_brought, brought_after, end_segment, segment_at, turn_at}
use Rattle.jpeg_meaning.specs.WholeRows.{rows_above}
use Rattle.jpeg_meaning.specs.WrittenImages.{MayStandInImage, WritesImageScan}
use Rattle.jpeg_meaning.specs.WrittenScans.{Coefficients}
use Rattle.jpeg_meaning.specs.WrittenStreams.{end}
use Rattle.jpeg_meaning.specs.declared.before.Before.{Before}
use Rattle.jpeg_meaning.specs.declared.before.Before.TheVariants.{Elsewhere}
use Rattle.jpeg_meaning.proofs.Written.BroughtLevels.{AfterScan, Framed}
use Rattle.jpeg_meaning.proofs.Written.ReadTurns.{Begins, StandsAt, same-frame, same-turn, walk-end, walk-on}
use Rattle.jpeg_meaning.proofs.Written.WalkedStreams.{IsSaid, beside, nothing-said, segment-said}
use Rattle.jpeg_meaning.proofs.Written.WrittenPictures.{Holds, IsDrawn, Progress, bring, drawn-said, framed-now, framed-same}
use Rattle.jpeg_meaning.proofs.Written.WrittenPictures.{holds-nothing, image-read, known_scan, no_progress}
use Rattle.jpeg_evidence.specs.CutImages.{HasRows, HoldsCut, IsPartOfNext, WritesFront, in_segment, of_end}
use Rattle.jpeg_evidence.specs.CutImages.{of_header, of_marker}
use Rattle.jpeg_evidence.specs.CutImages.{of_segment}
use Rattle.jpeg_evidence.proofs.Cut.CutFrames.{filled-stops, reached_of, scanned, whole-filled, whole-unread}
use Rattle.jpeg_evidence.proofs.Cut.CutFronts.{Unmixed, all-or-none, front-unmixed, walk-filled}
use Rattle.jpeg_evidence.proofs.Cut.CutPictures.{AllOrNone}
use Rattle.jpeg_evidence.proofs.Cut.CutScans.{begins-marker, begins-scan, begins-segment, found-nothing, header-past}
use Rattle.jpeg_evidence.proofs.Cut.CutRows.{has-rows}
use Rattle.jpeg_evidence.proofs.Cut.CutScans.{past-of, scan-past, segment-past, unscanned}
use Rattle.jpeg_evidence.proofs.Cut.CutWalks.{segment-brings, turn-next}
use Rattle.jpeg_evidence.proofs.Cut.WrittenCuts.{eoi_code}
use Rattle.jpeg_meaning.specs.Shown.{rows_of_found}
use Rattle.jpeg_bits.specs.declared.beyond.Beyond.TheVariants.{Nothing}

-- ---- the end of an image

pub begins-end : (fill : ℕ) (rest : List ℕ) → Begins (marker fill 217 rest)
unfolding after_restarts
begins-end fill rest = begins-marker fill 217 EOI rest eoi_code (λ turns bytes. refl)

abbrev pub last_turn : Found → Turn
last_turn found = record { found = found; before = Elsewhere; met = None; ended = true }

end-brings : (before : Before) (found : Found) (rest : List ℕ) → is_some found.said.frame ≡ true
    → (brought_after Nothing EOI before found rest).turn ≡ Ok (last_turn found, rest)
unfolding brought_after segment_at end_segment
end-brings before found rest some = kept (is_some found.said.frame) _ (Err Malformed) some

-- the turn of an EOI that is met or stands next
pub end-next : (before : Before) (found : Found) (met : Option Marker) (all : List ℕ) (fill : ℕ) (rest : List ℕ)
    → is_some found.said.frame ≡ true → StandsAt met all (marker fill 217 rest)
    → (turn_at Nothing before found met all).turn ≡ Ok (last_turn found, rest)
end-next before found met all fill rest some at =
    same-turn _ _ (turn-next before found met all fill 217 EOI rest at eoi_code) ∙ end-brings before found rest some

-- ---- what is held

module _ (array : Coefficients) (range : (index row column : ℕ) → Is8Bit (array index row column)) where
  -- What a walk has found holds an image of which each block was sent at levels of its own, and a scan that it stops in
  -- says how many rows are whole. Where there are more bytes, it stops at the end of these.
  pub record Ended (part more : List ℕ) (w : Walked) : Type 0 where
    pub said : Said
    pub levels : ℕ → Levels
    pub image : Coefficients
    pub brought : Progress
    pub found : w.found ≡ beside bring said brought
    pub is : IsSaid IsDrawn said
    pub framed : (f : Frame) → said.frame ≡ Some f
        → Framed said f image levels said.scanned brought.0 brought.1 brought.2
    pub counts : (index row column : ℕ) → length (image index row column).acs ≡ 63
    pub whole : (f : Frame) → said.frame ≡ Some f → AllOrNone f levels
    pub holds : HoldsCut array (as_sent image levels) part said (rows_of_found w.rows w.found)
    pub ends : (more ≡ [] → ⊥) → w.rest ≡ Err End

  -- the rows that are whole
  rows-found : (w : Walked) (said : Said) (image : Coefficients) (levels : ℕ → Levels) (x : Progress)
      (above : Frame → ℕ) → w.found ≡ beside bring said x → Unmixed said levels → IsSaid IsDrawn said
      → ((f : Frame) → said.frame ≡ Some f → Framed said f image levels said.scanned x.0 x.1 x.2)
      → ((f : Frame) → said.frame ≡ Some f → unwrap_or w.rows f.output_height ≡ above f)
      → HasRows said levels above (rows_of_found w.rows w.found)
  rows-found w said image levels x above found u is framed are =
      subst (λ (g : Found). HasRows said levels above (rows_of_found w.rows g)) (sym found)
      (has-rows said image levels x u (λ f e. (is.shaped f e).0) framed w.rows above are)

  -- by whole segments and scans
  by-front : (part more : List ℕ) (w : Walked) (first rest : List ℕ) (said : Said) (levels : ℕ → Levels) (x : Progress)
      → first ++ rest ≡ part → WritesFront array said levels first → IsPartOfNext said rest → IsSaid IsDrawn said
      → Holds array said levels x → w.found ≡ beside bring said x → w.rows ≡ None
      → ((more ≡ [] → ⊥) → w.rest ≡ Err End) → Ended part more w
  by-front part more w first rest said levels x parts front short is held found none ends =
      let u = front-unmixed array said levels first front in
      let has = rows-found w said array levels x (λ f. f.output_height) found u is
      (λ f e. framed-now array range said levels x f held e)
      (λ f e. ap (λ (o : Option ℕ). unwrap_or o f.output_height) none) in
      record {
        said = said;
        levels = levels;
        image = array;
        brought = x;
        found = found;
        is = is;
        framed = λ f e. framed-now array range said levels x f held e;
        counts = λ index row column. (range index row column).count;
        whole = λ f e. all-or-none said levels f u e;
        holds = subst (λ (p : List ℕ). HoldsCut array (as_sent array levels) p said (rows_of_found w.rows w.found))
            parts (in_segment first rest said levels (rows_of_found w.rows w.found) front short
            (λ index row column. refl) has);
        ends = ends;
      }

  -- ---- cut at a marker or a segment

  -- what is found where a stream is cut
  abbrev pub EndedAt : List ℕ → List ℕ → Type 0
  EndedAt part more = Ended part more (all_brought None nothing_found part)

  pub nothing-there : (j : ℕ) (more : List ℕ) → EndedAt (replicate j 255) more
  nothing-there j more =
      let walk = walk-filled (suc (length (replicate j 255))) Elsewhere nothing_found j in
      by-front (replicate j 255) more (all_brought None nothing_found (replicate j 255)) [] (replicate j 255)
      nothing_said
      (λ k. nothing_sent) no_progress refl (end nothing_said (λ k. nothing_sent) [] refl) (of_marker j)
      (nothing-said IsDrawn) (holds-nothing array nothing_said unscanned)
      (ap (λ (y : Walked). y.found) walk ∙ sym found-nothing) (ap (λ (y : Walked). y.rows) walk)
      (λ some. ap (λ (y : Walked). y.rest) walk)

  -- a whole segment, and bytes FF
  pub segment-filled : (said : Said) (levels : ℕ → Levels) (first more : List ℕ) (fill : ℕ) (s : Segment) (j : ℕ)
      → WritesFront array said levels first → Stands said s → MayStandInImage said s
      → (part : List ℕ) → part ≡ first ++ marker fill (marker_code s) (with_length (payload_of s) ++ replicate j 255)
      → (next : List ℕ) → next ++ replicate j 255 ≡ part → WritesFront array (said_after said s) levels next
      → EndedAt part more
  segment-filled said levels first more fill s j w stands allowed part is next parts whole =
      let payload = with_length (payload_of s) in
      let rest = marker fill (marker_code s) (payload ++ replicate j 255) in
      let past = past-of array range said levels first rest w
      (begins-segment fill said s (payload ++ replicate j 255) stands) in
      let now = beside bring said past.brought in
      let later = beside bring (said_after said s) past.brought in
      let ends = ap (all_brought None nothing_found) is ∙ past.goes_on
      ∙ walk-on None Nothing past.turns false past.before now past.met past.all (replicate j 255) (onward later) refl
      (segment-brings past.before now s past.met past.all fill (replicate j 255) stands past.at) refl
      ∙ walk-filled past.turns Elsewhere later j in
      by-front part more (all_brought None nothing_found part) next (replicate j 255) (said_after said s) levels
      past.brought
      parts whole (of_marker j) (segment-said MayStandInImage IsDrawn drawn-said said s stands allowed past.said)
      ((image-read array range).holds said levels past.brought s stands allowed past.held)
      (ap (λ (y : Walked). y.found) ends) (ap (λ (y : Walked). y.rows) ends) (λ some. ap (λ (y : Walked). y.rest) ends)

  -- a part of a segment
  pub segment-cut : (said : Said) (levels : ℕ → Levels) (first : List ℕ) (fill : ℕ) (s : Segment)
      (part left more : List ℕ) → WritesFront array said levels first → Stands said s
      → with_length (payload_of s) ≡ part ++ left → (left ≡ [] → ⊥)
      → EndedAt (first ++ marker fill (marker_code s) part) more
  segment-cut said levels first fill s part left more w stands parts some =
      let rest = marker fill (marker_code s) part in
      let past = past-of array range said levels first rest w (begins-segment fill said s part stands) in
      let e = segment-past array range said levels fill s part left
      (all_brought None nothing_found (first ++ rest)) past
      stands parts some in
      by-front (first ++ rest) more (all_brought None nothing_found (first ++ rest)) first rest said levels past.brought
      refl w (of_segment fill s part left stands parts some) past.said past.held e.found_is e.rows_are
      (λ some. e.rest_is)

  -- a part of a scan's header
  pub header-cut : (said : Said) (levels : ℕ → Levels) (frame : Frame) (first : List ℕ) (fill : ℕ) (h : ScanHeader)
      (part left more : List ℕ) → WritesFront array said levels first → said.frame ≡ Some frame → IsScan frame h
      → with_length (scan_payload h) ≡ part ++ left → (left ≡ [] → ⊥)
      → EndedAt (first ++ marker fill 218 part) more
  header-cut said levels frame first fill h part left more w e written parts some =
      let rest = marker fill 218 part in
      let past = past-of array range said levels first rest w (begins-scan fill part) in
      let ends = header-past array range said levels frame fill h part left
      (all_brought None nothing_found (first ++ rest))
      past e written parts some in
      by-front (first ++ rest) more (all_brought None nothing_found (first ++ rest)) first rest said levels past.brought
      refl w (of_header frame fill h part left e written parts some) past.said past.held ends.found_is ends.rows_are
      (λ some. ends.rest_is)

  -- the end of the image
  pub end-there : (said : Said) (levels : ℕ → Levels) (frame : Frame) (first : List ℕ) (fill : ℕ)
      → WritesFront array said levels first → said.frame ≡ Some frame
      → EndedAt (first ++ marker fill 217 []) []
  end-there said levels frame first fill w e =
      let rest = marker fill 217 [] in
      let past = past-of array range said levels first rest w (begins-end fill []) in
      let now = beside bring said past.brought in
      let ends = past.goes_on
      ∙ walk-end None Nothing past.turns false past.before now past.met past.all [] (last_turn now) refl
      (end-next past.before now past.met past.all fill [] (ap is_some e) past.at) refl in
      by-front (first ++ rest) [] (all_brought None nothing_found (first ++ rest)) first rest said levels past.brought
      refl w (of_end fill) past.said past.held
      (ap (λ (y : Walked). y.found) ends) (ap (λ (y : Walked). y.rows) ends) (λ some. absurd (some refl))

  -- ---- cut in the data of a scan

  -- what a cut scan holds
  pub by-scan : (part more : List ℕ) (w : Walked) (said : Said) (frame : Frame) (image : Coefficients)
      (next : ℕ → Levels) (found : Found) (above : Frame → ℕ) → said.frame ≡ Some frame → IsSaid IsDrawn said
      → AfterScan said frame image next found → ((index row column : ℕ) → length (image index row column).acs ≡ 63)
      → Unmixed (record said { scanned = true }) next → unwrap_or w.rows frame.output_height ≡ above frame
      → (HasRows (record said { scanned = true }) next above (rows_of_found w.rows w.found)
      → HoldsCut array (as_sent image next) part (record said { scanned = true }) (rows_of_found w.rows w.found))
      → w.found ≡ found → w.rest ≡ Err End → Ended part more w
  by-scan part more w said frame image next found above e is after counts u are holds same short =
      let later = record said { scanned = true } in
      let x : Progress = (after.kept, after.finished, after.planes) in
      let is_said : IsSaid IsDrawn later = record { tables = is.tables; shaped = is.shaped } in
      let framed : (f : Frame) → later.frame ≡ Some f → Framed later f image next true x.0 x.1 x.2 = λ f g.
      subst (λ (y : Frame). Framed later y image next true x.0 x.1 x.2) (same-frame frame f said.frame e g)
      (framed-same said later frame image next x refl after.framed) in
      record {
        said = later;
        levels = next;
        image = image;
        brought = x;
        found = same ∙ after.after;
        is = is_said;
        framed = framed;
        counts = counts;
        whole = λ f g. all-or-none later next f u g;
        holds = holds (rows-found w later image next x above (same ∙ after.after) u is_said framed (λ f g.
            subst (λ (y : Frame). unwrap_or w.rows y.output_height ≡ above y) (same-frame frame f said.frame e g) are));
        ends = λ some. short;
      }

  -- all data, and bytes FF
  pub data-filled : (said : Said) (levels next : ℕ → Levels) (frame : Frame) (first more : List ℕ) (fill : ℕ)
      (h : ScanHeader) (bytes : List ℕ) (j : ℕ) → WritesFront array said levels first → said.frame ≡ Some frame
      → IsScan frame h → WritesImageScan array said levels frame h bytes next
      → (part : List ℕ)
      → part ≡ first ++ marker fill 218 (with_length (scan_payload h) ++ (bytes ++ replicate j 255))
      → (later : List ℕ) → later ++ replicate j 255 ≡ part
      → WritesFront array (record said { scanned = true }) next later
      → EndedAt part more
  data-filled said levels next frame first more fill h bytes j w e written sends part is later parts front =
      let header = with_length (scan_payload h) in
      let d = bytes ++ replicate j 255 in
      let rest = marker fill 218 (header ++ d) in
      let past = past-of array range said levels first rest w (begins-scan fill (header ++ d)) in
      let now = beside bring said past.brought in
      let known = known_scan array range said levels next past.brought frame h bytes past.said e written sends
      past.held in
      let b = scanned known in
      let found = after_scan now frame (scan_written frame h) sends.codings (reached_of known d).reached in
      let all : AfterScan said frame array next found
      = record {
        kept = b.kept;
        finished = b.finished;
        planes = b.planes;
        after = ap (λ (a : Arrays). after_scan now frame (scan_written frame h) sends.codings a) (whole-filled known j)
            ∙ b.after;
        framed = subst (λ (l : ℕ → Levels). Framed said frame array l true b.kept b.finished b.planes) sends.sent
            b.framed;
      } in
      let stops = scan-past array range said levels frame fill h sends.codings bytes d
      (all_brought None nothing_found (first ++ rest)) past known e written (filled-stops known j) in
      let walk = all_brought None nothing_found part in
      let none : walk.rows ≡ None = ap (λ (l : List ℕ). (all_brought None nothing_found l).rows) is ∙ stops.rows_are
      ∙ ap (option_map (rows_above frame (components_of sends.codings))) (whole-unread known (replicate j 255)) in
      let rows = rows_of_found walk.rows walk.found in
      by-scan part more walk said frame array next found (λ f. f.output_height) e past.said all
      (λ index row column. (range index row column).count)
      (front-unmixed array (record said { scanned = true }) next later front)
      (ap (λ (o : Option ℕ). unwrap_or o frame.output_height) none)
      (λ has. subst (λ (p : List ℕ). HoldsCut array (as_sent array next) p (record said { scanned = true }) rows) parts
      (in_segment later (replicate j 255) (record said { scanned = true }) next rows front (of_marker j)
      (λ index row column. refl) has))
      (ap (λ (l : List ℕ). (all_brought None nothing_found l).found) is ∙ stops.found_is)
      (ap (λ (l : List ℕ). (all_brought None nothing_found l).rest) is ∙ stops.rest_is)

-- Each beginning of a written image is cut at a marker, in a segment, in a scan, or not at all.
use Rattle.std.proofs.Common.{◌≡◌, ◌⊎◌, inl, inr, ℕ, true, List, [], ◌∷◌, ◌++◌, replicate, Some, refl, sym, ap, ◌∙◌, length}
use Rattle.std.proofs.Common.{None, subst, append_assoc}
use Rattle.std.specs.Prelude.{option_map}
use Rattle.jpeg_bits.specs.Written.{marker}
use Rattle.jpeg_segments.specs.Frame.{Frame}
use Rattle.jpeg_segments.specs.ScanHeaders.{IsScan, ScanHeader, scan_payload, scan_written}
use Rattle.jpeg_segments.specs.WrittenSegments.{Segment, marker_code, payload_of, with_length}
use Rattle.jpeg_meaning.specs.Found.{Said, nothing_found, nothing_said}
use Rattle.jpeg_meaning.specs.Levels.{Is8Bit, Levels, nothing_sent}
use Rattle.jpeg_meaning.specs.SaidSegments.{Stands, said_after}
use Rattle.jpeg_meaning.specs.Order.{spots_of}
use Rattle.jpeg_meaning.specs.ScanSegments.{after_scan, components_of}
use Rattle.jpeg_meaning.specs.WholeRows.{rows_above}
use Rattle.jpeg_meaning.specs.WrittenImages.{ClosesImage, MayStandInImage, WritesImageScan}
use Rattle.jpeg_meaning.specs.WrittenScans.{Coefficients}
use Rattle.jpeg_meaning.specs.WrittenStreams.{Writes, end, scan, segment}
use Rattle.jpeg_meaning.proofs.Written.ReadTurns.{scan-tail, segment-tail}
use Rattle.jpeg_meaning.proofs.Written.WalkedStreams.{beside, front-append}
use Rattle.jpeg_meaning.proofs.Written.WrittenPictures.{bring, known_scan}
use Rattle.jpeg_evidence.specs.CutImages.{WritesFront, in_scan, rows_before}
use Rattle.jpeg_evidence.proofs.Cut.CutBlocks.{CutScan, cut-scan}
use Rattle.jpeg_evidence.proofs.Cut.CutFrames.{cut-own, cut-stops, cut-unread, reached_of, scan-cut}
use Rattle.jpeg_evidence.proofs.Cut.CutFronts.{AfterFirst, HasMarker, InFirst, IsFilled, front-unmixed}
use Rattle.jpeg_evidence.proofs.Cut.CutFronts.{split-append, split-marker, unmixed-scan}
use Rattle.jpeg_evidence.proofs.Cut.CutHeld.{EndedAt, by-scan, data-filled, end-there, header-cut, segment-cut}
use Rattle.jpeg_evidence.proofs.Cut.CutHeld.{segment-filled}
use Rattle.jpeg_evidence.proofs.Cut.CutRows.{rows-first}
use Rattle.jpeg_evidence.proofs.Cut.CutScans.{begins-scan, past-of, scan-past}
use Rattle.jpeg_meaning.specs.Stream.{all_brought}
use Rattle.jpeg_meaning.specs.Shown.{rows_of_found}

module _ (array : Coefficients) (range : (index row column : ℕ) → Is8Bit (array index row column)) where
  -- a part of the data of a scan
  data-cut : (said : Said) (levels next : ℕ → Levels) (frame : Frame) (first : List ℕ) (fill : ℕ) (h : ScanHeader)
      (front left more : List ℕ) → WritesFront array said levels first → said.frame ≡ Some frame → IsScan frame h
      → WritesImageScan array said levels frame h (front ++ left) next → (left ≡ [] → ⊥)
      → EndedAt array range (first ++ marker fill 218 (with_length (scan_payload h) ++ front)) more
  data-cut said levels next frame first fill h front left more w e written sends some =
      let bytes = front ++ left in
      let rest = with_length (scan_payload h) ++ front in
      let part = first ++ marker fill 218 rest in
      let past = past-of array range said levels first (marker fill 218 rest) w (begins-scan fill rest) in
      let x = past.brought in
      let s = scan_written frame h in
      let codings = sends.codings in
      let known = known_scan array range said levels next x frame h bytes past.said e written sends past.held in
      let sent = scan-cut known front left refl in
      let found = after_scan (beside bring said x) frame s codings (reached_of known front).reached in
      let c : CutScan said frame array levels next codings sent.holds.done found
      = subst (λ (l : ℕ → Levels). CutScan said frame array levels l codings sent.holds.done found) sends.sent
      (cut-scan known sent.holds.done (reached_of known front).reached (cut-own known front left refl)) in
      let walk = all_brought None nothing_found part in
      let stops = scan-past array range said levels frame fill h codings bytes front walk past known e written
      (cut-stops known front left refl) in
      let first_away = cut-unread known front left (length sent.holds.done) refl sent.most in
      let rows = rows_of_found walk.rows walk.found in
      by-scan array range part more walk said frame c.image next found
      (λ f. rows_before f (components_of codings) sent.holds.others) e past.said c.after c.counts
      (unmixed-scan array said levels next frame h bytes past.said e written sends
      (front-unmixed array said levels first w))
      (rows-first frame (components_of codings) (spots_of frame (components_of codings)) sent.holds.done
      sent.holds.others walk.rows sent.holds.parts
      (stops.rows_are ∙ ap (option_map (rows_above frame (components_of codings))) first_away))
      (λ has. in_scan first said levels next frame fill h front left sent.holds.done sent.holds.others rows w e written
      sends some sent.holds.parts sent.most c.there c.away has)
      stops.found_is stops.rest_is

  -- what is found where a stream is cut
  abbrev Cut : List ℕ → List ℕ → Type 0
  Cut part more = EndedAt array range part more

  -- one segment more
  next-segment : (said : Said) (levels : ℕ → Levels) (first : List ℕ) (fill : ℕ) (s : Segment)
      → WritesFront array said levels first → Stands said s → MayStandInImage said s
      → WritesFront array (said_after said s) levels
      (first ++ marker fill (marker_code s) (with_length (payload_of s) ++ []))
  next-segment said levels first fill s w stands allowed =
      front-append nothing_said said (said_after said s) (λ k. nothing_sent) levels levels first
      (marker fill (marker_code s) (with_length (payload_of s) ++ [])) w
      (segment said (said_after said s) levels levels fill s [] stands allowed
      (end (said_after said s) levels [] refl))

  -- one scan more
  next-scan : (said : Said) (levels next : ℕ → Levels) (frame : Frame) (first : List ℕ) (fill : ℕ) (h : ScanHeader)
      (bytes : List ℕ) → WritesFront array said levels first → said.frame ≡ Some frame → IsScan frame h
      → WritesImageScan array said levels frame h bytes next
      → WritesFront array (record said { scanned = true }) next
      (first ++ marker fill 218 (with_length (scan_payload h) ++ (bytes ++ [])))
  next-scan said levels next frame first fill h bytes w e written sends =
      front-append nothing_said said (record said { scanned = true }) (λ k. nothing_sent) levels next first
      (marker fill 218 (with_length (scan_payload h) ++ (bytes ++ []))) w
      (scan said (record said { scanned = true }) levels next next frame fill h bytes [] e written sends
      (end (record said { scanned = true }) next [] refl))

  segment-more : (first : List ℕ) (fill code : ℕ) (payload left : List ℕ)
      → (first ++ marker fill code (payload ++ [])) ++ left ≡ first ++ marker fill code (payload ++ left)
  segment-more first fill code payload left =
      append_assoc first (marker fill code (payload ++ [])) left
      ∙ ap (λ (l : List ℕ). first ++ l) (segment-tail fill code payload [] left)

  scan-more : (first : List ℕ) (fill code : ℕ) (header bytes left : List ℕ)
      → (first ++ marker fill code (header ++ (bytes ++ []))) ++ left
      ≡ first ++ marker fill code (header ++ (bytes ++ left))
  scan-more first fill code header bytes left =
      append_assoc first (marker fill code (header ++ (bytes ++ []))) left
      ∙ ap (λ (l : List ℕ). first ++ l) (scan-tail fill code header bytes [] left)

  -- a beginning of a marker and bytes after it
  marker-cut : (first front more rest : List ℕ) (fill code : ℕ) → ((j : ℕ) → Cut (first ++ replicate j 255) more)
      → ((part : List ℕ) → rest ≡ part ++ more → Cut (first ++ marker fill code part) more)
      → marker fill code rest ≡ front ++ more → Cut (first ++ front) more
  marker-cut first front more rest fill code filled inside e = go (split-marker fill code rest front more e)
    where
      go : IsFilled front ⊎ HasMarker fill code rest front more → Cut (first ++ front) more
      go (inl r) = subst (λ (l : List ℕ). Cut (first ++ l) more) (sym r.1) (filled r.0)
      go (inr r) = subst (λ (l : List ℕ). Cut (first ++ l) more) (sym r.1) (inside r.0 r.2)

  -- a beginning of two parts
  part-cut : {P : Type 0} (xs ys part more : List ℕ)
      → ((left : List ℕ) → part ≡ xs ++ left → ys ≡ left ++ more → P)
      → ((left : List ℕ) → xs ≡ part ++ left → (left ≡ [] → ⊥) → P) → xs ++ ys ≡ part ++ more → P
  part-cut {P} xs ys part more after inside e = go (split-append xs ys part more e)
    where
      go : AfterFirst xs ys part more ⊎ InFirst xs part → P
      go (inl q) = after q.0 q.1 q.2
      go (inr q) = inside q.0 q.1 q.2

  nothing-cut : (l more : List ℕ) → [] ≡ l ++ more → (l ≡ []) × (more ≡ [])
  nothing-cut [] more e = (refl, sym e)
  nothing-cut (a ∷ l) more e = absurd (let z : ⊥ = cc in z)

  -- Each beginning of what follows some whole segments and scans.
  pub each-front : (said final : Said) (levels last : ℕ → Levels) (bytes : List ℕ)
      → Writes MayStandInImage (WritesImageScan array) ClosesImage said levels bytes final last
      → (first front more : List ℕ) → WritesFront array said levels first
      → ((j : ℕ) → Cut (first ++ replicate j 255) more) → bytes ≡ front ++ more → Cut (first ++ front) more
  each-front said final levels last bytes (end said' sent' bytes' c) first front more w filled parts =
      marker-cut first front more [] c.fill 217 filled (λ part at.
      let none = nothing-cut part more at in
      subst (λ (l : List ℕ). Cut (first ++ marker c.fill 217 l) more) (sym none.0)
      (subst (Cut (first ++ marker c.fill 217 [])) (sym none.1)
      (end-there array range said levels c.frame first c.fill w c.is_said))) (sym c.closed ∙ parts)
  each-front said final levels last bytes (segment said' final' sent' last' fill s others stands allowed rest) first
      front more w filled parts =
      let payload = with_length (payload_of s) in
      let code = marker_code s in
      let later = first ++ marker fill code (payload ++ []) in
      let now = next-segment said levels first fill s w stands allowed in
      marker-cut first front more (payload ++ others) fill code filled (λ part at.
      part-cut payload others part more
      (λ left is after.
      subst (λ (l : List ℕ). Cut l more) (segment-more first fill code payload left
      ∙ ap (λ (l : List ℕ). first ++ marker fill code l) (sym is))
      (each-front (said_after said s) final levels last others rest later left more now
      (λ j. segment-filled array range said levels first more fill s j w stands allowed (later ++ replicate j 255)
      (segment-more first fill code payload (replicate j 255)) later refl now) after))
      (λ left is some. segment-cut array range said levels first fill s part left more w stands is some) at) parts
  each-front said final levels last bytes
      (scan said' final' sent' next last' frame fill h data_bytes others e written sends rest) first front more w filled
      parts =
      let header = with_length (scan_payload h) in
      let later = first ++ marker fill 218 (header ++ (data_bytes ++ [])) in
      let now = next-scan said levels next frame first fill h data_bytes w e written sends in
      marker-cut first front more (header ++ (data_bytes ++ others)) fill 218 filled (λ part at.
      part-cut header (data_bytes ++ others) part more
      (λ d is after.
      subst (λ (l : List ℕ). Cut (first ++ marker fill 218 l) more) (sym is)
      (part-cut data_bytes others d more
      (λ left whole beyond.
      subst (λ (l : List ℕ). Cut l more) (scan-more first fill 218 header data_bytes left
      ∙ ap (λ (l : List ℕ). first ++ marker fill 218 (header ++ l)) (sym whole))
      (each-front (record said { scanned = true }) final next last others rest later left more now
      (λ j. data-filled array range said levels next frame first more fill h data_bytes j w e written sends
      (later ++ replicate j 255) (scan-more first fill 218 header data_bytes (replicate j 255)) later refl now) beyond))
      (λ left cut_so some. data-cut said levels next frame first fill h d left more w e written
      (subst (λ (l : List ℕ). WritesImageScan array said levels frame h l next) cut_so sends) some) after))
      (λ left is some. header-cut array range said levels frame first fill h part left more w e written is some) at)
      parts

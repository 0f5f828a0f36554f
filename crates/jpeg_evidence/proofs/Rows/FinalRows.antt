-- Complete rows of a sequential stream are final.
use Rattle.std.proofs.Common.{rules, ◌≡◌, ◌≢◌, ◌⊎◌, inl, inr, ℕ, zero, suc, ◌+◌, ◌<◌, ◌≤◌, ◌&&◌, Bool, false, List}
use Rattle.std.proofs.Common.{[], ◌∷◌, ◌++◌, length, Option, Some, None, Result, Ok, Err, refl, sym, ap, ap₂, ◌∙◌}
use Rattle.std.proofs.Common.{subst}
use Rattle.std.proofs.Common.{arith}
use Rattle.std.specs.Prelude.{slice_index_or, option_map, unwrap_or}
use Rattle.std.specs.List.{enumerate_from}
use Rattle.jpeg_bits.specs.Reading.{Fault, Malformed, Outcome, ◌>>=◌}
use Rattle.jpeg_segments.specs.Checks.{check, gathered, needed}
use Rattle.jpeg_segments.specs.Frame.{Component, Frame}
use Rattle.jpeg_segments.specs.Scales.{IsSizedFrame}
use Rattle.jpeg_segments.specs.declared.application.AdobeColorTransform.{AdobeColorTransform}
use Rattle.jpeg_segments.specs.declared.frame.CodingProcess.TheVariants.{DctSequential, Lossless}
use Rattle.jpeg_segments.proofs.Codecs.{bind-ok, err-ok, ok-same}
use Rattle.jpeg_meaning.specs.ColourChoice.{identifiers_of, transform_of}
use Rattle.jpeg_meaning.specs.declared.settings.Settings.{Settings}
use Rattle.jpeg_meaning.specs.Found.{Found, Metadata, nothing_found, nothing_said}
use Rattle.jpeg_meaning.specs.FoundPictures.{blocks_picture, picture_by, picture_of, plane_at_end}
use Rattle.jpeg_meaning.specs.ScanSegments.{is_progressive}
use Rattle.jpeg_meaning.specs.ScanSegments.{after_scan, components_of}
use Rattle.jpeg_meaning.specs.Shown.{Shown, completed, framed_or, picture_shown, planes_by, rows_of_found}
use Rattle.jpeg_meaning.specs.Shown.{rows_of_frame, shown, shown_of, shown_rest, shown_rest_within, shown_within}
use Rattle.jpeg_meaning.specs.Shown.{whole_rows, whole_rows_rest}
use Rattle.jpeg_meaning.specs.Stream.{Told, Walked, all_brought, start_at, told_of, turn_at}
use Rattle.jpeg_bits.specs.declared.beyond.Beyond.TheVariants.{Nothing}
use Rattle.jpeg_meaning.proofs.Order.Apart.{At}
use Rattle.jpeg_meaning.proofs.Partial.CompletedPictures.{completed-same, plane-goes, plane_of_parts}
use Rattle.jpeg_meaning.proofs.Written.ReadTurns.{gathered-more, same-frame}
use Rattle.jpeg_meaning.proofs.Written.WrittenPictures.{end-decided, picture_of_several}
use Rattle.jpeg_evidence.specs.CompleteRows.{BeginAlike, HasFaultAt, HasSizedFrame, first_rows}
use Rattle.jpeg_meaning.specs.declared.before.Before.TheVariants.{Elsewhere}
use Rattle.jpeg_meaning.proofs.Longer.LongerSegments.{Stays, byte-stays, stays-bind, stays-if, stays-read}
use Rattle.jpeg_meaning.proofs.Longer.LongerSegments.Stays.{stays-err, stays-ok}
use Rattle.jpeg_evidence.proofs.Cut.AllRows.{started}
use Rattle.jpeg_evidence.proofs.Cut.CutRows.{lossy-planes}
use Rattle.jpeg_evidence.proofs.Rows.AlikePictures.{picture-made}
use Rattle.jpeg_evidence.specs.CutImages.{rows_before}
use Rattle.jpeg_meaning.specs.LongerStreams.{ScanGoesOn}
use Rattle.jpeg_meaning.proofs.Longer.LongerTurns.{RowsAdd, ScanAdds, StopsAt, ended_streams_stay, longer_streams_stop}
use Rattle.jpeg_meaning.proofs.Longer.LongerTurns.{turn-goes}
use Rattle.jpeg_bits.specs.declared.marker.Marker.{Marker}
use Rattle.jpeg_meaning.specs.Brought.{Brought}
use Rattle.jpeg_meaning.specs.declared.before.Before.{Before}
use Rattle.jpeg_meaning.proofs.Longer.LongerTurns.StopsAt.{at_front, at_rows, at_scan}
use Rattle.jpeg_evidence.proofs.Rows.OnwardTurns.{Onward, after-turn, scan-framed, walk-onward}
use Rattle.jpeg_evidence.proofs.Rows.ScanRows.{codings-of, no-rows, scans-alike}
use Rattle.jpeg_evidence.proofs.Rows.StreamRows.{adds-rows, refused-walk, rows-above}
use Rattle.jpeg_evidence.proofs.Rows.AlikeStates.{Alike, Begin, BothBegin, PlaneAt, pairs-get}
use Rattle.jpeg_evidence.proofs.Rows.FirstRows.{rows_of_first_lines}

-- ---- colours

-- a picture goes by what JFIF and Adobe's segment have said
same-colours : (settings : Settings) (m n : Metadata) (frame : Frame) (cs : List Component) (ps : List (List ℕ))
    → m.jfif ≡ n.jfif → m.adobe ≡ n.adobe → picture_by settings m frame cs ps ≡ picture_by settings n frame cs ps
unfolding picture_by
same-colours settings m n frame [] ps j a =
    ap₂ (λ (b : Bool) (o : Option AdobeColorTransform). picture_of_several settings.luma
    (transform_of settings.color_transform (identifiers_of []) b o) frame [] ps) j a
same-colours settings m n frame (c ∷ []) ps j a = refl
same-colours settings m n frame (c ∷ d ∷ cs) ps j a =
    ap₂ (λ (b : Bool) (o : Option AdobeColorTransform). picture_of_several settings.luma
    (transform_of settings.color_transform (identifiers_of (c ∷ d ∷ cs)) b o) frame (c ∷ d ∷ cs) ps) j a

-- ---- planes

-- each plane that is decided begins as the one that is decided later
abbrev pub PlanesBegin : Frame → ℕ → Found → Found → Type 0
PlanesBegin frame rows w v =
    (i : ℕ) (c : Component) (p : List ℕ) → At i frame.components c → slice_index_or w.planes i None ≡ Some p
    → (q : List ℕ) × (slice_index_or v.planes i None ≡ Some q) × Begin frame rows c p q

module _ (frame : Frame) (rows : ℕ) (sequential : frame.process ≡ DctSequential) where
  -- in a sequential frame a plane at the end was decided
  was-decided : (w : Found) (i : ℕ) (c : Component) (p : List ℕ) → plane_at_end w frame (i, c) ≡ Ok p
      → slice_index_or w.planes i None ≡ Some p
  was-decided w i c p e = go (slice_index_or w.planes i None) refl (sym (plane-goes w frame (i, c)) ∙ e)
    where
      go : (o : Option (List ℕ)) → slice_index_or w.planes i None ≡ o
          → plane_of_parts w.said w.kept frame (i, c) o ≡ Ok p → o ≡ Some p
      go (Some plane) is e = ap Some (ok-same plane p e)
      go None is e =
          let none : (is_progressive frame.process && w.said.scanned) ≡ false = rw sequential refl in
          let d = bind-ok (check (is_progressive frame.process && w.said.scanned)) _ p e in
          absurd (err-ok Malformed d.0 (sym (ap check none) ∙ d.1))

  all-later : (cs : List Component) (i : ℕ) (w v : Found) (ps : List (List ℕ))
      → ((j : ℕ) (c : Component) → At j cs c → At (i + j) frame.components c) → PlanesBegin frame rows w v
      → gathered (plane_at_end w frame) (enumerate_from i cs) ≡ Ok ps
      → (qs : List (List ℕ)) × (gathered (plane_at_end v frame) (enumerate_from i cs) ≡ Ok qs)
      × BeginAlike frame rows cs ps qs
  unfolding gathered BeginAlike
  all-later [] i w v ps there each e =
      ([], refl, subst (λ (l : List (List ℕ)). BeginAlike frame rows [] l []) (ok-same [] ps e) tt)
  all-later (c ∷ cs) i w v ps there each e =
      let one = bind-ok (plane_at_end w frame (i, c)) _ ps e in
      let ones = bind-ok (gathered (plane_at_end w frame) (enumerate_from (i + 1) cs)) _ ps one.2 in
      let start : i + 0 ≡ i = omega arith in
      let here = subst (λ (n : ℕ). At n frame.components c) start (there 0 c refl) in
      let q = each i c one.0 here (was-decided w i c one.0 one.1) in
      let more = all-later cs (i + 1) w v ones.0 (λ j d t.
      let next : i + suc j ≡ (i + 1) + j = omega arith in
      subst (λ (n : ℕ). At n frame.components d) next (there (suc j) d t)) each ones.1 in (
        q.0 ∷ more.0,
        gathered-more (plane_at_end v frame) (i, c) (enumerate_from (i + 1) cs) q.0 more.0
            (end-decided v frame i c q.0 q.1) more.1,
        subst (λ (l : List (List ℕ)). BeginAlike frame rows (c ∷ cs) l (q.0 ∷ more.0)) (ok-same _ ps ones.2)
            (q.2.0, q.2.1, more.2),
      )

  -- ---- pictures

  is-lossy : frame.process ≢ Lossless
  is-lossy e = absurd cc

  of-planes : (settings : Settings) (w : Found) (x : List ℕ) (ps : List (List ℕ)) → w.said.frame ≡ Some frame
      → gathered (plane_at_end w frame) (enumerate_from 0 frame.components) ≡ Ok ps → picture_shown settings w ≡ Ok x
      → picture_by settings w.said.metadata frame frame.components ps ≡ Ok x
  unfolding picture_shown blocks_picture
  of-planes settings w x ps is are e =
      let all = completed-same settings w frame ps is (lossy-planes frame.process w frame is-lossy ∙ are) in
      let p = picture-made frame rows settings w x is is-lossy (sym all
      ∙ ap (λ (o : Option Frame). needed o >>= (λ frame. picture_of settings (completed w frame))) (sym is) ∙ e) in
      let d = bind-ok (gathered (plane_at_end w frame) (enumerate_from 0 frame.components)) _ x p in
      ap (picture_by settings w.said.metadata frame frame.components) (ok-same ps d.0 (sym are ∙ d.1)) ∙ d.2

  -- The first rows of what is found, and of what is found later.
  pub later-first : (settings : Settings) (w v : Found) (ps : List (List ℕ)) (x y : List ℕ) → IsSizedFrame frame
      → rows ≤ frame.output_height → w.said.frame ≡ Some frame → v.said.frame ≡ Some frame
      → PlanesBegin frame rows w v → gathered (plane_at_end w frame) (enumerate_from 0 frame.components) ≡ Ok ps
      → w.said.metadata.jfif ≡ v.said.metadata.jfif → w.said.metadata.adobe ≡ v.said.metadata.adobe
      → picture_shown settings w ≡ Ok x → picture_shown settings v ≡ Ok y
      → first_rows settings frame rows x ≡ first_rows settings frame rows y
  later-first settings w v ps x y z few is later each are j a d e =
      let qs = all-later frame.components 0 w v ps (λ j c t.
      let start : j ≡ 0 + j = omega arith in subst (λ (n : ℕ). At n frame.components c) start t) each are in
      rows_of_first_lines settings w.said.metadata frame rows ps qs.0 x y z (λ l. absurd (is-lossy l)) few qs.2
      (of-planes settings w x ps is are d)
      (same-colours settings w.said.metadata v.said.metadata frame frame.components qs.0 j a
      ∙ of-planes settings v y qs.0 later qs.1 e)

-- ---- streams

-- what a stream shows, of what it has brought
shown-parts : (settings : Settings) (found : Found) (bytes : List ℕ) (s : Shown)
    → shown_rest settings found bytes ≡ Ok s
    → (told_of (all_brought None found bytes).found.said ≡ s.told)
    × (picture_shown settings (all_brought None found bytes).found ≡ Ok s.picture)
unfolding shown_rest_within shown_of
shown-parts settings found bytes s e =
    let w = all_brought None found bytes in
    let u = bind-ok (framed_or w.found.said.frame w.rest) _ s e in
    let p = bind-ok (picture_shown settings w.found) _ s u.2 in
    let same = ok-same _ s p.2 in
    (ap (λ (z : Shown). z.told) same, p.1 ∙ ap (λ (z : Shown). Ok z.picture) same)

-- planes that stay
planes-stay : (frame : Frame) (rows : ℕ) (w v : Found) → Onward w v → PlanesBegin frame rows w v
planes-stay frame rows w v o i c p t e = (p, o.planes i p e, (refl, refl))

-- planes that are alike, and then stay
planes-alike : (frame : Frame) (rows : ℕ) (w u v : Found) → Alike frame rows w u → Onward u v
    → PlanesBegin frame rows w v
planes-alike frame rows w u v a o i c p t e =
    go (slice_index_or w.planes i None) (slice_index_or u.planes i None) refl
    (pairs-get (PlaneAt frame rows) 0 i w.planes u.planes None a.planes (λ c t. tt) c here) e
  where
    here : At (0 + i) frame.components c
    here = let start : i ≡ 0 + i = omega arith in subst (λ (n : ℕ). At n frame.components c) start t

    go : (m n : Option (List ℕ)) → slice_index_or u.planes i None ≡ n → BothBegin frame rows c m n → m ≡ Some p
        → (q : List ℕ) × (slice_index_or v.planes i None ≡ Some q) × Begin frame rows c p q
    go (Some m) (Some n) is b e =
        let same : m ≡ p = cc in (n, o.planes i n is, subst (λ (l : List ℕ). Begin frame rows c l n) same b)
    go (Some m) None is b e = absurd b
    go None (Some n) is b e = absurd b
    go None None is b e = absurd cc

not-lossless : (frame : Frame) → frame.process ≡ DctSequential → frame.process ≡ Lossless → ⊥
not-lossless frame s l = absurd cc

-- of a scan that goes on, the planes of the complete rows
above-first : (frame : Frame) (last w u v : Found) (rows : Option ℕ) → IsSizedFrame frame → w.said.frame ≡ Some frame
    → ScanAdds last w rows u → Onward u v → 0 < unwrap_or rows frame.output_height
    → (unwrap_or rows frame.output_height ≤ frame.output_height)
    × PlanesBegin frame (unwrap_or rows frame.output_height) w v
above-first frame last w u v rows z is adds onward some =
    go (sym (same-frame g.frame frame w.said.frame (ap (λ (f : Found). f.said.frame) g.shorter_is
    ∙ scan-framed last g.frame g.scan g.codings g.blocks ∙ adds.framed) is))
  where
    g : ScanGoesOn last w u
    g = adds.goes

    above : unwrap_or rows g.frame.output_height ≡ rows_before g.frame (components_of g.codings) g.reads_on.others
    above = rows-above last w u rows adds

    Both : Frame → ℕ → Type 0
    Both f n = (n ≤ f.output_height) × PlanesBegin f n w v

    by : (n : ℕ) → ((g.more_blocks ≡ g.blocks) ⊎ Alike g.frame n
        (after_scan last g.frame g.scan g.codings g.blocks) (after_scan last g.frame g.scan g.codings g.more_blocks))
        → PlanesBegin g.frame n w v
    by n (inl same) =
        let e : u ≡ w = g.longer_is ∙ ap (after_scan last g.frame g.scan g.codings) same ∙ sym g.shorter_is in
        planes-stay g.frame n w v (subst (λ (f : Found). Onward f v) e onward)
    by n (inr a) =
        planes-alike g.frame n w u v (subst (λ (f : Found). Alike g.frame n f u) (sym g.shorter_is)
        (subst (λ (f : Found). Alike g.frame n (after_scan last g.frame g.scan g.codings g.blocks) f)
        (sym g.longer_is) a)) onward

    go : frame ≡ g.frame → Both frame (unwrap_or rows frame.output_height)
    go same =
        subst (λ (f : Frame). Both f (unwrap_or rows f.output_height)) (sym same)
        (subst (Both g.frame) (sym above)
        (let found = scans-alike last g.frame g.scan g.codings g.blocks g.more_blocks g.reads_on
        (subst IsSizedFrame same z) adds.framed (codings-of last g.frame g.scan g.codings adds.coded)
        (subst (λ (n : ℕ). 0 < n) (ap (λ (f : Frame). unwrap_or rows f.output_height) same ∙ above) some) in
        (found.1, by _ found.0)))

module _ (settings : Settings) (frame : Frame) (sequential : frame.process ≡ DctSequential) (w v : Found)
    (x y : List ℕ) (z : IsSizedFrame frame) (is : w.said.frame ≡ Some frame) (later : v.said.frame ≡ Some frame)
    (j : w.said.metadata.jfif ≡ v.said.metadata.jfif) (a : w.said.metadata.adobe ≡ v.said.metadata.adobe)
    (d : picture_shown settings w ≡ Ok x) (e : picture_shown settings v ≡ Ok y) where
  -- the rows that are counted
  counted : (rows : Option ℕ)
      → (0 < unwrap_or rows frame.output_height → (unwrap_or rows frame.output_height ≤ frame.output_height)
      × PlanesBegin frame (unwrap_or rows frame.output_height) w v)
      → first_rows settings frame (rows_of_found rows w) x ≡ first_rows settings frame (rows_of_found rows w) y
  counted rows each =
      subst (λ (n : ℕ). first_rows settings frame n x ≡ first_rows settings frame n y)
      (sym (ap (λ (o : Option Frame). unwrap_or (option_map (rows_of_frame rows w) o) 0) is))
      (go (planes_by frame.process w frame) refl)
    where
      some : (n : ℕ) → unwrap_or rows frame.output_height ≡ n → (ps : List (List ℕ))
          → gathered (plane_at_end w frame) (enumerate_from 0 frame.components) ≡ Ok ps
          → first_rows settings frame n x ≡ first_rows settings frame n y
      some zero k ps are = no-rows settings frame x y
      some (suc n) k ps are =
          let there : 0 < unwrap_or rows frame.output_height = omega arith in
          let b = each there in
          subst (λ (n : ℕ). first_rows settings frame n x ≡ first_rows settings frame n y) k
          (later-first frame (unwrap_or rows frame.output_height) sequential settings w v ps x y z b.0 is later b.1 are
          j a d e)

      go : (o : Result (List (List ℕ)) Fault) → planes_by frame.process w frame ≡ o
          → first_rows settings frame (elim o as (λ _. ℕ) [ Ok planes ↦ unwrap_or rows frame.output_height | Err fault ↦ 0 ]) x
          ≡ first_rows settings frame (elim o as (λ _. ℕ) [ Ok planes ↦ unwrap_or rows frame.output_height | Err fault ↦ 0 ]) y
      go (Err fault) k = no-rows settings frame x y
      go (Ok ps) k =
          some (unwrap_or rows frame.output_height) refl ps
          (sym (lossy-planes frame.process w frame (is-lossy frame 0 sequential)) ∙ k)

  -- where the longer stream goes on
  stops-first : (more : List ℕ) (rows : Option ℕ) (longer : Walked) → StopsAt more w rows longer → longer.found ≡ v
      → first_rows settings frame (rows_of_found rows w) x ≡ first_rows settings frame (rows_of_found rows w) y
  stops-first more rows longer (at_front turns before met left walks none) same =
      counted rows (λ some. (
        let all : unwrap_or rows frame.output_height ≡ frame.output_height =
            ap (λ (o : Option ℕ). unwrap_or o frame.output_height) none in omega arith,
        planes-stay frame _ w v (subst (Onward w) (ap (λ (l : Walked). l.found) (sym walks) ∙ same)
            (walk-onward turns before w met (left ++ more))),
      ))
  stops-first more rows longer (at_rows turns before last met left walks adds) same =
      let g = adds.goes in
      let f = same-frame g.frame frame w.said.frame (ap (λ (f : Found). f.said.frame) g.shorter_is ∙ adds.framed) is in
      absurd (not-lossless frame sequential (subst (λ (f : Frame). f.process ≡ Lossless) f adds.lossless))
  stops-first more rows longer (at_scan turns before last met left walks adds) same =
      counted rows (λ some. by some)
    where
      u : Found
      u = (turn_at Nothing before last met (left ++ more)).found

      onward : Onward u v
      onward = subst (Onward u) (ap (λ (l : Walked). l.found) (sym walks) ∙ same)
          (after-turn turns before last met (left ++ more))

      n : ℕ
      n = unwrap_or rows frame.output_height

      by : 0 < n → (n ≤ frame.output_height) × PlanesBegin frame n w v
      by some = above-first frame last w u v rows z is adds onward some

-- the frame of the longer stream
later-framed : (frame : Frame) (more : List ℕ) (rows : Option ℕ) (w : Found) (longer : Walked)
    → StopsAt more w rows longer → w.said.frame ≡ Some frame → longer.found.said.frame ≡ Some frame
later-framed frame more rows w longer (at_front turns before met left walks none) is =
    ap (λ (l : Walked). l.found.said.frame) walks ∙ (walk-onward turns before w met (left ++ more)).framed frame is
later-framed frame more rows w longer (at_scan turns before last met left walks adds) is =
    let g = adds.goes in
    ap (λ (l : Walked). l.found.said.frame) walks
    ∙ (walk-onward (suc turns) before last met (left ++ more)).framed frame
    (sym (scan-framed last g.frame g.scan g.codings g.blocks)
    ∙ ap (λ (f : Found). f.said.frame) (sym g.shorter_is) ∙ is)
later-framed frame more rows w longer (at_rows turns before last met left walks adds) is =
    let g = adds.goes in
    ap (λ (l : Walked). l.found.said.frame) walks
    ∙ (walk-onward (suc turns) before last met (left ++ more)).framed frame
    (ap (λ (f : Found). f.said.frame) (sym g.shorter_is) ∙ is)

-- The complete rows of a sequential stream are final.
pub rows_are_final : (settings : Settings) (found : Found) (bytes more : List ℕ) (s t : Shown) (frame : Frame)
    → HasSizedFrame found → shown_rest settings found bytes ≡ Ok s → shown_rest settings found (bytes ++ more) ≡ Ok t
    → s.told.frame ≡ Some frame → frame.process ≡ DctSequential → s.told.metadata.jfif ≡ t.told.metadata.jfif
    → s.told.metadata.adobe ≡ t.told.metadata.adobe
    → first_rows settings frame (whole_rows_rest None found bytes) s.picture
    ≡ first_rows settings frame (whole_rows_rest None found bytes) t.picture
unfolding whole_rows_rest
rows_are_final settings found bytes more s t frame sized d e is sequential j a =
    go (all_brought None found bytes).rest refl
  where
    w : Walked
    w = all_brought None found bytes

    v : Walked
    v = all_brought None found (bytes ++ more)

    one : (told_of w.found.said ≡ s.told) × (picture_shown settings w.found ≡ Ok s.picture)
    one = shown-parts settings found bytes s d

    two : (told_of v.found.said ≡ t.told) × (picture_shown settings v.found ≡ Ok t.picture)
    two = shown-parts settings found (bytes ++ more) t e

    framed : w.found.said.frame ≡ Some frame
    framed = ap (λ (x : Told). x.frame) one.0 ∙ is

    z : IsSizedFrame frame
    z = (walk-onward (suc (length bytes)) Elsewhere found None bytes).sized sized frame framed

    go : (o : Result (List ℕ) Fault) → w.rest ≡ o
        → first_rows settings frame (rows_of_found w.rows w.found) s.picture
        ≡ first_rows settings frame (rows_of_found w.rows w.found) t.picture
    go (Ok rest) k =
        let same = ap (λ (x : Walked). x.found) (ended_streams_stay found bytes more rest k) in
        ap (first_rows settings frame (rows_of_found w.rows w.found))
        (ok-same s.picture t.picture (sym one.1 ∙ ap (picture_shown settings) (sym same) ∙ two.1))
    go (Err fault) k =
        let stops = longer_streams_stop found bytes more fault k in
        stops-first settings frame sequential w.found v.found s.picture t.picture z framed
        (later-framed frame more w.rows w.found v stops framed)
        (ap (λ (x : Told). x.metadata.jfif) one.0 ∙ j ∙ ap (λ (x : Told). x.metadata.jfif) (sym two.0))
        (ap (λ (x : Told). x.metadata.adobe) one.0 ∙ a ∙ ap (λ (x : Told). x.metadata.adobe) (sym two.0))
        one.1 two.1 more w.rows v stops refl

-- ---- the same scan

-- Where the fault is in the data of the same scan, the complete rows are the same.
pub rows_of_one_scan_stay : (settings : Settings) (found : Found) (bytes more left : List ℕ) (before : Before)
    (last : Found) (met : Option Marker) (s t : Shown) (frame : Frame) (rows : ℕ) → HasSizedFrame found
    → HasFaultAt found bytes before last met left → HasFaultAt found (bytes ++ more) before last met (left ++ more)
    → (all_brought None found bytes).rows ≡ Some rows → shown_rest settings found bytes ≡ Ok s
    → shown_rest settings found (bytes ++ more) ≡ Ok t → s.told.frame ≡ Some frame
    → (frame.process ≡ Lossless → ⊥)
    → first_rows settings frame (whole_rows_rest None found bytes) s.picture
    ≡ first_rows settings frame (whole_rows_rest None found bytes) t.picture
unfolding whole_rows_rest
rows_of_one_scan_stay settings found bytes more left before last met s t frame rows sized x y some d e is lossy =
    go (turn-goes more before last met left).adds
  where
    w : Walked
    w = all_brought None found bytes

    v : Walked
    v = all_brought None found (bytes ++ more)

    b : Brought
    b = turn_at Nothing before last met left

    c : Brought
    c = turn_at Nothing before last met (left ++ more)

    one : (told_of w.found.said ≡ s.told) × (picture_shown settings w.found ≡ Ok s.picture)
    one = shown-parts settings found bytes s d

    two : (told_of v.found.said ≡ t.told) × (picture_shown settings v.found ≡ Ok t.picture)
    two = shown-parts settings found (bytes ++ more) t e

    first : (w.found ≡ b.found) × (w.rows ≡ b.rows)
    first = refused-walk x.turns before last met left w x.comes x.fault x.stops

    second : (v.found ≡ c.found) × (v.rows ≡ c.rows)
    second = refused-walk y.turns before last met (left ++ more) v y.comes y.fault y.stops

    framed : b.found.said.frame ≡ Some frame
    framed = ap (λ (f : Found). f.said.frame) (sym first.0) ∙ ap (λ (x : Told). x.frame) one.0 ∙ is

    whole : HasSizedFrame b.found
    whole = subst HasSizedFrame first.0 ((walk-onward (suc (length bytes)) Elsewhere found None bytes).sized sized)

    none-rows : (m n : Option ℕ) → m ≡ n → m ≡ Some rows → n ≡ None → ⊥
    none-rows m n k p q = absurd cc

    counted : rows_of_found w.rows w.found ≡ rows_of_found b.rows b.found
    counted = ap₂ (λ (r : Option ℕ) (f : Found). rows_of_found r f) first.1 first.0

    go : ((b.found ≡ last) × (b.rows ≡ None)) ⊎ (ScanAdds last b.found b.rows c.found ⊎ RowsAdd last b.found c.found)
        → first_rows settings frame (rows_of_found w.rows w.found) s.picture
        ≡ first_rows settings frame (rows_of_found w.rows w.found) t.picture
    go (inl same) = absurd (none-rows w.rows b.rows first.1 some same.1)
    go (inr (inl adds)) =
        subst (λ (n : ℕ). first_rows settings frame n s.picture ≡ first_rows settings frame n t.picture) (sym counted)
        (adds-rows settings last b.found c.found b.rows whole adds frame s.picture t.picture framed
        (ap (picture_shown settings) (sym first.0) ∙ one.1) (ap (picture_shown settings) (sym second.0) ∙ two.1))
    go (inr (inr adds)) =
        let g = adds.goes in
        let same = same-frame g.frame frame b.found.said.frame
        (ap (λ (f : Found). f.said.frame) g.shorter_is ∙ adds.framed) framed in
        absurd (lossy (subst (λ (f : Frame). f.process ≡ Lossless) same adds.lossless))

-- ---- whole streams

start-stays : (bytes more : List ℕ) → Stays more (start_at bytes) (start_at (bytes ++ more))
unfolding start_at
start-stays bytes more = search (rules, stays-bind, byte-stays, stays-if, stays-ok, stays-err)

nothing-sized : HasSizedFrame nothing_found
unfolding nothing_found nothing_said
nothing-sized frame e = absurd cc

pub streams_are_final : (settings : Settings) (bytes more : List ℕ) (s t : Shown) (frame : Frame)
    → shown settings bytes ≡ Ok s → shown settings (bytes ++ more) ≡ Ok t
    → s.told.frame ≡ Some frame → frame.process ≡ DctSequential → s.told.metadata.jfif ≡ t.told.metadata.jfif
    → s.told.metadata.adobe ≡ t.told.metadata.adobe
    → first_rows settings frame (whole_rows bytes) s.picture ≡ first_rows settings frame (whole_rows bytes) t.picture
unfolding shown_within
streams_are_final settings bytes more s t frame d e is sequential j a =
    let x = bind-ok (start_at bytes) _ s d in
    let later = stays-read more _ _ (start-stays bytes more) x.0 x.1 in
    let y : shown_rest settings nothing_found (x.0.1 ++ more) ≡ Ok t =
    ap (λ (o : Outcome (Unit {0})). o >>= (λ start. shown_rest settings nothing_found start.1)) (sym later) ∙ e in
    let rows = started bytes x.0.1 x.1 in
    subst (λ (n : ℕ). first_rows settings frame n s.picture ≡ first_rows settings frame n t.picture) (sym rows)
    (rows_are_final settings nothing_found x.0.1 more s t frame nothing-sized x.2 y is sequential j a)

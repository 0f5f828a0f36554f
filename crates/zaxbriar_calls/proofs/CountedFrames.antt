-- The frame of a header that is read has one component, three or four.
use Rattle.std.proofs.Common.{◌≡◌, ◌⊎◌, ◌∙◌, inl, inr, ℕ, zero, suc, Bool, true, false, List, length}
use Rattle.std.proofs.Common.{Option, Some, None, Ok, Err, refl, sym, ap, subst, is_some, arith, rules}
use Rattle.std.specs.Prelude.{if◌then◌else◌, nat_le, option_map}
use Rattle.std.proofs.lemmas.Bool.{eqb-true}
use Rattle.std.proofs.lemmas.Grind.{common_steps}
use Rattle.std.proofs.lemmas.List.{length-map}
use Rattle.jpeg_bits.specs.Marker.{found_or, next_marker}
use Rattle.jpeg_bits.specs.Reading.{Lacks, Malformed, Outcome, ◌>>=◌}
use Rattle.jpeg_bits.specs.declared.beyond.Beyond.TheVariants.{Zeros}
use Rattle.jpeg_bits.specs.declared.error.UnsupportedFeature.TheVariants as features
use Rattle.jpeg_bits.specs.declared.marker.Marker.{Marker}
use Rattle.jpeg_bits.specs.declared.marker.Marker.TheVariants.{SOF, SOS}
use Rattle.jpeg_segments.proofs.Codecs.{err-ok, ok-same, bind-ok}
use Rattle.jpeg_segments.specs.Checks.{needed}
use Rattle.jpeg_segments.specs.Frame.{Frame, sof_at}
use Rattle.jpeg_segments.specs.Scales.{frame_at, scaled, scaled_by, sized}
use Rattle.jpeg_segments.specs.declared.frame.CodingProcess.{CodingProcess}
use Rattle.jpeg_segments.specs.declared.frame.CodingProcess.TheVariants.{DctProgressive, DctSequential, Lossless}
use Rattle.jpeg_decoder.specs.Bytes.{IsCounted, samples_a_pixel, shape_of}
use Rattle.jpeg_meaning.specs.Brought.{Brought, unbrought}
use Rattle.jpeg_meaning.specs.Found.{Found, Said, nothing_found, nothing_said, with_said}
use Rattle.jpeg_meaning.specs.Pixels.{format_of, luma_samples, samples_shown}
use Rattle.jpeg_meaning.specs.declared.images.PixelFormat.TheVariants.{L8, L16}
use Rattle.jpeg_meaning.specs.declared.settings.Settings.{Settings}
use Rattle.jpeg_meaning.specs.DecodedImages.{Size, FullSize, AtLeast, AtScale, at_size}
use Rattle.jpeg_meaning.specs.ScanSegments.{scan_segment}
use Rattle.jpeg_meaning.specs.Segments.{Turn, accepted, frame_segment, is_decoded_count, onward}
use Rattle.jpeg_meaning.specs.Stream.{Walked, brought_after, header_at, scan_turn_at, segment_at, segments_at}
use Rattle.jpeg_meaning.specs.Stream.{start_at, turn_at, turn_within, walk}
use Rattle.jpeg_meaning.specs.Work.{is_above, left_after, work_of_turn}
use Rattle.jpeg_meaning.specs.declared.before.Before.{Before}
use Rattle.jpeg_meaning.specs.declared.before.Before.TheVariants.{Elsewhere}
use Rattle.jpeg_meaning.proofs.Partial.FittingFrames.{KeepsAll, accepted-is, segment-keeps}
use Rattle.jpeg_meaning.proofs.Soundness.{accepted-facts}
use Rattle.jpeg_meaning.proofs.Written.ReadTurns.{needed-some, scan-or-segment, walk-end, walk-on, zeros-refused}

abbrev pub CountedFrame : Option Frame → Type 0
CountedFrame None = Unit {0}
CountedFrame (Some f) = is_decoded_count (length f.components) ≡ true

-- a turn after which the frame, where there is one, is counted, or a fault
abbrev Turns : Outcome Turn → Type 0
Turns (Ok x) = CountedFrame x.0.found.said.frame
Turns (Err fault) = Unit {0}

-- ---- segments

accepted-count : (f g : Frame) → accepted f ≡ Ok g → is_decoded_count (length g.components) ≡ true
accepted-count f g h =
    let same = accepted-is f g h in
    subst (λ (k : Frame). is_decoded_count (length k.components) ≡ true) same
    (own f (subst (λ (k : Frame). accepted f ≡ Ok k) (sym same) h))
  where
    own : (k : Frame) → accepted k ≡ Ok k → is_decoded_count (length k.components) ≡ true
    own k e = search (rules, accepted-facts)

frame-counted : (n : ℕ) (found : Found) (bytes : List ℕ) (x : Turn × List ℕ) → frame_segment n found bytes ≡ Ok x
    → CountedFrame x.0.found.said.frame
unfolding frame_segment
frame-counted n found bytes x e = go (is_some found.said.frame) e
  where
    go : (b : Bool) → (if b then Err (Lacks features.Hierarchical) else (sof_at n bytes >>= (λ f.
        accepted f.0 >>= (λ decoded.
        Ok (onward (with_said (λ said. record said { frame = Some decoded }) found), f.1))))) ≡ Ok x
        → CountedFrame x.0.found.said.frame
    go true e = absurd (err-ok _ x e)
    go false e =
        let f = bind-ok (sof_at n bytes) _ x e in
        let d = bind-ok (accepted f.0.0) _ x f.2 in
        subst (λ (y : Turn × List ℕ). CountedFrame y.0.found.said.frame) (ok-same _ x d.2)
        (accepted-count f.0.0 d.0 d.1)

segment-counted : (m : Marker) (before : Before) (found : Found) (bytes : List ℕ) (x : Turn × List ℕ)
    → CountedFrame found.said.frame → segment_at m before found bytes ≡ Ok x → CountedFrame x.0.found.said.frame
unfolding segment_at
segment-counted m before found bytes x h e = go (segment-keeps m before found bytes x e)
  where
    go : ((n : ℕ) × (m ≡ SOF n)) ⊎ KeepsAll found x → CountedFrame x.0.found.said.frame
    go (inl n) =
        frame-counted n.0 found bytes x (ap (λ (k : Marker). segment_at k before found bytes) (sym n.1) ∙ e)
    go (inr k) = subst CountedFrame (sym k.0) h

-- before a frame there is no scan
frameless-scan : (found : Found) (bytes : List ℕ) (x : Turn × List ℕ) → is_some found.said.frame ≡ false
    → scan_segment found bytes ≡ Ok x → ⊥
unfolding scan_segment
frameless-scan found bytes x n e =
    let f = bind-ok (needed found.said.frame) _ x e in
    let some = needed-some found.said.frame f.0 f.1 in
    let k : false ≡ true = sym n ∙ ap (λ (o : Option Frame). is_some o) some in absurd cc

-- ---- turns

after-counted : (m : Marker) (before : Before) (found : Found) (bytes : List ℕ) (x : Turn × List ℕ)
    → is_some found.said.frame ≡ false → CountedFrame found.said.frame
    → (brought_after Zeros m before found bytes).turn ≡ Ok x → CountedFrame x.0.found.said.frame
unfolding brought_after scan_turn_at
after-counted m before found bytes x n h e = go (scan-or-segment Zeros m before found bytes)
  where
    go : (m ≡ SOS) ⊎ (brought_after Zeros m before found bytes ≡ unbrought found (segment_at m before found bytes))
        → CountedFrame x.0.found.said.frame
    go (inl s) = absurd (frameless-scan found bytes x n
        (ap (λ (k : Marker). (brought_after Zeros k before found bytes).turn) (sym s) ∙ e))
    go (inr s) = segment-counted m before found bytes x h (ap (λ (b : Brought). b.turn) (sym s) ∙ e)

next-counted : (before : Before) (found : Found) (met : Option Marker) (bytes : List ℕ) (x : Turn × List ℕ)
    → is_some found.said.frame ≡ false → CountedFrame found.said.frame
    → (turn_at Zeros before found met bytes).turn ≡ Ok x → CountedFrame x.0.found.said.frame
unfolding turn_at
next-counted before found met bytes x n h e = go (found_or met bytes (next_marker bytes)) e
  where
    go : (o : Outcome Marker) → (elim o as (λ _. Brought) [
      | Ok m ↦ brought_after Zeros m.0 before found m.1
      | Err fault ↦ unbrought found (Err fault)
    ]).turn ≡ Ok x → CountedFrame x.0.found.said.frame
    go (Ok m) e = after-counted m.0 before found m.1 x n h e
    go (Err fault) e = absurd (err-ok fault x e)

turn-counted : (left : Option ℕ) (before : Before) (found : Found) (met : Option Marker) (bytes : List ℕ)
    (x : Turn × List ℕ) → is_some found.said.frame ≡ false → CountedFrame found.said.frame
    → (turn_within left Zeros before found met bytes).turn ≡ Ok x → CountedFrame x.0.found.said.frame
turn-counted left before found met bytes x n h e = go (is_above left (work_of_turn found met bytes)) e
  where
    go : (above : Bool) → (if above then unbrought found (Err Malformed)
        else turn_at Zeros before found met bytes).turn ≡ Ok x → CountedFrame x.0.found.said.frame
    go true e = absurd (err-ok Malformed x e)
    go false e = next-counted before found met bytes x n h e

-- ---- walks

abbrev walk_from : Option ℕ → ℕ → Before → Found → Option Marker → List ℕ → Walked
walk_from left turns before found met bytes = walk left Zeros turns true before found met bytes

moved : (a b : Walked) → a ≡ b → CountedFrame b.found.said.frame → CountedFrame a.found.said.frame
moved a b e h = subst (λ (w : Walked). CountedFrame w.found.said.frame) (sym e) h

headed : (left : Option ℕ) (turns : ℕ) (before : Before) (found : Found) (met : Option Marker) (bytes : List ℕ)
    → is_some found.said.frame ≡ true → (walk_from left (suc turns) before found met bytes).found ≡ found
unfolding walk
headed left turns before found met bytes e = rw e refl

-- after a turn
turns-counted : (left : Option ℕ) (turns : ℕ) (before : Before) (found : Found) (met : Option Marker)
    (bytes : List ℕ) (o : Outcome Turn) → is_some found.said.frame ≡ false → CountedFrame found.said.frame
    → (turn_within left Zeros before found met bytes).turn ≡ o
    → ((k : Option ℕ) (x : Turn) (rest : List ℕ) → CountedFrame x.found.said.frame
    → CountedFrame (walk_from k turns x.before x.found x.met rest).found.said.frame)
    → CountedFrame (walk_from left (suc turns) before found met bytes).found.said.frame
turns-counted left turns before found met bytes (Err f) n h e more =
    moved _ _ (zeros-refused left turns true before found met bytes f n e) h
turns-counted left turns before found met bytes (Ok (x, rest)) n h e more = go x.ended refl
  where
    t : CountedFrame x.found.said.frame
    t = turn-counted left before found met bytes (x, rest) n h e

    go : (b : Bool) → x.ended ≡ b → CountedFrame (walk_from left (suc turns) before found met bytes).found.said.frame
    go true p = moved _ _ (walk-end left Zeros turns true before found met bytes rest x n e p) t
    go false p =
        moved _ _ (walk-on left Zeros turns true before found met bytes rest x n e p)
        (more (left_after left (work_of_turn found met bytes)) x rest t)

walk-counted : (left : Option ℕ) (turns : ℕ) (before : Before) (found : Found) (met : Option Marker)
    (bytes : List ℕ) → CountedFrame found.said.frame
    → CountedFrame (walk left Zeros turns true before found met bytes).found.said.frame
unfolding walk
walk-counted left zero before found met bytes h = h
walk-counted left (suc turns) before found met bytes h = go (is_some found.said.frame) refl
    (λ k x rest more. walk-counted k turns x.before x.found x.met rest more)
  where
    go : (b : Bool) → is_some found.said.frame ≡ b
        → ((k : Option ℕ) (x : Turn) (rest : List ℕ) → CountedFrame x.found.said.frame
        → CountedFrame (walk_from k turns x.before x.found x.met rest).found.said.frame)
        → CountedFrame (walk_from left (suc turns) before found met bytes).found.said.frame
    go true e more =
        subst (λ (f : Found). CountedFrame f.said.frame) (sym (headed left turns before found met bytes e)) h
    go false e more = turns-counted left turns before found met bytes _ e h refl more

-- The frame of a header that is read is counted.
pub header-counted : (bytes rest : List ℕ) (found : Found) → header_at bytes ≡ Ok (found, rest)
    → CountedFrame found.said.frame
unfolding header_at segments_at nothing_found nothing_said
header-counted bytes rest found e =
    let start = bind-ok (start_at bytes) _ (found, rest) e in
    let w = walk None Zeros (suc (length start.0.1)) true Elsewhere nothing_found None start.0.1 in
    let ended = bind-ok w.rest _ (found, rest) start.2 in
    subst (λ (y : Found × List ℕ). CountedFrame y.0.said.frame) (ok-same _ (found, rest) ended.2)
    (walk-counted None (suc (length start.0.1)) Elsewhere nothing_found None start.0.1 tt)

-- ---- at a size

frame-at-counted : (scale : ℕ) (f : Frame) → CountedFrame (Some f) → CountedFrame (Some (frame_at scale f))
unfolding frame_at
frame-at-counted scale f h = search (rules, length-map)

scaled-counted : (process : CodingProcess) (scale : ℕ) (f : Frame) → CountedFrame (Some f)
    → CountedFrame (Some (scaled_by process scale f))
scaled-counted Lossless scale f h = h
scaled-counted DctSequential scale f h = frame-at-counted scale f h
scaled-counted DctProgressive scale f h = frame-at-counted scale f h

map-counted : (change : Frame → Frame) (o : Option Frame) → ((f : Frame) → CountedFrame (Some f)
    → CountedFrame (Some (change f))) → CountedFrame o → CountedFrame (option_map change o)
map-counted change None each h = tt
map-counted change (Some f) each h = each f h

-- A picture at another size has as many components.
pub sized-counted : (size : Size) (said : Said) → CountedFrame said.frame → CountedFrame (at_size size said).frame
sized-counted FullSize said h = h
sized-counted (AtLeast width height) said h =
    map-counted (sized width height) said.frame (λ f. scaled-counted f.process _ f) h
sized-counted (AtScale scale) said h = map-counted (scaled scale) said.frame (λ f. scaled-counted f.process _ f) h

-- ---- the samples of a pixel

-- What holds of one component, of three and of four holds of as many as are decoded.
decoded-counts : (P : ℕ → Type 0) (n : ℕ) → is_decoded_count n ≡ true → P 1 → P 3 → P 4 → P n
decoded-counts P n h one three four = grind (arith, common_steps, eqb-true)

one-sample : (b : Bool) → 1 ≡ samples_a_pixel (if b then L8 else L16)
one-sample true = refl
one-sample false = refl

by-format : (n precision : ℕ) → is_decoded_count n ≡ true → n ≡ samples_a_pixel (format_of n precision)
by-format n precision h =
    decoded-counts (λ k. k ≡ samples_a_pixel (format_of k precision)) n h (one-sample (nat_le precision 8)) refl refl

luma-count : (process : CodingProcess) (n : ℕ) → is_decoded_count n ≡ true
    → is_decoded_count (luma_samples process n) ≡ true
luma-count Lossless n h = h
luma-count DctSequential n h = refl
luma-count DctProgressive n h = refl

shown-count : (luma : Bool) (process : CodingProcess) (n : ℕ) → is_decoded_count n ≡ true
    → is_decoded_count (if luma then luma_samples process n else n) ≡ true
shown-count true process n h = luma-count process n h
shown-count false process n h = h

-- A pixel has as many samples as its format says.
pub counted-shape : (settings : Settings) (frame : Option Frame) → CountedFrame frame
    → IsCounted (option_map (shape_of settings) frame)
counted-shape settings None h = tt
counted-shape settings (Some f) h =
    by-format (samples_shown settings f) f.precision
    (shown-count settings.luma f.process (length f.components) h)

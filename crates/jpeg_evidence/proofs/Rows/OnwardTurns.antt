-- What comes later in a stream keeps the frame, and the planes that are decided.
use Rattle.std.proofs.lemmas.Grind.{common_steps}
use Rattle.std.proofs.lemmas.Bool.Decides.{nat_tests}
use Rattle.std.proofs.lemmas.List.Elements.{All-from_recursion}
use Rattle.std.proofs.Common.{◌≡◌, ◌⊎◌, inl, inr, ℕ, zero, suc, ◌+◌, ◌*◌, ◌<◌, ◌==◌, ◌&&◌, Bool, true, false, List, []}
use Rattle.std.proofs.Common.{◌∷◌}
use Rattle.std.proofs.Common.{get_or, set, Option, Some, None, Result, Ok, Err, refl, sym, ap, ◌∙◌, subst, arith}
use Rattle.std.proofs.Common.{if◌then◌else◌, is_some, nat_le}
use Rattle.std.specs.Prelude.{slice_index_or}
use Rattle.std.specs.List.{list_all}
use Rattle.jpeg_bits.specs.Marker.{found_or, next_marker}
use Rattle.jpeg_bits.specs.Passes.{Block, Pass}
use Rattle.jpeg_bits.specs.Reading.{Fault, Lacks, Malformed, Outcome, ◌>>=◌, length_at, next_byte, next_u16}
use Rattle.jpeg_bits.specs.declared.error.UnsupportedFeature.TheVariants.{Hierarchical}
use Rattle.jpeg_bits.specs.declared.beyond.Beyond.TheVariants.{Nothing}
use Rattle.jpeg_bits.specs.declared.marker.Marker.{Marker}
use Rattle.jpeg_bits.specs.declared.marker.Marker.TheVariants.{SOF, SOS}
use Rattle.jpeg_segments.specs.Checks.{check}
use Rattle.jpeg_segments.specs.Frame.{Frame, IsInRange, components_from, is_count, is_lossless_number}
use Rattle.jpeg_segments.specs.Frame.{is_precision, size_at, sof_at}
use Rattle.jpeg_segments.specs.Scales.{IsSizedFrame}
use Rattle.jpeg_segments.specs.ScanHeader.{Scan}
use Rattle.jpeg_segments.specs.declared.frame.CodingProcess.{CodingProcess}
use Rattle.jpeg_segments.specs.declared.frame.CodingProcess.TheVariants.{DctProgressive, DctSequential, Lossless}
use Rattle.jpeg_segments.proofs.Codecs.{bind-ok, err-ok, ok-same}
use Rattle.jpeg_segments.proofs.ScaleLemmas.{frames_are_sized}
use Rattle.jpeg_meaning.specs.declared.before.Before.{Before}
use Rattle.jpeg_meaning.specs.Brought.{Brought, blocks_brought, blocks_brought_by, brought_by, frame_and_scan}
use Rattle.jpeg_meaning.specs.Brought.{has_whole_rows, samples_brought, samples_brought_by, scan_brought, unbrought}
use Rattle.jpeg_meaning.specs.Found.{Found}
use Rattle.jpeg_meaning.specs.LosslessScans.{LosslessCoding, lossless_codings}
use Rattle.jpeg_meaning.specs.Scans.{Arrays}
use Rattle.jpeg_meaning.specs.ScanSegments.{Coding, after_scan, codings_of, decided, scan_turn, with_arrays}
use Rattle.jpeg_meaning.specs.ScanSegments.{with_blocks, with_plane}
use Rattle.jpeg_meaning.specs.Segments.{Turn, accepted, frame_segment}
use Rattle.jpeg_meaning.specs.Stream.{brought_after, scan_turn_at, segment_at, turn_at, walk}
use Rattle.jpeg_meaning.proofs.Partial.FittingFrames.{KeepsAll, accepted-is, after-keeps, components-range}
use Rattle.jpeg_meaning.proofs.Partial.FittingFrames.{framed, segment-keeps}
use Rattle.jpeg_meaning.proofs.Written.ReadTurns.{scan-or-segment, walked}
use Rattle.jpeg_meaning.specs.Rasters.{plane_by}
use Rattle.jpeg_meaning.proofs.Longer.LongerTurns.{FoundHeader, brought_of, walk_on}
use Rattle.jpeg_evidence.specs.CompleteRows.{HasSizedFrame}

-- what was found, and what is found later
pub record Onward (old new : Found) : Type 0 where
  pub sized : HasSizedFrame old → HasSizedFrame new
  pub framed : (frame : Frame) → old.said.frame ≡ Some frame → new.said.frame ≡ Some frame
  pub planes : (i : ℕ) (plane : List ℕ) → slice_index_or old.planes i None ≡ Some plane
      → slice_index_or new.planes i None ≡ Some plane

onward-same : (old new : Found) → new.said.frame ≡ old.said.frame → new.planes ≡ old.planes → Onward old new
onward-same old new e g = record {
  sized = λ h frame is. h frame (sym e ∙ is);
  framed = λ frame is. e ∙ is;
  planes = λ i plane is. ap (λ (l : List (Option (List ℕ))). slice_index_or l i None) g ∙ is;
}

pub onward-refl : (found : Found) → Onward found found
onward-refl found = onward-same found found refl refl

pub onward-on : (a b c : Found) → Onward a b → Onward b c → Onward a c
onward-on a b c p q = record {
  sized = λ h. q.sized (p.sized h);
  framed = λ frame is. q.framed frame (p.framed frame is);
  planes = λ i plane is. q.planes i plane (p.planes i plane is);
}

none-some : (frame : Frame) → ◌≡◌ {A = Option Frame} None (Some frame) → ⊥
none-some frame e = absurd cc

-- ---- a frame header

size-some : (bytes : List ℕ) (x : (ℕ × ℕ) × List ℕ) → size_at bytes ≡ Ok x → (0 < x.0.0) × (0 < x.0.1)
unfolding size_at
size-some bytes x e =
    let h = bind-ok (next_u16 bytes) _ x e in
    let w = bind-ok (next_u16 h.0.1) _ x h.2 in
    grind (arith, common_steps, nat_tests)

sof-sized : (number : ℕ) (bytes : List ℕ) (x : Frame × List ℕ) → sof_at number bytes ≡ Ok x → IsSizedFrame x.0
unfolding sof_at
sof-sized number bytes x e =
    let left = bind-ok (length_at bytes) _ x e in
    let a = bind-ok (check (nat_le 7 left.0.0)) _ x left.2 in
    let p = bind-ok (next_byte left.0.1) _ x a.2 in
    let b = bind-ok (check (is_precision number p.0.0)) _ x p.2 in
    let size = bind-ok (size_at p.0.1) _ x b.2 in
    let count = bind-ok (next_byte size.0.1) _ x size.2 in
    let d = bind-ok (check (is_count number count.0.0 && left.0.0 == 6 + 3 * count.0.0)) _ x count.2 in
    let cs = bind-ok (components_from (is_lossless_number number) count.0.0 [] count.0.1) _ x d.2 in
    let some = size-some p.0.1 size.0 size.1 in
    let range = components-range (is_lossless_number number) count.0.0 [] count.0.1 cs.0 tt cs.1 in
    subst (λ (y : Frame × List ℕ). IsSizedFrame y.0) (ok-same _ x cs.2) (frames_are_sized _ (record {
      number = number;
      precision = p.0.0;
      width = size.0.0.0;
      height = size.0.0.1;
      factors = cs.0.0;
      in_range = All-from_recursion IsInRange cs.0.0 range;
      some_width = some.0;
      some_height = some.1;
      made = refl;
    }))

-- ---- segments

frame-onward : (n : ℕ) (found : Found) (bytes : List ℕ) (x : Turn × List ℕ) → frame_segment n found bytes ≡ Ok x
    → Onward found x.0.found
unfolding frame_segment
frame-onward n found bytes x e = go found.said.frame refl e
  where
    go : (o : Option Frame) → found.said.frame ≡ o → (if is_some o then Err (Lacks Hierarchical)
        else (sof_at n bytes >>= (λ frame. framed found frame.0 frame.1))) ≡ Ok x → Onward found x.0.found
    go (Some frame) is e = absurd (err-ok _ x e)
    go None is e =
        let f = bind-ok (sof_at n bytes) _ x e in
        let g = bind-ok (accepted f.0.0) _ x f.2 in
        let sized = subst IsSizedFrame (accepted-is f.0.0 g.0 g.1) (sof-sized n bytes f.0 f.1) in
        subst (λ (y : Turn × List ℕ). Onward found y.0.found) (ok-same _ x g.2) (record {
          sized = λ h frame k. let same : g.0 ≡ frame = cc in subst IsSizedFrame same sized;
          framed = λ frame k. absurd (none-some frame (sym is ∙ k));
          planes = λ i plane k. k;
        })

-- What a turn has brought, and what it leads to, comes after what was found.
pub record TurnOnward (found : Found) (b : Brought) : Type 0 where
  pub brought : Onward found b.found
  pub turn : (x : Turn × List ℕ) → b.turn ≡ Ok x → Onward b.found x.0.found

refused-onward : (found : Found) (fault : Fault) → TurnOnward found (unbrought found (Err fault))
refused-onward found fault = record { brought = onward-refl found; turn = λ x e. absurd (err-ok fault x e) }

segment-onward : (m : Marker) (before : Before) (found : Found) (bytes : List ℕ)
    → TurnOnward found (unbrought found (segment_at m before found bytes))
unfolding segment_at
segment-onward m before found bytes =
    record { brought = onward-refl found; turn = λ x e. go x e (segment-keeps m before found bytes x e) }
  where
    go : (x : Turn × List ℕ) → segment_at m before found bytes ≡ Ok x
        → ((n : ℕ) × (m ≡ SOF n)) ⊎ KeepsAll found x → Onward found x.0.found
    go x e (inl n) =
        frame-onward n.0 found bytes x (ap (λ (k : Marker). segment_at k before found bytes) (sym n.1) ∙ e)
    go x e (inr k) = onward-same found x.0.found k.0 k.2

-- ---- scans

set-keeps : (planes : List (Option (List ℕ))) (i j : ℕ) (plane new : List ℕ) → get_or planes i None ≡ Some plane
    → get_or (set planes j (decided (get_or planes j None) new)) i None ≡ Some plane
set-keeps [] i j plane new e = e
set-keeps (o ∷ planes) zero zero plane new e = ap (λ (q : Option (List ℕ)). decided q new) e
set-keeps (o ∷ planes) zero (suc j) plane new e = e
set-keeps (o ∷ planes) (suc i) zero plane new e = e
set-keeps (o ∷ planes) (suc i) (suc j) plane new e = set-keeps planes i j plane new e

plane-keeps : (k : Coding) (blocks : List Block) (marks : List Bool) (planes : List (Option (List ℕ))) (i : ℕ)
    (plane : List ℕ) → get_or planes i None ≡ Some plane
    → get_or (with_plane k blocks marks planes) i None ≡ Some plane
unfolding with_plane
plane-keeps k blocks marks planes i plane e = go (list_all (λ mark. mark) marks)
  where
    go : (b : Bool) → get_or (if b then set planes k.index (decided (get_or planes k.index None)
        (plane_by k.component k.quantization blocks)) else planes) i None ≡ Some plane
    go true = set-keeps planes i k.index plane _ e
    go false = e

planes-keep : (p : Pass) (codings : List Coding) (arrays : Arrays) (found : Found) (i : ℕ) (plane : List ℕ)
    → get_or found.planes i None ≡ Some plane → get_or (with_arrays p codings arrays found).planes i None ≡ Some plane
unfolding with_arrays with_blocks
planes-keep p [] arrays found i plane e = e
planes-keep p (k ∷ codings) [] found i plane e = e
planes-keep p (k ∷ codings) (xs ∷ arrays) found i plane e =
    planes-keep p codings arrays (with_blocks p k xs found) i plane
    (plane-keeps k xs _ found.planes i plane e)

-- a scan of blocks keeps the frame
pub scan-framed : (before : Found) (frame : Frame) (scan : Scan) (codings : List Coding) (arrays : Arrays)
    → (after_scan before frame scan codings arrays).said.frame ≡ before.said.frame
unfolding with_blocks
scan-framed before frame scan codings arrays =
    after-keeps (λ (g : Found). g.said.frame) before frame scan codings arrays (λ k blocks g. refl) refl

scan-onward : (found : Found) (frame : Frame) (scan : Scan) (codings : List Coding) (arrays : Arrays)
    → Onward found (after_scan found frame scan codings arrays)
unfolding after_scan
scan-onward found frame scan codings arrays =
    let is = scan-framed found frame scan codings arrays in
    record {
      sized = λ h f k. h f (sym is ∙ k);
      framed = λ f k. is ∙ k;
      planes = λ i plane k. planes-keep _ codings arrays _ i plane k;
    }

-- a scan that leads to what it has brought
led-onward : (found after : Found) (rows : Option ℕ) (r : Outcome (Option Marker)) → Onward found after
    → TurnOnward found (record {
      found = after;
      rows = rows;
      turn = r >>= (λ m. Ok (scan_turn found after m.0, m.1));
    })
led-onward found after rows r o = record {
  brought = o;
  turn = λ x e.
      let m = bind-ok r _ x e in
      subst (λ (y : Turn × List ℕ). Onward after y.0.found) (ok-same _ x m.2) (onward-refl after);
}

blocks-onward : (found : Found) (frame : Frame) (scan : Scan) (bytes : List ℕ)
    → TurnOnward found (blocks_brought found frame scan bytes)
unfolding blocks_brought blocks_brought_by
blocks-onward found frame scan bytes = go (codings_of found.said frame scan)
  where
    go : (o : Result (List Coding) Fault)
        → TurnOnward found (brought_of found (λ codings. blocks_brought_by found frame scan codings bytes) o)
    go (Err fault) = refused-onward found fault
    go (Ok codings) = led-onward found _ _ _ (scan-onward found frame scan codings _)

samples-onward : (found : Found) (frame : Frame) (scan : Scan) (bytes : List ℕ)
    → TurnOnward found (samples_brought found frame scan bytes)
unfolding samples_brought samples_brought_by
samples-onward found frame scan bytes =
    go (lossless_codings found.said.huffman.dc frame scan.components scan.dc_destinations)
  where
    whole : (codings : List LosslessCoding) (b : Bool) → TurnOnward found
        (if b then samples_brought_by found frame scan codings bytes else unbrought found (Err Malformed))
    whole codings true = led-onward found _ _ _ (onward-same found _ refl refl)
    whole codings false = refused-onward found Malformed

    go : (o : Result (List LosslessCoding) Fault) → TurnOnward found (brought_of found
        (λ codings. if has_whole_rows found frame scan codings then samples_brought_by found frame scan codings bytes
        else unbrought found (Err Malformed)) o)
    go (Err fault) = refused-onward found fault
    go (Ok codings) = whole codings (has_whole_rows found frame scan codings)

by-onward : (process : CodingProcess) (found : Found) (frame : Frame) (scan : Scan) (bytes : List ℕ)
    → TurnOnward found (brought_by process found frame scan bytes)
by-onward Lossless found frame scan bytes = samples-onward found frame scan bytes
by-onward DctSequential found frame scan bytes = blocks-onward found frame scan bytes
by-onward DctProgressive found frame scan bytes = blocks-onward found frame scan bytes

header-onward : (found : Found) (bytes : List ℕ) → TurnOnward found (scan_brought found bytes)
unfolding scan_brought
header-onward found bytes = go (frame_and_scan found bytes)
  where
    go : (o : Result FoundHeader Fault)
        → TurnOnward found (brought_of found (λ x. brought_by x.0.process found x.0 x.1.0 x.1.1) o)
    go (Err fault) = refused-onward found fault
    go (Ok x) = by-onward x.0.process found x.0 x.1.0 x.1.1

-- ---- turns

after-onward : (m : Marker) (before : Before) (found : Found) (bytes : List ℕ)
    → TurnOnward found (brought_after Nothing m before found bytes)
unfolding brought_after scan_turn_at
after-onward m before found bytes = go (scan-or-segment Nothing m before found bytes)
  where
    go : (m ≡ SOS) ⊎ (brought_after Nothing m before found bytes ≡ unbrought found (segment_at m before found bytes))
        → TurnOnward found (brought_after Nothing m before found bytes)
    go (inl s) =
        subst (λ (k : Marker). TurnOnward found (brought_after Nothing k before found bytes)) (sym s)
        (header-onward found bytes)
    go (inr s) = subst (TurnOnward found) (sym s) (segment-onward m before found bytes)

pub turn-onward : (before : Before) (found : Found) (met : Option Marker) (bytes : List ℕ)
    → TurnOnward found (turn_at Nothing before found met bytes)
unfolding turn_at
turn-onward before found met bytes = go (found_or met bytes (next_marker bytes))
  where
    go : (o : Outcome Marker)
        → TurnOnward found (brought_of found (λ m. brought_after Nothing m.0 before found m.1) o)
    go (Ok m) = after-onward m.0 before found m.1
    go (Err fault) = refused-onward found fault

-- ---- walks

on-onward : (turns : ℕ) (b : Brought) (o : Outcome Turn) → b.turn ≡ o
    → ((x : Turn × List ℕ) → b.turn ≡ Ok x → Onward b.found x.0.found)
    → ((t : Turn × List ℕ) → Onward t.0.found
    (walk None Nothing turns false t.0.before t.0.found t.0.met t.1).found)
    → Onward b.found (walk_on turns b o).found
on-onward turns b (Err fault) e turn others = onward-refl b.found
on-onward turns b (Ok t) e turn others = go t.0.ended
  where
    go : (ended : Bool) → Onward b.found (if ended then walked t.0.found (Ok t.1)
        else walk None Nothing turns false t.0.before t.0.found t.0.met t.1).found
    go true = turn t e
    go false = onward-on b.found t.0.found _ (turn t e) (others t)

-- what a walk finds comes after what its first turn has brought
first-onward : (turns : ℕ) (before : Before) (found : Found) (met : Option Marker) (bytes : List ℕ)
    → ((t : Turn × List ℕ) → Onward t.0.found
    (walk None Nothing turns false t.0.before t.0.found t.0.met t.1).found)
    → Onward (turn_at Nothing before found met bytes).found
    (walk None Nothing (suc turns) false before found met bytes).found
unfolding walk
first-onward turns before found met bytes others =
    let b = turn_at Nothing before found met bytes in
    on-onward turns b b.turn refl (turn-onward before found met bytes).turn others

-- What a walk finds comes after what it begins with.
pub walk-onward : (turns : ℕ) (before : Before) (found : Found) (met : Option Marker) (bytes : List ℕ)
    → Onward found (walk None Nothing turns false before found met bytes).found
unfolding walk
walk-onward zero before found met bytes = onward-refl found
walk-onward (suc turns) before found met bytes =
    onward-on found (turn_at Nothing before found met bytes).found _ (turn-onward before found met bytes).brought
    (first-onward turns before found met bytes
    (λ t. walk-onward turns t.0.before t.0.found t.0.met t.1))

-- and after what its first turn has brought
pub after-turn : (turns : ℕ) (before : Before) (found : Found) (met : Option Marker) (bytes : List ℕ)
    → Onward (turn_at Nothing before found met bytes).found
    (walk None Nothing (suc turns) false before found met bytes).found
after-turn turns before found met bytes =
    first-onward turns before found met bytes (λ t. walk-onward turns t.0.before t.0.found t.0.met t.1)

-- A frame that was read stays, whatever comes after it in a stream.
use Rattle.std.proofs.Common.{◌≡◌, ◌⊎◌, ◌∙◌, inl, inr, ℕ, zero, suc, Bool, true, false, List, Option, Some, None}
use Rattle.std.proofs.Common.{Result, Ok, Err, refl, sym, ap, subst, ◌+◌, arith}
use Rattle.std.proofs.Common.{if◌then◌else◌, is_some}
use Rattle.jpeg_bits.specs.Marker.{found_or, next_marker}
use Rattle.jpeg_bits.specs.Reading.{Fault, Lacks, Malformed, Outcome, ◌>>=◌}
use Rattle.jpeg_bits.specs.declared.error.UnsupportedFeature.TheVariants.{Hierarchical}
use Rattle.jpeg_bits.specs.declared.beyond.Beyond.TheVariants.{Nothing}
use Rattle.jpeg_bits.specs.declared.marker.Marker.{Marker}
use Rattle.jpeg_bits.specs.declared.marker.Marker.TheVariants.{SOF, SOS}
use Rattle.jpeg_segments.proofs.Codecs.{bind-ok, err-ok, ok-same}
use Rattle.jpeg_segments.specs.Frame.{Frame, sof_at}
use Rattle.jpeg_segments.specs.ScanHeader.{Scan}
use Rattle.jpeg_segments.specs.declared.frame.CodingProcess.{CodingProcess}
use Rattle.jpeg_segments.specs.declared.frame.CodingProcess.TheVariants.{DctProgressive, DctSequential, Lossless}
use Rattle.jpeg_meaning.specs.Brought.{Brought, blocks_brought, blocks_brought_by, brought_by, frame_and_scan}
use Rattle.jpeg_meaning.specs.Brought.{has_whole_rows, samples_brought, samples_brought_by, scan_brought, unbrought}
use Rattle.jpeg_meaning.specs.Found.{Found}
use Rattle.jpeg_meaning.specs.LosslessScans.{LosslessCoding, lossless_codings}
use Rattle.jpeg_meaning.specs.ScanSegments.{Coding, after_scan, codings_of, scan_turn, with_blocks}
use Rattle.jpeg_meaning.specs.Scans.{Arrays}
use Rattle.jpeg_meaning.specs.Segments.{Turn, frame_segment}
use Rattle.jpeg_meaning.specs.Stream.{Walked, brought_after, scan_turn_at, segment_at, turn_at, turn_within, walk}
use Rattle.jpeg_meaning.specs.Work.{is_above, left_after, work_of_turn}
use Rattle.jpeg_meaning.specs.declared.before.Before.{Before}
use Rattle.jpeg_meaning.proofs.Longer.LongerTurns.{FoundHeader, brought_of}
use Rattle.jpeg_meaning.proofs.Partial.FittingFrames.{KeepsAll, after-keeps, framed, segment-keeps}
use Rattle.jpeg_meaning.proofs.Written.ReadTurns.{scan-or-segment, walk-end, walk-on, walk-refused}

abbrev pub HasFrame : Frame → Found → Type 0
HasFrame frame found = found.said.frame ≡ Some frame

-- What a turn has brought has this frame, and so has what it leads to.
record KeepsFrame (frame : Frame) (b : Brought) : Type 0 where
  brought : HasFrame frame b.found
  turn : (x : Turn × List ℕ) → b.turn ≡ Ok x → HasFrame frame x.0.found

refused-keeps : (frame : Frame) (found : Found) (fault : Fault) → HasFrame frame found
    → KeepsFrame frame (unbrought found (Err fault))
refused-keeps frame found fault is = record { brought = is; turn = λ x e. absurd (err-ok fault x e) }

-- ---- segments

-- there is no second frame
frame-again : (n : ℕ) (frame : Frame) (found : Found) (bytes : List ℕ) (x : Turn × List ℕ) → HasFrame frame found
    → frame_segment n found bytes ≡ Ok x → ⊥
unfolding frame_segment
frame-again n frame found bytes x is e = go found.said.frame is e
  where
    go : (o : Option Frame) → o ≡ Some frame → (if is_some o then Err (Lacks Hierarchical)
        else (sof_at n bytes >>= (λ frame. framed found frame.0 frame.1))) ≡ Ok x → ⊥
    go (Some f) is e = err-ok _ x e
    go None is e = absurd (let n : ⊥ = cc in n)

segment-frames : (m : Marker) (before : Before) (frame : Frame) (found : Found) (bytes : List ℕ) → HasFrame frame found
    → KeepsFrame frame (unbrought found (segment_at m before found bytes))
unfolding segment_at
segment-frames m before frame found bytes is =
    record { brought = is; turn = λ x e. go x e (segment-keeps m before found bytes x e) }
  where
    go : (x : Turn × List ℕ) → segment_at m before found bytes ≡ Ok x
        → ((n : ℕ) × (m ≡ SOF n)) ⊎ KeepsAll found x → HasFrame frame x.0.found
    go x e (inl n) =
        absurd (frame-again n.0 frame found bytes x is
        (ap (λ (k : Marker). segment_at k before found bytes) (sym n.1) ∙ e))
    go x e (inr k) = k.0 ∙ is

-- ---- scans

-- a scan that leads to what it has brought
led-frames : (frame : Frame) (found after : Found) (rows : Option ℕ) (r : Outcome (Option Marker))
    → HasFrame frame after → KeepsFrame frame (record {
      found = after;
      rows = rows;
      turn = r >>= (λ m. Ok (scan_turn found after m.0, m.1));
    })
led-frames frame found after rows r is = record {
  brought = is;
  turn = λ x e.
      let m = bind-ok r _ x e in
      subst (λ (y : Turn × List ℕ). HasFrame frame y.0.found) (ok-same _ x m.2) is;
}

scan-frames : (found : Found) (frame : Frame) (scan : Scan) (codings : List Coding) (arrays : Arrays)
    → (after_scan found frame scan codings arrays).said.frame ≡ found.said.frame
unfolding with_blocks
scan-frames found frame scan codings arrays =
    after-keeps (λ (g : Found). g.said.frame) found frame scan codings arrays (λ k blocks g. refl) refl

blocks-frames : (frame : Frame) (found : Found) (own : Frame) (scan : Scan) (bytes : List ℕ) → HasFrame frame found
    → KeepsFrame frame (blocks_brought found own scan bytes)
unfolding blocks_brought blocks_brought_by
blocks-frames frame found own scan bytes is = go (codings_of found.said own scan)
  where
    go : (o : Result (List Coding) Fault)
        → KeepsFrame frame (brought_of found (λ codings. blocks_brought_by found own scan codings bytes) o)
    go (Err fault) = refused-keeps frame found fault is
    go (Ok codings) = led-frames frame found _ _ _ (scan-frames found own scan codings _ ∙ is)

samples-frames : (frame : Frame) (found : Found) (own : Frame) (scan : Scan) (bytes : List ℕ) → HasFrame frame found
    → KeepsFrame frame (samples_brought found own scan bytes)
unfolding samples_brought samples_brought_by
samples-frames frame found own scan bytes is =
    go (lossless_codings found.said.huffman.dc own scan.components scan.dc_destinations)
  where
    whole : (codings : List LosslessCoding) (b : Bool) → KeepsFrame frame
        (if b then samples_brought_by found own scan codings bytes else unbrought found (Err Malformed))
    whole codings true = led-frames frame found _ _ _ is
    whole codings false = refused-keeps frame found Malformed is

    go : (o : Result (List LosslessCoding) Fault) → KeepsFrame frame (brought_of found
        (λ codings. if has_whole_rows found own scan codings then samples_brought_by found own scan codings bytes
        else unbrought found (Err Malformed)) o)
    go (Err fault) = refused-keeps frame found fault is
    go (Ok codings) = whole codings (has_whole_rows found own scan codings)

by-frames : (process : CodingProcess) (frame : Frame) (found : Found) (own : Frame) (scan : Scan) (bytes : List ℕ)
    → HasFrame frame found → KeepsFrame frame (brought_by process found own scan bytes)
by-frames Lossless frame found own scan bytes is = samples-frames frame found own scan bytes is
by-frames DctSequential frame found own scan bytes is = blocks-frames frame found own scan bytes is
by-frames DctProgressive frame found own scan bytes is = blocks-frames frame found own scan bytes is

header-frames : (frame : Frame) (found : Found) (bytes : List ℕ) → HasFrame frame found
    → KeepsFrame frame (scan_brought found bytes)
unfolding scan_brought
header-frames frame found bytes is = go (frame_and_scan found bytes)
  where
    go : (o : Result FoundHeader Fault)
        → KeepsFrame frame (brought_of found (λ x. brought_by x.0.process found x.0 x.1.0 x.1.1) o)
    go (Err fault) = refused-keeps frame found fault is
    go (Ok x) = by-frames x.0.process frame found x.0 x.1.0 x.1.1 is

-- ---- turns

after-frames : (m : Marker) (before : Before) (frame : Frame) (found : Found) (bytes : List ℕ) → HasFrame frame found
    → KeepsFrame frame (brought_after Nothing m before found bytes)
unfolding brought_after scan_turn_at
after-frames m before frame found bytes is = go (scan-or-segment Nothing m before found bytes)
  where
    go : (m ≡ SOS) ⊎ (brought_after Nothing m before found bytes ≡ unbrought found (segment_at m before found bytes))
        → KeepsFrame frame (brought_after Nothing m before found bytes)
    go (inl s) =
        subst (λ (k : Marker). KeepsFrame frame (brought_after Nothing k before found bytes)) (sym s)
        (header-frames frame found bytes is)
    go (inr s) = subst (KeepsFrame frame) (sym s) (segment-frames m before frame found bytes is)

turn-frames : (before : Before) (frame : Frame) (found : Found) (met : Option Marker) (bytes : List ℕ)
    → HasFrame frame found → KeepsFrame frame (turn_at Nothing before found met bytes)
unfolding turn_at
turn-frames before frame found met bytes is = go (found_or met bytes (next_marker bytes))
  where
    go : (o : Outcome Marker)
        → KeepsFrame frame (brought_of found (λ m. brought_after Nothing m.0 before found m.1) o)
    go (Ok m) = after-frames m.0 before frame found m.1 is
    go (Err fault) = refused-keeps frame found fault is

-- within a limit
within-frames : (left : Option ℕ) (before : Before) (frame : Frame) (found : Found) (met : Option Marker)
    (bytes : List ℕ) → HasFrame frame found → KeepsFrame frame (turn_within left Nothing before found met bytes)
within-frames left before frame found met bytes is = go (is_above left (work_of_turn found met bytes))
  where
    go : (above : Bool) → KeepsFrame frame
        (if above then unbrought found (Err Malformed) else turn_at Nothing before found met bytes)
    go true = refused-keeps frame found Malformed is
    go false = turn-frames before frame found met bytes is

-- ---- walks

walk-turn : (turns : ℕ) (left : Option ℕ) (before : Before) (frame : Frame) (found : Found) (met : Option Marker)
    (bytes : List ℕ) → HasFrame frame found
    → ((l : Option ℕ) (t : Turn) (rest : List ℕ) → HasFrame frame t.found
    → HasFrame frame (walk l Nothing turns false t.before t.found t.met rest).found)
    → HasFrame frame (walk left Nothing (suc turns) false before found met bytes).found
walk-turn turns left before frame found met bytes is others =
    go (turn_within left Nothing before found met bytes).turn refl
  where
    keeps : KeepsFrame frame (turn_within left Nothing before found met bytes)
    keeps = within-frames left before frame found met bytes is

    at : (w : Walked) → walk left Nothing (suc turns) false before found met bytes ≡ w → HasFrame frame w.found
        → HasFrame frame (walk left Nothing (suc turns) false before found met bytes).found
    at w e h = ap (λ (v : Walked). v.found.said.frame) e ∙ h

    goes : (t : Turn) (rest : List ℕ) → (turn_within left Nothing before found met bytes).turn ≡ Ok (t, rest)
        → (b : Bool) → t.ended ≡ b
        → HasFrame frame (walk left Nothing (suc turns) false before found met bytes).found
    goes t rest q true g =
        at _ (walk-end left Nothing turns false before found met bytes rest t refl q g) (keeps.turn (t, rest) q)
    goes t rest q false g =
        at _ (walk-on left Nothing turns false before found met bytes rest t refl q g)
        (others (left_after left (work_of_turn found met bytes)) t rest (keeps.turn (t, rest) q))

    go : (r : Outcome Turn) → (turn_within left Nothing before found met bytes).turn ≡ r
        → HasFrame frame (walk left Nothing (suc turns) false before found met bytes).found
    go (Err fault) q =
        at _ (walk-refused left Nothing turns false before found met bytes fault refl q) keeps.brought
    go (Ok x) q = goes x.0 x.1 q x.0.ended refl

-- What a walk finds has the frame that it begins with.
pub walk-frames : (turns : ℕ) (left : Option ℕ) (before : Before) (frame : Frame) (found : Found)
    (met : Option Marker) (bytes : List ℕ) → HasFrame frame found
    → HasFrame frame (walk left Nothing turns false before found met bytes).found
unfolding walk
walk-frames zero left before frame found met bytes is = is
walk-frames (suc turns) left before frame found met bytes is =
    walk-turn turns left before frame found met bytes is
    (λ l t rest h. walk-frames turns l t.before frame t.found t.met rest h)

-- ---- longer walks

longer-turn : (n m : ℕ) (left : Option ℕ) (before : Before) (frame : Frame) (found : Found) (met : Option Marker)
    (bytes : List ℕ)
    → ((l : Option ℕ) (t : Turn) (rest : List ℕ)
    → HasFrame frame (walk l Nothing n false t.before t.found t.met rest).found
    → HasFrame frame (walk l Nothing m false t.before t.found t.met rest).found)
    → HasFrame frame (walk left Nothing (suc n) false before found met bytes).found
    → HasFrame frame (walk left Nothing (suc m) false before found met bytes).found
longer-turn n m left before frame found met bytes others is =
    go (turn_within left Nothing before found met bytes).turn refl
  where
    at : (v w : Walked) → walk left Nothing (suc n) false before found met bytes ≡ v
        → walk left Nothing (suc m) false before found met bytes ≡ w → (HasFrame frame v.found → HasFrame frame w.found)
        → HasFrame frame (walk left Nothing (suc m) false before found met bytes).found
    at v w e g h =
        ap (λ (x : Walked). x.found.said.frame) g ∙ h (sym (ap (λ (x : Walked). x.found.said.frame) e) ∙ is)

    goes : (t : Turn) (rest : List ℕ) → (turn_within left Nothing before found met bytes).turn ≡ Ok (t, rest)
        → (b : Bool) → t.ended ≡ b
        → HasFrame frame (walk left Nothing (suc m) false before found met bytes).found
    goes t rest q true g =
        at _ _ (walk-end left Nothing n false before found met bytes rest t refl q g)
        (walk-end left Nothing m false before found met bytes rest t refl q g) (λ h. h)
    goes t rest q false g =
        at _ _ (walk-on left Nothing n false before found met bytes rest t refl q g)
        (walk-on left Nothing m false before found met bytes rest t refl q g)
        (others (left_after left (work_of_turn found met bytes)) t rest)

    go : (r : Outcome Turn) → (turn_within left Nothing before found met bytes).turn ≡ r
        → HasFrame frame (walk left Nothing (suc m) false before found met bytes).found
    go (Err fault) q =
        at _ _ (walk-refused left Nothing n false before found met bytes fault refl q)
        (walk-refused left Nothing m false before found met bytes fault refl q) (λ h. h)
    go (Ok x) q = goes x.0 x.1 q x.0.ended refl

-- A frame that was found is still there after more turns.
pub longer-frames : (n more : ℕ) (left : Option ℕ) (before : Before) (frame : Frame) (found : Found)
    (met : Option Marker) (bytes : List ℕ) → HasFrame frame (walk left Nothing n false before found met bytes).found
    → HasFrame frame (walk left Nothing (n + more) false before found met bytes).found
unfolding walk
longer-frames zero more left before frame found met bytes is =
    walk-frames (zero + more) left before frame found met bytes is
longer-frames (suc n) more left before frame found met bytes is =
    let one : suc n + more ≡ suc (n + more) = omega arith in
    ap (λ (k : ℕ). (walk left Nothing k false before found met bytes).found.said.frame) one
    ∙ longer-turn n (n + more) left before frame found met bytes
    (λ l t rest h. longer-frames n more l t.before frame t.found t.met rest h) is

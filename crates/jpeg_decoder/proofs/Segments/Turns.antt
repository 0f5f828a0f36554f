-- The segments of a stream, a turn at a time.
use Rattle.std.proofs.Common.{◌≡◌, ◌≤◌, ◌<◌, ℕ, suc, List, Ok, Err, Bool, true, false, Option, Some, None}
use Rattle.std.proofs.Common.{ap, ◌∙◌, length, arith}
use Rattle.std.specs.Prelude.{◌&&◌, is_some, if◌then◌else◌}
use Rattle.std.proofs.Math.Bool.{cond}
use Rattle.jpeg_bits.specs.Reading.{Outcome, Fault, Malformed, ◌>>=◌, length_at, skip_at}
use Rattle.jpeg_bits.specs.Marker.{next_marker}
use Rattle.jpeg_bits.specs.declared.marker.Marker.{Marker}
use Rattle.jpeg_bits.specs.declared.marker.Marker.TheVariants.{SOS}
use Rattle.jpeg_segments.specs.Frame.{Frame, sof_at}
use Rattle.jpeg_segments.specs.ScanHeader.{Scan, sos_at}
use Rattle.jpeg_segments.specs.declared.frame.CodingProcess.{CodingProcess}
use Rattle.jpeg_meaning.specs.LosslessScans.{lossless_codings}
use Rattle.jpeg_segments.specs.HuffmanTables.{dht_at}
use Rattle.jpeg_segments.specs.Application.{app_at, dri_at}
use Rattle.jpeg_segments.specs.Quantization.{dqt_at}
use Rattle.jpeg_meaning.specs.declared.before.Before.{Before}
use Rattle.jpeg_meaning.specs.declared.before.Before.TheVariants.{Elsewhere}
use Rattle.jpeg_bits.specs.declared.beyond.Beyond.{Beyond}
use Rattle.jpeg_bits.specs.declared.beyond.Beyond.TheVariants.{Nothing, Zeros}
use Rattle.jpeg_segments.specs.Checks.{needed}
use Rattle.jpeg_meaning.specs.ScanSegments.{lossless_scan, blocks_scan, codings_of, scan_by, scan_samples}
use Rattle.jpeg_meaning.specs.ScanSegments.{scan_arrays, scan_segment}
use Rattle.jpeg_meaning.specs.Segments.{accepted, application_segment, frame_segment, huffman_segment, onward, Turn}
use Rattle.jpeg_meaning.specs.Segments.{quantization_segment, restart_segment, skipped_segment}
use Rattle.jpeg_meaning.specs.Found.{Found, nothing_found}
use Rattle.jpeg_meaning.specs.Stream.{Walked, brought_after, end_segment, scan_turn_at, segment_at, start_at, told_of}
use Rattle.jpeg_meaning.specs.Brought.{Brought, unbrought}
use Rattle.jpeg_meaning.specs.Stream.{turn_at, turn_within, walk}
use Rattle.jpeg_meaning.specs.Work.{brought_within, is_above, left_after, work_of_turn}
use Rattle.jpeg_meaning.specs.Reported.{told_by_turns, told_in_turns}
use Rattle.jpeg_decoder.specs.Steps.{is_restart_marker}
use Rattle.jpeg_meaning.proofs.Shorter.{LeavesBelow, below-at, below_steps, length-below}
use Rattle.jpeg_meaning.proofs.Shorter.{skip-below, marker-below, sof-below, dqt-below, dht-below}
use Rattle.jpeg_meaning.proofs.Shorter.{sos-below, app-below, dri-below, arrays-below}
use Rattle.jpeg_meaning.proofs.Shorter.{samples-below}
use Rattle.jpeg_meaning.proofs.Refusals.{turns-start}
use Rattle.jpeg_decoder.proofs.Partial.BroughtScans.{scan-lowers}
use Rattle.jpeg_decoder.proofs.Segments.LeftBytes.{IsOnward, Lowers, On, left_at, met-lowers, on-at, on-bind, on-elim}
use Rattle.jpeg_decoder.proofs.Segments.LeftBytes.{on-else, on-err, on-needs, on-onward, onward-lowers, passes-leaves}
use Rattle.jpeg_decoder.proofs.Segments.PassedRestarts.{after-passes}
use Rattle.std.proofs.lemmas.Grind.{common_steps}

-- ---- what a turn takes

pub frame-goes : (limit number : ℕ) (found : Found) (bytes : List ℕ) → length bytes ≤ limit
    → On (IsOnward limit) (frame_segment number found bytes)
unfolding frame_segment
frame-goes limit number found bytes h =
    on-else (IsOnward limit) (is_some found.said.frame) _ _ (
    on-bind (IsOnward limit) limit (sof_at number bytes) _ (sof-below limit number bytes h) (λ f p.
    on-needs (IsOnward limit) (accepted f.0) _ (λ decoded. on-onward limit _ f.1 p)))

says-goes : {A : Type 0} (limit : ℕ) (r : Outcome A) (found_by : A → Found) → LeavesBelow limit r
    → On (IsOnward limit) (r >>= (λ (x : A × List ℕ). Ok (onward (found_by x.0), x.1)))
says-goes limit r found_by h = on-bind (IsOnward limit) limit r _ h (λ x p. on-onward limit _ x.1 p)

pub quantization-goes : (limit : ℕ) (found : Found) (bytes : List ℕ) → length bytes ≤ limit
    → On (IsOnward limit) (quantization_segment found bytes)
quantization-goes limit found bytes h = says-goes limit (dqt_at bytes) _ (dqt-below limit bytes h)

pub huffman-goes : (limit : ℕ) (found : Found) (bytes : List ℕ) → length bytes ≤ limit
    → On (IsOnward limit) (huffman_segment found bytes)
huffman-goes limit found bytes h = says-goes limit (dht_at _ bytes) _ (dht-below limit _ bytes h)

pub restart-goes : (limit : ℕ) (found : Found) (bytes : List ℕ) → length bytes ≤ limit
    → On (IsOnward limit) (restart_segment found bytes)
restart-goes limit found bytes h = says-goes limit (dri_at bytes) _ (dri-below limit bytes h)

pub application-goes : (limit number : ℕ) (found : Found) (bytes : List ℕ) → length bytes ≤ limit
    → On (IsOnward limit) (application_segment number found bytes)
application-goes limit number found bytes h =
    says-goes limit (app_at number bytes) _ (app-below limit number bytes h)

pub skipped-goes : (limit : ℕ) (found : Found) (bytes : List ℕ) → length bytes ≤ limit
    → On (IsOnward limit) (skipped_segment found bytes)
skipped-goes limit found bytes h =
    on-bind (IsOnward limit) limit (length_at bytes) _ (length-below limit bytes h) (λ n p.
    says-goes limit (skip_at n.0 n.1) _ (skip-below limit n.0 n.1 p))

-- the segments after which the image goes on
pub ruleset onward_rules = (frame-goes, quantization-goes, huffman-goes, restart-goes, application-goes, skipped-goes)

blocks-go : (limit : ℕ) (found : Found) (frame : Frame) (scan : Scan) (bytes : List ℕ) → length bytes < limit
    → On (Lowers limit) (blocks_scan found frame scan bytes)
unfolding blocks_scan scan_arrays
blocks-go limit found frame scan bytes p =
    on-needs (Lowers limit) (codings_of found.said frame scan) _ (λ codings.
    on-bind (Lowers limit) limit (scan_arrays found frame scan codings bytes) _ (arrays-below limit _ _ _ _ _ bytes p)
    (λ read q.
    met-lowers limit found _ _ (passes-leaves limit _ (after-passes limit read.0.1 read.1 q))))

samples-go : (limit : ℕ) (found : Found) (frame : Frame) (scan : Scan) (bytes : List ℕ) → length bytes < limit
    → On (Lowers limit) (lossless_scan found frame scan bytes)
unfolding lossless_scan
samples-go limit found frame scan bytes p =
    on-needs (Lowers limit) (lossless_codings found.said.huffman.dc frame scan.components
    scan.dc_destinations) _ (λ codings.
    on-bind (Lowers limit) limit (scan_samples found frame scan codings bytes) _ (samples-below limit _ _ _ _ bytes p)
    (λ read q.
    met-lowers limit found _ _ (passes-leaves limit _ (after-passes limit read.0.1 read.1 q))))

process-goes : (limit : ℕ) (p : CodingProcess) (found : Found) (frame : Frame) (scan : Scan)
    (bytes : List ℕ) → length bytes < limit → On (Lowers limit) (scan_by p found frame scan bytes)
process-goes limit p found frame scan bytes h = grind (arith, common_steps, samples-go, blocks-go)

scan-goes : (limit : ℕ) (found : Found) (bytes : List ℕ) → length bytes ≤ limit
    → On (Lowers limit) (scan_segment found bytes)
unfolding scan_segment
scan-goes limit found bytes h =
    on-needs (Lowers limit) (needed found.said.frame) _ (λ frame.
    on-bind (Lowers limit) limit (sos_at frame bytes) _ (sos-below limit frame bytes h) (λ scan p.
    process-goes limit frame.process found frame scan.0 scan.1 p))

segment-goes : (limit : ℕ) (m : Marker) (before : Before) (found : Found) (bytes : List ℕ) → length bytes ≤ limit
    → (is_restart_marker (Some m) ≡ true → length bytes < limit) → On (Lowers limit) (segment_at m before found bytes)
unfolding segment_at end_segment On
segment-goes limit m before found bytes h r =
    grind (arith, common_steps, onward_rules, onward-lowers, on-onward, on-err)

scan-turn-goes : (beyond : Beyond) (limit : ℕ) (found : Found) (bytes : List ℕ) → length bytes ≤ limit
    → On (Lowers limit) (scan_turn_at beyond found bytes).turn
unfolding scan_turn_at
scan-turn-goes Zeros limit found bytes h = scan-goes limit found bytes h
scan-turn-goes Nothing limit found bytes h = scan-lowers limit found bytes h

marker-goes : (beyond : Beyond) (limit : ℕ) (m : Marker) (before : Before) (found : Found) (bytes : List ℕ)
    → length bytes ≤ limit → (is_restart_marker (Some m) ≡ true → length bytes < limit)
    → On (Lowers limit) (brought_after beyond m before found bytes).turn
unfolding brought_after
marker-goes beyond limit SOS before found bytes h r = scan-turn-goes beyond limit found bytes h
marker-goes beyond limit m before found bytes h r = segment-goes limit m before found bytes h r

turn-goes : (beyond : Beyond) (before : Before) (found : Found) (met : Option Marker) (bytes : List ℕ)
    → On (Lowers (left_at met bytes)) (turn_at beyond before found met bytes).turn
unfolding turn_at
turn-goes beyond before found (Some m) bytes =
    marker-goes beyond (left_at (Some m) bytes) m before found bytes (omega arith) (λ e. rw e (omega arith))
turn-goes beyond before found None bytes =
    on-elim (Lowers (left_at None bytes)) (next_marker bytes) _ found (λ m is.
    let less : length m.1 < length bytes = below-at (length bytes) (next_marker bytes) m (marker-below bytes) is in
    marker-goes beyond (left_at None bytes) m.0 before found m.1 (omega (arith, less)) (λ _. omega (arith, less)))

-- so it does within a limit
pub on-within : (P : Turn × List ℕ → Type 0) (left : Option ℕ) (blocks : ℕ) (found : Found) (b : Brought) → On P b.turn
    → On P (brought_within left blocks found b).turn
on-within P left blocks found b h = go (is_above left blocks)
  where
    go : (above : Bool) → On P (if above then unbrought found (Err Malformed) else b).turn
    go true = on-err P Malformed
    go false = h

-- A turn after which the image goes on leaves fewer bytes, where a restart marker that is met counts as one.
pub turn-takes : (left : Option ℕ) (beyond : Beyond) (before : Before) (found : Found) (met : Option Marker)
    (bytes : List ℕ) (r : Turn × List ℕ) → (turn_within left beyond before found met bytes).turn ≡ Ok r
    → r.0.ended ≡ false → left_at r.0.met r.1 < left_at met bytes
turn-takes left beyond before found met bytes r e =
    on-at (Lowers (left_at met bytes)) _ r
    (on-within (Lowers (left_at met bytes)) left _ found _ (turn-goes beyond before found met bytes)) e

-- ---- turns

cond-same : {A : Type 0} (b : Bool) (x y z : A) → (b ≡ false → y ≡ z) → cond b x y ≡ cond b x z
cond-same b x y z h = grind (arith, common_steps)

turn-same : (r : Outcome Turn) (f g : Turn × List ℕ → Walked) (refused : Fault → Walked)
    → ((x : Turn × List ℕ) → r ≡ Ok x → f x ≡ g x)
    → elim r as (λ _. Walked) [ Err fault ↦ refused fault | Ok t ↦ f t ]
    ≡ elim r as (λ _. Walked) [ Err fault ↦ refused fault | Ok t ↦ g t ]
turn-same r f g refused h = grind (arith, common_steps)

-- more turns than bytes change nothing
pub turns-enough : (left : Option ℕ) (beyond : Beyond) (m n : ℕ) (header : Bool) (before : Before) (found : Found)
    (met : Option Marker) (bytes : List ℕ) → left_at met bytes < m → left_at met bytes < n
    → walk left beyond m header before found met bytes ≡ walk left beyond n header before found met bytes
unfolding walk
turns-enough left beyond (suc m) (suc n) header before found met bytes p q =
    cond-same (header && is_some found.said.frame) _ _ _ (λ _.
    turn-same (turn_within left beyond before found met bytes).turn _ _ _ (λ t is.
    cond-same t.0.ended _ _ _ (λ on.
    let less = turn-takes left beyond before found met bytes t is on in
    turns-enough (left_after left (work_of_turn found met bytes)) beyond m n header t.0.before t.0.found t.0.met t.1
    (omega (arith, p, less)) (omega (arith, q, less)))))
turns-enough left beyond _ _ header before found met bytes p q = absurd (omega arith)

-- ---- the start

pub start-below : (bytes : List ℕ) → LeavesBelow (suc (length bytes)) (start_at bytes)
unfolding start_at
start-below bytes = search below_steps

-- The turns of a stream, as many as it has bytes and one more, are those of what follows its start.
pub told-start : (limit : Option ℕ) (header : Bool) (bytes rest : List ℕ) → start_at bytes ≡ Ok (tt, rest)
    → told_by_turns limit (suc (length bytes)) header bytes
    ≡ told_in_turns limit (suc (length rest)) header nothing_found rest
told-start limit header bytes rest e =
    let few : length rest < suc (length bytes) = below-at _ _ _ (start-below bytes) e in
    turns-start limit (suc (length bytes)) header bytes rest e
    ∙ ap (λ (w : Walked). told_of w.found.said)
    (turns-enough limit Zeros (suc (length bytes)) (suc (length rest)) header Elsewhere nothing_found None rest
    (omega (arith, few)) (omega arith))

-- While a header is read on, the frame is not read yet.
pub not-framed : {A : Type 0} (header : Bool) (o : Option A) → (header && is_some o) ≡ false → header ≡ true → o ≡ None
not-framed header o e h = grind (arith, common_steps)

-- Segments and scans in turn don't depend on the planes that were found before.
use Rattle.std.proofs.Common.{◌≡◌, ◌⊎◌, inl, inr, ℕ, zero, suc, Bool, true, false, List, [], ◌∷◌, length, set, get_or}
use Rattle.std.proofs.Common.{Option, Some, None, Result, Ok, Err, refl, sym, ap, ◌∙◌, subst, is_some}
use Rattle.std.specs.Prelude.{fold, zip, if◌then◌else◌, option_map}
use Rattle.std.specs.List.{list_all}
use Rattle.jpeg_bits.specs.Marker.{found_or, next_marker}
use Rattle.jpeg_bits.specs.Passes.{Block, Pass}
use Rattle.jpeg_bits.specs.Reading.{Fault, Lacks, Malformed, Outcome, ◌>>=◌, length_at, skip_at}
use Rattle.jpeg_bits.specs.declared.beyond.Beyond.TheVariants.{Zeros}
use Rattle.jpeg_bits.specs.declared.error.UnsupportedFeature.TheVariants as features
use Rattle.jpeg_bits.specs.declared.marker.Marker.{Marker}
use Rattle.jpeg_bits.specs.declared.marker.Marker.TheVariants.{SOF, JPG, DHT, DAC, RST, SOI, EOI, SOS, DQT, DNL, DRI}
use Rattle.jpeg_bits.specs.declared.marker.Marker.TheVariants.{DHP, EXP, APP, JPGn, COM, TEM, RES}
use Rattle.jpeg_segments.specs.Application.{app_at, dri_at}
use Rattle.jpeg_segments.specs.Checks.{needed}
use Rattle.jpeg_segments.specs.Frame.{Frame, sof_at}
use Rattle.jpeg_segments.specs.HuffmanTables.{dht_at}
use Rattle.jpeg_segments.specs.Quantization.{dqt_at}
use Rattle.jpeg_segments.specs.ScanHeader.{Scan, sos_at}
use Rattle.jpeg_segments.specs.declared.frame.CodingProcess.{CodingProcess}
use Rattle.jpeg_segments.specs.declared.frame.CodingProcess.TheVariants.{DctProgressive, DctSequential, Lossless}
use Rattle.jpeg_meaning.specs.Brought.{Brought, unbrought}
use Rattle.jpeg_meaning.specs.Found.{Found, none_finished, with_said}
use Rattle.jpeg_meaning.specs.LosslessScans.{lossless_codings}
use Rattle.jpeg_meaning.specs.Rasters.{plane_by}
use Rattle.jpeg_meaning.specs.Scans.{Arrays}
use Rattle.jpeg_meaning.specs.ScanSegments.{Coding, after_restarts, after_scan, arrays_before, blocks_scan, codings_of}
use Rattle.jpeg_meaning.specs.ScanSegments.{decided, finished_by, lossless_scan, pass_of, scan_arrays, scan_by}
use Rattle.jpeg_meaning.specs.ScanSegments.{scan_samples, scan_segment, scan_turn, with_arrays, with_blocks, with_plane}
use Rattle.jpeg_meaning.specs.Segments.{Turn, accepted, frame_segment, onward}
use Rattle.jpeg_meaning.specs.Stream.{Walked, brought_after, end_segment, scan_turn_at, segment_at, turn_at}
use Rattle.jpeg_meaning.specs.Stream.{turn_within, walk}
use Rattle.jpeg_meaning.specs.Work.{brought_within, is_above, left_after, work_after, work_of_header, work_of_turn}
use Rattle.jpeg_meaning.specs.declared.before.Before.{Before}
use Rattle.jpeg_meaning.specs.declared.before.Before.TheVariants.{FirstScan, LaterScan, Elsewhere}
use Rattle.jpeg_meaning.proofs.Written.ReadTurns.{scan-or-segment, walk-end, walk-on, zeros-refused}
use Rattle.jpeg_decoder.specs.ByRows.{turn_without, turns_without, without_planes}

-- ---- a scan of blocks

plane-without : (c : Coding) (blocks : List Block) (marks : List Bool) → with_plane c blocks marks [] ≡ []
unfolding with_plane
plane-without c blocks marks = go (list_all (λ mark. mark) marks)
  where
    go : (b : Bool) → (if b then set [] c.index (decided (get_or [] c.index None)
        (plane_by c.component c.quantization blocks)) else []) ≡ []
    go true = refl
    go false = refl

blocks-without : (p : Pass) (c : Coding) (blocks : List Block) (found : Found)
    → with_blocks p c blocks (without_planes found) ≡ without_planes (with_blocks p c blocks found)
unfolding with_blocks
blocks-without p c blocks found =
    let marks = finished_by p (get_or found.finished c.index none_finished) in
    ap (λ (planes : List (Option (List ℕ))).
    record found { finished = set found.finished c.index marks; planes = planes })
    (plane-without c blocks marks)

all-without : (p : Pass) (xs : List (Coding × List Block)) (found : Found)
    → fold (λ found x. with_blocks p x.0 x.1 found) (without_planes found) xs
    ≡ without_planes (fold (λ found x. with_blocks p x.0 x.1 found) found xs)
all-without p [] found = refl
all-without p (x ∷ xs) found =
    ap (λ (g : Found). fold (λ found x. with_blocks p x.0 x.1 found) g xs) (blocks-without p x.0 x.1 found)
    ∙ all-without p xs (with_blocks p x.0 x.1 found)

pub scan-without : (found : Found) (frame : Frame) (scan : Scan) (codings : List Coding) (arrays : Arrays)
    → after_scan (without_planes found) frame scan codings arrays
    ≡ without_planes (after_scan found frame scan codings arrays)
unfolding after_scan with_arrays arrays_before
scan-without found frame scan codings arrays = all-without (pass_of scan) (zip codings arrays) _

-- ---- segments

bind-without : {A : Type 0} (o : Result A Fault) (f g : A → Outcome Turn) → ((x : A) → g x ≡ turns_without (f x))
    → (o >>= g) ≡ turns_without (o >>= f)
bind-without (Ok x) f g h = h x
bind-without (Err fault) f g h = refl

frame-without : (n : ℕ) (found : Found) (bytes : List ℕ)
    → frame_segment n (without_planes found) bytes ≡ turns_without (frame_segment n found bytes)
unfolding frame_segment
frame-without n found bytes = go (is_some found.said.frame)
  where
    go : (b : Bool) → (if b then Err (Lacks features.Hierarchical) else (sof_at n bytes >>= (λ f.
        accepted f.0 >>= (λ decoded.
        Ok (onward (with_said (λ said. record said { frame = Some decoded }) (without_planes found)), f.1)))))
        ≡ turns_without (if b then Err (Lacks features.Hierarchical) else (sof_at n bytes >>= (λ f.
        accepted f.0 >>= (λ decoded.
        Ok (onward (with_said (λ said. record said { frame = Some decoded }) found), f.1)))))
    go true = refl
    go false = bind-without (sof_at n bytes) _ _ (λ f. bind-without (accepted f.0) _ _ (λ decoded. refl))

end-without : (found : Found) (bytes : List ℕ)
    → end_segment (without_planes found) bytes ≡ turns_without (end_segment found bytes)
unfolding end_segment
end-without found bytes = go (is_some found.said.frame)
  where
    go : (b : Bool)
        → (if b then Ok (record (onward (without_planes found)) { ended = true }, bytes) else Err Malformed)
        ≡ turns_without (if b then Ok (record (onward found) { ended = true }, bytes) else Err Malformed)
    go true = refl
    go false = refl

restart-without : (before : Before) (n : ℕ) (found : Found) (bytes : List ℕ)
    → segment_at (RST n) before (without_planes found) bytes ≡ turns_without (segment_at (RST n) before found bytes)
unfolding segment_at
restart-without Elsewhere n found bytes = refl
restart-without FirstScan n found bytes = refl
restart-without LaterScan n found bytes = refl

lines-without : (before : Before) (found : Found) (bytes : List ℕ)
    → segment_at DNL before (without_planes found) bytes ≡ turns_without (segment_at DNL before found bytes)
unfolding segment_at
lines-without Elsewhere found bytes = refl
lines-without FirstScan found bytes = refl
lines-without LaterScan found bytes = refl

pub segment-without : (m : Marker) (before : Before) (found : Found) (bytes : List ℕ)
    → segment_at m before (without_planes found) bytes ≡ turns_without (segment_at m before found bytes)
unfolding segment_at
segment-without (SOF n) before found bytes = frame-without n found bytes
segment-without DQT before found bytes = bind-without (dqt_at bytes) _ _ (λ r. refl)
segment-without DHT before found bytes =
    bind-without (dht_at (option_map (λ f. f.is_baseline) found.said.frame) bytes) _ _ (λ r. refl)
segment-without SOS before found bytes = refl
segment-without EOI before found bytes = end-without found bytes
segment-without DRI before found bytes = bind-without (dri_at bytes) _ _ (λ r. refl)
segment-without (APP n) before found bytes = bind-without (app_at n bytes) _ _ (λ r. refl)
segment-without COM before found bytes =
    bind-without (length_at bytes) _ _ (λ n. bind-without (skip_at n.0 n.1) _ _ (λ r. refl))
segment-without (RST n) before found bytes = restart-without before n found bytes
segment-without DNL before found bytes = lines-without before found bytes
segment-without DAC before found bytes = refl
segment-without DHP before found bytes = refl
segment-without EXP before found bytes = refl
segment-without JPG before found bytes = refl
segment-without SOI before found bytes = refl
segment-without (JPGn n) before found bytes = refl
segment-without TEM before found bytes = refl
segment-without RES before found bytes = refl

-- ---- scans

data-without : (found : Found) (f : Frame) (scan : Scan) (bytes : List ℕ)
    → blocks_scan (without_planes found) f scan bytes ≡ turns_without (blocks_scan found f scan bytes)
unfolding blocks_scan scan_arrays arrays_before
data-without found f scan bytes =
    bind-without (codings_of found.said f scan) _ _ (λ codings.
    bind-without (scan_arrays found f scan codings bytes) _ _ (λ read.
    bind-without (after_restarts (suc (length read.1)) read.0.1 read.1) _ _ (λ met.
    ap (λ (g : Found). Ok (scan_turn (without_planes found) g met.0, met.1))
    (scan-without found f scan codings read.0.0))))

samples-without : (found : Found) (f : Frame) (scan : Scan) (bytes : List ℕ)
    → lossless_scan (without_planes found) f scan bytes ≡ turns_without (lossless_scan found f scan bytes)
unfolding lossless_scan
samples-without found f scan bytes =
    bind-without (lossless_codings found.said.huffman.dc f scan.components scan.dc_destinations) _ _ (λ codings.
    bind-without (scan_samples found f scan codings bytes) _ _ (λ read.
    bind-without (after_restarts (suc (length read.1)) read.0.1 read.1) _ _ (λ met. refl)))

-- what stands after the header of a scan
pub by-without : (process : CodingProcess) (found : Found) (f : Frame) (scan : Scan) (bytes : List ℕ)
    → scan_by process (without_planes found) f scan bytes ≡ turns_without (scan_by process found f scan bytes)
by-without Lossless found f scan bytes = samples-without found f scan bytes
by-without DctSequential found f scan bytes = data-without found f scan bytes
by-without DctProgressive found f scan bytes = data-without found f scan bytes

header-without : (found : Found) (bytes : List ℕ)
    → scan_segment (without_planes found) bytes ≡ turns_without (scan_segment found bytes)
unfolding scan_segment
header-without found bytes =
    bind-without (needed found.said.frame) _ _ (λ f. bind-without (sos_at f bytes) _ _ (λ scan.
    by-without f.process found f scan.0 scan.1))

-- ---- turns

-- after a marker
abbrev after : Marker → Before → Found → List ℕ → Outcome Turn
after m before found bytes = (brought_after Zeros m before found bytes).turn

after-without : (m : Marker) (before : Before) (found : Found) (bytes : List ℕ)
    → after m before (without_planes found) bytes ≡ turns_without (after m before found bytes)
unfolding brought_after scan_turn_at
after-without m before found bytes =
    go (scan-or-segment Zeros m before found bytes) (scan-or-segment Zeros m before (without_planes found) bytes)
  where
    scan : m ≡ SOS → after m before (without_planes found) bytes ≡ turns_without (after m before found bytes)
    scan s = subst (λ (k : Marker). after k before (without_planes found) bytes
        ≡ turns_without (after k before found bytes)) (sym s) (header-without found bytes)

    go : (m ≡ SOS) ⊎ (brought_after Zeros m before found bytes ≡ unbrought found (segment_at m before found bytes))
        → (m ≡ SOS) ⊎ (brought_after Zeros m before (without_planes found) bytes
        ≡ unbrought (without_planes found) (segment_at m before (without_planes found) bytes))
        → after m before (without_planes found) bytes ≡ turns_without (after m before found bytes)
    go (inl s) _ = scan s
    go (inr e) (inl s) = scan s
    go (inr e) (inr g) = ap (λ (b : Brought). b.turn) g ∙ segment-without m before found bytes
        ∙ sym (ap (λ (b : Brought). turns_without b.turn) e)

next-without : (before : Before) (found : Found) (met : Option Marker) (bytes : List ℕ)
    → (turn_at Zeros before (without_planes found) met bytes).turn
    ≡ turns_without (turn_at Zeros before found met bytes).turn
unfolding turn_at
next-without before found met bytes = go (found_or met bytes (next_marker bytes))
  where
    go : (o : Outcome Marker) → (elim o as (λ _. Brought) [
      | Ok m ↦ brought_after Zeros m.0 before (without_planes found) m.1
      | Err fault ↦ unbrought (without_planes found) (Err fault)
    ]).turn ≡ turns_without (elim o as (λ _. Brought) [
      | Ok m ↦ brought_after Zeros m.0 before found m.1
      | Err fault ↦ unbrought found (Err fault)
    ]).turn
    go (Ok m) = after-without m.0 before found m.1
    go (Err fault) = refl

-- The work doesn't depend on planes.
work-after-without : (m : Marker) (found : Found) (bytes : List ℕ)
    → work_after m (without_planes found) bytes ≡ work_after m found bytes
unfolding work_of_header
work-after-without SOS found bytes = refl
work-after-without (SOF n) found bytes = refl
work-after-without JPG found bytes = refl
work-after-without DHT found bytes = refl
work-after-without DAC found bytes = refl
work-after-without (RST n) found bytes = refl
work-after-without SOI found bytes = refl
work-after-without EOI found bytes = refl
work-after-without DQT found bytes = refl
work-after-without DNL found bytes = refl
work-after-without DRI found bytes = refl
work-after-without DHP found bytes = refl
work-after-without EXP found bytes = refl
work-after-without (APP n) found bytes = refl
work-after-without (JPGn n) found bytes = refl
work-after-without COM found bytes = refl
work-after-without TEM found bytes = refl
work-after-without RES found bytes = refl

pub work-without : (found : Found) (met : Option Marker) (bytes : List ℕ)
    → work_of_turn (without_planes found) met bytes ≡ work_of_turn found met bytes
unfolding work_of_turn
work-without found met bytes = go (found_or met bytes (next_marker bytes))
  where
    go : (o : Outcome Marker) → (elim o as (λ _. ℕ) [
      | Ok m ↦ work_after m.0 (without_planes found) m.1
      | Err fault ↦ 0
    ]) ≡ (elim o as (λ _. ℕ) [
      | Ok m ↦ work_after m.0 found m.1
      | Err fault ↦ 0
    ])
    go (Ok m) = work-after-without m.0 found m.1
    go (Err fault) = refl

pub turn-without : (left : Option ℕ) (before : Before) (found : Found) (met : Option Marker) (bytes : List ℕ)
    → (turn_within left Zeros before (without_planes found) met bytes).turn
    ≡ turns_without (turn_within left Zeros before found met bytes).turn
turn-without left before found met bytes =
    subst (λ (w : ℕ). (brought_within left w (without_planes found)
    (turn_at Zeros before (without_planes found) met bytes)).turn
    ≡ turns_without (turn_within left Zeros before found met bytes).turn)
    (sym (work-without found met bytes)) (go (is_above left (work_of_turn found met bytes)))
  where
    go : (above : Bool) → (if above then unbrought (without_planes found) (Err Malformed)
        else turn_at Zeros before (without_planes found) met bytes).turn
        ≡ turns_without (if above then unbrought found (Err Malformed)
        else turn_at Zeros before found met bytes).turn
    go true = refl
    go false = next-without before found met bytes

-- ---- walks

-- what a walk finds, but for the planes
abbrev pub walk_without : Walked → Walked
walk_without w = record w { found = without_planes w.found }

abbrev walk_from : Option ℕ → ℕ → Before → Found → Option Marker → List ℕ → Walked
walk_from left turns before found met bytes = walk left Zeros turns false before found met bytes

-- a walk up to a fault
abbrev stopped_walk : Found → Bool → Fault → Walked
stopped_walk found exceeded fault = record { found = found; rows = None; exceeded = exceeded; rest = Err fault }

-- after a turn
turns-on : (left : Option ℕ) (turns : ℕ) (before : Before) (found : Found) (met : Option Marker) (bytes : List ℕ)
    (o : Outcome Turn) → (turn_within left Zeros before found met bytes).turn ≡ o
    → (turn_within left Zeros before (without_planes found) met bytes).turn ≡ turns_without o
    → ((k : Option ℕ) (x : Turn) (rest : List ℕ) → walk_from k turns x.before (without_planes x.found) x.met rest
    ≡ walk_without (walk_from k turns x.before x.found x.met rest))
    → walk_from left (suc turns) before (without_planes found) met bytes
    ≡ walk_without (walk_from left (suc turns) before found met bytes)
turns-on left turns before found met bytes (Err f) e h more =
    zeros-refused left turns false before (without_planes found) met bytes f refl h
    ∙ ap (λ (w : ℕ). stopped_walk (without_planes found) (is_above left w) f) (work-without found met bytes)
    ∙ sym (ap walk_without (zeros-refused left turns false before found met bytes f refl e))
turns-on left turns before found met bytes (Ok (x, rest)) e h more = go x.ended refl
  where
    go : (b : Bool) → x.ended ≡ b → walk_from left (suc turns) before (without_planes found) met bytes
        ≡ walk_without (walk_from left (suc turns) before found met bytes)
    go true p =
        walk-end left Zeros turns false before (without_planes found) met bytes rest (turn_without x) refl h p
        ∙ sym (ap walk_without (walk-end left Zeros turns false before found met bytes rest x refl e p))
    go false p =
        walk-on left Zeros turns false before (without_planes found) met bytes rest (turn_without x) refl h p
        ∙ ap (λ (w : ℕ). walk_from (left_after left w) turns x.before (without_planes x.found) x.met rest)
        (work-without found met bytes)
        ∙ more (left_after left (work_of_turn found met bytes)) x rest
        ∙ sym (ap walk_without (walk-on left Zeros turns false before found met bytes rest x refl e p))

-- A walk from what was found without its planes finds the same, but for planes.
pub walks-without : (left : Option ℕ) (turns : ℕ) (before : Before) (found : Found) (met : Option Marker)
    (bytes : List ℕ) → walk left Zeros turns false before (without_planes found) met bytes
    ≡ walk_without (walk left Zeros turns false before found met bytes)
unfolding walk
walks-without left zero before found met bytes = refl
walks-without left (suc turns) before found met bytes =
    turns-on left turns before found met bytes _ refl (turn-without left before found met bytes)
    (λ k x rest. walks-without k turns x.before x.found x.met rest)

-- So do walks from what is the same, but for planes.
pub walks-agree : (left : Option ℕ) (turns : ℕ) (before : Before) (found other : Found) (met : Option Marker)
    (bytes : List ℕ) → without_planes other ≡ without_planes found
    → walk_without (walk left Zeros turns false before other met bytes)
    ≡ walk_without (walk left Zeros turns false before found met bytes)
walks-agree left turns before found other met bytes same =
    sym (walks-without left turns before other met bytes)
    ∙ ap (λ (g : Found). walk_from left turns before g met bytes) same
    ∙ walks-without left turns before found met bytes

-- The planes that were found stay, whatever segments and scans come later.
use Rattle.std.proofs.Common.{◌≡◌, ◌⊎◌, inl, inr, ℕ, zero, suc, Bool, true, false, List, [], ◌∷◌, length, set, get_or}
use Rattle.std.proofs.Common.{Option, Some, None, Result, Ok, Err, refl, sym, ap, ap₂, subst, is_some}
use Rattle.std.specs.Prelude.{fold, zip, if◌then◌else◌, option_map}
use Rattle.std.specs.List.{list_all}
use Rattle.jpeg_bits.specs.Marker.{found_or, next_marker}
use Rattle.jpeg_bits.specs.Passes.{Block, Pass}
use Rattle.jpeg_bits.specs.Reading.{Fault, Lacks, Malformed, Outcome, ◌>>=◌, length_at, skip_at}
use Rattle.jpeg_bits.specs.declared.beyond.Beyond.TheVariants.{Zeros}
use Rattle.jpeg_bits.specs.declared.error.UnsupportedFeature.TheVariants as features
use Rattle.jpeg_bits.specs.declared.marker.Marker.{Marker}
use Rattle.jpeg_bits.specs.declared.marker.Marker.TheVariants.{SOF, JPG, DHT, DAC, RST, SOI, EOI, SOS, DQT, DNL, DRI}
use Rattle.jpeg_bits.specs.declared.marker.Marker.TheVariants.{DHP, EXP, APP, JPGn, COM, TEM, RES}
use Rattle.jpeg_segments.specs.Application.{app_at, dri_at}
use Rattle.jpeg_segments.specs.Checks.{needed}
use Rattle.jpeg_segments.specs.Frame.{Frame, sof_at}
use Rattle.jpeg_segments.specs.HuffmanTables.{dht_at}
use Rattle.jpeg_segments.specs.Quantization.{dqt_at}
use Rattle.jpeg_segments.specs.ScanHeader.{Scan, sos_at}
use Rattle.jpeg_segments.specs.declared.frame.CodingProcess.{CodingProcess}
use Rattle.jpeg_segments.specs.declared.frame.CodingProcess.TheVariants.{DctProgressive, DctSequential, Lossless}
use Rattle.jpeg_meaning.specs.Brought.{Brought, unbrought}
use Rattle.jpeg_meaning.specs.Found.{Found, with_said}
use Rattle.jpeg_meaning.specs.LosslessScans.{lossless_codings}
use Rattle.jpeg_meaning.specs.Rasters.{plane_by}
use Rattle.jpeg_meaning.specs.Scans.{Arrays}
use Rattle.jpeg_meaning.specs.ScanSegments.{Coding, after_restarts, after_scan, blocks_scan, codings_of, decided}
use Rattle.jpeg_meaning.specs.ScanSegments.{lossless_scan, pass_of, scan_arrays, scan_by, scan_samples, scan_segment}
use Rattle.jpeg_meaning.specs.ScanSegments.{with_arrays, with_blocks, with_plane}
use Rattle.jpeg_meaning.specs.Segments.{Turn, accepted, frame_segment, onward}
use Rattle.jpeg_meaning.specs.Stream.{Walked, brought_after, end_segment, scan_turn_at, segment_at, turn_at}
use Rattle.jpeg_meaning.specs.Stream.{turn_within, walk}
use Rattle.jpeg_meaning.specs.Work.{is_above, left_after, work_of_turn}
use Rattle.jpeg_meaning.specs.declared.before.Before.{Before}
use Rattle.jpeg_meaning.specs.declared.before.Before.TheVariants.{FirstScan, LaterScan, Elsewhere}
use Rattle.jpeg_meaning.proofs.Written.ReadTurns.{scan-or-segment, walk-end, walk-on, zeros-refused}
use Rattle.jpeg_decoder.specs.Givers.{AreFound}

-- a plane that is decided stays
set-stays : (planes : List (List ℕ)) (found : List (Option (List ℕ))) (i : ℕ) (plane : List ℕ)
    → AreFound planes found → AreFound planes (set found i (decided (get_or found i None) plane))
set-stays [] found i plane are = refl
set-stays (p ∷ planes) [] i plane are = are
set-stays (p ∷ planes) (o ∷ found) zero plane are =
    ap₂ (λ (q : Option (List ℕ)) (l : List (Option (List ℕ))). q ∷ l) (is o (first o _ _ are)) (more o _ _ are)
  where
    first : (o : Option (List ℕ)) (xs ys : List (Option (List ℕ))) → o ∷ xs ≡ Some p ∷ ys → o ≡ Some p
    first o xs ys e = cc

    more : (o : Option (List ℕ)) (xs ys : List (Option (List ℕ))) → o ∷ xs ≡ Some p ∷ ys → xs ≡ ys
    more o xs ys e = cc

    is : (o : Option (List ℕ)) → o ≡ Some p → decided o plane ≡ Some p
    is o e = ap (λ (q : Option (List ℕ)). decided q plane) e
set-stays (p ∷ planes) (o ∷ found) (suc i) plane are =
    ap₂ (λ (q : Option (List ℕ)) (l : List (Option (List ℕ))). q ∷ l) (first o _ _ are)
    (set-stays planes found i plane (more o _ _ are))
  where
    first : (o : Option (List ℕ)) (xs ys : List (Option (List ℕ))) → o ∷ xs ≡ Some p ∷ ys → o ≡ Some p
    first o xs ys e = cc

    more : (o : Option (List ℕ)) (xs ys : List (Option (List ℕ))) → o ∷ xs ≡ Some p ∷ ys → xs ≡ ys
    more o xs ys e = cc

module _ (planes : List (List ℕ)) where
  -- planes that were found are there
  abbrev pub Keeps : Found → Type 0
  Keeps found = AreFound planes found.planes

  plane-stays : (c : Coding) (blocks : List Block) (marks : List Bool) (found : List (Option (List ℕ)))
      → AreFound planes found → AreFound planes (with_plane c blocks marks found)
  unfolding with_plane
  plane-stays c blocks marks found are = go (list_all (λ mark. mark) marks)
    where
      go : (b : Bool) → AreFound planes (if b then set found c.index (decided (get_or found c.index None)
          (plane_by c.component c.quantization blocks)) else found)
      go true = set-stays planes found c.index (plane_by c.component c.quantization blocks) are
      go false = are

  all-stay : (p : Pass) (xs : List (Coding × List Block)) (found : Found) → Keeps found
      → Keeps (fold (λ found x. with_blocks p x.0 x.1 found) found xs)
  unfolding with_blocks
  all-stay p [] found are = are
  all-stay p (x ∷ xs) found are =
      all-stay p xs (with_blocks p x.0 x.1 found) (plane-stays x.0 x.1 _ found.planes are)

  pub scan-stays : (found : Found) (frame : Frame) (scan : Scan) (codings : List Coding) (arrays : Arrays)
      → Keeps found → Keeps (after_scan found frame scan codings arrays)
  unfolding after_scan with_arrays
  scan-stays found frame scan codings arrays are = all-stay (pass_of scan) (zip codings arrays) _ are

  -- ---- segments

  -- a turn that keeps the planes, or a fault
  abbrev pub Turns : Outcome Turn → Type 0
  Turns (Ok x) = Keeps x.0.found
  Turns (Err fault) = Unit {0}

  bind-stays : {A : Type 0} (o : Result A Fault) (f : A → Outcome Turn) → ((x : A) → Turns (f x)) → Turns (o >>= f)
  bind-stays (Ok x) f h = h x
  bind-stays (Err fault) f h = tt

  frame-stays : (n : ℕ) (found : Found) (bytes : List ℕ) → Keeps found → Turns (frame_segment n found bytes)
  unfolding frame_segment
  frame-stays n found bytes are = go (is_some found.said.frame)
    where
      go : (b : Bool) → Turns (if b then Err (Lacks features.Hierarchical) else (sof_at n bytes >>= (λ f.
          accepted f.0 >>= (λ decoded.
          Ok (onward (with_said (λ said. record said { frame = Some decoded }) found), f.1)))))
      go true = tt
      go false = bind-stays (sof_at n bytes) _ (λ f. bind-stays (accepted f.0) _ (λ decoded. are))

  end-stays : (found : Found) (bytes : List ℕ) → Keeps found → Turns (end_segment found bytes)
  unfolding end_segment
  end-stays found bytes are = go (is_some found.said.frame)
    where
      go : (b : Bool) → Turns (if b then Ok (record (onward found) { ended = true }, bytes) else Err Malformed)
      go true = are
      go false = tt

  restart-stays : (before : Before) (n : ℕ) (found : Found) (bytes : List ℕ) → Keeps found
      → Turns (segment_at (RST n) before found bytes)
  unfolding segment_at
  restart-stays Elsewhere n found bytes are = tt
  restart-stays FirstScan n found bytes are = are
  restart-stays LaterScan n found bytes are = are

  lines-stay : (before : Before) (found : Found) (bytes : List ℕ) → Turns (segment_at DNL before found bytes)
  unfolding segment_at
  lines-stay Elsewhere found bytes = tt
  lines-stay FirstScan found bytes = tt
  lines-stay LaterScan found bytes = tt

  segment-stays : (m : Marker) (before : Before) (found : Found) (bytes : List ℕ) → Keeps found
      → Turns (segment_at m before found bytes)
  unfolding segment_at
  segment-stays (SOF n) before found bytes are = frame-stays n found bytes are
  segment-stays DQT before found bytes are = bind-stays (dqt_at bytes) _ (λ r. are)
  segment-stays DHT before found bytes are =
      bind-stays (dht_at (option_map (λ f. f.is_baseline) found.said.frame) bytes) _ (λ r. are)
  segment-stays SOS before found bytes are = tt
  segment-stays EOI before found bytes are = end-stays found bytes are
  segment-stays DRI before found bytes are = bind-stays (dri_at bytes) _ (λ r. are)
  segment-stays (APP n) before found bytes are = bind-stays (app_at n bytes) _ (λ r. are)
  segment-stays COM before found bytes are =
      bind-stays (length_at bytes) _ (λ n. bind-stays (skip_at n.0 n.1) _ (λ r. are))
  segment-stays (RST n) before found bytes are = restart-stays before n found bytes are
  segment-stays DNL before found bytes are = lines-stay before found bytes
  segment-stays DAC before found bytes are = tt
  segment-stays DHP before found bytes are = tt
  segment-stays EXP before found bytes are = tt
  segment-stays JPG before found bytes are = tt
  segment-stays SOI before found bytes are = tt
  segment-stays (JPGn n) before found bytes are = tt
  segment-stays TEM before found bytes are = tt
  segment-stays RES before found bytes are = tt

  -- ---- scans

  data-stays : (found : Found) (f : Frame) (scan : Scan) (bytes : List ℕ) → Keeps found
      → Turns (blocks_scan found f scan bytes)
  unfolding blocks_scan
  data-stays found f scan bytes are =
      bind-stays (codings_of found.said f scan) _ (λ codings.
      bind-stays (scan_arrays found f scan codings bytes) _ (λ read.
      bind-stays (after_restarts (suc (length read.1)) read.0.1 read.1) _ (λ met.
      scan-stays found f scan codings read.0.0 are)))

  samples-stay : (found : Found) (f : Frame) (scan : Scan) (bytes : List ℕ) → Keeps found
      → Turns (lossless_scan found f scan bytes)
  unfolding lossless_scan
  samples-stay found f scan bytes are =
      bind-stays (lossless_codings found.said.huffman.dc f scan.components scan.dc_destinations) _ (λ codings.
      bind-stays (scan_samples found f scan codings bytes) _ (λ read.
      bind-stays (after_restarts (suc (length read.1)) read.0.1 read.1) _ (λ met. are)))

  by-stays : (process : CodingProcess) (found : Found) (f : Frame) (scan : Scan) (bytes : List ℕ) → Keeps found
      → Turns (scan_by process found f scan bytes)
  by-stays Lossless found f scan bytes are = samples-stay found f scan bytes are
  by-stays DctSequential found f scan bytes are = data-stays found f scan bytes are
  by-stays DctProgressive found f scan bytes are = data-stays found f scan bytes are

  header-stays : (found : Found) (bytes : List ℕ) → Keeps found → Turns (scan_segment found bytes)
  unfolding scan_segment
  header-stays found bytes are =
      bind-stays (needed found.said.frame) _ (λ f. bind-stays (sos_at f bytes) _ (λ scan.
      by-stays f.process found f scan.0 scan.1 are))

  -- ---- turns

  after-stays : (m : Marker) (before : Before) (found : Found) (bytes : List ℕ) → Keeps found
      → Turns (brought_after Zeros m before found bytes).turn
  unfolding brought_after scan_turn_at
  after-stays m before found bytes are = go (scan-or-segment Zeros m before found bytes)
    where
      go : (m ≡ SOS) ⊎ (brought_after Zeros m before found bytes ≡ unbrought found (segment_at m before found bytes))
          → Turns (brought_after Zeros m before found bytes).turn
      go (inl s) =
          subst (λ (k : Marker). Turns (brought_after Zeros k before found bytes).turn) (sym s)
          (header-stays found bytes are)
      go (inr e) = subst (λ (b : Brought). Turns b.turn) (sym e) (segment-stays m before found bytes are)

  next-stays : (before : Before) (found : Found) (met : Option Marker) (bytes : List ℕ) → Keeps found
      → Turns (turn_at Zeros before found met bytes).turn
  unfolding turn_at
  next-stays before found met bytes are = go (found_or met bytes (next_marker bytes))
    where
      go : (o : Outcome Marker) → Turns (elim o as (λ _. Brought) [
        | Ok m ↦ brought_after Zeros m.0 before found m.1
        | Err fault ↦ unbrought found (Err fault)
      ]).turn
      go (Ok m) = after-stays m.0 before found m.1 are
      go (Err fault) = tt

  pub turn-stays : (left : Option ℕ) (before : Before) (found : Found) (met : Option Marker) (bytes : List ℕ)
      → Keeps found → Turns (turn_within left Zeros before found met bytes).turn
  turn-stays left before found met bytes are = go (is_above left (work_of_turn found met bytes))
    where
      go : (above : Bool) → Turns
          (if above then unbrought found (Err Malformed) else turn_at Zeros before found met bytes).turn
      go true = tt
      go false = next-stays before found met bytes are

  -- ---- walks

  abbrev walk_from : Option ℕ → ℕ → Before → Found → Option Marker → List ℕ → Walked
  walk_from left turns before found met bytes = walk left Zeros turns false before found met bytes

  moved : (a b : Walked) → a ≡ b → Keeps b.found → Keeps a.found
  moved a b e are = subst (λ (w : Walked). Keeps w.found) (sym e) are

  -- after a turn
  turns-stay : (left : Option ℕ) (turns : ℕ) (before : Before) (found : Found) (met : Option Marker)
      (bytes : List ℕ) (o : Outcome Turn) → Keeps found → (turn_within left Zeros before found met bytes).turn ≡ o
      → Turns o → ((k : Option ℕ) (x : Turn) (rest : List ℕ) → Keeps x.found
      → Keeps (walk_from k turns x.before x.found x.met rest).found)
      → Keeps (walk_from left (suc turns) before found met bytes).found
  turns-stay left turns before found met bytes (Err f) are e t more =
      moved _ _ (zeros-refused left turns false before found met bytes f refl e) are
  turns-stay left turns before found met bytes (Ok (x, rest)) are e t more = go x.ended refl
    where
      go : (b : Bool) → x.ended ≡ b → Keeps (walk_from left (suc turns) before found met bytes).found
      go true p = moved _ _ (walk-end left Zeros turns false before found met bytes rest x refl e p) t
      go false p =
          moved _ _ (walk-on left Zeros turns false before found met bytes rest x refl e p)
          (more (left_after left (work_of_turn found met bytes)) x rest t)

  -- The planes that were found are there after a walk.
  pub planes-stay : (left : Option ℕ) (turns : ℕ) (before : Before) (found : Found) (met : Option Marker)
      (bytes : List ℕ) → AreFound planes found.planes
      → AreFound planes (walk left Zeros turns false before found met bytes).found.planes
  unfolding walk
  planes-stay left zero before found met bytes are = are
  planes-stay left (suc turns) before found met bytes are =
      turns-stay left turns before found met bytes _ are refl (turn-stays left before found met bytes are)
      (λ k x rest more. planes-stay k turns x.before x.found x.met rest more)

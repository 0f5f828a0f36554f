-- Where the planes of all components but the first are there before scans are read, the segments of a
-- stream find all else as they do without them.
use Rattle.std.proofs.Common.{◌≡◌, ◌⊎◌, inl, inr, ℕ, zero, suc, Bool, true, false, List, [], ◌∷◌}
use Rattle.std.proofs.Common.{length, set, get_or, replicate, Option, Some, None, Result, Ok, Err, refl, sym, ap, ◌∙◌}
use Rattle.std.proofs.Common.{subst, is_some, take, drop, ◌++◌, ◌-◌, ◌==◌}
use Rattle.std.proofs.lemmas.List.{length-set}
use Rattle.std.specs.Prelude.{fold, zip, if◌then◌else◌, option_map}
use Rattle.std.specs.List.{list_all}
use Rattle.jpeg_bits.specs.Marker.{found_or, next_marker}
use Rattle.jpeg_bits.specs.Passes.{Block, Pass}
use Rattle.jpeg_bits.specs.Reading.{Fault, Lacks, Malformed, Outcome, ◌>>=◌, length_at, skip_at}
use Rattle.jpeg_bits.specs.declared.beyond.Beyond.TheVariants.{Zeros}
use Rattle.jpeg_bits.specs.declared.error.UnsupportedFeature.TheVariants as features
use Rattle.jpeg_bits.specs.declared.marker.Marker.{Marker}
use Rattle.jpeg_bits.specs.declared.marker.Marker.TheVariants.{SOF, JPG, DHT, DAC, RST, SOI, EOI, SOS, DQT, DNL, DRI}
use Rattle.jpeg_bits.specs.declared.marker.Marker.TheVariants.{DHP, EXP, APP, JPGn, COM, TEM, RES}
use Rattle.jpeg_segments.specs.Application.{app_at, dri_at}
use Rattle.jpeg_segments.specs.Checks.{needed}
use Rattle.jpeg_segments.specs.Frame.{Frame, sof_at}
use Rattle.jpeg_segments.specs.HuffmanTables.{dht_at}
use Rattle.jpeg_segments.specs.Quantization.{dqt_at}
use Rattle.jpeg_segments.specs.ScanHeader.{Scan, sos_at}
use Rattle.jpeg_segments.specs.declared.frame.CodingProcess.{CodingProcess}
use Rattle.jpeg_segments.specs.declared.frame.CodingProcess.TheVariants.{DctProgressive, DctSequential, Lossless}
use Rattle.jpeg_meaning.specs.Brought.{Brought, unbrought}
use Rattle.jpeg_meaning.specs.Found.{Found, none_finished, with_said}
use Rattle.jpeg_meaning.specs.LosslessScans.{lossless_codings}
use Rattle.jpeg_meaning.specs.Scans.{Arrays}
use Rattle.jpeg_meaning.specs.ScanSegments.{Coding, after_restarts, after_scan, arrays_before, blocks_scan}
use Rattle.jpeg_meaning.specs.ScanSegments.{codings_of}
use Rattle.jpeg_meaning.specs.ScanSegments.{decided, finished_by, lossless_scan, pass_of, scan_arrays, scan_by}
use Rattle.jpeg_meaning.specs.ScanSegments.{scan_samples, scan_segment, scan_turn, with_arrays, with_blocks}
use Rattle.jpeg_meaning.specs.ScanSegments.{with_plane}
use Rattle.jpeg_meaning.specs.Rasters.{plane_by}
use Rattle.jpeg_meaning.specs.Segments.{Turn, accepted, frame_segment, onward}
use Rattle.jpeg_meaning.specs.Stream.{Walked, brought_after, end_segment, scan_turn_at, segment_at, turn_at}
use Rattle.jpeg_meaning.specs.Stream.{turn_within}
use Rattle.jpeg_meaning.specs.Stream.{walk}
use Rattle.jpeg_meaning.specs.Work.{brought_within, is_above, left_after, work_after, work_of_header, work_of_turn}
use Rattle.jpeg_meaning.specs.declared.before.Before.{Before}
use Rattle.jpeg_meaning.specs.declared.before.Before.TheVariants.{FirstScan, LaterScan, Elsewhere}
use Rattle.jpeg_meaning.proofs.Written.ReadTurns.{scan-or-segment, walk-end, walk-on, zeros-refused}
use Rattle.jpeg_decoder.specs.Spared.{beside, with_others}

-- ---- planes

-- Each of these planes is there.
abbrev pub AreGiven : List (Option (List ℕ)) → Type 0
AreGiven [] = Unit {0}
AreGiven (Some plane ∷ others) = AreGiven others
AreGiven (None ∷ others) = ⊥

-- A plane that is there stays.
given-stay : (others : List (Option (List ℕ))) (i : ℕ) (plane : List ℕ) → AreGiven others
    → set others i (decided (get_or others i None) plane) ≡ others
given-stay [] i plane all = refl
given-stay (Some p ∷ others) zero plane all = refl
given-stay (Some p ∷ others) (suc i) plane all =
    ap (λ (l : List (Option (List ℕ))). Some p ∷ l) (given-stay others i plane all)
given-stay (None ∷ others) i plane all = absurd all

set-beside : (others planes : List (Option (List ℕ))) (i : ℕ) (plane : List ℕ) → AreGiven others
    → set (with_others others planes) i (decided (get_or (with_others others planes) i None) plane)
    ≡ with_others others (set planes i (decided (get_or planes i None) plane))
set-beside others [] i plane all = refl
set-beside others (p ∷ planes) zero plane all = refl
set-beside others (p ∷ planes) (suc i) plane all =
    ap (λ (l : List (Option (List ℕ))). p ∷ l) (given-stay others i plane all)

plane-beside : (others planes : List (Option (List ℕ))) (c : Coding) (blocks : List Block) (marks : List Bool)
    → AreGiven others → with_plane c blocks marks (with_others others planes)
    ≡ with_others others (with_plane c blocks marks planes)
unfolding with_plane
plane-beside others planes c blocks marks all = go (list_all (λ mark. mark) marks)
  where
    go : (b : Bool) → (if b then set (with_others others planes) c.index
        (decided (get_or (with_others others planes) c.index None) (plane_by c.component c.quantization blocks))
        else with_others others planes)
        ≡ with_others others (if b then set planes c.index (decided (get_or planes c.index None)
        (plane_by c.component c.quantization blocks)) else planes)
    go true = set-beside others planes c.index (plane_by c.component c.quantization blocks) all
    go false = refl

-- ---- a scan of blocks

blocks-beside : (others : List (Option (List ℕ))) (p : Pass) (c : Coding) (blocks : List Block) (found : Found)
    → AreGiven others → with_blocks p c blocks (beside others found) ≡ beside others (with_blocks p c blocks found)
unfolding with_blocks
blocks-beside others p c blocks found all =
    let marks = finished_by p (get_or found.finished c.index none_finished) in
    ap (λ (planes : List (Option (List ℕ))).
    record found { finished = set found.finished c.index marks; planes = planes })
    (plane-beside others found.planes c blocks marks all)

all-beside : (others : List (Option (List ℕ))) (p : Pass) (xs : List (Coding × List Block)) (found : Found)
    → AreGiven others
    → fold (λ found x. with_blocks p x.0 x.1 found) (beside others found) xs
    ≡ beside others (fold (λ found x. with_blocks p x.0 x.1 found) found xs)
all-beside others p [] found all = refl
all-beside others p (x ∷ xs) found all =
    ap (λ (g : Found). fold (λ found x. with_blocks p x.0 x.1 found) g xs) (blocks-beside others p x.0 x.1 found all)
    ∙ all-beside others p xs (with_blocks p x.0 x.1 found) all

scan-beside : (others : List (Option (List ℕ))) (found : Found) (frame : Frame) (scan : Scan) (codings : List Coding)
    (arrays : Arrays) → AreGiven others → after_scan (beside others found) frame scan codings arrays
    ≡ beside others (after_scan found frame scan codings arrays)
unfolding after_scan with_arrays arrays_before
scan-beside others found frame scan codings arrays all = all-beside others (pass_of scan) (zip codings arrays) _ all

-- ---- marks

-- A component has a plane where all indices of its blocks are finished, and only there.
abbrev pub MarksTell : List (Option (List ℕ)) → List (List Bool) → Type 0
MarksTell [] [] = Unit {0}
MarksTell (plane ∷ planes) (marks ∷ finished) =
    (is_some plane ≡ list_all (λ mark. mark) marks) × MarksTell planes finished
MarksTell [] (marks ∷ finished) = ⊥
MarksTell (plane ∷ planes) [] = ⊥

-- what is known of a state that planes are given to
pub record Tells (frame : Frame) (found : Found) : Type 0 where
  pub framed : found.said.frame ≡ Some frame
  pub marks : MarksTell found.planes found.finished
  pub count : length found.planes ≡ 4

-- A pass only adds to what is finished.
all-taken : (n : ℕ) (marks : List Bool) → list_all (λ mark. mark) marks ≡ true
    → list_all (λ mark. mark) (take n marks) ≡ true
all-taken zero marks h = refl
all-taken (suc n) [] h = refl
all-taken (suc n) (true ∷ marks) h = all-taken n marks h
all-taken (suc n) (false ∷ marks) h = absurd cc

all-left : (n : ℕ) (marks : List Bool) → list_all (λ mark. mark) marks ≡ true
    → list_all (λ mark. mark) (drop n marks) ≡ true
all-left zero marks h = h
all-left (suc n) [] h = refl
all-left (suc n) (true ∷ marks) h = all-left n marks h
all-left (suc n) (false ∷ marks) h = absurd cc

all-repeated : (n : ℕ) → list_all (λ mark. mark) (replicate n true) ≡ true
all-repeated zero = refl
all-repeated (suc n) = all-repeated n

all-joined : (xs ys : List Bool) → list_all (λ mark. mark) xs ≡ true → list_all (λ mark. mark) ys ≡ true
    → list_all (λ mark. mark) (xs ++ ys) ≡ true
all-joined [] ys h g = g
all-joined (true ∷ xs) ys h g = all-joined xs ys h g
all-joined (false ∷ xs) ys h g = absurd cc

all-stay : (p : Pass) (marks : List Bool) → list_all (λ mark. mark) marks ≡ true
    → list_all (λ mark. mark) (finished_by p marks) ≡ true
unfolding finished_by
all-stay p marks h = go (p.al == 0)
  where
    go : (b : Bool) → list_all (λ mark. mark) (if b then take p.ss marks ++ (replicate (suc p.se - p.ss) true
        ++ drop (suc p.se) marks) else marks) ≡ true
    go true = all-joined (take p.ss marks) _ (all-taken p.ss marks h)
        (all-joined (replicate (suc p.se - p.ss) true) _ (all-repeated (suc p.se - p.ss))
        (all-left (suc p.se) marks h))
    go false = h

-- what a component's marks tell of its plane after a pass
plane-told : (o : Option (List ℕ)) (plane : List ℕ) (old new : List Bool) → is_some o ≡ list_all (λ mark. mark) old
    → (list_all (λ mark. mark) old ≡ true → list_all (λ mark. mark) new ≡ true)
    → is_some (if list_all (λ mark. mark) new then decided o plane else o) ≡ list_all (λ mark. mark) new
plane-told o plane old new e stays = go (list_all (λ mark. mark) new) refl
  where
    none : (u : Option (List ℕ)) → is_some u ≡ list_all (λ mark. mark) old → list_all (λ mark. mark) new ≡ false
        → is_some u ≡ false
    none None e f = refl
    none (Some q) e f = absurd (let full : list_all (λ mark. mark) new ≡ true = stays (sym e) in cc)

    go : (b : Bool) → list_all (λ mark. mark) new ≡ b → is_some (if b then decided o plane else o) ≡ b
    go true f = refl
    go false f = none o e f

set-told : (planes : List (Option (List ℕ))) (finished : List (List Bool)) (i : ℕ) (plane : List ℕ) (p : Pass)
    (b : Bool) → b ≡ list_all (λ mark. mark) (finished_by p (get_or finished i none_finished))
    → MarksTell planes finished
    → MarksTell (if b then set planes i (decided (get_or planes i None) plane) else planes)
    (set finished i (finished_by p (get_or finished i none_finished)))
set-told [] [] i plane p true e t = tt
set-told [] [] i plane p false e t = tt
set-told [] (marks ∷ finished) i plane p b e t = absurd t
set-told (o ∷ planes) [] i plane p b e t = absurd t
set-told (o ∷ planes) (marks ∷ finished) zero plane p true e t = (e, t.1)
set-told (o ∷ planes) (marks ∷ finished) zero plane p false e t = (
  subst (λ (b : Bool). is_some (if b then decided o plane else o) ≡ list_all (λ mark. mark) (finished_by p marks))
      (sym e)
      (plane-told o plane marks (finished_by p marks) t.0 (all-stay p marks)),
  t.1,
)
set-told (o ∷ planes) (marks ∷ finished) (suc i) plane p true e t =
    (t.0, set-told planes finished i plane p true e t.1)
set-told (o ∷ planes) (marks ∷ finished) (suc i) plane p false e t =
    (t.0, set-told planes finished i plane p false e t.1)

plane-count : (c : Coding) (blocks : List Block) (marks : List Bool) (planes : List (Option (List ℕ)))
    → length (with_plane c blocks marks planes) ≡ length planes
unfolding with_plane
plane-count c blocks marks planes = go (list_all (λ mark. mark) marks)
  where
    go : (b : Bool) → length (if b then set planes c.index (decided (get_or planes c.index None)
        (plane_by c.component c.quantization blocks)) else planes) ≡ length planes
    go true =
        length-set planes c.index (decided (get_or planes c.index None) (plane_by c.component c.quantization blocks))
    go false = refl

blocks-tell : (frame : Frame) (p : Pass) (c : Coding) (blocks : List Block) (found : Found) → Tells frame found
    → Tells frame (with_blocks p c blocks found)
unfolding with_blocks with_plane
blocks-tell frame p c blocks found t =
    let marks = finished_by p (get_or found.finished c.index none_finished) in
    record {
      framed = t.framed;
      marks = set-told found.planes found.finished c.index (plane_by c.component c.quantization blocks) p
          (list_all (λ mark. mark) marks) refl t.marks;
      count = plane-count c blocks marks found.planes ∙ t.count;
    }

all-tell : (frame : Frame) (p : Pass) (xs : List (Coding × List Block)) (found : Found) → Tells frame found
    → Tells frame (fold (λ found x. with_blocks p x.0 x.1 found) found xs)
all-tell frame p [] found t = t
all-tell frame p (x ∷ xs) found t =
    all-tell frame p xs (with_blocks p x.0 x.1 found) (blocks-tell frame p x.0 x.1 found t)

scan-tells : (found : Found) (frame said : Frame) (scan : Scan) (codings : List Coding) (arrays : Arrays)
    → Tells said found → Tells said (after_scan found frame scan codings arrays)
unfolding after_scan with_arrays
scan-tells found frame said scan codings arrays t =
    all-tell said (pass_of scan) (zip codings arrays) _
    (record { framed = t.framed; marks = t.marks; count = t.count })

-- ---- what turns lead to

module _ (others : List (Option (List ℕ))) (all : AreGiven others) (frame : Frame) where
  -- a turn that leads to the same, beside the planes
  abbrev pub spared_turn : Turn × List ℕ → Turn × List ℕ
  spared_turn x = (record x.0 { found = beside others x.0.found }, x.1)

  -- what a turn leads to without the planes and with them
  abbrev pub Both : Outcome Turn → Outcome Turn → Type 0
  Both (Ok x) (Ok y) = (y ≡ spared_turn x) × Tells frame x.0.found
  Both (Err f) (Err g) = f ≡ g
  Both (Ok x) (Err g) = ⊥
  Both (Err f) (Ok y) = ⊥

  both-bind : {A : Type 0} (o : Result A Fault) (f g : A → Outcome Turn) → ((x : A) → Both (f x) (g x))
      → Both (o >>= f) (o >>= g)
  both-bind (Ok x) f g h = h x
  both-bind (Err fault) f g h = refl

  -- what keeps the frame, the planes and the marks
  still : (found new : Found) → Tells frame found → new.said.frame ≡ found.said.frame → new.planes ≡ found.planes
      → new.finished ≡ found.finished → Tells frame new
  still found new t e p f = record {
    framed = e ∙ t.framed;
    marks = subst (λ (planes : List (Option (List ℕ))). MarksTell planes new.finished) (sym p)
        (subst (MarksTell found.planes) (sym f) t.marks);
    count = ap length p ∙ t.count;
  }

  -- ---- segments

  both-frame : (n : ℕ) (found : Found) (bytes : List ℕ) → Tells frame found
      → Both (frame_segment n found bytes) (frame_segment n (beside others found) bytes)
  unfolding frame_segment
  both-frame n found bytes t = go found.said.frame t.framed
    where
      go : (o : Option Frame) → o ≡ Some frame → Both
          (if is_some o then Err (Lacks features.Hierarchical) else (sof_at n bytes >>= (λ f.
          accepted f.0 >>= (λ decoded.
          Ok (onward (with_said (λ said. record said { frame = Some decoded }) found), f.1)))))
          (if is_some o then Err (Lacks features.Hierarchical) else (sof_at n bytes >>= (λ f.
          accepted f.0 >>= (λ decoded.
          Ok (onward (with_said (λ said. record said { frame = Some decoded }) (beside others found)), f.1)))))
      go (Some f) e = refl
      go None e = absurd cc

  both-end : (found : Found) (bytes : List ℕ) → Tells frame found
      → Both (end_segment found bytes) (end_segment (beside others found) bytes)
  unfolding end_segment
  both-end found bytes t = go (is_some found.said.frame)
    where
      go : (b : Bool) → Both (if b then Ok (record (onward found) { ended = true }, bytes) else Err Malformed)
          (if b then Ok (record (onward (beside others found)) { ended = true }, bytes) else Err Malformed)
      go true = (refl, t)
      go false = refl

  both-restart : (before : Before) (n : ℕ) (found : Found) (bytes : List ℕ) → Tells frame found
      → Both (segment_at (RST n) before found bytes) (segment_at (RST n) before (beside others found) bytes)
  unfolding segment_at
  both-restart Elsewhere n found bytes t = refl
  both-restart FirstScan n found bytes t = (refl, t)
  both-restart LaterScan n found bytes t = (refl, t)

  both-lines : (before : Before) (found : Found) (bytes : List ℕ)
      → Both (segment_at DNL before found bytes) (segment_at DNL before (beside others found) bytes)
  unfolding segment_at
  both-lines Elsewhere found bytes = refl
  both-lines FirstScan found bytes = refl
  both-lines LaterScan found bytes = refl

  both-segment : (m : Marker) (before : Before) (found : Found) (bytes : List ℕ) → Tells frame found
      → Both (segment_at m before found bytes) (segment_at m before (beside others found) bytes)
  unfolding segment_at
  both-segment (SOF n) before found bytes t = both-frame n found bytes t
  both-segment DQT before found bytes t =
      both-bind (dqt_at bytes) _ _ (λ r. (refl, still found _ t refl refl refl))
  both-segment DHT before found bytes t =
      both-bind (dht_at (option_map (λ f. f.is_baseline) found.said.frame) bytes) _ _
      (λ r. (refl, still found _ t refl refl refl))
  both-segment SOS before found bytes t = refl
  both-segment EOI before found bytes t = both-end found bytes t
  both-segment DRI before found bytes t =
      both-bind (dri_at bytes) _ _ (λ r. (refl, still found _ t refl refl refl))
  both-segment (APP n) before found bytes t =
      both-bind (app_at n bytes) _ _ (λ r. (refl, still found _ t refl refl refl))
  both-segment COM before found bytes t =
      both-bind (length_at bytes) _ _ (λ n.
      both-bind (skip_at n.0 n.1) _ _ (λ r. (refl, still found _ t refl refl refl)))
  both-segment (RST n) before found bytes t = both-restart before n found bytes t
  both-segment DNL before found bytes t = both-lines before found bytes
  both-segment DAC before found bytes t = refl
  both-segment DHP before found bytes t = refl
  both-segment EXP before found bytes t = refl
  both-segment JPG before found bytes t = refl
  both-segment SOI before found bytes t = refl
  both-segment (JPGn n) before found bytes t = refl
  both-segment TEM before found bytes t = refl
  both-segment RES before found bytes t = refl

  -- ---- scans

  both-blocks : (found : Found) (f : Frame) (scan : Scan) (bytes : List ℕ) → Tells frame found
      → Both (blocks_scan found f scan bytes) (blocks_scan (beside others found) f scan bytes)
  unfolding blocks_scan scan_arrays arrays_before
  both-blocks found f scan bytes t =
      both-bind (codings_of found.said f scan) _ _ (λ codings.
      both-bind (scan_arrays found f scan codings bytes) _ _ (λ read.
      both-bind (after_restarts (suc (length read.1)) read.0.1 read.1) _ _ (λ met. (
        ap (λ (g : Found). (scan_turn (beside others found) g met.0, met.1))
            (scan-beside others found f scan codings read.0.0 all),
        scan-tells found f frame scan codings read.0.0 t,
      ))))

  both-samples : (found : Found) (f : Frame) (scan : Scan) (bytes : List ℕ) → Tells frame found
      → Both (lossless_scan found f scan bytes) (lossless_scan (beside others found) f scan bytes)
  unfolding lossless_scan
  both-samples found f scan bytes t =
      both-bind (lossless_codings found.said.huffman.dc f scan.components scan.dc_destinations) _ _ (λ codings.
      both-bind (scan_samples found f scan codings bytes) _ _ (λ read.
      both-bind (after_restarts (suc (length read.1)) read.0.1 read.1) _ _ (λ met.
      (refl, still found _ t refl refl refl))))

  both-process : (process : CodingProcess) (found : Found) (f : Frame) (scan : Scan) (bytes : List ℕ)
      → Tells frame found
      → Both (scan_by process found f scan bytes) (scan_by process (beside others found) f scan bytes)
  both-process Lossless found f scan bytes t = both-samples found f scan bytes t
  both-process DctSequential found f scan bytes t = both-blocks found f scan bytes t
  both-process DctProgressive found f scan bytes t = both-blocks found f scan bytes t

  both-scan : (found : Found) (bytes : List ℕ) → Tells frame found
      → Both (scan_segment found bytes) (scan_segment (beside others found) bytes)
  unfolding scan_segment
  both-scan found bytes t =
      both-bind (needed found.said.frame) _ _ (λ f. both-bind (sos_at f bytes) _ _ (λ scan.
      both-process f.process found f scan.0 scan.1 t))

  -- ---- turns

  -- after a marker
  abbrev after : Marker → Before → Found → List ℕ → Outcome Turn
  after m before found bytes = (brought_after Zeros m before found bytes).turn

  both-after : (m : Marker) (before : Before) (found : Found) (bytes : List ℕ) → Tells frame found
      → Both (after m before found bytes) (after m before (beside others found) bytes)
  unfolding brought_after scan_turn_at
  both-after m before found bytes t =
      go (scan-or-segment Zeros m before found bytes) (scan-or-segment Zeros m before (beside others found) bytes)
    where
      scan : m ≡ SOS → Both (after m before found bytes) (after m before (beside others found) bytes)
      scan s = subst (λ (k : Marker). Both (after k before found bytes) (after k before (beside others found) bytes))
          (sym s) (both-scan found bytes t)

      go : (m ≡ SOS) ⊎ (brought_after Zeros m before found bytes ≡ unbrought found (segment_at m before found bytes))
          → (m ≡ SOS) ⊎ (brought_after Zeros m before (beside others found) bytes
          ≡ unbrought (beside others found) (segment_at m before (beside others found) bytes))
          → Both (after m before found bytes) (after m before (beside others found) bytes)
      go (inl s) _ = scan s
      go (inr e) (inl s) = scan s
      go (inr e) (inr g) =
          subst (λ (b : Brought). Both b.turn (after m before (beside others found) bytes)) (sym e)
          (subst (λ (b : Brought). Both (segment_at m before found bytes) b.turn) (sym g)
          (both-segment m before found bytes t))

  both-turn : (before : Before) (found : Found) (met : Option Marker) (bytes : List ℕ) → Tells frame found
      → Both (turn_at Zeros before found met bytes).turn (turn_at Zeros before (beside others found) met bytes).turn
  unfolding turn_at
  both-turn before found met bytes t = go (found_or met bytes (next_marker bytes))
    where
      go : (o : Outcome Marker) → Both (elim o as (λ _. Brought) [
        | Ok m ↦ brought_after Zeros m.0 before found m.1
        | Err fault ↦ unbrought found (Err fault)
      ]).turn (elim o as (λ _. Brought) [
        | Ok m ↦ brought_after Zeros m.0 before (beside others found) m.1
        | Err fault ↦ unbrought (beside others found) (Err fault)
      ]).turn
      go (Ok m) = both-after m.0 before found m.1 t
      go (Err fault) = refl

  -- The work doesn't depend on planes.
  work-after : (m : Marker) (found : Found) (bytes : List ℕ)
      → work_after m (beside others found) bytes ≡ work_after m found bytes
  unfolding work_of_header
  work-after SOS found bytes = refl
  work-after (SOF n) found bytes = refl
  work-after JPG found bytes = refl
  work-after DHT found bytes = refl
  work-after DAC found bytes = refl
  work-after (RST n) found bytes = refl
  work-after SOI found bytes = refl
  work-after EOI found bytes = refl
  work-after DQT found bytes = refl
  work-after DNL found bytes = refl
  work-after DRI found bytes = refl
  work-after DHP found bytes = refl
  work-after EXP found bytes = refl
  work-after (APP n) found bytes = refl
  work-after (JPGn n) found bytes = refl
  work-after COM found bytes = refl
  work-after TEM found bytes = refl
  work-after RES found bytes = refl

  same-work : (found : Found) (met : Option Marker) (bytes : List ℕ)
      → work_of_turn (beside others found) met bytes ≡ work_of_turn found met bytes
  unfolding work_of_turn
  same-work found met bytes = go (found_or met bytes (next_marker bytes))
    where
      go : (o : Outcome Marker) → (elim o as (λ _. ℕ) [
        | Ok m ↦ work_after m.0 (beside others found) m.1
        | Err fault ↦ 0
      ]) ≡ (elim o as (λ _. ℕ) [
        | Ok m ↦ work_after m.0 found m.1
        | Err fault ↦ 0
      ])
      go (Ok m) = work-after m.0 found m.1
      go (Err fault) = refl

  both-within : (left : Option ℕ) (before : Before) (found : Found) (met : Option Marker) (bytes : List ℕ)
      → Tells frame found → Both (turn_within left Zeros before found met bytes).turn
      (turn_within left Zeros before (beside others found) met bytes).turn
  both-within left before found met bytes t =
      subst (λ (w : ℕ). Both (turn_within left Zeros before found met bytes).turn
      (brought_within left w (beside others found) (turn_at Zeros before (beside others found) met bytes)).turn)
      (sym (same-work found met bytes)) (go (is_above left (work_of_turn found met bytes)))
    where
      go : (above : Bool) → Both
          (if above then unbrought found (Err Malformed) else turn_at Zeros before found met bytes).turn
          (if above then unbrought (beside others found) (Err Malformed)
          else turn_at Zeros before (beside others found) met bytes).turn
      go true = refl
      go false = both-turn before found met bytes t

  -- ---- walks

  abbrev pub spared_walk : Walked → Walked
  spared_walk w = record w { found = beside others w.found }

  -- a walk without the planes, and the same with them
  pub record WalksBeside (plain spared : Walked) : Type 0 where
    pub same : spared ≡ spared_walk plain
    pub tells : Tells frame plain.found

  -- a walk up to a fault
  abbrev stopped_walk : Found → Bool → Fault → Walked
  stopped_walk found exceeded fault = record { found = found; rows = None; exceeded = exceeded; rest = Err fault }

  moved : (a b c d : Walked) → a ≡ c → b ≡ d → WalksBeside c d → WalksBeside a b
  moved a b c d e g w = subst (λ (x : Walked). WalksBeside x b) (sym e) (subst (WalksBeside c) (sym g) w)

  abbrev walk_from : Option ℕ → ℕ → Before → Found → Option Marker → List ℕ → Walked
  walk_from left turns before found met bytes = walk left Zeros turns false before found met bytes

  -- after a turn
  turns-beside : (left : Option ℕ) (turns : ℕ) (before : Before) (found : Found) (met : Option Marker)
      (bytes : List ℕ) (o q : Outcome Turn) → Tells frame found
      → (turn_within left Zeros before found met bytes).turn ≡ o
      → (turn_within left Zeros before (beside others found) met bytes).turn ≡ q → Both o q
      → ((k : Option ℕ) (x : Turn) (rest : List ℕ) → Tells frame x.found
      → WalksBeside (walk_from k turns x.before x.found x.met rest)
      (walk_from k turns x.before (beside others x.found) x.met rest))
      → WalksBeside (walk_from left (suc turns) before found met bytes)
      (walk_from left (suc turns) before (beside others found) met bytes)
  turns-beside left turns before found met bytes (Err f) (Err g) t e h both more =
      moved _ _ _ _ (zeros-refused left turns false before found met bytes f refl e)
      (zeros-refused left turns false before (beside others found) met bytes g refl h
      ∙ ap (λ (w : ℕ). stopped_walk (beside others found) (is_above left w) g) (same-work found met bytes))
      (record {
        same = ap (stopped_walk (beside others found) (is_above left (work_of_turn found met bytes))) (sym both);
        tells = t;
      })
  turns-beside left turns before found met bytes (Ok (x, rest)) (Ok y) t e h both more = go x.ended refl
    where
      led : (turn_within left Zeros before (beside others found) met bytes).turn ≡ Ok (spared_turn (x, rest))
      led = h ∙ ap Ok both.0

      go : (b : Bool) → x.ended ≡ b → WalksBeside (walk_from left (suc turns) before found met bytes)
          (walk_from left (suc turns) before (beside others found) met bytes)
      go true p =
          moved _ _ _ _ (walk-end left Zeros turns false before found met bytes rest x refl e p)
          (walk-end left Zeros turns false before (beside others found) met bytes rest (spared_turn (x, rest)).0 refl
          led p)
          (record { same = refl; tells = both.1 })
      go false p =
          moved _ _ _ _ (walk-on left Zeros turns false before found met bytes rest x refl e p)
          (walk-on left Zeros turns false before (beside others found) met bytes rest (spared_turn (x, rest)).0 refl
          led p
          ∙ ap (λ (w : ℕ). walk (left_after left w) Zeros turns false x.before (beside others x.found) x.met rest)
          (same-work found met bytes))
          (more (left_after left (work_of_turn found met bytes)) x rest both.1)
  turns-beside left turns before found met bytes (Ok x) (Err g) t e h both more = absurd both
  turns-beside left turns before found met bytes (Err f) (Ok y) t e h both more = absurd both

  -- Segments in turn find the same, beside the planes that are given.
  pub walks-beside : (left : Option ℕ) (turns : ℕ) (before : Before) (found : Found) (met : Option Marker)
      (bytes : List ℕ) → Tells frame found → WalksBeside (walk_from left turns before found met bytes)
      (walk_from left turns before (beside others found) met bytes)
  unfolding walk
  walks-beside left zero before found met bytes t = record { same = refl; tells = t }
  walks-beside left (suc turns) before found met bytes t =
      turns-beside left turns before found met bytes _ _ t refl refl (both-within left before found met bytes t)
      (λ k x rest more. walks-beside k turns x.before x.found x.met rest more)

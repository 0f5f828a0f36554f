-- A lossless scan that is read whole: its samples are those of the definition, and replace those before it.
use Rattle.std.proofs.Common.{◌≡◌, ◌∙◌, ◌+◌, ◌<◌, ◌==◌, ℕ, Bool, true, List, [], length, replicate}
use Rattle.std.proofs.Common.{Result, Ok, Err, Option, arith, ap, ap₂, if◌then◌else◌, refl, subst, sym}
use Rattle.std.specs.Prelude.{IfErr, IfOk, OnOk}
use Rattle.std.specs.Result.{is_err}
use Rattle.std.proofs.lemmas.List.Elements.{recursion_from_All}
use Rattle.jpeg_bits.specs.Reading.{Answers, ◌>>=◌}
use Rattle.jpeg_bits.specs.Stream.{Stream}
use Rattle.jpeg_bits.specs.declared.error.Error.{Error}
use Rattle.jpeg_bits.specs.declared.marker.Marker.{Marker}
use Rattle.jpeg_bits.proofs.Loops.{Names-through}
use Rattle.jpeg_segments.specs.Frame.{Frame}
use Rattle.jpeg_segments.specs.ScanHeader.{Scan}
use Rattle.jpeg_lossless.specs.Codings.{AreWholeSamples, way_by}
use Rattle.jpeg_lossless.specs.Differences.{Part}
use Rattle.jpeg_lossless.specs.PlanesRead.{AreGrown, PlanesAndMarker, counted_rows, cut_planes, planes_and_marker}
use Rattle.jpeg_lossless.specs.PlanesRead.{planes_intervals, planes_scan}
use Rattle.jpeg_lossless.specs.Scans.{Way, is_of_rows, rows_of_interval}
use Rattle.jpeg_lossless.specs.declared.scan.Coding.{Coding}
use Rattle.jpeg_lossless.proofs.Sizes.{covered-within, cut-whole, empty-grown, grown-as}
use Rattle.jpeg_lossless.proofs.WholeScans.{scan-is}
use Rattle.jpeg_meaning.specs.Found.{Found}
use Rattle.jpeg_meaning.specs.LosslessScans.{with_samples}
use Rattle.jpeg_meaning.specs.ScanSegments.{after_samples, once_scanned}
use Rattle.jpeg_meaning.specs.Sound.{IsSound}
use Rattle.jpeg_decoder.specs.Reaching.{planes_over}
use Rattle.jpeg_decoder.specs.Steps.{after_all, samples_read}
use Rattle.jpeg_decoder.specs.declared.scan.lossless.SampleScan.{SampleScan}
use Rattle.jpeg_decoder.proofs.LosslessFrames.LosslessReads.{HasMcus, after_planes, codings-count, samples-end}
use Rattle.jpeg_decoder.proofs.LosslessFrames.LosslessReads.{samples-fail, samples-read}
use Rattle.jpeg_decoder.proofs.LosslessFrames.LosslessReads.{samples-sound}
use Rattle.jpeg_decoder.proofs.Scans.ScanReads.{HasRead}
use Rattle.jpeg_decoder.proofs.LosslessFrames.SampleScans.{AreFor, Reads, put_over, scan-coded, scan-mcus, whole-over}

abbrev Planes : Type 0
Planes = List (List ℕ)

if-true : {A : Type 0} (b : Bool) (x y : A) → b ≡ true → (if b then x else y) ≡ x
if-true b x y h = ap (λ (c : Bool). if c then x else y) h

-- ---- the results of calls

-- what is asked of a result that is no refusal
pub on-refusal : {X : Type 0} (P : Type 0) (r : Result X Error) → is_err r ≡ true → OnOk r P
on-refusal P (Ok x) h = absurd (let n : ⊥ = cc in n)
on-refusal P (Err e) h = tt

-- Where restart markers were passed over, the intervals were read.
on-passed : {P Q : Type 0} (read passed : Result (Option Marker) Error) (mid new : Stream) → (P → Q) → OnOk read P
    → IfErr read (λ e. (passed ≡ Err e) × (new ≡ mid)) → OnOk passed Q
on-passed (Ok met) (Ok m) mid new f p refused = f p
on-passed (Err e) (Ok m) mid new f p refused = absurd (let h = refused.0 in let n : ⊥ = cc in n)
on-passed read (Err e) mid new f p refused = tt

-- ---- the data of a scan

planes-scan-as : (w : Way) (high restart point n : ℕ) (empty : Planes) (bytes : List ℕ)
    → is_of_rows w.wide high restart ≡ true → n ≡ counted_rows high (rows_of_interval w.wide high restart)
    → empty ≡ replicate (length w.parts) []
    → planes_scan w high restart point bytes
    ≡ (planes_intervals (high + 1) w n 0 high empty bytes >>= planes_and_marker point w.parts)
unfolding planes_scan
planes-scan-as w high restart point n empty bytes h e is =
    if-true _ _ _ h
    ∙ ap₂ (λ (m : ℕ) (p : Planes). planes_intervals (high + 1) w m 0 high p bytes >>= planes_and_marker point w.parts)
    (sym e) (sym is)

-- the planes of a scan, cut to its components
abbrev read_data : SampleScan → Coding → List Part → Planes → List ℕ → PlanesAndMarker
read_data s k parts empty bytes =
    planes_intervals (k.high + 1) (way_by k parts) s.rows 0 k.high empty bytes
    >>= planes_and_marker k.point_transform parts

module _ (found : Found) (frame : Frame) (scan : Scan) (s : SampleScan) (k : Coding) (parts : List Part)
    (empty : Planes) (r : Reads found frame scan s k parts empty) where
  -- its components
  pub coded : AreFor found.said frame scan r.scan_is.tables
  coded = scan-coded found.said frame scan s r.scan_is r.legal

  mcus : HasMcus k.wide k.high parts
  mcus =
      subst (λ (q : Coding). HasMcus q.wide q.high parts) (sym r.coding)
      (subst (HasMcus s.coding.wide s.coding.high) (sym r.parts_are)
      (scan-mcus found.said frame scan s r.scan_is r.legal (r.sound.frames frame r.framed) r.process))

  data-as : (bytes : List ℕ)
      → samples_read found frame scan bytes ≡ (read_data s k parts empty bytes >>= after_planes found coded.codings)
  data-as bytes =
      let i = r.scan_is in
      let restart : k.restart_interval ≡ found.said.restart
      = ap (λ (q : Coding). q.restart_interval) (r.coding ∙ i.coding) in
      let whole : is_of_rows k.wide k.high k.restart_interval ≡ true
      = ap (λ (n : ℕ). is_of_rows k.wide k.high n) restart
      ∙ ap (λ (q : Coding). is_of_rows q.wide q.high found.said.restart) r.coding ∙ i.whole in
      let counts : s.rows ≡ counted_rows k.high (rows_of_interval k.wide k.high k.restart_interval)
      = i.rows ∙ ap (λ (q : Coding). counted_rows q.high (rows_of_interval q.wide q.high found.said.restart))
      (sym r.coding) ∙ ap (λ (n : ℕ). counted_rows k.high (rows_of_interval k.wide k.high n)) (sym restart) in
      samples-read found frame scan i.tables coded k parts bytes (r.coding ∙ i.coding) (r.parts_are ∙ i.parts)
      ∙ ap (λ (o : PlanesAndMarker). o >>= after_planes found coded.codings)
      (sym (scan-is (way_by k parts) (covered-within k.wide k.high parts mcus.covered) k.high k.restart_interval
      k.point_transform bytes)
      ∙ planes-scan-as (way_by k parts) k.high k.restart_interval k.point_transform s.rows empty bytes whole counts
      r.begins)

  -- ---- the calls

  abbrev intervals : List ℕ → PlanesAndMarker
  intervals bytes = planes_intervals (k.high + 1) (way_by k parts) s.rows 0 k.high empty bytes

  data-read : (planes : Planes) (old mid : Stream) (met : Option Marker)
      → Answers (λ (m : Option Marker). (planes, m)) intervals old (Ok met) mid
      → HasRead (λ bytes. read_data s k parts empty old.bytes) old (cut_planes k.point_transform parts planes, met) mid
  data-read planes old mid met a = (
    a.0,
    λ known. (
      (a.1 known).0,
      ap (λ (o : PlanesAndMarker). o >>= planes_and_marker k.point_transform parts) (a.1 known).1,
    ),
  )

  data-refused : (planes : Planes) (old mid : Stream) (e : Error)
      → Answers {X = Option Marker} (λ m. (planes, m)) intervals old (Err e) mid
      → Answers {X = Planes × Option Marker} (λ r. r) (λ bytes. read_data s k parts empty old.bytes) old (Err e) mid
  data-refused planes old mid e a = (
    a.0,
    λ known l. Names-through e (intervals old.bytes) (read_data s k parts empty old.bytes)
        (λ f h. ap (λ (o : PlanesAndMarker). o >>= planes_and_marker k.point_transform parts) h) (a.1 known l),
    a.2,
  )

  -- The intervals were read, from old to mid, and restart markers passed over, to new.
  pub samples-answers : (planes : Planes) (old mid new : Stream) (read passed : Result (Option Marker) Error)
      (next : Found) → Answers (λ (m : Option Marker). (planes, m)) intervals old read mid
      → IfOk read (λ met. Answers (λ m. m) (after_all met) mid passed new)
      → IfErr read (λ e. (passed ≡ Err e) × (new ≡ mid))
      → OnOk passed (next ≡ after_samples found coded.codings (cut_planes k.point_transform parts planes))
      → Answers (λ (m : Option Marker). (next, m)) (samples_read found frame scan) old passed new
  samples-answers planes old mid new (Err e) passed next a after refused is =
      rw (refused.0, refused.1) (samples-fail found frame scan coded.codings (read_data s k parts empty old.bytes) old
      mid e (data-as old.bytes) (data-refused planes old mid e a))
  samples-answers planes old mid new (Ok met) (Ok m) next a after refused is =
      samples-end found next frame scan coded.codings (read_data s k parts empty old.bytes)
      (cut_planes k.point_transform parts planes) met old mid new (Ok m) (data-as old.bytes) is
      (data-read planes old mid met a) after
  samples-answers planes old mid new (Ok met) (Err e) next a after refused is =
      let cut = cut_planes k.point_transform parts planes in
      samples-end found (after_samples found coded.codings cut) frame scan coded.codings
      (read_data s k parts empty old.bytes) cut met old mid new (Err e) (data-as old.bytes) refl
      (data-read planes old mid met a) after

  -- what is found then
  whole-found : (planes : Planes) (next : Found) → AreGrown k.high parts planes
      → next ≡ put_over found frame scan.components (cut_planes k.point_transform parts planes)
      → next ≡ after_samples found coded.codings (cut_planes k.point_transform parts planes)
  whole-found planes next grown is =
      let i = r.scan_is in
      let indices = scan.components in
      let cut = cut_planes k.point_transform parts planes in
      let whole = subst (λ (l : List Part). AreWholeSamples l cut) (r.parts_are ∙ i.parts)
      (cut-whole k.wide k.high k.point_transform parts planes mcus.covered grown) in
      let over : planes_over frame found.samples indices cut ≡ cut
      = whole-over frame found.samples (length indices == 1) indices i.tables cut (r.sound.samples frame r.framed)
      (recursion_from_All (λ index. index < length frame.components) indices r.legal.components)
      (codings-count _ frame indices scan.dc_destinations i.tables coded) whole in
      is ∙ ap₂ (λ (l : List ℕ) (p : Planes). record (once_scanned found) { samples = with_samples l p found.samples })
      (sym coded.indices_are) over

  pub whole-passed : (planes : Planes) (next : Found) (read passed : Result (Option Marker) Error) (mid new : Stream)
      → ((n : ℕ) → AreGrown n parts empty → OnOk read (AreGrown (n + k.high) parts planes))
      → IfErr read (λ e. (passed ≡ Err e) × (new ≡ mid))
      → next ≡ put_over found frame scan.components (cut_planes k.point_transform parts planes)
      → OnOk passed (next ≡ after_samples found coded.codings (cut_planes k.point_transform parts planes))
  whole-passed planes next read passed mid new long refused is =
      on-passed read passed mid new
      (λ grown. whole-found planes next (grown-as (0 + k.high) k.high parts planes (omega arith) grown) is)
      (long 0 (subst (AreGrown 0 parts) (sym r.begins) (empty-grown parts))) refused

  -- A scan that changes nothing leaves a sound state.
  pub still-sound : IsSound (once_scanned found)
  unfolding with_samples
  still-sound =
      samples-sound found (once_scanned found) frame [] [] r.sound r.framed r.process (r.sound.samples frame r.framed)
      refl

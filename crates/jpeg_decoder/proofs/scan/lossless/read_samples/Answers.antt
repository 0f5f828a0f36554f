use Rattle.std.proofs.Common.{rules, ◌≡◌, ◌∙◌, ◌<◌, ap, sym, arith, length, map, replicate, List, [], ℕ}
use Rattle.std.proofs.lemmas.List.{length-map}
use Rattle.jpeg_bits.specs.Reading.{Answers}
use Rattle.jpeg_bits.specs.declared.beyond.Beyond.TheVariants.{Nothing}
use Rattle.jpeg_segments.specs.FrameView.{frame_in}
use Rattle.jpeg_segments.proofs.ScaleLemmas.{sized_frames_have_factors}
use Rattle.jpeg_lossless.specs.Codings.{part_in, way_by}
use Rattle.jpeg_lossless.specs.PlanesRead.{cut_planes}
use Rattle.jpeg_lossless.specs.declared.scan.Coding.{Coding}
use Rattle.jpeg_meaning.specs.Found.{Found}
use Rattle.jpeg_meaning.specs.LosslessScans.{with_samples}
use Rattle.jpeg_meaning.specs.ScanSegments.{once_scanned}
use Rattle.jpeg_meaning.specs.States.{OnTold}
use Rattle.jpeg_meaning.specs.WholeRows.{rows_of_planes}
use Rattle.jpeg_meaning.proofs.Soundness.{decoded-precision, decoded-sized}
use Rattle.jpeg_decoder.specs.Reaching.{planes_over, planes_reached, samples_reached}
use Rattle.jpeg_decoder.specs.Seen.{found_of}
use Rattle.jpeg_decoder.proofs.LosslessFrames.LosslessReads.{HasMcus, codings-count, four-indices, parts-count}
use Rattle.jpeg_decoder.proofs.LosslessFrames.LosslessReads.{put-made}
use Rattle.jpeg_decoder.proofs.Scans.ScanReads.{answers-as}
use Rattle.jpeg_decoder.proofs.Partial.Refused.{on-told, unless}
use Rattle.jpeg_decoder.proofs.Partial.RowIntervals.{passed-answers, passed-planes}
use Rattle.jpeg_decoder.proofs.LosslessFrames.WholeSampleScans.{on-refusal, samples-answers, still-sound, whole-passed}
use Rattle.jpeg_decoder.proofs.LosslessFrames.SampleScans.{Reads, put_over, reads-components, reads-cut, reads-found}
use Rattle.jpeg_decoder.proofs.LosslessFrames.SampleScans.{reads-marker, reads-sound, scan-coded, scan-mcus, scan-rows}
use Rattle.jpeg_decoder.proofs.scan.lossless.read_samples.Given as given
use Rattle.jpeg_decoder.proofs.scan.lossless.read_samples.Goals.{After-deref, After-pass_after-met}
use Rattle.jpeg_decoder.proofs.scan.lossless.read_samples.Goals.{After-put_samples, In_ok-rows}
use Rattle.jpeg_decoder.proofs.scan.lossless.read_samples.Goals as goal

-- the MCUs of the scan
mcus : (g : given.Over) (c : After-deref g) → let s = c.args.scan.now in
    HasMcus s.coding.wide s.coding.high (map part_in s.parts.items)
mcus g c =
    let s = c.args.scan.now in
    scan-mcus s.said.now (frame_in s.frame.now) s.header.now s c.requires.scan c.requires.legal
    (c.requires.sound.frames (frame_in s.frame.now) c.requires.frame) c.requires.process

pub new-requires-clause-wide : goal.new-requires-clause-wide
new-requires-clause-wide g c = (mcus g (goal.at.new-requires-clause-wide g c).After-deref).some_wide

pub new-requires-clause-high : goal.new-requires-clause-high
new-requires-clause-high g c = (mcus g (goal.at.new-requires-clause-high g c).After-deref).some_high

pub new-requires-clause-precision : goal.new-requires-clause-precision
new-requires-clause-precision g c =
    let s = c.args.scan.now in
    let frame = frame_in s.frame.now in
    let is = ap (λ (k : Coding). k.precision) c.requires.scan.coding in
    let most = decoded-precision frame (c.requires.sound.frames frame c.requires.frame) c.requires.process in
    omega (arith, is, most)

pub new-requires-clause-covered : goal.new-requires-clause-covered
new-requires-clause-covered g c =
    let s = c.args.scan.now in
    rw c.deref.ensures.value (mcus g (goal.at.new-requires-clause-covered g c).After-deref).covered

-- an interval has rows
some : (g : given.Over) (c : After-deref g) → 0 < c.args.scan.now.rows
some g c =
    let s = c.args.scan.now in
    scan-rows s.said.now (frame_in s.frame.now) s.header.now s c.requires.scan (mcus g c).some_high

pub read_intervals-met-requires-clause-rows : goal.read_intervals-met-requires-clause-rows
read_intervals-met-requires-clause-rows g c = some g (goal.at.read_intervals-met-requires-clause-rows g c).After-deref

-- how the rows are read
reads : (g : given.Over) (c : In_ok-rows g) → let s = c.args.scan.now in
    Reads (found_of s.said.now c.args.decoded.now) (frame_in s.frame.now) s.header.now s
    c.in_ok-coding.coding.scan (map part_in c.in_ok-coding.coding.parts.now)
    (map (λ v. v.items) c.in_ok-rows.rows.planes.items)
reads g c = record {
  scan_is = c.requires.scan;
  legal = c.requires.legal;
  sound = c.requires.sound;
  framed = c.requires.frame;
  process = c.requires.process;
  coding = c.in_ok-coding.ensures.scan;
  parts_are = ap (map part_in) (c.in_ok-coding.ensures.parts ∙ c.deref.ensures.value);
  begins = c.in_ok-rows.ensures.planes
      ∙ ap (λ (n : ℕ). replicate n []) (sym (length-map c.in_ok-coding.coding.parts.now part_in));
}

-- as many planes as components
counted : (g : given.Over) (c : In_ok-rows g) → let s = c.args.scan.now in
    length c.in_ok-coding.coding.parts.now ≡ length s.header.now.components
counted g c =
    let s = c.args.scan.now in
    let i = c.requires.scan in
    let frame = frame_in s.frame.now in
    let scan = s.header.now in
    let a = scan-coded s.said.now frame scan s i c.requires.legal in
    sym (length-map c.in_ok-coding.coding.parts.now part_in)
    ∙ ap (λ l. length l) ((reads g c).parts_are ∙ i.parts)
    ∙ parts-count _ frame.components scan.components i.tables
    (codings-count _ frame scan.components scan.dc_destinations i.tables a)

pub rows_of_planes-whole-requires-clause-sampling : goal.rows_of_planes-whole-requires-clause-sampling
rows_of_planes-whole-requires-clause-sampling g c =
    let frame = frame_in c.args.scan.now.frame.now in
    sized_frames_have_factors frame (decoded-sized frame (c.requires.sound.frames frame c.requires.frame))

pub complete_all-requires-clause-count : goal.complete_all-requires-clause-count
complete_all-requires-clause-count g c =
    c.finish-planes.ensures.count ∙ c.read_intervals-met.ensures.count ∙ c.in_ok-rows.ensures.count
    ∙ counted g (goal.at.complete_all-requires-clause-count g c).In_ok-rows
    ∙ ap (λ l. length l) (sym c.components-indices.ensures)

pub complete_all-requires-clause-indices : goal.complete_all-requires-clause-indices
complete_all-requires-clause-indices g c =
    let s = c.args.scan.now in
    let frame = frame_in s.frame.now in
    rw c.components-indices.ensures (four-indices frame s.header.now.components
    (c.requires.sound.frames frame c.requires.frame) c.requires.legal.components)

pub put_samples-requires-clause-count : goal.put_samples-requires-clause-count
put_samples-requires-clause-count g c =
    c.in_ok-complete_all.ensures.count
    ∙ c.finish-planes.ensures.count ∙ c.read_intervals-met.ensures.count ∙ c.in_ok-rows.ensures.count
    ∙ counted g (goal.at.put_samples-requires-clause-count g c).In_ok-rows
    ∙ ap (λ l. length l) (sym c.components-indices.ensures)

pub put_samples-requires-clause-indices : goal.put_samples-requires-clause-indices
put_samples-requires-clause-indices g c =
    let s = c.args.scan.now in
    let frame = frame_in s.frame.now in
    rw c.components-indices.ensures (four-indices frame s.header.now.components
    (c.requires.sound.frames frame c.requires.frame) c.requires.legal.components)

-- the marker after the data
ended : (g : given.Over) (c : After-pass_after-met g) → 0 < c.args.scan.now.rows → c.args.beyond ≡ Nothing
    → let s = c.args.scan.now in
    let k = c.in_ok-coding.coding.scan in
    Answers (λ m. m) (λ bytes. (planes_reached (way_by k (map part_in c.in_ok-coding.coding.parts.now)) s.rows k.high
    (map (λ v. v.items) c.in_ok-rows.rows.planes.items) bytes).1) c.args.source.now c.pass_after-met.result
    c.pass_after-met.new.source
ended g c rows nothing =
    let s = c.args.scan.now in
    let k = c.in_ok-coding.coding.scan in
    passed-answers (way_by k (map part_in c.in_ok-coding.coding.parts.now)) s.rows k.high
    (map (λ v. v.items) c.in_ok-rows.rows.planes.items) rows c.args.source.now
    c.read_intervals-met.new.source c.pass_after-met.new.source c.read_intervals-met.result c.pass_after-met.result
    (c.read_intervals-met.ensures.met nothing) c.pass_after-met.ensures.passed c.pass_after-met.ensures.refused

-- the planes that were read
told : (g : given.Over) (c : After-pass_after-met g) → 0 < c.args.scan.now.rows → c.args.beyond ≡ Nothing
    → let s = c.args.scan.now in
    let k = c.in_ok-coding.coding.scan in
    OnTold c.args.source.now c.pass_after-met.new.source c.pass_after-met.result
    (map (λ v. v.items) c.read_intervals-met.new.self.planes.items
    ≡ (planes_reached (way_by k (map part_in c.in_ok-coding.coding.parts.now)) s.rows k.high
    (map (λ v. v.items) c.in_ok-rows.rows.planes.items) c.args.source.now.bytes).0)
told g c rows nothing =
    let s = c.args.scan.now in
    let k = c.in_ok-coding.coding.scan in
    passed-planes (way_by k (map part_in c.in_ok-coding.coding.parts.now)) s.rows k.high
    (map (λ v. v.items) c.in_ok-rows.rows.planes.items) rows c.args.source.now
    c.read_intervals-met.new.source c.pass_after-met.new.source c.read_intervals-met.result c.pass_after-met.result
    (map (λ v. v.items) c.read_intervals-met.new.self.planes.items) (c.read_intervals-met.ensures.met nothing)
    (c.read_intervals-met.ensures.reached nothing) c.pass_after-met.ensures.refused

-- what is found then
placed : (g : given.Over) (c : After-put_samples g) → let s = c.args.scan.now in
    let found = found_of s.said.now c.args.decoded.now in
    let parts = map part_in c.in_ok-coding.coding.parts.now in
    ◌≡◌ {A = Found} (once_scanned (found_of s.said.now c.put_samples.new.self))
    (put_over found (frame_in s.frame.now) s.header.now.components
    (cut_planes c.in_ok-coding.coding.scan.point_transform parts
    (map (λ v. v.items) c.read_intervals-met.new.self.planes.items)))
placed g c =
    let s = c.args.scan.now in
    let found = found_of s.said.now c.args.decoded.now in
    let frame = frame_in s.frame.now in
    let indices = c.components-indices.ensures in
    put-made found c.args.decoded.now c.put_samples.new.self _ c.put_samples.ensures.kept c.put_samples.ensures.finished
    c.put_samples.ensures.planes
    (c.put_samples.ensures.samples
    ∙ ap (λ (p : List (List ℕ)). with_samples c.components-indices.result.now p found.samples)
    (c.in_ok-complete_all.ensures.planes
    ∙ ap (planes_over frame found.samples c.components-indices.result.now) c.finish-planes.ensures.planes)
    ∙ ap (λ (l : List ℕ). with_samples l (planes_over frame found.samples l (cut_planes
    c.in_ok-coding.coding.scan.point_transform (map part_in c.in_ok-coding.coding.parts.now)
    (map (λ v. v.items) c.read_intervals-met.new.self.planes.items))) found.samples) indices)

pub returns-clause-found : goal.returns-clause-found
returns-clause-found g c nothing codings h =
    let s = c.args.scan.now in
    let at = goal.at.returns-clause-found g c in
    on-told c.args.source.now c.pass_after-met.new.source c.pass_after-met.result
    (λ is. reads-found (found_of s.said.now c.args.decoded.now) (frame_in s.frame.now) s.header.now s
    c.in_ok-coding.coding.scan (map part_in c.in_ok-coding.coding.parts.now)
    (map (λ v. v.items) c.in_ok-rows.rows.planes.items)
    (map (λ v. v.items) c.read_intervals-met.new.self.planes.items) codings c.args.source.now.bytes _
    (reads g at.In_ok-rows) h (placed g at.After-put_samples) is)
    (told g at.After-pass_after-met (some g at.After-deref) nothing)

pub returns-clause-rows : goal.returns-clause-rows
unfolding samples_reached
returns-clause-rows g c nothing codings h =
    let s = c.args.scan.now in
    let found = found_of s.said.now c.args.decoded.now in
    let frame = frame_in s.frame.now in
    let scan = s.header.now in
    let k = c.in_ok-coding.coding.scan in
    let parts = map part_in c.in_ok-coding.coding.parts.now in
    let empty = map (λ v. v.items) c.in_ok-rows.rows.planes.items in
    let read = map (λ v. v.items) c.read_intervals-met.new.self.planes.items in
    let at = goal.at.returns-clause-rows g c in
    let r = reads g at.In_ok-rows in
    on-told c.args.source.now c.pass_after-met.new.source c.pass_after-met.result
    (λ is. c.rows_of_planes-whole.ensures codings
    (rw c.components-indices.ensures (reads-components found frame scan s k parts empty codings r h))
    ∙ ap (λ planes. rows_of_planes frame codings planes) (ap (map (λ v. v.items)) c.deref-2.ensures.value
    ∙ c.finish-planes.ensures.planes
    ∙ reads-cut found frame scan s k parts empty read codings c.args.source.now.bytes r h is))
    (told g at.After-pass_after-met (some g at.After-deref) nothing)

pub returns-clause-met : goal.returns-clause-met
returns-clause-met g c nothing codings h =
    let s = c.args.scan.now in
    let at = goal.at.returns-clause-met g c in
    let found = found_of s.said.now c.args.decoded.now in
    let k = c.in_ok-coding.coding.scan in
    let parts = map part_in c.in_ok-coding.coding.parts.now in
    let empty = map (λ v. v.items) c.in_ok-rows.rows.planes.items in
    unless c.pass_after-met.result
    (answers-as (λ m. m) (λ bytes. (planes_reached (way_by k parts) s.rows k.high empty bytes).1)
    (λ bytes. (samples_reached found (frame_in s.frame.now) s.header.now codings bytes).met)
    c.args.source.now c.pass_after-met.new.source c.pass_after-met.result
    (sym (reads-marker found (frame_in s.frame.now) s.header.now s k parts empty codings c.args.source.now.bytes
    (reads g at.In_ok-rows) h))
    (ended g at.After-pass_after-met (some g at.After-deref) nothing))

pub returns-clause-sound : goal.returns-clause-sound
returns-clause-sound g c =
    let s = c.args.scan.now in
    let at = goal.at.returns-clause-sound g c in
    let planes = c.read_intervals-met.new.self.planes.items in
    let parts = c.in_ok-coding.coding.parts.now in
    unless c.pass_after-met.result
    (reads-sound (found_of s.said.now c.args.decoded.now) (frame_in s.frame.now) s.header.now s
    c.in_ok-coding.coding.scan (map part_in parts) (map (λ v. v.items) c.in_ok-rows.rows.planes.items)
    (map (λ v. v.items) planes) _ (reads g at.In_ok-rows)
    (length-map planes (λ v. v.items) ∙ c.read_intervals-met.ensures.count ∙ c.in_ok-rows.ensures.count
    ∙ sym (length-map parts part_in)) (placed g at.After-put_samples))

pub returns-then-is_err-clause-reads : goal.returns-then-is_err-clause-reads
returns-then-is_err-clause-reads g c zeros =
    let s = c.args.scan.now in
    let at = goal.at.returns-then-is_err-clause-reads g c in
    samples-answers (found_of s.said.now c.args.decoded.now) (frame_in s.frame.now) s.header.now s
    c.in_ok-coding.coding.scan (map part_in c.in_ok-coding.coding.parts.now)
    (map (λ v. v.items) c.in_ok-rows.rows.planes.items) (reads g at.In_ok-rows)
    (map (λ v. v.items) c.read_intervals-met.new.self.planes.items) c.args.source.now c.read_intervals-met.new.source
    c.pass_after-met.new.source c.read_intervals-met.result c.pass_after-met.result _
    (c.read_intervals-met.ensures.answers zeros) c.pass_after-met.ensures.passed c.pass_after-met.ensures.refused
    (on-refusal _ c.pass_after-met.result (search rules))

pub returns-then-is_err-clause-sound : goal.returns-then-is_err-clause-sound
returns-then-is_err-clause-sound g c =
    let s = c.args.scan.now in
    unless c.pass_after-met.result
    (still-sound (found_of s.said.now c.args.decoded.now) (frame_in s.frame.now) s.header.now s
    c.in_ok-coding.coding.scan (map part_in c.in_ok-coding.coding.parts.now)
    (map (λ v. v.items) c.in_ok-rows.rows.planes.items)
    (reads g (goal.at.returns-then-is_err-clause-sound g c).In_ok-rows))

pub returns-clause-reads : goal.returns-clause-reads
returns-clause-reads g c zeros =
    let s = c.args.scan.now in
    let at = goal.at.returns-clause-reads g c in
    let found = found_of s.said.now c.args.decoded.now in
    let frame = frame_in s.frame.now in
    let k = c.in_ok-coding.coding.scan in
    let parts = map part_in c.in_ok-coding.coding.parts.now in
    let empty = map (λ v. v.items) c.in_ok-rows.rows.planes.items in
    let planes = map (λ v. v.items) c.read_intervals-met.new.self.planes.items in
    let r = reads g at.In_ok-rows in
    samples-answers found frame s.header.now s k parts empty r planes c.args.source.now c.read_intervals-met.new.source
    c.pass_after-met.new.source c.read_intervals-met.result c.pass_after-met.result _
    (c.read_intervals-met.ensures.answers zeros) c.pass_after-met.ensures.passed c.pass_after-met.ensures.refused
    (whole-passed found frame s.header.now s k parts empty r planes _ c.read_intervals-met.result
    c.pass_after-met.result c.read_intervals-met.new.source c.pass_after-met.new.source
    c.read_intervals-met.ensures.long c.pass_after-met.ensures.refused (placed g at.After-put_samples))

-- The components of the frame that was found fit it, and the samples that were found them, whatever turns are read.
use Rattle.std.proofs.Common.{rules, ◌≡◌, ◌⊎◌, inl, inr, ap, ℕ, zero, suc, ◌+◌, ◌*◌, ◌/◌, ◌%◌, ◌≤◌, Bool, true, false, List, [], ◌∷◌}
use Rattle.std.proofs.Common.{◌++◌, Option, Some, None, Ok, Err, refl, sym, ◌∙◌, map, replicate, subst, arith}
use Rattle.std.specs.Prelude.{◌&&◌, not, option_map, fold, zip, is_some, if◌then◌else◌, nat_le, ◌==◌, length}
use Rattle.std.specs.List.{AllByRecursion}
use Rattle.std.proofs.lemmas.Bool.{and_parts}
use Rattle.std.proofs.lemmas.Bool.Decides.{nat_tests}
use Rattle.std.proofs.lemmas.Grind.{common_steps}
use Rattle.jpeg_bits.specs.Reading.{Outcome, Malformed, Lacks, ◌>>=◌, length_at, next_byte, skip_at}
use Rattle.jpeg_bits.specs.Marker.{found_or, next_marker}
use Rattle.jpeg_bits.specs.declared.error.UnsupportedFeature.TheVariants as features
use Rattle.jpeg_bits.specs.declared.marker.Marker.{Marker}
use Rattle.jpeg_bits.specs.declared.marker.Marker.TheVariants.{SOF, JPG, DHT, DAC, RST, SOI, EOI, SOS, DQT, DNL, DRI}
use Rattle.jpeg_bits.specs.declared.marker.Marker.TheVariants.{DHP, EXP, APP, JPGn, COM, TEM, RES}
use Rattle.jpeg_segments.specs.declared.frame.CodingProcess.{CodingProcess}
use Rattle.jpeg_segments.specs.declared.frame.CodingProcess.TheVariants.{DctSequential, DctProgressive, Lossless}
use Rattle.jpeg_segments.specs.Checks.{check, needed}
use Rattle.jpeg_segments.specs.Frame.{Factors, Frame, IsInRange, components_from, factors_at, frame_of, is_count}
use Rattle.jpeg_segments.specs.Frame.{is_destination, is_factor, is_lossless_number, is_precision, is_taken, size_at}
use Rattle.jpeg_segments.specs.Frame.{sof_at}
use Rattle.jpeg_segments.specs.ScanHeader.{Scan, sos_at}
use Rattle.jpeg_segments.specs.Application.{app_at, dri_at}
use Rattle.jpeg_segments.specs.HuffmanTables.{dht_at}
use Rattle.jpeg_segments.specs.Quantization.{dqt_at}
use Rattle.jpeg_segments.proofs.Codecs.{err-ok, ok-same, bind-ok}
use Rattle.jpeg_meaning.specs.declared.before.Before.{Before}
use Rattle.jpeg_meaning.specs.declared.before.Before.TheVariants.{FirstScan, LaterScan, Elsewhere}
use Rattle.jpeg_meaning.specs.Found.{Found, with_said}
use Rattle.jpeg_meaning.specs.InTurn.{Fits}
use Rattle.jpeg_meaning.specs.Scans.{Arrays}
use Rattle.jpeg_meaning.specs.LosslessScans.{LosslessCoding, lossless_codings, mcus_down, way_of, with_samples}
use Rattle.jpeg_meaning.specs.ScanSegments.{Coding, after_restarts, after_scan, blocks_after, blocks_scan, codings_of}
use Rattle.jpeg_meaning.specs.ScanSegments.{lossless_scan, once_scanned, pass_of, scan_arrays, scan_by, scan_samples}
use Rattle.jpeg_meaning.specs.ScanSegments.{scan_segment, with_arrays, with_blocks}
use Rattle.jpeg_meaning.specs.Sound.{AreSampled}
use Rattle.jpeg_meaning.specs.Segments.{Turn, accepted, frame_segment, onward}
use Rattle.jpeg_bits.specs.Passes.{Block}
use Rattle.jpeg_meaning.specs.Brought.{Brought, unbrought}
use Rattle.jpeg_bits.specs.declared.beyond.Beyond.TheVariants.{Zeros}
use Rattle.jpeg_meaning.specs.Stream.{brought_after, end_segment, scan_turn_at, segment_at, turn_at}
use Rattle.jpeg_meaning.proofs.Order.FrameShapes.{accepted-few, frames-fit}
pub use Rattle.jpeg_meaning.proofs.Written.ReadTurns.{needed-some}
use Rattle.jpeg_meaning.proofs.Written.ReadTurns.{scan-or-segment}
use Rattle.jpeg_meaning.proofs.Pictures.LosslessSizes.{IsMade, all-covered, frames-made}
use Rattle.jpeg_meaning.proofs.Partial.ScanSamples.{AreOwn, IsAt, codings-all, codings-at, parts-own, scan-whole, with-sampled}
use Rattle.jpeg_meaning.proofs.Soundness.{no-samples}

-- the frame, where there is one, has the blocks that the order of a scan goes over, and components of their sizes
abbrev pub FrameFits : Option Frame → Type 0
FrameFits None = Unit {0}
FrameFits (Some f) = AllByRecursion (Fits f) f.components × AllByRecursion (IsMade f) f.components

abbrev pub SamplesFit : Option Frame → List (Option (List ℕ)) → Type 0
SamplesFit None samples = samples ≡ replicate 4 None
SamplesFit (Some f) samples = AreSampled f.components samples

-- What was found has a frame that fits, and samples of its components.
pub record FoundFits (found : Found) : Type 0 where
  pub frame : FrameFits found.said.frame
  pub samples : SamplesFit found.said.frame found.samples

-- ---- frame headers

pub factor-bounds : (n : ℕ) → is_factor n ≡ true → (1 ≤ n) × (n ≤ 4)
factor-bounds n e = grind (arith, common_steps, nat_tests)

pub checked : (b : Bool) (u : Unit {0}) → check b ≡ Ok u → b ≡ true
checked true u e = refl
checked false u e = absurd (err-ok Malformed u e)

-- the factors of a byte, as the last step has them
range-last : (identifier n : ℕ) (q : ℕ × List ℕ) (x : Factors × List ℕ)
    → (is_factor (n / 16) && is_factor (n % 16)) ≡ true
    → ◌≡◌ {A = Outcome Factors} (Ok (
      record {
        identifier = identifier;
        horizontal = n / 16;
        vertical = n % 16;
        quantization = q.0;
      },
      q.1,
    )) (Ok x) → IsInRange x.0
range-last identifier n q x both e =
    let parts = and_parts (is_factor (n / 16)) (is_factor (n % 16)) both in
    let h = factor-bounds (n / 16) parts.0 in
    let v = factor-bounds (n % 16) parts.1 in
    subst (λ (y : Factors × List ℕ). IsInRange y.0) (ok-same _ x e)
    (record { horizontal_some = h.0; horizontal_most = h.1; vertical_some = v.0; vertical_most = v.1 })

factors-range : (lossless : Bool) (front : List Factors) (bytes : List ℕ) (x : Factors × List ℕ)
    → factors_at lossless front bytes ≡ Ok x → IsInRange x.0
unfolding factors_at
factors-range lossless front bytes x e =
    let c = bind-ok (next_byte bytes) _ x e in
    let n = bind-ok (check (not (is_taken front c.0.0))) _ x c.2 in
    let f = bind-ok (next_byte c.0.1) _ x n.2 in
    let r = bind-ok (check (is_factor (f.0.0 / 16) && is_factor (f.0.0 % 16))) _ x f.2 in
    let q = bind-ok (next_byte f.0.1) _ x r.2 in
    let d = bind-ok (check (is_destination lossless q.0.0)) _ x q.2 in
    range-last c.0.0 f.0.0 q.0 x (checked (is_factor (f.0.0 / 16) && is_factor (f.0.0 % 16)) r.0 r.1) d.2

all-push : {A : Type 0} (P : A → Type 0) (xs : List A) (y : A) → AllByRecursion P xs → P y
    → AllByRecursion P (xs ++ y ∷ [])
all-push P [] y all p = (p, tt)
all-push P (x ∷ xs) y all p = (all.0, all-push P xs y all.1 p)

pub components-range : (lossless : Bool) (n : ℕ) (front : List Factors) (bytes : List ℕ) (x : List Factors × List ℕ)
    → AllByRecursion IsInRange front → components_from lossless n front bytes ≡ Ok x
    → AllByRecursion IsInRange x.0
unfolding components_from
components-range lossless zero front bytes x all e =
    subst (λ (y : List Factors × List ℕ). AllByRecursion IsInRange y.0) (ok-same (front, bytes) x e) all
components-range lossless (suc n) front bytes x all e =
    let c = bind-ok (factors_at lossless front bytes) _ x e in
    components-range lossless n (front ++ c.0.0 ∷ []) c.0.1 x
    (all-push IsInRange front c.0.0 all (factors-range lossless front bytes c.0 c.1)) c.2

-- the frame of components, as the last step has it
frame-last : (number precision width height count : ℕ) (bytes : List ℕ) (x : Frame × List ℕ)
    → (components_from (is_lossless_number number) count [] bytes >>= (λ components.
    Ok (frame_of number precision width height components.0, components.1))) ≡ Ok x → FrameFits (Some x.0)
frame-last number precision width height count bytes x e =
    let cs = bind-ok (components_from (is_lossless_number number) count [] bytes) _ x e in
    let range = components-range (is_lossless_number number) count [] bytes cs.0 tt cs.1 in
    subst (λ (y : Frame × List ℕ). FrameFits (Some y.0)) (ok-same _ x cs.2)
    (frames-fit number precision width height cs.0.0 range, frames-made number precision width height cs.0.0 range)

-- the frame of a header whose sizes are read
header-fits : (number left precision width height : ℕ) (bytes : List ℕ) (x : Frame × List ℕ)
    → (next_byte bytes >>= (λ count. check (is_count number count.0 && left == 6 + 3 * count.0) >>= (λ _.
    components_from (is_lossless_number number) count.0 [] count.1 >>= (λ components.
    Ok (frame_of number precision width height components.0, components.1))))) ≡ Ok x → FrameFits (Some x.0)
header-fits number left precision width height bytes x e =
    let count = bind-ok (next_byte bytes) _ x e in
    let d = bind-ok (check (is_count number count.0.0 && left == 6 + 3 * count.0.0)) _ x count.2 in
    frame-last number precision width height count.0.0 count.0.1 x d.2

sof-fits : (number : ℕ) (bytes : List ℕ) (x : Frame × List ℕ) → sof_at number bytes ≡ Ok x
    → FrameFits (Some x.0)
unfolding sof_at
sof-fits number bytes x e =
    let left = bind-ok (length_at bytes) _ x e in
    let a = bind-ok (check (nat_le 7 left.0.0)) _ x left.2 in
    let p = bind-ok (next_byte left.0.1) _ x a.2 in
    let b = bind-ok (check (is_precision number p.0.0)) _ x p.2 in
    let size = bind-ok (size_at p.0.1) _ x b.2 in
    header-fits number left.0.0 p.0.0 size.0.0.0 size.0.0.1 size.0.1 x size.2

pub accepted-is : (f g : Frame) → accepted f ≡ Ok g → f ≡ g
unfolding accepted
accepted-is f g e = search (rules, bind-ok, ok-same)

-- the turn of a frame's segment
abbrev pub framed : Found → Frame → List ℕ → Outcome Turn
framed found frame rest =
    accepted frame >>= (λ decoded. Ok (onward (with_said (λ said. record said { frame = Some decoded }) found), rest))

framed-fits : (found : Found) (frame : Frame) (rest : List ℕ) (x : Turn × List ℕ) → FrameFits (Some frame)
    → found.samples ≡ replicate 4 None → framed found frame rest ≡ Ok x → FoundFits x.0.found
framed-fits found frame rest x fits none e =
    let g = bind-ok (accepted frame) _ x e in
    let same = accepted-is frame g.0 g.1 in
    let few = accepted-few frame g.0 g.1 in
    subst (λ (y : Turn × List ℕ). FoundFits y.0.found) (ok-same _ x g.2) (record {
      frame = subst (λ (f : Frame). FrameFits (Some f)) same fits;
      samples = subst (λ (f : Frame). AreSampled f.components found.samples) same
          (subst (AreSampled frame.components) (sym none) (no-samples 4 frame.components few));
    })

frame-fits : (number : ℕ) (found : Found) (bytes : List ℕ) (x : Turn × List ℕ) → FoundFits found
    → frame_segment number found bytes ≡ Ok x → FoundFits x.0.found
unfolding frame_segment
frame-fits number found bytes x fits e = go found.said.frame fits.samples e
  where
    go : (o : Option Frame) → SamplesFit o found.samples → (if is_some o then Err (Lacks features.Hierarchical)
        else (sof_at number bytes >>= (λ frame. framed found frame.0 frame.1))) ≡ Ok x → FoundFits x.0.found
    go (Some frame) none e = absurd (err-ok _ x e)
    go None none e =
        let f = bind-ok (sof_at number bytes) _ x e in
        framed-fits found f.0.0 f.0.1 x (sof-fits number bytes f.0 f.1) none f.2

-- ---- what keeps the frame and the samples

abbrev Keeps : Found → Turn × List ℕ → Type 0
Keeps found x = (x.0.found.said.frame ≡ found.said.frame) × (x.0.found.samples ≡ found.samples)

-- and the planes that are decided
abbrev pub KeepsAll : Found → Turn × List ℕ → Type 0
KeepsAll found x =
    (x.0.found.said.frame ≡ found.said.frame) × (x.0.found.samples ≡ found.samples)
    × (x.0.found.planes ≡ found.planes)

fold-keeps : {X A : Type 0} (of : Found → A) (f : Found → X → Found) → ((g : Found) (x : X) → of (f g x) ≡ of g)
    → (xs : List X) (g : Found) → of (fold f g xs) ≡ of g
fold-keeps of f k [] g = refl
fold-keeps of f k (x ∷ xs) g = fold-keeps of f k xs (f g x) ∙ k g x

pub after-keeps : {A : Type 0} (of : Found → A) (found : Found) (frame : Frame) (scan : Scan) (codings : List Coding)
    (arrays : Arrays) → ((c : Coding) (blocks : List Block) (g : Found)
    → of (with_blocks (pass_of scan) c blocks g) ≡ of g)
    → of (record (once_scanned found) { kept = blocks_after found frame codings arrays }) ≡ of found
    → of (after_scan found frame scan codings arrays) ≡ of found
unfolding after_scan with_arrays
after-keeps of found frame scan codings arrays each first =
    fold-keeps of (λ (g : Found) (x : Coding × List Block). with_blocks (pass_of scan) x.0 x.1 g)
    (λ g x. each x.0 x.1 g) (zip codings arrays)
    (record (once_scanned found) { kept = blocks_after found frame codings arrays })
    ∙ first

blocks-keep : (found : Found) (frame : Frame) (scan : Scan) (bytes : List ℕ) (x : Turn × List ℕ)
    → blocks_scan found frame scan bytes ≡ Ok x → Keeps found x
unfolding blocks_scan with_blocks
blocks-keep found frame scan bytes x e =
    let c = bind-ok (codings_of found.said frame scan) _ x e in
    let r = bind-ok (scan_arrays found frame scan c.0 bytes) _ x c.2 in
    let m = bind-ok (after_restarts (suc (length r.0.1)) r.0.0.1 r.0.1) _ x r.2 in
    subst (Keeps found) (ok-same _ x m.2) (
      after-keeps (λ (g : Found). g.said.frame) found frame scan c.0 r.0.0.0 (λ k blocks g. refl) refl,
      after-keeps (λ (g : Found). g.samples) found frame scan c.0 r.0.0.0 (λ k blocks g. refl) refl,
    )

kept-fits : (found : Found) (x : Turn × List ℕ) → FoundFits found → Keeps found x → FoundFits x.0.found
kept-fits found x h k = record {
  frame = subst FrameFits (sym k.0) h.frame;
  samples = subst (λ (o : Option Frame). SamplesFit o x.0.found.samples) (sym k.0)
      (subst (SamplesFit found.said.frame) (sym k.1) h.samples);
}

-- ---- scans

-- The planes of a lossless scan that is read are of its components.
pub planes-own : (found : Found) (frame : Frame) (scan : Scan) (codings : List LosslessCoding) (bytes : List ℕ)
    (x : (List (List ℕ) × Option Marker) × List ℕ) → AllByRecursion (IsMade frame) frame.components
    → AllByRecursion (IsAt frame.components) codings → scan_samples found frame scan codings bytes ≡ Ok x
    → AreOwn codings x.0.0
planes-own found frame scan codings bytes x made at e =
    let covered = all-covered frame codings (codings-all (IsMade frame) frame.components codings made at) in
    parts-own codings x.0.0
    (scan-whole (way_of frame scan.predictor scan.point_transform codings) (mcus_down frame codings) covered
    found.said.restart scan.point_transform bytes x e)

samples-fit : (found : Found) (frame : Frame) (scan : Scan) (bytes : List ℕ) (x : Turn × List ℕ)
    → found.said.frame ≡ Some frame → FoundFits found → lossless_scan found frame scan bytes ≡ Ok x
    → FoundFits x.0.found
unfolding lossless_scan
samples-fit found frame scan bytes x is fits e =
    let c = bind-ok (lossless_codings found.said.huffman.dc frame scan.components scan.dc_destinations) _ x e in
    let r = bind-ok (scan_samples found frame scan c.0 bytes) _ x c.2 in
    let m = bind-ok (after_restarts (suc (length r.0.1)) r.0.0.1 r.0.1) _ x r.2 in
    let at = codings-at found.said.huffman.dc frame scan.components scan.dc_destinations c.0 c.1 in
    let made = (subst FrameFits is fits.frame).1 in
    let there = subst (λ (o : Option Frame). SamplesFit o found.samples) is fits.samples in
    subst (λ (y : Turn × List ℕ). FoundFits y.0.found) (ok-same _ x m.2) (record {
      frame = fits.frame;
      samples = subst (λ (o : Option Frame). SamplesFit o (with_samples (map (λ k. k.index) c.0) r.0.0.0 found.samples))
          (sym is) (with-sampled frame.components c.0 r.0.0.0 found.samples at
          (planes-own found frame scan c.0 bytes r.0 made at r.1) there);
    })

scans-fit : (process : CodingProcess) (found : Found) (frame : Frame) (scan : Scan) (bytes : List ℕ)
    (x : Turn × List ℕ) → found.said.frame ≡ Some frame → FoundFits found
    → scan_by process found frame scan bytes ≡ Ok x → FoundFits x.0.found
scans-fit DctSequential found frame scan bytes x is fits e =
    kept-fits found x fits (blocks-keep found frame scan bytes x e)
scans-fit DctProgressive found frame scan bytes x is fits e =
    kept-fits found x fits (blocks-keep found frame scan bytes x e)
scans-fit Lossless found frame scan bytes x is fits e = samples-fit found frame scan bytes x is fits e

scan-fits : (found : Found) (bytes : List ℕ) (x : Turn × List ℕ) → FoundFits found → scan_segment found bytes ≡ Ok x
    → FoundFits x.0.found
unfolding scan_segment
scan-fits found bytes x fits e =
    let f = bind-ok (needed found.said.frame) _ x e in
    let s = bind-ok (sos_at f.0 bytes) _ x f.2 in
    scans-fit f.0.process found f.0 s.0.0 s.0.1 x (needed-some found.said.frame f.0 f.1) fits s.2

-- ---- other segments

end-keeps : (found : Found) (bytes : List ℕ) (x : Turn × List ℕ) → end_segment found bytes ≡ Ok x → KeepsAll found x
unfolding end_segment
end-keeps found bytes x e = go (is_some found.said.frame) e
  where
    go : (b : Bool)
        → (if b then Ok (record (onward found) { ended = true }, bytes) else Err Malformed) ≡ Ok x → KeepsAll found x
    go true e = subst (KeepsAll found) (ok-same _ x e) (refl, refl, refl)
    go false e = absurd (err-ok _ x e)

restart-keeps : (before : Before) (n : ℕ) (found : Found) (bytes : List ℕ) (x : Turn × List ℕ)
    → segment_at (RST n) before found bytes ≡ Ok x → KeepsAll found x
unfolding segment_at
restart-keeps Elsewhere n found bytes x e = absurd (err-ok _ x e)
restart-keeps FirstScan n found bytes x e = subst (KeepsAll found) (ok-same _ x e) (refl, refl, refl)
restart-keeps LaterScan n found bytes x e = subst (KeepsAll found) (ok-same _ x e) (refl, refl, refl)

lines-keep : (before : Before) (found : Found) (bytes : List ℕ) (x : Turn × List ℕ)
    → segment_at DNL before found bytes ≡ Ok x → KeepsAll found x
unfolding segment_at
lines-keep Elsewhere found bytes x e = absurd (err-ok _ x e)
lines-keep FirstScan found bytes x e = absurd (err-ok _ x e)
lines-keep LaterScan found bytes x e = absurd (err-ok _ x e)

-- Of the segments that are no scan only that of a frame changes it, and none changes samples or planes.
pub segment-keeps : (m : Marker) (before : Before) (found : Found) (bytes : List ℕ) (x : Turn × List ℕ)
    → segment_at m before found bytes ≡ Ok x → ((n : ℕ) × (m ≡ SOF n)) ⊎ KeepsAll found x
unfolding segment_at
segment-keeps (SOF n) before found bytes x e = inl (n, refl)
segment-keeps DQT before found bytes x e =
    let r = bind-ok (dqt_at bytes) _ x e in
    inr (subst (KeepsAll found) (ok-same _ x r.2) (refl, refl, refl))
segment-keeps DHT before found bytes x e =
    let r = bind-ok (dht_at (option_map (λ f. f.is_baseline) found.said.frame) bytes) _ x e in
    inr (subst (KeepsAll found) (ok-same _ x r.2) (refl, refl, refl))
segment-keeps SOS before found bytes x e = absurd (err-ok _ x e)
segment-keeps EOI before found bytes x e = inr (end-keeps found bytes x e)
segment-keeps DRI before found bytes x e =
    let r = bind-ok (dri_at bytes) _ x e in
    inr (subst (KeepsAll found) (ok-same _ x r.2) (refl, refl, refl))
segment-keeps (APP n) before found bytes x e =
    let r = bind-ok (app_at n bytes) _ x e in
    inr (subst (KeepsAll found) (ok-same _ x r.2) (refl, refl, refl))
segment-keeps COM before found bytes x e =
    let n = bind-ok (length_at bytes) _ x e in
    let r = bind-ok (skip_at n.0.0 n.0.1) _ x n.2 in
    inr (subst (KeepsAll found) (ok-same _ x r.2) (refl, refl, refl))
segment-keeps (RST n) before found bytes x e = inr (restart-keeps before n found bytes x e)
segment-keeps DNL before found bytes x e = inr (lines-keep before found bytes x e)
segment-keeps DAC before found bytes x e = absurd (err-ok _ x e)
segment-keeps DHP before found bytes x e = absurd (err-ok _ x e)
segment-keeps EXP before found bytes x e = absurd (err-ok _ x e)
segment-keeps JPG before found bytes x e = absurd (err-ok _ x e)
segment-keeps SOI before found bytes x e = absurd (err-ok _ x e)
segment-keeps (JPGn n) before found bytes x e = absurd (err-ok _ x e)
segment-keeps TEM before found bytes x e = absurd (err-ok _ x e)
segment-keeps RES before found bytes x e = absurd (err-ok _ x e)

segment-fits : (m : Marker) (before : Before) (found : Found) (bytes : List ℕ) (x : Turn × List ℕ)
    → FoundFits found → segment_at m before found bytes ≡ Ok x → FoundFits x.0.found
unfolding segment_at
segment-fits m before found bytes x h e = go (segment-keeps m before found bytes x e)
  where
    go : ((n : ℕ) × (m ≡ SOF n)) ⊎ KeepsAll found x → FoundFits x.0.found
    go (inl n) =
        frame-fits n.0 found bytes x h (ap (λ (k : Marker). segment_at k before found bytes) (sym n.1) ∙ e)
    go (inr k) = kept-fits found x h (k.0, k.1)

after-fits : (m : Marker) (before : Before) (found : Found) (bytes : List ℕ) (x : Turn × List ℕ)
    → FoundFits found → (brought_after Zeros m before found bytes).turn ≡ Ok x → FoundFits x.0.found
unfolding brought_after scan_turn_at
after-fits m before found bytes x h e = go (scan-or-segment Zeros m before found bytes)
  where
    go : (m ≡ SOS) ⊎ (brought_after Zeros m before found bytes ≡ unbrought found (segment_at m before found bytes))
        → FoundFits x.0.found
    go (inl s) = scan-fits found bytes x h
        (ap (λ (k : Marker). (brought_after Zeros k before found bytes).turn) (sym s) ∙ e)
    go (inr s) = segment-fits m before found bytes x h (ap (λ (b : Brought). b.turn) (sym s) ∙ e)

pub turn-fits : (before : Before) (found : Found) (met : Option Marker) (bytes : List ℕ) (x : Turn × List ℕ)
    → FoundFits found → (turn_at Zeros before found met bytes).turn ≡ Ok x → FoundFits x.0.found
unfolding turn_at
turn-fits before found met bytes x h e = go (found_or met bytes (next_marker bytes)) e
  where
    go : (o : Outcome Marker) → (elim o as (λ _. Brought) [
      | Ok m ↦ brought_after Zeros m.0 before found m.1
      | Err fault ↦ unbrought found (Err fault)
    ]).turn ≡ Ok x → FoundFits x.0.found
    go (Ok m) e = after-fits m.0 before found m.1 x h e
    go (Err fault) e = absurd (err-ok fault x e)

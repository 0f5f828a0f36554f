-- Scans that are ready to be read, by what was found before them.
use Rattle.std.proofs.lemmas.Grind.{common_steps}
use Rattle.std.proofs.Common.{◌≡◌, ◌≤◌, ◌+◌, ℕ, true, List, [], ◌∷◌, length, map, Ok, sym}
use Rattle.std.proofs.Common.{subst, arith, ap, Option, Some}
use Rattle.std.specs.Prelude.{IfSome}
use Rattle.std.specs.List.{AllByRecursion}
use Rattle.jpeg_bits.specs.BlockView.{IsPass}
use Rattle.jpeg_bits.specs.Passes.{Pass}
use Rattle.jpeg_segments.specs.declared.frame.CodingProcess.{CodingProcess}
use Rattle.jpeg_segments.specs.Frame.{Frame, Component}
use Rattle.jpeg_segments.specs.Scales.{component_at, frame_at, is_scale}
use Rattle.jpeg_segments.specs.ScanHeader as headers
use Rattle.jpeg_segments.specs.ScanHeader.{IsBandOf, IsRising, IsScanOf}
use Rattle.jpeg_decoder.specs.declared.stream.state.Said.TheInside.{Inside}
use Rattle.jpeg_meaning.specs.InTurn.{Fits}
use Rattle.jpeg_decoder.specs.Scanning.{BlockScan}
use Rattle.jpeg_meaning.specs.Sound.{IsDecodedFrame}
use Rattle.jpeg_meaning.specs.ScanSegments.{codings_of, components_of, Coding, pass_of}
use Rattle.jpeg_meaning.specs.Found.{Found, Said}
use Rattle.jpeg_decoder.specs.Steps.{AreRising, HasScale, IsCodingOf, IsDct, IsReadable}
use Rattle.jpeg_decoder.specs.Steps.{IsHeaderOf}
use Rattle.jpeg_decoder.specs.Seen.{said_of}
use Rattle.jpeg_meaning.proofs.Pictures.LosslessSizes.{all-at}
use Rattle.jpeg_meaning.proofs.Written.ReadTurns.{codings-each, codings-indices}
use Rattle.jpeg_segments.proofs.ScaleLemmas.{sized_frames_have_factors}
use Rattle.jpeg_meaning.proofs.Soundness.{count-few, decoded-count, decoded-fits, decoded-sized}

-- what was said before a scan, by the fields
pub scanned-before : (s : Inside) (said : Said) → said_of s ≡ said → said.scanned ≡ s.scanned
scanned-before s said is = ap (λ (said : Said). said.scanned) (sym is)

-- ---- the pass of a scan

is-pass : (process : CodingProcess) (s : headers.Scan) → IsDct process
    → IsBandOf process s.first s.after s.high s.low → IsPass (pass_of s)
unfolding pass_of
is-pass process s e c = grind (arith, common_steps)

-- a scan codes what a pass may
pub legal-pass : (process : CodingProcess) (s : headers.Scan) (p : Pass) → IsDct process
    → IsBandOf process s.first s.after s.high s.low → p ≡ pass_of s → IsPass p
legal-pass process s p is_dct coded e = subst IsPass (sym e) (is-pass process s is_dct coded)

-- what it codes ends after the first coefficient at the earliest
pub some-after : (process : CodingProcess) (s : headers.Scan) → IsDct process
    → IsBandOf process s.first s.after s.high s.low → 1 ≤ s.after
some-after process s is_dct coded = grind (arith, common_steps)

-- ---- the scales of a frame's components

scales-at : (s width height h v : ℕ) (cs : List Component) → is_scale s ≡ true
    → AllByRecursion HasScale (map (component_at s width height h v) cs)
unfolding component_at
scales-at s width height h v [] is = tt
scales-at s width height h v (c ∷ cs) is = (is, scales-at s width height h v cs is)

pub decoded-scales : (f : Frame) → IsDecodedFrame f → AllByRecursion HasScale f.components
unfolding frame_at
decoded-scales f p = grind (arith, common_steps, scales-at)

-- it has four components at most
pub decoded-few : (f : Frame) → IsDecodedFrame f → length f.components ≤ 4
decoded-few f p = (count-few (length f.components) (decoded-count f p)).1

-- ---- the components of a scan

-- what each component of a frame has, those of its scans have
each-at : (Q : Component → Type 0) (frame : Frame) (codings : List Coding) → AllByRecursion Q frame.components
    → AllByRecursion (IsCodingOf frame) codings → AllByRecursion Q (components_of codings)
each-at Q frame [] h are = tt
each-at Q frame (c ∷ codings) h are = grind (arith, common_steps, all-at, each-at Q frame codings h are.1)

rising-at : (codings : List Coding) (least : ℕ)
    → IsRising least (map (λ (c : Coding). c.index) codings) → AreRising codings
unfolding IsRising
rising-at (c ∷ d ∷ more) least h = grind (
  arith,
  common_steps,
  rising-at (d ∷ more) (c.index + 1)
      h.1,
)
rising-at _ least h = tt

-- ---- a scan

-- A scan with the tables in force for its header is ready to be read.
pub ready : (found : Found) (frame : Frame) (header : headers.Scan) (scan : BlockScan)
    → IsDecodedFrame frame → IsScanOf frame header
    → codings_of found.said frame header ≡ Ok scan.codings
    → length scan.codings ≡ length header.components → IsReadable frame scan
ready found frame header scan decoded legal codings count =
    let cs = scan.codings in
    let indices = codings-indices found.said frame header cs legal.dc_length legal.ac_length codings in
    let are = codings-each (IsCodingOf frame) found.said frame header cs codings
    (λ index d a k is. is.component) in
    record {
      some = subst (λ (n : ℕ). 1 ≤ n) (sym count) legal.some;
      fits = each-at (Fits frame) frame cs (decoded-fits frame decoded) are;
      of_frame = are;
      rising = rising-at cs 0 (subst (IsRising 0) (sym indices) legal.rising);
      sampling = sized_frames_have_factors frame (decoded-sized frame decoded);
    }

-- ---- the header of a scan

-- a fact of the frame that was found
pub of-found : {A : Type 0} (P : A → Type 0) (o : Option A) (x : A) → o ≡ Some x → IfSome o P → P x
of-found {A} P o x e h = subst (λ (o : Option A). IfSome o P) e h

-- It is one of the frame that was found.
pub header-legal : (found : Found) (frame : Frame) (scan : headers.Scan) → found.said.frame ≡ Some frame
    → IsHeaderOf found scan → IsScanOf frame scan
header-legal found frame scan e h = of-found (λ (f : Frame). IsScanOf f scan) found.said.frame frame e
    (subst (λ (o : Option Frame). IfSome o (λ f. IsScanOf f scan)) (sym h.framed) h.legal)

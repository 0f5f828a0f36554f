-- What is known of a stream where some bytes of it are still to be read.
use Rattle.std.proofs.Common.{◌≡◌, ℕ, suc, ◌<◌, ◌≤◌, Bool, true, false, List, [], ◌∷◌, length, get_or, Option, Some}
use Rattle.std.proofs.Common.{None, is_some, refl, sym, ◌∙◌, arith}
use Rattle.std.specs.List.{AllByRecursion, list_all}
use Rattle.std.proofs.lemmas.Bool.{and_parts, false≢true}
use Rattle.std.proofs.lemmas.List.{length-map}
use Rattle.std.proofs.lemmas.Option.{same_Some}
use Rattle.jpeg_bits.specs.Written.{marker}
use Rattle.jpeg_segments.proofs.Codecs.{AreBytes}
use Rattle.jpeg_meaning.specs.AcceptedFrames.{HasSamples}
use Rattle.jpeg_meaning.specs.Found.{Said, nothing_said}
use Rattle.zaxbriar_strict.specs.Changes.{kept_in}
use Rattle.zaxbriar_strict.specs.Exact.{HasDeepScan, HasHeader, HasLaterTables, HasOtherAdobe, HasProgressivePicture}
use Rattle.zaxbriar_strict.specs.Exact.{HasSequentialPicture, HasShiftedScan}
use Rattle.zaxbriar_strict.specs.Exact.{WritesSegments}
use Rattle.zaxbriar_strict.specs.Heads.{factors_of, has_scans, is_progressive_process, lowest_of, written_frame}
use Rattle.zaxbriar_strict.specs.Walks.{Finishes, FinishesBlocks}
use Rattle.zaxbriar_strict.specs.declared.frame.Component.{Component}
use Rattle.zaxbriar_strict.specs.declared.frame.Frame.{Frame}
use Rattle.zaxbriar_strict.specs.declared.walk.Walk.{Walk}
use Rattle.zaxbriar_strict.proofs.FrameComponents.{written-count}
use Rattle.zaxbriar_strict.proofs.ImageParts.{ImagePart}
use Rattle.zaxbriar_strict.proofs.ProgressParts.{ProgressPart}
use Rattle.zaxbriar_strict.proofs.SampleParts.{SamplesPart}
use Rattle.zaxbriar_strict.proofs.WalkedBytes.{EndsWith}
use Rattle.zaxbriar_strict.proofs.WalkedFrames.{IsPictureFrame, IsProgressiveFrame, IsSampledFrame}
use Rattle.zaxbriar_strict.proofs.WalkedSegments.{Knows}

-- ---- states

-- Segments were read, and no frame header yet.
pub record IsBefore (stream at : List ℕ) (w : Walk) : Type 0 where
  pub before : ℕ
  pub after : List ℕ
  pub said : Said
  pub starts : stream ≡ marker before 216 after
  pub segments : WritesSegments nothing_said after said at
  pub known : Knows w.tables w.frame said
  pub unframed : w.frame ≡ None
  pub unsaid : said.frame ≡ None
  pub unscanned : said.scanned ≡ false

-- A frame was read that has a picture, and any number of its scans.
pub record IsBegun (stream at : List ℕ) (w : Walk) : Type 0 where
  pub header : HasHeader stream
  pub said : Said
  pub frame : Frame
  pub part : ImagePart header.after at said (written_frame frame) (has_scans frame)
  pub known : Knows w.tables w.frame said
  pub is : w.frame ≡ Some frame
  pub pictured : IsPictureFrame frame
  pub was_said : said.frame ≡ Some (written_frame frame)
  pub unprogressive : HasProgressivePicture header.number header.header → ⊥
  pub unsampled : HasSamples header.number header.header → ⊥

-- A progressive frame was read that has a picture, and any number of its scans, where no number was
-- beyond 16 bits: what is known of it.
pub record ComesOn (stream at : List ℕ) (header : HasHeader stream) (w : Walk) (frame : Frame) : Type 0 where
  pub said : Said
  pub ends : EndsWith header.after at
  pub part : ProgressPart header.after at said (written_frame frame) (has_scans frame) (lowest_of frame)
      (kept_in frame.components.items)
  pub known : Knows w.tables w.frame said
  pub was_said : said.frame ≡ Some (written_frame frame)

pub data Progress (stream at : List ℕ) (header : HasHeader stream) (w : Walk) (frame : Frame) : Type 0 where
  comes_on : ComesOn stream at header w frame → Progress stream at header w frame
  is_adobe : HasOtherAdobe stream → Progress stream at header w frame
  is_deep : HasDeepScan header.after → Progress stream at header w frame

pub record IsProgressed (stream at : List ℕ) (w : Walk) : Type 0 where
  pub header : HasHeader stream
  pub frame : Frame
  pub is : w.frame ≡ Some frame
  pub pictured : IsProgressiveFrame frame
  pub so_far : (kept_in frame.components.items).is_wide ≡ false → Progress stream at header w frame
  pub unpictured : HasSequentialPicture header.number header.header → ⊥
  pub unsampled : HasSamples header.number header.header → ⊥

-- A lossless frame was read that has samples, and any number of its scans.
pub record IsSampled (stream at : List ℕ) (w : Walk) : Type 0 where
  pub header : HasHeader stream
  pub said : Said
  pub frame : Frame
  pub part : SamplesPart header.after at said (has_scans frame)
  pub known : Knows w.tables w.frame said
  pub is : w.frame ≡ Some frame
  pub sampled : IsSampledFrame frame
  pub was_said : said.frame ≡ Some (written_frame frame)
  pub unpictured : HasSequentialPicture header.number header.header → ⊥
  pub unprogressive : HasProgressivePicture header.number header.header → ⊥

-- What is known where these bytes are still to be read.
pub data Walked (stream at : List ℕ) (w : Walk) : Type 0 where
  with_adobe : HasOtherAdobe stream → Walked stream at w
  has_none : (h : HasHeader stream) → (HasSequentialPicture h.number h.header → ⊥)
      → (HasProgressivePicture h.number h.header → ⊥) → (HasSamples h.number h.header → ⊥) → Walked stream at w
  has_later : (h : HasHeader stream) → HasLaterTables h.after → (HasProgressivePicture h.number h.header → ⊥)
      → (HasSamples h.number h.header → ⊥) → Walked stream at w
  has_shifted : (h : HasHeader stream) → HasShiftedScan h.after → (HasSequentialPicture h.number h.header → ⊥)
      → (HasProgressivePicture h.number h.header → ⊥) → Walked stream at w
  is_before : IsBefore stream at w → Walked stream at w
  is_begun : IsBegun stream at w → Walked stream at w
  is_progressed : IsProgressed stream at w → Walked stream at w
  is_sampled : IsSampled stream at w → Walked stream at w

-- as many components of the frame are told to have scans or not
pub sent-count : (f : Frame) → length (has_scans f) ≡ length (written_frame f).components
sent-count f = length-map f.components.items (λ (c : Component). c.has_scan) ∙ sym (written-count f)

pub some-component : (f : Frame) → IsPictureFrame f → 1 ≤ length f.components.items
some-component f p =
    let l = length-map f.components.items factors_of in
    let n = p.has.picture.counted in
    omega (arith, l, n)

pub same-frame : (o : Option Frame) (f g : Frame) → o ≡ Some f → o ≡ Some g → f ≡ g
same-frame o f g a b = same_Some f g (sym a ∙ b)

-- ---- what is read of the code

pub all-bytes : (xs : List ℕ) → ((k : ℕ) → get_or xs k 0 < 256) → AreBytes xs
all-bytes [] h = tt
all-bytes (x ∷ xs) h = (h 0, all-bytes xs (λ k. h (suc k)))

all-sent : (xs : List Component) → true ≡ list_all (λ (c : Component). c.has_scan) xs
    → AllByRecursion (λ (c : Component). c.has_scan ≡ true) xs
all-sent [] e = tt
all-sent (x ∷ xs) e = let p = and_parts x.has_scan _ (sym e) in (p.0, all-sent xs (sym p.1))

pub finishes : (w : Walk) (f : Frame) (lacks sent : Bool) → w.frame ≡ Some f
    → (lacks ≡ false → w.is_scan_due ≡ true → w.scans ≡ 0) → lacks ≡ false
    → sent ≡ list_all (λ (c : Component). c.has_scan) f.components.items → sent ≡ true
    → (is_progressive_process f.process ≡ true → FinishesBlocks f) → Finishes w
finishes w f lacks sent is due none same all blocks = record {
  frame = f;
  is = is;
  due = due none;
  sent = all-sent f.components.items (sym all ∙ same);
  blocks = blocks;
}

pub no-frame : (o : Option Frame) (b : Bool) → b ≡ is_some o → b ≡ false → o ≡ None
no-frame None b same e = refl
no-frame (Some f) b same e = absurd (false≢true (sym e ∙ same))

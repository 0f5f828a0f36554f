-- Frames that a walk took: those that have a picture, and what a writer says by their headers.
use Rattle.std.proofs.Common.{◌≡◌, ℕ, ◌+◌, ◌≤◌, inl, Bool, true, eqb, List, ◌++◌, Some, None, refl, sym, ap, ◌∙◌, subst}
use Rattle.std.proofs.Common.{arith}
use Rattle.jpeg_bits.specs.Written.{marker}
use Rattle.jpeg_segments.specs.Frame.{frame_of}
use Rattle.jpeg_segments.specs.WrittenSegments.{FrameHeader, Header, frame_payload, marker_code}
use Rattle.jpeg_segments.specs.WrittenSegments.{payload_of, with_length}
use Rattle.jpeg_meaning.specs.AcceptedFrames.{HasPicture, HasSamples}
use Rattle.jpeg_meaning.specs.Found.{Said, nothing_said}
use Rattle.jpeg_meaning.specs.SaidSegments.{said_after}
use Rattle.zaxbriar_strict.specs.Exact.{HasHeader, HasProgressivePicture, HasSequentialPicture, WritesSegments}
use Rattle.zaxbriar_strict.specs.Exact.WritesSegments.{more}
use Rattle.zaxbriar_strict.specs.Heads.{IsMade, IsSameFrame, ReadsFrame, header_of, is_baseline_of}
use Rattle.zaxbriar_strict.specs.Heads.{is_baseline_process, is_progressive_process, number_of, written_frame}
use Rattle.zaxbriar_strict.specs.Installed.{codes_of, steps_of}
use Rattle.zaxbriar_strict.specs.Markers.{BeginsMarker}
use Rattle.zaxbriar_strict.specs.declared.frame.Frame.{Frame}
use Rattle.zaxbriar_strict.specs.declared.frame.Process.{Process}
use Rattle.zaxbriar_strict.specs.declared.frame.Process.TheVariants.{Baseline, Extended, Lossless, Progressive}
use Rattle.zaxbriar_strict.specs.declared.tables.Tables.{Tables}
use Rattle.zaxbriar_strict.proofs.SameFrames.{same-made}
use Rattle.zaxbriar_strict.proofs.WalkedSegments.{Knows, segment-bytes}

-- ---- frames that have a picture

-- a sequential frame that keeps its rules, and has a picture
pub record IsPictureFrame (f : Frame) : Type 0 where
  pub made : IsMade f
  pub has : HasSequentialPicture (number_of f.process) (header_of f)

-- the frame after a scan
pub picture-same : {old new : Frame} → IsSameFrame old new → IsPictureFrame old → IsPictureFrame new
picture-same {old} {new} same p = record {
  made = same-made same p.made;
  has = subst (λ (q : Process). HasSequentialPicture (number_of q) (header_of new)) (sym same.process)
      (subst (λ (h : FrameHeader). HasSequentialPicture (number_of old.process) h) (sym same.header) p.has);
}

-- a progressive frame that keeps its rules, and has a picture
pub record IsProgressiveFrame (f : Frame) : Type 0 where
  pub made : IsMade f
  pub has : HasProgressivePicture (number_of f.process) (header_of f)

pub progressive-same : {old new : Frame} → IsSameFrame old new → IsProgressiveFrame old → IsProgressiveFrame new
progressive-same {old} {new} same p = record {
  made = same-made same p.made;
  has = subst (λ (q : Process). HasProgressivePicture (number_of q) (header_of new)) (sym same.process)
      (subst (λ (h : FrameHeader). HasProgressivePicture (number_of old.process) h) (sym same.header) p.has);
}

progressive-number : (p : Process) → number_of p ≡ 2 → is_progressive_process p ≡ true
progressive-number Baseline e = absurd (omega (arith, e))
progressive-number Extended e = absurd (omega (arith, e))
progressive-number Progressive e = refl
progressive-number Lossless e = absurd (omega (arith, e))

pub progressive-process : (f : Frame) → IsProgressiveFrame f → is_progressive_process f.process ≡ true
progressive-process f p = progressive-number f.process p.has.progressive

-- a lossless frame that keeps its rules, and has samples
pub record IsSampledFrame (f : Frame) : Type 0 where
  pub made : IsMade f
  pub has : HasSamples (number_of f.process) (header_of f)

pub sampled-same : {old new : Frame} → IsSameFrame old new → IsSampledFrame old → IsSampledFrame new
sampled-same {old} {new} same p = record {
  made = same-made same p.made;
  has = subst (λ (q : Process). HasSamples (number_of q) (header_of new)) (sym same.process)
      (subst (λ (h : FrameHeader). HasSamples (number_of old.process) h) (sym same.header) p.has);
}

-- ---- its header

is-baseline : (p : Process) → is_baseline_process p ≡ eqb (number_of p) 0
is-baseline Baseline = refl
is-baseline Extended = refl
is-baseline Progressive = refl
is-baseline Lossless = refl

baseline-same : (f : Frame) → is_baseline_of f ≡ (written_frame f).is_baseline
unfolding frame_of
baseline-same f = is-baseline f.process

module _ (after at middle rest payload : List ℕ) (code : ℕ) (said : Said)
    (written : WritesSegments nothing_said after said at) (begins : BeginsMarker code at middle)
    (parts : middle ≡ with_length payload ++ rest) (f : Frame) (read : ReadsFrame code payload f) where
  abbrev pub headed : (stream : List ℕ) (before : ℕ) → stream ≡ marker before 216 after → HasHeader stream
  headed stream before starts = record {
    before = before;
    after = after;
    said = said;
    fill = begins.fill;
    number = number_of f.process;
    header = header_of f;
    rest = rest;
    starts = starts;
    segments = subst (λ (l : List ℕ). WritesSegments nothing_said after said l)
        (segment-bytes at middle rest payload code begins parts (192 + number_of f.process)
        (frame_payload (header_of f)) (sym read.marked) (sym read.are)) written;
  }

  pub after-header : said.frame ≡ None → number_of f.process ≤ 2 → HasPicture (header_of f)
      → WritesSegments nothing_said after (said_after said (Header (number_of f.process) (header_of f))) rest
  after-header none few picture =
      let header = Header (number_of f.process) (header_of f) in
      more said begins.fill header rest
      (subst (λ (l : List ℕ). WritesSegments nothing_said after said l)
      (segment-bytes at middle rest payload code begins parts (marker_code header) (payload_of header)
      (sym read.marked) (sym read.are)) written)
      ((none, read.made.legal), inl (few, picture)) few

  pub knows-header : (t new : Tables) → new ≡ t → Knows t None said
      → Knows new (Some f) (said_after said (Header (number_of f.process) (header_of f)))
  knows-header t new e k = record {
    steps = ap (λ (u : Tables). steps_of u) e ∙ k.steps;
    codes = ap (λ (u : Tables). codes_of u) e ∙ k.codes;
    interval = ap (λ (u : Tables). u.interval) e ∙ k.interval;
    baseline = ap (λ (b : Bool). Some b) (baseline-same f);
  }

-- what is known stays so after a scan
pub knows-scan : (t new : Tables) (f last : Frame) (said : Said) → new ≡ t → IsSameFrame f last
    → Knows t (Some f) said → Knows new (Some last) (record said { scanned = true })
knows-scan t new f last said e same k = record {
  steps = ap (λ (u : Tables). steps_of u) e ∙ k.steps;
  codes = ap (λ (u : Tables). codes_of u) e ∙ k.codes;
  interval = ap (λ (u : Tables). u.interval) e ∙ k.interval;
  baseline = ap (λ (p : Process). Some (is_baseline_process p)) same.process ∙ k.baseline;
}

-- What is known of a stream, segment by segment.
use Rattle.std.proofs.Common.{◌≡◌, ℕ, ◌+◌, ◌-◌, ◌⊎◌, inl, inr, ⊎_elim, Bool, true, false, List, [], ◌++◌}
use Rattle.std.proofs.Common.{Option, Some, option_map, refl, sym, ap, ◌∙◌, subst, arith}
use Rattle.std.specs.List.{AllByRecursion}
use Rattle.std.proofs.lemmas.Bool.{false≢true}
use Rattle.std.proofs.lemmas.List.{length-map}
use Rattle.std.proofs.lemmas.Option.{none-some}
use Rattle.jpeg_bits.specs.Written.{marker}
use Rattle.jpeg_segments.specs.Frame.{Frame as WrittenFrame}
use Rattle.jpeg_segments.specs.ScanHeaders.{scan_payload}
use Rattle.jpeg_segments.specs.WrittenSegments.{Header, frame_payload, with_length}
use Rattle.jpeg_segments.proofs.Codecs.{AreBytes}
use Rattle.jpeg_meaning.specs.AcceptedFrames.{HasSamples}
use Rattle.jpeg_meaning.specs.Found.{Said, nothing_said}
use Rattle.jpeg_meaning.specs.SaidSegments.{said_after}
use Rattle.zaxbriar_strict.specs.Exact.{HasOtherAdobe, HasProgressivePicture, HasSequentialPicture, IsExact, WritesSegments}
use Rattle.zaxbriar_strict.specs.Exact.WritesSegments.{more, none}
use Rattle.zaxbriar_strict.specs.Heads.{has_scans, header_of, is_baseline_of, members_of, number_of, scan_header_of}
use Rattle.zaxbriar_strict.specs.Heads.{sent_with, written_frame}
use Rattle.zaxbriar_strict.specs.Markers.{BeginsMarker}
use Rattle.zaxbriar_strict.specs.Walks.{Finishes, IsFresh, IsOther, WalksFrame, WalksOther, WalksScan, WalksSegment}
use Rattle.zaxbriar_strict.specs.Walks.WalksSegment.{of_frame, of_other, of_scan}
use Rattle.zaxbriar_strict.specs.declared.frame.Component.{Component}
use Rattle.zaxbriar_strict.specs.declared.frame.Frame.{Frame}
use Rattle.zaxbriar_strict.specs.declared.walk.Walk.{Walk}
use Rattle.zaxbriar_strict.proofs.Applications.{IsOtherAdobe}
use Rattle.zaxbriar_strict.proofs.DecidedFrames.{equal, picture-or-not, progressive-or-not, samples-or-not}
use Rattle.zaxbriar_strict.proofs.ImageParts.{ImagePart, later-tables, part-closed, part-front, part-headed, part-scan}
use Rattle.zaxbriar_strict.proofs.ImageParts.{part-segment}
use Rattle.zaxbriar_strict.proofs.ProgressParts.{progress-headed}
use Rattle.zaxbriar_strict.proofs.ProgressWalks.{progressed-end, progressed-other, progressed-scan}
use Rattle.zaxbriar_strict.proofs.SameFrames.{same-then, same-written}
use Rattle.zaxbriar_strict.proofs.SampleParts.{SamplesPart, samples-closed, samples-front, samples-headed, samples-scan}
use Rattle.zaxbriar_strict.proofs.SampleParts.{samples-segment, shifted-scan}
use Rattle.zaxbriar_strict.proofs.SentComponents.{sent-all, unsent-all}
use Rattle.zaxbriar_strict.proofs.WalkedBytes.{other-adobe, payload-bytes, segments-front}
use Rattle.zaxbriar_strict.proofs.WalkedFrames.{IsPictureFrame, IsSampledFrame, after-header, headed, knows-header}
use Rattle.zaxbriar_strict.proofs.WalkedFrames.{knows-scan, picture-same, sampled-same}
use Rattle.zaxbriar_strict.proofs.WalkedSegments.{Follows, IsLater, Knows, after-other, frame-after, known-after}
use Rattle.zaxbriar_strict.proofs.WalkedSegments.{knows-unscanned, lossless-segment, segment-bytes}
use Rattle.zaxbriar_strict.proofs.WalkStates.{IsBefore, IsBegun, IsSampled, Walked, same-frame, sent-count, some-component}
use Rattle.zaxbriar_strict.proofs.WalkStates.Progress.{comes_on}
use Rattle.zaxbriar_strict.proofs.WalkStates.Walked.{has_later, has_none, has_shifted, is_before, is_begun, is_progressed}
use Rattle.zaxbriar_strict.proofs.WalkStates.Walked.{is_sampled, with_adobe}

-- ---- a segment of tables, or of an application

module _ (stream at middle rest payload : List ℕ) (code : ℕ) (old new : Walk) (all : AreBytes stream)
    (begins : BeginsMarker code at middle) (kind : IsOther code) (parts : middle ≡ with_length payload ++ rest)
    (o : WalksOther code payload old new) where
  bytes-are : (k : ℕ) → k ≡ code → at ≡ marker begins.fill k (with_length payload ++ rest)
  bytes-are k e = segment-bytes at middle rest payload code begins parts k payload e refl

  other-adobe-in : (before : ℕ) (after front : List ℕ) → stream ≡ marker before 216 after → after ≡ front ++ at
      → IsOtherAdobe (code - 224) payload → HasOtherAdobe stream
  other-adobe-in before after front starts fronted x =
      let numbered = x.numbered in
      other-adobe stream after at before front starts fronted begins.fill code payload rest x
      (bytes-are 238 (omega (arith, numbered)))

  turn : (before : ℕ) (after front : List ℕ) (said : Said) → stream ≡ marker before 216 after → after ≡ front ++ at
      → Knows old.tables old.frame said
      → Follows at rest new.tables old.frame said ⊎ (IsOtherAdobe (code - 224) payload ⊎ IsLater code said)
  turn before after front said starts fronted known =
      after-other at middle rest payload code said begins parts old new kind o known
      (payload-bytes stream after at before front starts fronted begins.fill code payload rest all
      (bytes-are code refl))

  still-known : (said : Said) → Knows new.tables old.frame said → Knows new.tables new.frame said
  still-known said k = subst (λ (f : Option Frame). Knows new.tables f said) (sym o.frame) k

  other-before : IsBefore stream at old → Walked stream rest new
  other-before b =
      let e = segments-front nothing_said b.after b.segments in
      elim (turn b.before b.after e.front b.said b.starts e.parts b.known) [
        | inl f ↦ is_before (record {
          before = b.before;
          after = b.after;
          said = said_after b.said f.s;
          starts = b.starts;
          segments = more b.said f.fill f.s rest
              (subst (λ (l : List ℕ). WritesSegments nothing_said b.after b.said l) f.parts b.segments) f.stands f.may;
          known = still-known (said_after b.said f.s) f.known;
          unframed = o.frame ∙ b.unframed;
          unsaid = f.framed ∙ b.unsaid;
          unscanned = f.scanned ∙ b.unscanned;
        })
        | inr (inl x) ↦ with_adobe (other-adobe-in b.before b.after e.front b.starts e.parts x)
        | inr (inr later) ↦ absurd (false≢true (sym b.unscanned ∙ later.1))
      ]

  other-begun : IsBegun stream at old → Walked stream rest new
  other-begun b =
      let e = part-front b.header.after at b.said (written_frame b.frame) (has_scans b.frame) b.part in
      elim (turn b.header.before b.header.after e.front b.said b.header.starts e.parts b.known) [
        | inl f ↦ is_begun (record {
          header = b.header;
          said = said_after b.said f.s;
          frame = b.frame;
          part = part-segment b.header.after at rest b.said (written_frame b.frame) (has_scans b.frame) f.fill f.s
              b.part (sent-count b.frame) f.parts f.stands f.may f.scanned f.tables;
          known = still-known (said_after b.said f.s) f.known;
          is = o.frame ∙ b.is;
          pictured = b.pictured;
          was_said = f.framed ∙ b.was_said;
          unprogressive = b.unprogressive;
          unsampled = b.unsampled;
        })
        | inr (inl x) ↦ with_adobe (other-adobe-in b.header.before b.header.after e.front b.header.starts e.parts x)
        | inr (inr later) ↦ has_later b.header
            (later-tables b.header.after at b.said (written_frame b.frame) (has_scans b.frame) b.part begins.fill
            payload rest (bytes-are 219 (sym later.0)) later.1) b.unprogressive b.unsampled
      ]

  other-sampled : IsSampled stream at old → Walked stream rest new
  other-sampled b =
      let e = samples-front b.header.after at b.said (has_scans b.frame) b.part in
      let said : Said = record b.said { scanned = false } in
      elim (turn b.header.before b.header.after e.front said b.header.starts e.parts
      (knows-unscanned old.tables old.frame b.said b.known)) [
        | inl f ↦ is_sampled (record {
          header = b.header;
          said = said_after b.said f.s;
          frame = b.frame;
          part = samples-segment b.header.after at rest b.said (has_scans b.frame) f.fill f.s b.part f.parts f.stands
              (lossless-segment b.said (written_frame b.frame) f.s b.was_said f.stands);
          known = still-known (said_after b.said f.s) (known-after new.tables old.frame b.said f.s f.known);
          is = o.frame ∙ b.is;
          sampled = b.sampled;
          was_said = frame-after b.said f.s ∙ f.framed ∙ b.was_said;
          unpictured = b.unpictured;
          unprogressive = b.unprogressive;
        })
        | inr (inl x) ↦ with_adobe (other-adobe-in b.header.before b.header.after e.front b.header.starts e.parts x)
        | inr (inr later) ↦ absurd (false≢true later.1)
      ]

  walked-other : Walked stream at old → Walked stream rest new
  walked-other (with_adobe x) = with_adobe x
  walked-other (has_none h n p m) = has_none h n p m
  walked-other (has_later h x p m) = has_later h x p m
  walked-other (has_shifted h x n p) = has_shifted h x n p
  walked-other (is_before b) = other-before b
  walked-other (is_begun b) = other-begun b
  walked-other (is_progressed b) =
      is_progressed (progressed-other stream at middle rest payload code old new all begins kind parts o b)
  walked-other (is_sampled b) = other-sampled b

-- ---- a frame header

module _ (stream at middle rest payload : List ℕ) (code : ℕ) (old new : Walk)
    (begins : BeginsMarker code at middle) (parts : middle ≡ with_length payload ++ rest)
    (t : WalksFrame code payload old new) where
  framed : IsBefore stream at old → Walked stream rest new
  framed b =
      let f = t.frame in
      let h = headed b.after at middle rest payload code b.said b.segments begins parts f t.read stream b.before
      b.starts in
      let said = said_after b.said (Header (number_of f.process) (header_of f)) in
      let number = number_of f.process in
      let known = subst (λ (o : Option Frame). Knows new.tables o said) (sym t.is)
      (knows-header b.after at middle rest payload code b.said b.segments begins parts f t.read old.tables
      new.tables t.tables (subst (λ (o : Option Frame). Knows old.tables o b.said) t.first b.known)) in
      let unsent = unsent-all f.components.items t.read.unsent in
      let header = after-header b.after at middle rest payload code b.said b.segments begins parts f t.read b.unsaid in
      ⊎_elim (λ (p : HasSequentialPicture number (header_of f)). is_begun (record {
        header = h;
        said = said;
        frame = f;
        part = part-headed b.after rest said (written_frame f) (has_scans f)
            (header (let low = p.sequential in omega (arith, low)) p.picture) (sent-count f) unsent;
        known = known;
        is = t.is;
        pictured = record { made = t.read.made; has = p };
        was_said = refl;
        unprogressive = λ q. (let few = p.sequential in let two = q.progressive in omega (arith, few, two));
        unsampled = λ q. (let few = p.sequential in let three = q.lossless in omega (arith, few, three));
      })) (λ (n : HasSequentialPicture number (header_of f) → ⊥).
      ⊎_elim (λ (p : HasProgressivePicture number (header_of f)).
      let segments = header (let two = p.progressive in omega (arith, two)) p.picture in
      is_progressed (record {
        header = h;
        frame = f;
        is = t.is;
        pictured = record { made = t.read.made; has = p };
        so_far = λ narrow. comes_on (record {
          said = said;
          ends = segments-front nothing_said b.after segments;
          part = progress-headed b.after rest said f segments t.read.unsent (sent-count f) unsent;
          known = known;
          was_said = refl;
        });
        unpictured = n;
        unsampled = λ q. (let two = p.progressive in let three = q.lossless in omega (arith, two, three));
      })) (λ (u : HasProgressivePicture number (header_of f) → ⊥).
      ⊎_elim (λ (q : HasSamples number (header_of f)). is_sampled (record {
        header = h;
        said = said;
        frame = f;
        part = samples-headed b.after at rest b.said (has_scans f) begins.fill number (header_of f)
            b.segments b.unsaid ((b.unsaid, t.read.made.legal), inr q) q.lossless
            (segment-bytes at middle rest payload code begins parts (192 + number)
            (frame_payload (header_of f)) (sym t.read.marked) (sym t.read.are)) unsent;
        known = known;
        is = t.is;
        sampled = record { made = t.read.made; has = q };
        was_said = refl;
        unpictured = n;
        unprogressive = u;
      })) (λ (m : HasSamples number (header_of f) → ⊥). has_none h n u m)
      (samples-or-not number (header_of f))) (progressive-or-not number (header_of f)))
      (picture-or-not number (header_of f))

  walked-frame : Walked stream at old → Walked stream rest new
  walked-frame (with_adobe x) = with_adobe x
  walked-frame (has_none h n p m) = has_none h n p m
  walked-frame (has_later h x p m) = has_later h x p m
  walked-frame (has_shifted h x n p) = has_shifted h x n p
  walked-frame (is_before b) = framed b
  walked-frame (is_begun b) = absurd (none-some b.frame (sym t.first ∙ b.is))
  walked-frame (is_progressed b) = absurd (none-some b.frame (sym t.first ∙ b.is))
  walked-frame (is_sampled b) = absurd (none-some b.frame (sym t.first ∙ b.is))

-- ---- a scan

module _ (stream at middle start rest payload : List ℕ) (old new : Walk)
    (begins : BeginsMarker 218 at middle) (parts : middle ≡ with_length payload ++ start)
    (t : WalksScan payload start rest old new) where
  scanned : IsBegun stream at old → Walked stream rest new
  scanned b =
      let same = same-frame old.frame t.frame b.frame t.was b.is in
      let f = t.frame in
      let pictured = subst (λ (g : Frame). IsPictureFrame g) (sym same) b.pictured in
      let few = pictured.has.sequential in
      let r = t.read pictured.made in
      let head = r.headed in
      let final : Said = record b.said { scanned = true } in
      let last_same = same-then head.same r.same in
      let bytes : at ≡ marker begins.fill 218 (with_length (scan_payload (scan_header_of f r.scan)) ++ start) =
      begins.parts ∙ ap (λ (l : List ℕ). marker begins.fill 218 l)
      (parts ∙ ap (λ (l : List ℕ). with_length l ++ start) head.are) in
      let was : b.said.frame ≡ Some (written_frame f) =
      b.was_said ∙ ap (λ (g : Frame). Some (written_frame g)) (sym same) in
      let known = b.known in
      let p =
      part-scan b.header.after at start rest payload begins.fill old.tables f r.between r.scan b.said pictured.made few
      pictured.has.picture.precise r.sized head t.last r.read known.steps known.codes known.interval was bytes
      (subst (λ (g : Frame). ImagePart b.header.after at b.said (written_frame g) (has_scans g)) (sym same) b.part) in
      is_begun (record {
        header = b.header;
        said = final;
        frame = t.last;
        part = subst (λ (sent : List Bool). ImagePart b.header.after rest final (written_frame t.last) sent)
            (sym (r.sent ∙ head.sent))
            (subst (λ (w : WrittenFrame). ImagePart b.header.after rest final w
            (sent_with (members_of r.scan) (has_scans f))) (sym (same-written last_same)) p);
        known = subst (λ (o : Option Frame). Knows new.tables o final) (sym t.is)
            (knows-scan old.tables new.tables f t.last b.said t.tables last_same
            (subst (λ (o : Option Frame). Knows old.tables o b.said) t.was known));
        is = t.is;
        pictured = picture-same r.same (picture-same head.same pictured);
        was_said = was ∙ ap (λ (w : WrittenFrame). Some w) (sym (same-written last_same));
        unprogressive = b.unprogressive;
        unsampled = b.unsampled;
      })

  scanned-samples : IsSampled stream at old → Walked stream rest new
  scanned-samples b =
      let same = same-frame old.frame t.frame b.frame t.was b.is in
      let f = t.frame in
      let sampled = subst (λ (g : Frame). IsSampledFrame g) (sym same) b.sampled in
      let r = t.read sampled.made in
      let head = r.headed in
      let final : Said = record b.said { scanned = true } in
      let last_same = same-then head.same r.same in
      let bytes : at ≡ marker begins.fill 218 (with_length (scan_payload (scan_header_of f r.scan)) ++ start) =
      begins.parts ∙ ap (λ (l : List ℕ). marker begins.fill 218 l)
      (parts ∙ ap (λ (l : List ℕ). with_length l ++ start) head.are) in
      let was : b.said.frame ≡ Some (written_frame f) =
      b.was_said ∙ ap (λ (g : Frame). Some (written_frame g)) (sym same) in
      let known = b.known in
      let part = subst (λ (g : Frame). SamplesPart b.header.after at b.said (has_scans g)) (sym same) b.part in
      elim (equal r.scan.low 0) [
        | inl point ↦
            let p = samples-scan b.header.after at start rest payload begins.fill old.tables f r.between r.scan b.said
            sampled.made sampled.has.lossless r.sized head r.samples known.codes known.interval was bytes part point in
            is_sampled (record {
              header = b.header;
              said = final;
              frame = t.last;
              part = subst (λ (sent : List Bool). SamplesPart b.header.after rest final sent)
                  (sym (r.sent ∙ head.sent)) p;
              known = subst (λ (o : Option Frame). Knows new.tables o final) (sym t.is)
                  (knows-scan old.tables new.tables f t.last b.said t.tables last_same
                  (subst (λ (o : Option Frame). Knows old.tables o b.said) t.was known));
              is = t.is;
              sampled = sampled-same r.same (sampled-same head.same sampled);
              was_said = was ∙ ap (λ (w : WrittenFrame). Some w) (sym (same-written last_same));
              unpictured = b.unpictured;
              unprogressive = b.unprogressive;
            })
        | inr ne ↦ has_shifted b.header
            (shifted-scan b.header.after at start rest payload begins.fill old.tables f r.between r.scan b.said
            sampled.made sampled.has.lossless r.sized head r.samples known.codes known.interval was bytes part
            (omega (arith, ne))) b.unpictured b.unprogressive
      ]

  walked-scan : Walked stream at old → Walked stream rest new
  walked-scan (with_adobe x) = with_adobe x
  walked-scan (has_none h n p m) = has_none h n p m
  walked-scan (has_later h x p m) = has_later h x p m
  walked-scan (has_shifted h x n p) = has_shifted h x n p
  walked-scan (is_before b) = absurd (none-some t.frame (sym b.unframed ∙ t.was))
  walked-scan (is_begun b) = scanned b
  walked-scan (is_progressed b) =
      is_progressed (progressed-scan stream at middle start rest payload old new begins parts t b)
  walked-scan (is_sampled b) = scanned-samples b

-- ---- from the start to the end

pub walked-start : (stream first after : List ℕ) (code : ℕ) (w : Walk) → IsFresh w → BeginsMarker code first after
    → code ≡ 216 → first ≡ stream → Walked stream after w
unfolding nothing_said
walked-start stream first after code w fresh begins soi e = is_before (record {
  before = begins.fill;
  after = after;
  said = nothing_said;
  starts = sym e ∙ begins.parts ∙ ap (λ (k : ℕ). marker begins.fill k after) soi;
  segments = none;
  known = record {
    steps = fresh.steps;
    codes = fresh.codes;
    interval = fresh.interval;
    baseline = ap (λ (f : Option Frame). option_map is_baseline_of f) fresh.frame;
  };
  unframed = fresh.frame;
  unsaid = refl;
  unscanned = refl;
})

pub walked-more : (stream at middle rest : List ℕ) (code : ℕ) (old new : Walk) → AreBytes stream
    → BeginsMarker code at middle → WalksSegment code middle rest old new → Walked stream at old
    → Walked stream rest new
walked-more stream at middle rest code old new all begins (of_other payload kind parts t) w =
    walked-other stream at middle rest payload code old new all begins kind parts t w
walked-more stream at middle rest code old new all begins (of_frame payload parts t) w =
    walked-frame stream at middle rest payload code old new begins parts t w
walked-more stream at middle rest code old new all begins (of_scan payload start coded parts t) w =
    walked-scan stream at middle start rest payload old new
    (subst (λ (k : ℕ). BeginsMarker k at middle) coded begins) parts t w

walked-whole : (stream at : List ℕ) (w : Walk) → BeginsMarker 217 at [] → Finishes w → Walked stream at w
    → IsExact stream
walked-whole stream at w begins f (with_adobe x) = inr x
walked-whole stream at w begins f (has_none h n p m) =
    inl (record {
      headed = h;
      written = λ s. absurd (n s);
      progressive = λ s. absurd (p s);
      samples = λ q. absurd (m q);
    })
walked-whole stream at w begins f (has_later h x p m) =
    inl (record {
      headed = h;
      written = λ s. inr x;
      progressive = λ s. absurd (p s);
      samples = λ q. absurd (m q);
    })
walked-whole stream at w begins f (has_shifted h x n p) =
    inl (record {
      headed = h;
      written = λ s. absurd (n s);
      progressive = λ s. absurd (p s);
      samples = λ q. inr x;
    })
walked-whole stream at w begins f (is_progressed b) = progressed-end stream at w begins f b
walked-whole stream at w begins f (is_sampled b) =
    let same = same-frame w.frame f.frame b.frame f.is b.is in
    let all = sent-all b.frame.components.items
    (subst (λ (g : Frame). AllByRecursion (λ (c : Component). c.has_scan ≡ true) g.components.items) same f.sent) in
    inl (record {
      headed = b.header;
      written = λ p. absurd (b.unpictured p);
      progressive = λ p. absurd (b.unprogressive p);
      samples = λ q. inl (samples-closed b.header.after at b.said (written_frame b.frame) (has_scans b.frame) begins.fill
          b.part (sent-count b.frame) all b.was_said begins.parts);
    })
walked-whole stream at w begins f (is_before b) = absurd (none-some f.frame (sym b.unframed ∙ f.is))
walked-whole stream at w begins f (is_begun b) =
    let same = same-frame w.frame f.frame b.frame f.is b.is in
    let all = sent-all b.frame.components.items
    (subst (λ (g : Frame). AllByRecursion (λ (c : Component). c.has_scan ≡ true) g.components.items) same f.sent) in
    let count = length-map b.frame.components.items (λ (c : Component). c.has_scan) in
    let some = some-component b.frame b.pictured in
    inl (record {
      headed = b.header;
      written = λ p. inl (part-closed b.header.after at b.said (written_frame b.frame) (has_scans b.frame) begins.fill
          b.part (sent-count b.frame) (omega (arith, count, some)) all b.was_said begins.parts);
      progressive = λ p. absurd (b.unprogressive p);
      samples = λ q. absurd (b.unsampled q);
    })

pub walked-end : (stream at rest : List ℕ) (code : ℕ) (w : Walk) → BeginsMarker code at rest → code ≡ 217
    → rest ≡ [] → Finishes w → Walked stream at w → IsExact stream
walked-end stream at rest code w begins eoi e f walked =
    walked-whole stream at w
    (subst (λ (l : List ℕ). BeginsMarker 217 at l) e (subst (λ (k : ℕ). BeginsMarker k at rest) eoi begins)) f walked

-- What is known of a stream with a progressive frame, segment by segment.
use Rattle.std.proofs.Common.{◌≡◌, ℕ, ◌+◌, ◌≤◌, ◌⊎◌, inl, inr, Bool, true, false, List, [], ◌∷◌, ◌++◌, length}
use Rattle.std.proofs.Common.{Option, Some, refl, sym, ap, ◌∙◌, subst, arith}
use Rattle.std.specs.List.{AllByRecursion, range_with_len}
use Rattle.std.proofs.lemmas.List.{length-map}
use Rattle.jpeg_bits.specs.Written.{marker}
use Rattle.jpeg_segments.specs.Frame.{Frame as WrittenFrame}
use Rattle.jpeg_segments.specs.ScanHeaders.{scan_payload}
use Rattle.jpeg_segments.specs.WrittenSegments.{Quantization, marker_code, payload_of, with_length}
use Rattle.jpeg_segments.proofs.Codecs.{AreBytes}
use Rattle.jpeg_meaning.specs.Found.{Said}
use Rattle.jpeg_meaning.specs.SaidSegments.{said_after}
use Rattle.jpeg_meaning.specs.WrittenScans.{IsComplete}
use Rattle.zaxbriar_strict.specs.Changes.{kept_in}
use Rattle.zaxbriar_strict.specs.Exact.{HasDeepScan, HasHeader, HasLaterTables, IsExact, IsWhollyWritten}
use Rattle.zaxbriar_strict.specs.Heads.{factors_of, has_scans, is_progressive_process, lowest_of, members_of, scan_header_of, sent_with}
use Rattle.zaxbriar_strict.specs.Heads.{written_frame}
use Rattle.zaxbriar_strict.specs.Markers.{BeginsMarker}
use Rattle.zaxbriar_strict.specs.Walks.{Finishes, FinishesBlocks, IsOther, ReadsScan, WalksOther, WalksScan}
use Rattle.zaxbriar_strict.specs.declared.frame.Component.{Component}
use Rattle.zaxbriar_strict.specs.declared.frame.Frame.{Frame}
use Rattle.zaxbriar_strict.specs.declared.walk.Walk.{Walk}
use Rattle.zaxbriar_strict.proofs.DecidedFrames.{at-most}
use Rattle.zaxbriar_strict.proofs.FrameComponents.{written-count}
use Rattle.zaxbriar_strict.proofs.ProgressParts.{ProgressPart, blocks-in-range, complete-all, ends-more, narrow-all, narrow-before}
use Rattle.zaxbriar_strict.proofs.ProgressParts.{progress-closed, progress-later, progress-scan, progress-segment}
use Rattle.zaxbriar_strict.proofs.SameFrames.{same-then, same-written}
use Rattle.zaxbriar_strict.proofs.SentComponents.{sent-all}
use Rattle.zaxbriar_strict.proofs.WalkedBytes.{other-adobe, payload-bytes}
use Rattle.zaxbriar_strict.proofs.WalkedFrames.{IsProgressiveFrame, knows-scan, progressive-process, progressive-same}
use Rattle.zaxbriar_strict.proofs.WalkedSegments.{Knows, after-other, knows-steps, segment-bytes}
use Rattle.zaxbriar_strict.proofs.WalkStates.{ComesOn, IsProgressed, Progress, same-frame, sent-count}
use Rattle.zaxbriar_strict.proofs.WalkStates.Progress.{comes_on, is_adobe, is_deep}

-- ---- a segment of tables, or of an application

module _ (stream at middle rest payload : List ℕ) (code : ℕ) (old new : Walk) (all : AreBytes stream)
    (begins : BeginsMarker code at middle) (kind : IsOther code) (parts : middle ≡ with_length payload ++ rest)
    (o : WalksOther code payload old new) (h : HasHeader stream) (frame : Frame) where
  bytes-are : (k : ℕ) → k ≡ code → at ≡ marker begins.fill k (with_length payload ++ rest)
  bytes-are k e = segment-bytes at middle rest payload code begins parts k payload e refl

  still : (said : Said) → Knows new.tables old.frame said → Knows new.tables new.frame said
  still said k = subst (λ (f : Option Frame). Knows new.tables f said) (sym o.frame) k

  goes-on : ComesOn stream at h old frame → Progress stream rest h new frame
  goes-on c =
      let said = c.said in
      let front = c.ends.front in
      let part = c.part in
      let sized = sent-count frame in
      let w = written_frame frame in
      let sent = has_scans frame in
      let lowest = lowest_of frame in
      let kept = kept_in frame.components.items in
      elim (after-other at middle rest payload code said begins parts old new kind o c.known
      (payload-bytes stream h.after at h.before front h.starts c.ends.parts begins.fill code payload rest all
      (bytes-are code refl))) [
        | inl f ↦ comes_on (record {
          said = said_after said f.s;
          ends = ends-more h.after at rest c.ends f.fill (marker_code f.s) (with_length (payload_of f.s)) [] f.parts;
          part = progress-segment h.after at rest said w sent lowest kept part f.fill f.s sized f.parts f.stands f.may
              f.scanned f.tables;
          known = still (said_after said f.s) f.known;
          was_said = f.framed ∙ c.was_said;
        })
        | inr (inl x) ↦
            let numbered = x.numbered in
            is_adobe (other-adobe stream h.after at h.before front h.starts c.ends.parts begins.fill code payload rest x
            (bytes-are 238 (omega (arith, numbered))))
        | inr (inr later) ↦
            let i = o.steps later.0 in
            let next = said_after said (Quantization i.tables) in
            let is = bytes-are 219 (sym later.0) in
            comes_on (record {
              said = next;
              ends = ends-more h.after at rest c.ends begins.fill 219 (with_length payload) [] is;
              part = progress-later h.after at rest said w sent lowest kept part begins.fill payload next is later.1
                  later.1;
              known = still next (knows-steps old.tables new.tables old.frame said payload i c.known);
              was_said = c.was_said;
            })
      ]

  onward : Progress stream at h old frame → Progress stream rest h new frame
  onward (comes_on c) = goes-on c
  onward (is_adobe x) = is_adobe x
  onward (is_deep x) = is_deep x

pub progressed-other : (stream at middle rest payload : List ℕ) (code : ℕ) (old new : Walk) → AreBytes stream
    → BeginsMarker code at middle → IsOther code → middle ≡ with_length payload ++ rest
    → WalksOther code payload old new → IsProgressed stream at old → IsProgressed stream rest new
progressed-other stream at middle rest payload code old new all begins kind parts o b = record {
  header = b.header;
  frame = b.frame;
  is = o.frame ∙ b.is;
  pictured = b.pictured;
  so_far = λ n.
      onward stream at middle rest payload code old new all begins kind parts o b.header b.frame (b.so_far n);
  unpictured = b.unpictured;
  unsampled = b.unsampled;
}

-- ---- a scan

module _ (stream at middle start rest payload : List ℕ) (old new : Walk)
    (begins : BeginsMarker 218 at middle) (parts : middle ≡ with_length payload ++ start)
    (t : WalksScan payload start rest old new) (h : HasHeader stream) (pictured : IsProgressiveFrame t.frame) where
  progressive : is_progressive_process t.frame.process ≡ true
  progressive = progressive-process t.frame pictured

  read : ReadsScan payload start rest old.tables t.frame t.last
  read = t.read pictured.made

  bytes : at ≡ marker begins.fill 218 (with_length (scan_payload (scan_header_of t.frame read.scan)) ++ start)
  bytes = begins.parts ∙ ap (λ (l : List ℕ). marker begins.fill 218 l)
      (parts ∙ ap (λ (l : List ℕ). with_length l ++ start) read.headed.are)

  scan-on : (kept_in t.last.components.items).is_wide ≡ false → read.scan.low ≤ 7
      → ComesOn stream at h old t.frame → ComesOn stream rest h new t.last
  scan-on narrow low c =
      let f = t.frame in
      let r = read in
      let head = r.headed in
      let known = c.known in
      let final : Said = record c.said { scanned = true } in
      let last_same = same-then head.same r.same in
      let w = sym (same-written last_same) in
      let x = progress-scan start rest payload old.tables f r.between r.scan pictured.made progressive
      pictured.has.picture.precise r.sized head t.last r.read h.after at begins.fill c.said known.steps known.codes
      known.interval c.was_said r.lowest bytes low narrow c.ends c.part in
      record {
        said = final;
        ends = x.ends;
        part = subst (λ (sent : List Bool). ProgressPart h.after rest final (written_frame t.last) sent
            (lowest_of t.last) (kept_in t.last.components.items)) (sym (r.sent ∙ head.sent))
            (subst (λ (g : WrittenFrame). ProgressPart h.after rest final g
            (sent_with (members_of r.scan) (has_scans f)) (lowest_of t.last) (kept_in t.last.components.items)) w
            x.part);
        known = subst (λ (o : Option Frame). Knows new.tables o final) (sym t.is)
            (knows-scan old.tables new.tables f t.last c.said t.tables last_same
            (subst (λ (o : Option Frame). Knows old.tables o c.said) t.was known));
        was_said = c.was_said ∙ ap (λ (g : WrittenFrame). Some g) w;
      }

  scans-on : (kept_in t.last.components.items).is_wide ≡ false → Progress stream at h old t.frame
      → Progress stream rest h new t.last
  scans-on narrow (is_adobe x) = is_adobe x
  scans-on narrow (is_deep x) = is_deep x
  scans-on narrow (comes_on c) = elim (at-most read.scan.low 7) [
    | inl low ↦ comes_on (scan-on narrow low c)
    | inr high ↦ is_deep (record {
      front = c.ends.front;
      fill = begins.fill;
      header = scan_header_of t.frame read.scan;
      rest = start;
      are = c.ends.parts ∙ ap (λ (l : List ℕ). c.ends.front ++ l) bytes;
      deep = omega (arith, high);
    })
  ]

  scans-so-far : ((kept_in t.frame.components.items).is_wide ≡ false → Progress stream at h old t.frame)
      → (kept_in t.last.components.items).is_wide ≡ false → Progress stream rest h new t.last
  scans-so-far so_far narrow =
      scans-on narrow (so_far (narrow-before start rest payload old.tables t.frame read.between read.scan pictured.made
      progressive pictured.has.picture.precise read.sized read.headed t.last read.read narrow))

pub progressed-scan : (stream at middle start rest payload : List ℕ) (old new : Walk) → BeginsMarker 218 at middle
    → middle ≡ with_length payload ++ start → WalksScan payload start rest old new → IsProgressed stream at old
    → IsProgressed stream rest new
progressed-scan stream at middle start rest payload old new begins parts t b =
    let same = sym (same-frame old.frame t.frame b.frame t.was b.is) in
    let pictured = subst (λ (g : Frame). IsProgressiveFrame g) same b.pictured in
    let r = t.read pictured.made in
    record {
      header = b.header;
      frame = t.last;
      is = t.is;
      pictured = progressive-same r.same (progressive-same r.headed.same pictured);
      so_far = scans-so-far stream at middle start rest payload old new begins parts t b.header pictured
          (subst (λ (g : Frame). (kept_in g.components.items).is_wide ≡ false → Progress stream at b.header old g) same
          b.so_far);
      unpictured = b.unpictured;
      unsampled = b.unsampled;
    }

-- ---- the end

wholly : (after : List ℕ) → IsWhollyWritten (255 ∷ 216 ∷ after) ⊎ HasLaterTables after
    → IsWhollyWritten (255 ∷ 216 ∷ after) ⊎ (HasLaterTables after ⊎ HasDeepScan after)
wholly after (inl image) = inl image
wholly after (inr later) = inr (inl later)

module _ (stream at : List ℕ) (w : Walk) (begins : BeginsMarker 217 at []) (b : IsProgressed stream at w)
    (sent : AllByRecursion (λ (c : Component). c.has_scan ≡ true) b.frame.components.items)
    (blocks : FinishesBlocks b.frame) where
  closes : Progress stream at b.header w b.frame → IsExact stream
  closes (is_adobe x) = inr x
  closes (is_deep x) = inl (record {
    headed = b.header;
    written = λ p. absurd (b.unpictured p);
    progressive = λ p. inr (inr x);
    samples = λ q. absurd (b.unsampled q);
  })
  closes (comes_on c) =
      let f = b.frame in
      let items = f.components.items in
      let frame = written_frame f in
      let part = c.part in
      let count = length-map items (λ (c : Component). c.has_scan) in
      let factors = length-map items factors_of in
      let counted = b.pictured.has.picture.counted in
      let some : 1 ≤ length items = omega (arith, factors, counted) in
      let complete : AllByRecursion (λ k. IsComplete (part.levels k)) (range_with_len 0 (length frame.components)) =
      subst (λ (n : ℕ). AllByRecursion (λ k. IsComplete (part.levels k)) (range_with_len 0 n)) (sym (written-count f))
      (complete-all items part.levels 0
      (λ k l here.
      let e : 0 + k ≡ k = omega arith in
      ap (λ (j : ℕ). part.levels j) e ∙ part.leveled k l here) part.sized blocks.whole) in
      inl (record {
        headed = b.header;
        written = λ p. absurd (b.unpictured p);
        progressive = λ p. wholly b.header.after (progress-closed b.header.after at c.said frame (has_scans f)
            (lowest_of f) (kept_in items) begins.fill part (omega (arith, count, some)) (sent-all items sent) c.was_said
            begins.parts (blocks-in-range items (blocks.in_range b.pictured.has.picture.precise)) complete);
        samples = λ q. absurd (b.unsampled q);
      })

pub progressed-end : (stream at : List ℕ) (w : Walk) → BeginsMarker 217 at [] → Finishes w → IsProgressed stream at w
    → IsExact stream
progressed-end stream at w begins f b =
    let same = same-frame w.frame f.frame b.frame f.is b.is in
    let sent = subst (λ (g : Frame). AllByRecursion (λ (c : Component). c.has_scan ≡ true) g.components.items) same
    f.sent in
    let blocks = subst (λ (g : Frame). is_progressive_process g.process ≡ true → FinishesBlocks g) same f.blocks
    (progressive-process b.frame b.pictured) in
    closes stream at w begins b sent blocks (b.so_far (narrow-all b.frame.components.items blocks.inner))

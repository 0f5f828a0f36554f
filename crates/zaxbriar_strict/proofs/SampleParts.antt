-- The lossless image of a stream as far as it was read: segments and scans that a writer emits for the
-- samples of the components that have scans, whatever those of the others are.
use Rattle.std.proofs.Common.{◌≡◌, ◌≢◌, ℕ, zero, suc, ◌+◌, ◌*◌, ◌<◌, ◌≤◌, ◌==◌, ◌||◌, ◌⊎◌, inl, inr, Bool, true, false, List, []}
use Rattle.std.proofs.Common.{◌∷◌, ◌++◌, length, Option, Some, None, get_or, map, set, refl, sym, ap, ◌∙◌, subst, arith}
use Rattle.std.proofs.Common.{append_assoc}
use Rattle.std.specs.List.{AllByRecursion, range_with_len}
use Rattle.std.specs.Prelude.{zip}
use Rattle.std.proofs.lemmas.Bool.{eq-eqb, false≢true, ne_eqb}
use Rattle.std.proofs.lemmas.List.{length-map}
use Rattle.std.proofs.lemmas.List.Folds.{list_any-append}
use Rattle.std.proofs.lemmas.Option.{none-some}
use Rattle.jpeg_bits.specs.Codes.{Table}
use Rattle.jpeg_bits.specs.DefaultTables.{names}
use Rattle.jpeg_bits.specs.Intervals.{first_group, other_groups}
use Rattle.jpeg_bits.specs.Written.{WritesIntervals, marker}
use Rattle.jpeg_segments.specs.Frame.{Factors, Frame as WrittenFrame}
use Rattle.jpeg_segments.specs.HuffmanTables.{Tables as CodeTables}
use Rattle.jpeg_segments.specs.ScanHeader.{Selector, predictor_by, scan_of}
use Rattle.jpeg_segments.specs.ScanHeaders.{AreChoices, IsScan, ScanHeader, scan_payload, scan_written, selectors_in}
use Rattle.jpeg_segments.specs.WrittenSegments.{FrameHeader, Header, Segment, frame_payload, marker_code, payload_of}
use Rattle.jpeg_segments.specs.WrittenSegments.{with_length}
use Rattle.jpeg_lossless.specs.Differences.{Part}
use Rattle.jpeg_lossless.specs.Scans.{Way, is_of_rows, lines_by_component, rows_of_interval}
use Rattle.jpeg_lossless.specs.Written.{WritesRows}
use Rattle.jpeg_meaning.specs.Found.{Said, nothing_said}
use Rattle.jpeg_meaning.specs.LosslessScans.{LosslessCoding, mcus_across, mcus_down, parts_of, way_of}
use Rattle.jpeg_meaning.specs.SaidSegments.{Stands, said_after}
use Rattle.jpeg_meaning.specs.WrittenLossless.{AreSampleCodings, ClosesSamples, HoldSamples, IsLossless, Samples}
use Rattle.jpeg_meaning.specs.WrittenLossless.{SendsSamples, WritesSamplesScan, own_lines}
use Rattle.jpeg_meaning.specs.WrittenStreams.{Writes}
use Rattle.jpeg_meaning.specs.WrittenStreams.Writes.{end, scan, segment}
use Rattle.jpeg_meaning.proofs.Encoded.EncodedParts.{in-range}
use Rattle.jpeg_meaning.proofs.Order.Apart.{all-from}
use Rattle.zaxbriar_strict.specs.Exact.{HasShiftedScan, IsUpToSamples, IsWrittenForSamples, WritesSamplesPart}
use Rattle.zaxbriar_strict.specs.Exact.{WritesSegments}
use Rattle.zaxbriar_strict.specs.Exact.WritesSegments.{more, none}
use Rattle.zaxbriar_strict.specs.Heads.{IsLosslessFrame, IsMade, IsSentOnce, ReadsHeader, choice_of, has_scans, header_of}
use Rattle.zaxbriar_strict.specs.Heads.{members_of, number_of, scan_header_of, sent_with, written_frame}
use Rattle.zaxbriar_strict.specs.Installed.{codes_of}
use Rattle.zaxbriar_strict.specs.ScanSamples.{ReadsIfLossless, ReadsSamples, sample_slot}
use Rattle.zaxbriar_strict.specs.declared.frame.Frame.{Frame}
use Rattle.zaxbriar_strict.specs.declared.scan.Member.{Member}
use Rattle.zaxbriar_strict.specs.declared.scan.Scan.{Scan}
use Rattle.zaxbriar_strict.specs.declared.tables.Tables.{Tables}
use Rattle.zaxbriar_strict.proofs.SameFrames.{same-made, same-written}
use Rattle.zaxbriar_strict.proofs.SentComponents.{sent-member, still-sent, unsent-member}
use Rattle.zaxbriar_strict.proofs.SequentialHeaders.{has-members, same-members}
use Rattle.zaxbriar_strict.proofs.WalkedBytes.{EndsWith, after-marker}

-- ---- what is written, in parts

-- What is written of samples, up to some end.
abbrev WritesOn : Samples → (Said → List ℕ → List ℕ → Type 0) → Said → List ℕ → List ℕ → Said → List ℕ → Type 0
WritesOn samples ends = Writes (λ said s. IsLossless s) (SendsSamples samples) ends

-- What is written up to some bytes goes on with what they are.
onward : (samples : Samples) (ends : Said → List ℕ → List ℕ → Type 0) (at : List ℕ) (start now final : Said)
    (sent had last : List ℕ) (bytes : List ℕ) → WritesOn samples (IsUpToSamples at) start sent bytes now had
    → WritesOn samples ends now had at final last → WritesOn samples ends start sent bytes final last
onward samples ends at start now final sent had last bytes (end said' sent' bytes' e) w =
    subst (λ (l : List ℕ). WritesOn samples ends start sent l final last) (sym e) w
onward samples ends at start now final sent had last bytes
    (segment said' now' sent' had' fill s others stands may x) w =
    segment start final sent last fill s others stands may
    (onward samples ends at (said_after start s) now final sent had last others x w)
onward samples ends at start now final sent had last bytes
    (scan said' now' sent' next had' frame fill h data_bytes others framed is sends x) w =
    scan start final sent next last frame fill h data_bytes others framed is sends
    (onward samples ends at (record start { scanned = true }) now final next had last others x w)

writes-front : (samples : Samples) (at : List ℕ) (start now : Said) (sent had bytes : List ℕ)
    → WritesOn samples (IsUpToSamples at) start sent bytes now had → EndsWith bytes at
writes-front samples at start now sent had bytes (end said' sent' bytes' e) = record { front = []; parts = e }
writes-front samples at start now sent had bytes (segment said' now' sent' had' fill s others stands may x) =
    let f = writes-front samples at (said_after start s) now sent had others x in
    let own = with_length (payload_of s) in
    let code = marker_code s in
    record {
      front = marker fill code (own ++ f.front);
      parts = ap (λ (l : List ℕ). marker fill code (own ++ l)) f.parts
          ∙ ap (λ (l : List ℕ). marker fill code l) (sym (append_assoc own f.front at))
          ∙ after-marker fill code (own ++ f.front) at;
    }
writes-front samples at start now sent had bytes
    (scan said' now' sent' next had' frame fill h data_bytes others framed is sends x) =
    let f = writes-front samples at (record start { scanned = true }) now next had others x in
    let own = with_length (scan_payload h) in
    record {
      front = marker fill 218 (own ++ (data_bytes ++ f.front));
      parts = ap (λ (l : List ℕ). marker fill 218 (own ++ (data_bytes ++ l))) f.parts
          ∙ ap (λ (l : List ℕ). marker fill 218 (own ++ l)) (sym (append_assoc data_bytes f.front at))
          ∙ ap (λ (l : List ℕ). marker fill 218 l) (sym (append_assoc own (data_bytes ++ f.front) at))
          ∙ after-marker fill 218 (own ++ (data_bytes ++ f.front)) at;
    }

-- ---- segments before the header

no-header : (said : Said) (s : Segment) → (said_after said s).frame ≡ None → IsLossless s
no-header said (Header number h) e = absurd (none-some _ (sym e))
no-header said s e = tt

before-none : (said : Said) (s : Segment) → (said_after said s).frame ≡ None → said.frame ≡ None
before-none said (Header number h) e = absurd (none-some _ (sym e))
before-none said s e = e

segments-part : (samples : Samples) (after : List ℕ) {said : Said} {at : List ℕ}
    → WritesSegments nothing_said after said at → said.frame ≡ None → WritesSamplesPart samples at after said []
segments-part samples after none e = end nothing_said [] after refl
segments-part samples after (more said fill s rest front stands may) e =
    onward samples (IsUpToSamples rest) (marker fill (marker_code s) (with_length (payload_of s) ++ rest)) nothing_said
    said (said_after said s) [] [] [] after (segments-part samples after front (before-none said s e))
    (segment said (said_after said s) [] [] fill s rest stands (no-header said s e)
    (end (said_after said s) [] rest refl))

-- ---- the image so far

-- Samples are those of others, at the components that have scans.
abbrev pub Agrees : List Bool → Samples → Samples → Type 0
Agrees sent samples other = (index : ℕ) → get_or sent index true ≡ true → other index ≡ samples index

-- What was read of an image, from what follows SOI up to these bytes: `sent` tells which components
-- of the frame have scans.
pub record SamplesPart (after at : List ℕ) (said : Said) (sent : List Bool) : Type 0 where
  pub samples : Samples
  pub had : List ℕ
  pub named : (i : ℕ) → get_or sent i false ≡ true → names had i ≡ true
  pub written : (other : Samples) → Agrees sent samples other → WritesSamplesPart other at after said had

abbrev own-part : (after at : List ℕ) (said : Said) (sent : List Bool) (p : SamplesPart after at said sent)
    → WritesSamplesPart p.samples at after said p.had
own-part after at said sent p = p.written p.samples (λ index e. refl)

pub samples-front : (after at : List ℕ) (said : Said) (sent : List Bool) → SamplesPart after at said sent
    → EndsWith after at
samples-front after at said sent p =
    writes-front p.samples at nothing_said said [] p.had after (own-part after at said sent p)

none-named : (sent : List Bool) → ((i : ℕ) → i < length sent → get_or sent i true ≡ false) → (i : ℕ)
    → get_or sent i false ≡ true → ⊥
none-named [] unsent i e = false≢true e
none-named (b ∷ bs) unsent zero e = false≢true (sym (unsent 0 (omega arith)) ∙ e)
none-named (b ∷ bs) unsent (suc i) e = none-named bs (λ k lt. unsent (suc k) (omega (arith, lt))) i e

-- a header, and no scan yet
pub samples-headed : (after at rest : List ℕ) (said : Said) (sent : List Bool) (fill number : ℕ) (h : FrameHeader)
    → WritesSegments nothing_said after said at → said.frame ≡ None → Stands said (Header number h) → number ≡ 3
    → at ≡ marker fill (192 + number) (with_length (frame_payload h) ++ rest)
    → ((i : ℕ) → i < length sent → get_or sent i true ≡ false)
    → SamplesPart after rest (said_after said (Header number h)) sent
samples-headed after at rest said sent fill number h segments unsaid stands lossless parts unsent = record {
  samples = λ k. [];
  had = [];
  named = λ i e. absurd (none-named sent unsent i e);
  written = λ other agrees.
      onward other (IsUpToSamples rest) at nothing_said said (said_after said (Header number h)) [] [] [] after
      (segments-part other after segments unsaid)
      (subst (λ (l : List ℕ). WritesOn other (IsUpToSamples rest) said [] l (said_after said (Header number h)) [])
      (sym parts)
      (segment said (said_after said (Header number h)) [] [] fill (Header number h) rest stands lossless
      (end (said_after said (Header number h)) [] rest refl)));
}

-- one segment more
pub samples-segment : (after at rest : List ℕ) (said : Said) (sent : List Bool) (fill : ℕ) (s : Segment)
    → SamplesPart after at said sent → at ≡ marker fill (marker_code s) (with_length (payload_of s) ++ rest)
    → Stands said s → IsLossless s → SamplesPart after rest (said_after said s) sent
samples-segment after at rest said sent fill s p parts stands may = record {
  samples = p.samples;
  had = p.had;
  named = p.named;
  written = λ other agrees.
      onward other (IsUpToSamples rest) at nothing_said said (said_after said s) [] p.had p.had after
      (p.written other agrees)
      (subst (λ (l : List ℕ). WritesOn other (IsUpToSamples rest) said p.had l (said_after said s) p.had) (sym parts)
      (segment said (said_after said s) p.had p.had fill s rest stands may
      (end (said_after said s) p.had rest refl)));
}

-- ---- components that have scans

set-or : (sent : List Bool) (k i : ℕ) → get_or (set sent k true) i false ≡ true
    → (get_or sent i false ≡ true) ⊎ (k ≡ i)
set-or [] k i e = inl e
set-or (b ∷ bs) zero zero e = inr refl
set-or (b ∷ bs) zero (suc i) e = inl e
set-or (b ∷ bs) (suc k) zero e = inl e
set-or (b ∷ bs) (suc k) (suc i) e = go (set-or bs k i e)
  where
    go : (get_or bs i false ≡ true) ⊎ (k ≡ i) → (get_or bs i false ≡ true) ⊎ (suc k ≡ suc i)
    go (inl h) = inl h
    go (inr h) = inr (ap suc h)

or-true : (b : Bool) → (b || true) ≡ true
or-true true = refl
or-true false = refl

sent-or-member : (ms : List Member) (sent : List Bool) (i : ℕ) → get_or (sent_with ms sent) i false ≡ true
    → (get_or sent i false ≡ true) ⊎ (names (map (λ (m : Member). m.component) ms) i ≡ true)
unfolding sent_with
sent-or-member [] sent i e = inl e
sent-or-member (m ∷ ms) sent i e =
    go (sent-or-member ms (set sent m.component true) i e) (set-or sent m.component i)
  where
    go : (get_or (set sent m.component true) i false ≡ true) ⊎ (names (map (λ (m : Member). m.component) ms) i ≡ true)
        → (get_or (set sent m.component true) i false ≡ true → (get_or sent i false ≡ true) ⊎ (m.component ≡ i))
        → (get_or sent i false ≡ true) ⊎ (names (map (λ (m : Member). m.component) (m ∷ ms)) i ≡ true)
    go (inr h) f = inr (ap (λ (b : Bool). (m.component == i) || b) h ∙ or-true (m.component == i))
    go (inl h) f = next (f h)
      where
        next : (get_or sent i false ≡ true) ⊎ (m.component ≡ i)
            → (get_or sent i false ≡ true) ⊎ (names (map (λ (m : Member). m.component) (m ∷ ms)) i ≡ true)
        next (inl k) = inl k
        next (inr k) = inr (ap (λ (b : Bool). b || names (map (λ (m : Member). m.component) ms) i)
            (eq-eqb m.component i k))

named-more : (ms : List Member) (sent : List Bool) (had own : List ℕ) → own ≡ map (λ (m : Member). m.component) ms
    → ((i : ℕ) → get_or sent i false ≡ true → names had i ≡ true) → (i : ℕ)
    → get_or (sent_with ms sent) i false ≡ true → names (own ++ had) i ≡ true
named-more ms sent had own are named i e =
    list_any-append (λ (p : ℕ). p == i) own had ∙ go (sent-or-member ms sent i e)
  where
    go : (get_or sent i false ≡ true) ⊎ (names (map (λ (m : Member). m.component) ms) i ≡ true)
        → (names own i || names had i) ≡ true
    go (inl h) = ap (λ (b : Bool). names own i || b) (named i h) ∙ or-true (names own i)
    go (inr h) = ap (λ (b : Bool). b || names had i) (ap (λ (l : List ℕ). names l i) are ∙ h)

sent-within : (sent : List Bool) (i : ℕ) → i < length sent → get_or sent i true ≡ true → get_or sent i false ≡ true
sent-within [] i lt e = absurd (omega (arith, lt))
sent-within (b ∷ bs) zero lt e = e
sent-within (b ∷ bs) (suc i) lt e = sent-within bs i (omega (arith, lt)) e

-- ---- the samples of a scan

-- The samples of the component at an index, by its lines.
unfoldable held : List LosslessCoding → List Part → List (List (List ℕ)) → Samples
held (k ∷ codings) (p ∷ parts) (lines ∷ others) index =
    elim (k.index == index) as (λ _. List (List ℕ)) [ true ↦ own_lines p lines | false ↦ held codings parts others index ]
held _ _ _ index = []

unfoldable AreRising : ℕ → List LosslessCoding → Type 0
AreRising least [] = Unit {0}
AreRising least (k ∷ codings) = (least ≤ k.index) × AreRising (k.index + 1) codings

held-first : (k : LosslessCoding) (codings : List LosslessCoding) (p : Part) (parts : List Part)
    (lines : List (List ℕ)) (others : List (List (List ℕ)))
    → held (k ∷ codings) (p ∷ parts) (lines ∷ others) k.index ≡ own_lines p lines
unfolding held
held-first k codings p parts lines others =
    ap (λ (b : Bool). elim b as (λ _. List (List ℕ))
    [ true ↦ own_lines p lines | false ↦ held codings parts others k.index ]) (eq-eqb k.index k.index refl)

held-other : (k : LosslessCoding) (codings : List LosslessCoding) (p : Part) (parts : List Part)
    (lines : List (List ℕ)) (others : List (List (List ℕ))) (index : ℕ) → k.index ≢ index
    → held (k ∷ codings) (p ∷ parts) (lines ∷ others) index ≡ held codings parts others index
unfolding held
held-other k codings p parts lines others index ne =
    ap (λ (b : Bool). elim b as (λ _. List (List ℕ))
    [ true ↦ own_lines p lines | false ↦ held codings parts others index ]) (ne_eqb k.index index ne)

held-others : (k : LosslessCoding) (codings : List LosslessCoding) (p : Part) (parts : List Part)
    (lines : List (List ℕ)) (others : List (List (List ℕ))) (other : Samples) (least : ℕ) (ks : List LosslessCoding)
    → k.index < least → AreRising least ks
    → AllByRecursion (λ (j : LosslessCoding). other j.index
    ≡ held (k ∷ codings) (p ∷ parts) (lines ∷ others) j.index) ks
    → AllByRecursion (λ (j : LosslessCoding). other j.index ≡ held codings parts others j.index) ks
unfolding AreRising
held-others k codings p parts lines others other least [] lt rising all = tt
held-others k codings p parts lines others other least (j ∷ ks) lt rising all =
    let low = rising.0 in (
      all.0 ∙ held-other k codings p parts lines others j.index (λ e. omega (arith, e, low, lt)),
      held-others k codings p parts lines others other (j.index + 1) ks (omega (arith, low, lt)) rising.1 all.1,
    )

holds : (other : Samples) (codings : List LosslessCoding) (parts : List Part) (lines : List (List (List ℕ)))
    (least : ℕ) → length parts ≡ length codings → length lines ≡ length codings → AreRising least codings
    → AllByRecursion (λ (k : LosslessCoding). other k.index ≡ held codings parts lines k.index) codings
    → HoldSamples other codings parts lines
unfolding HoldSamples AreRising
holds other [] [] [] least m n rising all = tt
holds other [] [] (l ∷ lines) least m n rising all = absurd (omega (arith, n))
holds other [] (p ∷ parts) lines least m n rising all = absurd (omega (arith, m))
holds other (k ∷ codings) [] lines least m n rising all = absurd (omega (arith, m))
holds other (k ∷ codings) (p ∷ parts) [] least m n rising all = absurd (omega (arith, n))
holds other (k ∷ codings) (p ∷ parts) (l ∷ lines) least m n rising all = (
  sym (all.0 ∙ held-first k codings p parts l lines),
  holds other codings parts lines (k.index + 1) (omega (arith, m)) (omega (arith, n)) rising.1
      (held-others k codings p parts l lines other (k.index + 1) codings (omega arith) rising.1 all.1),
)

parts-count : (codings : List LosslessCoding) → length (parts_of codings) ≡ length codings
unfolding parts_of
parts-count [] = refl
parts-count (k ∷ []) = refl
parts-count (k ∷ l ∷ codings) = length-map (k ∷ l ∷ codings) _

lines-count : (w : Way) (from : ℕ) (parts : List Part) (by_interval : List (List (List ℕ)))
    → length (lines_by_component w from parts by_interval) ≡ length parts
unfolding lines_by_component
lines-count w from [] by_interval = refl
lines-count w from (p ∷ parts) by_interval =
    ap suc (lines-count w (from + p.down * p.across) parts by_interval)

-- ---- its components

module _ (tables : List (Option Table)) (frame : WrittenFrame) where
  rising-codings : (factors : List Factors) (least : ℕ) (ms : List Member) (codings : List LosslessCoding)
      → AreSampleCodings tables frame (map sample_slot ms) codings
      → AreChoices frame least (map (choice_of factors) ms) → AreRising least codings
  unfolding AreSampleCodings AreChoices AreRising
  rising-codings factors least [] [] coded all = tt
  rising-codings factors least [] (k ∷ codings) coded all = absurd coded
  rising-codings factors least (m ∷ ms) [] coded all = absurd coded
  rising-codings factors least (m ∷ ms) (k ∷ codings) coded all =
      let same = coded.0.index in
      let ordered = all.0.ordered in (
        omega (arith, same, ordered),
        subst (λ (n : ℕ). AreRising (n + 1) codings) same
            (rising-codings factors (m.component + 1) ms codings coded.1 all.1),
      )

  by-codings : (P : ℕ → Type 0) (ms : List Member) (codings : List LosslessCoding)
      → AreSampleCodings tables frame (map sample_slot ms) codings
      → AllByRecursion (λ (m : Member). P m.component) ms → AllByRecursion (λ (k : LosslessCoding). P k.index) codings
  unfolding AreSampleCodings
  by-codings P [] [] coded all = tt
  by-codings P [] (k ∷ codings) coded all = absurd coded
  by-codings P (m ∷ ms) [] coded all = absurd coded
  by-codings P (m ∷ ms) (k ∷ codings) coded all =
      (subst P coded.0.index all.0, by-codings P ms codings coded.1 all.1)

-- its slots, in the words of a writer
abbrev slots_in : List (ℕ × Selector) → List (ℕ × ℕ)
slots_in choices =
    let selectors = map (λ (c : ℕ × Selector). c.1) choices in
    zip (map (λ (t : Selector). t.component) selectors) (map (λ (t : Selector). t.dc) selectors)

slots-of : (factors : List Factors) (ms : List Member) → slots_in (map (choice_of factors) ms) ≡ map sample_slot ms
slots-of factors [] = refl
slots-of factors (m ∷ ms) = ap (λ (l : List (ℕ × ℕ)). sample_slot m ∷ l) (slots-of factors ms)

slots-are : (frame : WrittenFrame) (h : ScanHeader) (factors : List Factors) (ms : List Member)
    → h.choices ≡ map (choice_of factors) ms
    → (let scan = scan_written frame h in zip scan.components scan.dc_destinations ≡ map sample_slot ms)
unfolding scan_of
slots-are frame h factors ms e = ap slots_in e ∙ slots-of factors ms

indices-are : (factors : List Factors) (ms : List Member)
    → map (λ (s : Selector). s.component) (map (λ (c : ℕ × Selector). c.1) (map (choice_of factors) ms))
    ≡ map (λ (m : Member). m.component) ms
indices-are factors [] = refl
indices-are factors (m ∷ ms) = ap (λ (l : List ℕ). m.component ∷ l) (indices-are factors ms)

-- ---- a scan more

abbrev joined : List Bool → Samples → Samples → Samples
joined sent samples own index =
    elim (get_or sent index true) as (λ _. List (List ℕ)) [ true ↦ samples index | false ↦ own index ]

joined-by : (b : Bool) (a c : List (List ℕ)) (index : ℕ) (sent : List Bool) → get_or sent index true ≡ b
    → (elim (get_or sent index true) as (λ _. List (List ℕ)) [ true ↦ a | false ↦ c ])
    ≡ (elim b as (λ _. List (List ℕ)) [ true ↦ a | false ↦ c ])
joined-by b a c index sent e = ap (λ (t : Bool). elim t as (λ _. List (List ℕ)) [ true ↦ a | false ↦ c ]) e

-- the lines that a scan's rows give its components
abbrev scan_lines : WrittenFrame → ScanHeader → List LosslessCoding → ℕ → List (List (Table × ℕ)) → List (List (List ℕ))
scan_lines frame h codings restart rows =
    let w = way_of frame (predictor_by h.first) 0 codings in
    let n = rows_of_interval w.wide (mcus_down frame codings) restart in
    let values = map (map (λ (x : Table × ℕ). x.1)) rows in
    lines_by_component w 0 w.parts (first_group n values ∷ other_groups n values)

module _ (after at start rest payload : List ℕ) (fill : ℕ) (t : Tables) (old new : Frame) (s : Scan) (said : Said)
    (made : IsMade old) (lossless : IsLosslessFrame old)
    (sized : length s.members ≡ 4) (head : ReadsHeader payload s old new) (read : ReadsIfLossless t new s start rest)
    (codes : codes_of t ≡ said.huffman) (interval : t.interval ≡ said.restart)
    (framed : said.frame ≡ Some (written_frame old))
    (parts : at ≡ marker fill 218 (with_length (scan_payload (scan_header_of old s)) ++ start))
    (p : SamplesPart after at said (has_scans old)) where
  once : IsSentOnce old
  once = λ e. omega (arith, lossless, e)

  -- a scan with a point transform
  pub shifted-scan : 1 ≤ s.low → HasShiftedScan after
  shifted-scan low = record {
    samples = p.samples;
    said = said;
    sent = p.had;
    fill = fill;
    header = scan_header_of old s;
    rest = start;
    written = subst (λ (l : List ℕ). WritesSamplesPart p.samples l after said p.had) parts
        (own-part after at said (has_scans old) p);
    shifted = low;
  }

  pub samples-scan : s.low ≡ 0
      → SamplesPart after rest (record said { scanned = true }) (sent_with (members_of s) (has_scans old))
  samples-scan point =
      let frame = written_frame old in
      let h = scan_header_of old s in
      let ms = members_of s in
      let sent = has_scans old in
      let factors = (header_of old).components in
      let legal : IsScan frame h = head.legal once in
      let unsent = head.unsent once in
      let final : Said = record said { scanned = true } in
      let members = has-members payload s old new sized head in
      let r : ReadsSamples t frame ms start rest =
      subst (λ (f : WrittenFrame). ReadsSamples t f ms start rest) (same-written head.same)
      (read (same-made head.same made) (ap number_of head.same.process ∙ lossless)
      (same-members old new s head.same members)) in
      let codings = r.codings in
      let lines = scan_lines frame h codings t.interval r.rows in
      let w = way_of frame (predictor_by h.first) 0 codings in
      let own = held codings w.parts lines in
      let next = map (λ (x : Selector). x.component) (selectors_in h) ++ p.had in
      let coded : AreSampleCodings said.huffman.dc frame
      (let scan = scan_written frame h in zip scan.components scan.dc_destinations) codings =
      subst (λ (l : List (ℕ × ℕ)). AreSampleCodings said.huffman.dc frame l codings)
      (sym (slots-are frame h factors ms refl))
      (subst (λ (c : CodeTables). AreSampleCodings c.dc frame (map sample_slot ms) codings) codes r.coded) in
      let rising = rising-codings (codes_of t).dc frame factors 0 ms codings r.coded legal.choices in
      let count = parts-count codings in
      record {
        samples = joined sent p.samples own;
        had = next;
        named = named-more ms sent p.had (map (λ (x : Selector). x.component) (selectors_in h)) (indices-are factors ms)
            p.named;
        written = λ other agrees.
            let before : Agrees sent p.samples other = λ index e.
            agrees index (still-sent ms sent index e)
            ∙ joined-by true (p.samples index) (own index) index sent e in
            let each = all-from (λ (m : Member). other m.component ≡ own m.component) ms (λ slot m here.
            agrees m.component (sent-member ms sent slot m here)
            ∙ joined-by false (p.samples m.component) (own m.component) m.component sent
            (unsent-member ms sent slot m unsent here)) in
            let all = by-codings (codes_of t).dc frame (λ (i : ℕ). other i ≡ own i) ms codings r.coded each in
            let kept : HoldSamples other codings w.parts lines =
            holds other codings w.parts lines 0 count
            (lines-count w 0 w.parts _ ∙ count) rising all in
            let sends : WritesSamplesScan said frame h other r.data_bytes = record {
              codings = codings;
              coded = coded;
              point = point;
              interval = subst (λ (n : ℕ). is_of_rows (mcus_across frame codings) (mcus_down frame codings) n ≡ true)
                  interval r.interval;
              rows = r.rows;
              tables = r.tables;
              kept = subst (λ (n : ℕ). HoldSamples other codings w.parts (scan_lines frame h codings n r.rows)) interval
                  kept;
              written = subst (λ (n : ℕ). (let k = rows_of_interval (mcus_across frame codings)
                  (mcus_down frame codings) n in
                  WritesIntervals WritesRows 0 (first_group k r.rows) (other_groups k r.rows) r.data_bytes)) interval
                  r.written;
            } in
            onward other (IsUpToSamples rest) at nothing_said said final [] p.had next after
            (p.written other before)
            (subst (λ (l : List ℕ). WritesOn other (IsUpToSamples rest) said p.had l final next)
            (sym (parts ∙ ap (λ (l : List ℕ). marker fill 218 (with_length (scan_payload h) ++ l)) r.parts))
            (scan said final p.had next next frame fill h r.data_bytes rest framed legal (sends, refl)
            (end final next rest refl)));
      }

-- ---- its end

-- EOI, where all components have scans.
pub samples-closed : (after at : List ℕ) (said : Said) (frame : WrittenFrame) (sent : List Bool) (fill : ℕ)
    → SamplesPart after at said sent → length sent ≡ length frame.components
    → ((i : ℕ) → get_or sent i true ≡ true) → said.frame ≡ Some frame → at ≡ marker fill 217 []
    → IsWrittenForSamples (255 ∷ 216 ∷ after)
samples-closed after at said frame sent fill p sized all framed closed =
    let n = length frame.components in
    let named : AllByRecursion (λ k. names p.had k ≡ true) (range_with_len 0 n) =
    in-range (λ k. names p.had k ≡ true) 0 n
    (λ k least below. p.named k (sent-within sent k (omega (arith, below, sized)) (all k))) in
    record {
      samples = p.samples;
      final = said;
      written = record {
        sent = p.had;
        written = record {
          after = after;
          starts = refl;
          written = onward p.samples ClosesSamples at nothing_said said said [] p.had p.had after
              (own-part after at said sent p)
              (end said p.had at (record {
                frame = frame;
                fill = fill;
                is_said = framed;
                ended = named;
                closed = closed;
              }));
        };
      };
    }

-- Lossless streams that are written give their samples, and keep their size.
use Rattle.std.proofs.Common.{◌≡◌, ℕ, zero, suc, ◌<◌, true, List, [], ◌∷◌, ◌++◌, length, replicate}
use Rattle.std.proofs.Common.{set, get_or, Option, Some, None, Result, refl, sym, ap, ◌∙◌, subst, arith}
use Rattle.std.proofs.Common.{length-set, rules, get_or-set_same, slice_index_or, slice_set}
use Rattle.std.proofs.Math.Logic.{⊎_elim}
use Rattle.std.proofs.lemmas.Bool.Decides.{eqb_tells}
use Rattle.std.proofs.lemmas.Grind.{common_steps}
use Rattle.std.proofs.lemmas.List.Elements.{recursion_from_All}
use Rattle.std.specs.List.{AllByRecursion, concat, range_with_len}
use Rattle.jpeg_bits.specs.DefaultTables.{names}
use Rattle.jpeg_bits.specs.Reading.{Fault, Outcome, ◌>>=◌}
use Rattle.jpeg_segments.specs.declared.scale.Scale.{Scale}
use Rattle.jpeg_segments.specs.declared.frame.CodingProcess.TheVariants.{Lossless}
use Rattle.jpeg_segments.specs.Frame.{Frame, frame_of}
use Rattle.jpeg_segments.specs.ScanHeader.{scan_of}
use Rattle.jpeg_segments.specs.ScanHeaders.{ScanHeader, IsScan}
use Rattle.jpeg_segments.specs.WrittenSegments.{FrameHeader, frame_written, Header}
use Rattle.jpeg_segments.proofs.HeaderRules.{header-rules}
use Rattle.jpeg_meaning.specs.LosslessScans.{with_samples}
use Rattle.jpeg_meaning.specs.SaidSegments.{said_after, Stands}
use Rattle.jpeg_meaning.specs.Found.{Found, nothing_found, nothing_said, Said, with_said}
use Rattle.jpeg_meaning.specs.Stream.{header_at, scaled_to}
use Rattle.jpeg_meaning.specs.Stream.{sized_to, Told, sized_showing, scaled_showing, rest_showing, meaning_showing}
use Rattle.jpeg_meaning.specs.WrittenLossless.{IsLossless, Samples, SendsSamples, WritesSamples}
use Rattle.jpeg_meaning.proofs.Written.ReadTurns.{then-ok}
use Rattle.jpeg_meaning.proofs.Pictures.DecodedHeaders.{decoded-accepted}
use Rattle.jpeg_meaning.proofs.Pictures.LosslessSizes.{IsShaped, header-shaped}
use Rattle.jpeg_meaning.proofs.Written.WalkedStreams.{beside, FindsScan, header-read, IsMeant, IsRead, IsSaid, stream-read}
use Rattle.jpeg_decoder.proofs.Segments.HeaderThenRest.{header-reads}
use Rattle.jpeg_decoder.proofs.LosslessFrames.WrittenSamples.{bring_samples, indices_of, planes_for, scan-read}
use Rattle.jpeg_decoder.proofs.LosslessFrames.LosslessReads.{all-below}

-- ---- samples that are decided

-- the samples at these indices are those that were written
abbrev pub AreKept : Samples → List (Option (List ℕ)) → List ℕ → Type 0
AreKept samples decided sent =
    AllByRecursion (λ k. slice_index_or decided k None ≡ Some (concat (samples k))) sent

set-keeps : {A : Type 0} (v : ℕ → A) (xs : List A) (j k : ℕ) (d : A) → get_or xs k d ≡ v k
    → get_or (set xs j (v j)) k d ≡ v k
set-keeps v (x ∷ xs) zero zero d h = refl
set-keeps v (x ∷ xs) (suc j) (suc k) d h = set-keeps (λ n. v (suc n)) xs j k d h
set-keeps v _ _ _ d h = h

with-keeps : (samples : Samples) (indices : List ℕ) (decided : List (Option (List ℕ))) (k : ℕ)
    → slice_index_or decided k None ≡ Some (concat (samples k)) → slice_index_or
    (with_samples indices (planes_for samples indices) decided) k None ≡ Some (concat (samples k))
unfolding with_samples
with-keeps samples [] decided k h = h
with-keeps samples (p ∷ indices) decided k h =
    with-keeps samples indices (slice_set decided p (Some (concat (samples p)))) k
    (set-keeps (λ n. Some (concat (samples n))) decided p k None h)

with-length : (samples : Samples) (indices : List ℕ) (decided : List (Option (List ℕ)))
    → length (with_samples indices (planes_for samples indices) decided) ≡ length decided
unfolding with_samples
with-length samples [] decided = refl
with-length samples (p ∷ indices) decided =
    let rest = with-length samples indices (slice_set decided p (Some (concat (samples p)))) in
    search (rules, arith, length-set)

with-there : (samples : Samples) (indices : List ℕ) (decided : List (Option (List ℕ)))
    → AllByRecursion (λ k. k < length decided) indices
    → AreKept samples (with_samples indices (planes_for samples indices) decided) indices
unfolding with_samples
with-there samples [] decided h = tt
with-there samples (p ∷ indices) decided h =
    let next = slice_set decided p (Some (concat (samples p))) in
    let size = length-set decided p (Some (concat (samples p))) in
    let rest = with-there samples indices next (rw size h.1) in
    grind (arith, common_steps, with-keeps, get_or-set_same)

kept-append : (samples : Samples) (decided : List (Option (List ℕ))) (xs ys : List ℕ)
    → AreKept samples decided xs → AreKept samples decided ys → AreKept samples decided (xs ++ ys)
kept-append samples decided [] ys h g = g
kept-append samples decided (x ∷ xs) ys h g = (h.0, kept-append samples decided xs ys h.1 g)

all-kept : (samples : Samples) (indices : List ℕ) (decided : List (Option (List ℕ))) (sent : List ℕ)
    → AreKept samples decided sent
    → AreKept samples (with_samples indices (planes_for samples indices) decided) sent
all-kept samples indices decided [] h = tt
all-kept samples indices decided (k ∷ sent) h =
    (with-keeps samples indices decided k h.0, all-kept samples indices decided sent h.1)

blocks-after : (samples : Samples) (indices : List ℕ) (decided : List (Option (List ℕ))) (sent : List ℕ)
    → AllByRecursion (λ k. k < length decided) indices → AreKept samples decided sent
    → AreKept samples (with_samples indices (planes_for samples indices) decided) (indices ++ sent)
blocks-after samples indices decided sent h g = search (rules, kept-append, with-there, all-kept)

one-kept : (P : ℕ → Type 0) (k : ℕ) (sent : List ℕ) → AllByRecursion P sent → names sent k ≡ true → P k
one-kept P k [] h e = absurd (let n : ⊥ = cc in n)
one-kept P k (x ∷ sent) h e =
    ⊎_elim (λ t. subst P t.1 h.0) (λ t. one-kept P k sent h.1 (rw t.0 at e)) (eqb_tells x k)

pub all-in : (P : ℕ → Type 0) (ks sent : List ℕ) → AllByRecursion P sent → AllByRecursion (λ k. names sent k ≡ true) ks
    → AllByRecursion P ks
all-in P [] sent h e = tt
all-in P (k ∷ ks) sent h e = (one-kept P k sent h e.0, all-in P ks sent h e.1)

-- ---- scans

-- what is decided where scans have had these components
pub record Holds (samples : Samples) (said : Said) (sent : List ℕ) (decided : List (Option (List ℕ))) : Type 0 where
  four : length decided ≡ 4
  pub kept : AreKept samples decided sent

indices-below : (frame : Frame) (h : ScanHeader) → IsScan frame h
    → AllByRecursion (λ k. k < length frame.components) (indices_of h.choices)
unfolding scan_of
indices-below frame h is = recursion_from_All _ _ (header-rules frame h is).components

-- a lossless frame of some size
abbrev pub IsSampled : Frame → Type 0
IsSampled f = IsShaped f × (f.process ≡ Lossless)

pub header-said : (said : Said) (number : ℕ) (h : FrameHeader) → Stands said (Header number h)
    → IsLossless (Header number h) → IsSampled (frame_written number h)
unfolding frame_of
header-said said number h stands is =
    let ok = decoded-accepted number h stands.1 in
    search (rules, header-shaped)

scan-found : (samples : Samples) (said : Said) (sent next : List ℕ) (decided : List (Option (List ℕ))) (f : Frame)
    (h : ScanHeader) (bytes : List ℕ) → IsSaid IsSampled said → said.frame ≡ Some f → IsScan f h
    → SendsSamples samples said sent f h bytes next → Holds samples said sent decided
    → FindsScan bring_samples (Holds samples) said next decided h bytes
scan-found samples said sent next decided f h bytes is framed header x held =
    let frame = is.shaped f framed in
    let indices = indices_of h.choices in
    let few = frame.0.few in
    let below = all-below (length f.components) (length decided) indices (omega (arith, few, held.four))
    (indices-below f h header) in
    record {
      brought = with_samples indices (planes_for samples indices) decided;
      held = record {
        four = with-length samples indices decided ∙ held.four;
        kept = rw (← x.1) (blocks-after samples indices decided sent below held.kept);
      };
      found = λ fill code m left makes ends. scan-read said decided f h samples bytes left fill code m x.0 framed header
          frame.1 frame.0 is.tables makes ends;
    }

samples-read : (samples : Samples)
    → IsRead (λ said s. IsLossless s) (SendsSamples samples) IsSampled bring_samples (Holds samples)
samples-read samples = record {
  shaped = header-said;
  holds = λ said sent x s stands may held. record { four = held.four; kept = held.kept };
  reads = scan-found samples;
}

-- where a stream of samples may end
abbrev pub MayEndSamples : Said → List ℕ → Frame → Type 0
MayEndSamples said sent frame =
    AllByRecursion (λ k. names sent k ≡ true) (range_with_len 0 (length frame.components))

abbrev pub AreMeant : {A : Type 0} → (Found → Result A Fault) → Samples → Said → List ℕ → List ℕ → Outcome (Told × A)
    → Type 0
AreMeant show samples final sent tail meant =
    IsMeant IsSampled bring_samples (Holds samples) MayEndSamples show final sent tail meant

-- ---- the whole

pub samples-walked : {A : Type 0} (show : Found → Result A Fault) (samples : Samples) (bytes rest : List ℕ) (final : Said)
    → (w : WritesSamples samples bytes final)
    → AreMeant show samples final w.sent rest (meaning_showing None show (bytes ++ rest))
unfolding nothing_found nothing_said
samples-walked show samples bytes rest final w =
    stream-read MayEndSamples (samples-read samples) rest [] w.sent bytes final (replicate 4 None) show w.written
    refl (record { four = refl; kept = tt })

-- A change of what was said leaves lossless frames as they are.
abbrev KeepsLossless : (Said → Said) → Type 0
KeepsLossless change =
    (said : Said) (frame : Frame) → said.frame ≡ Some frame → frame.process ≡ Lossless → change said ≡ said

sized-keeps : (width height : ℕ) → KeepsLossless (sized_to width height)
sized-keeps width height said frame framed lossless = grind (arith, common_steps)

scaled-keeps : (scale : Scale) → KeepsLossless (scaled_to scale)
scaled-keeps scale said frame framed lossless = grind (arith, common_steps)

-- what is shown of a stream where what its header said is changed
abbrev changed_showing : {A : Type 0} → (Said → Said) → (Found → Result A Fault) → List ℕ → Outcome (Told × A)
changed_showing change show bytes =
    header_at bytes >>= (λ header. rest_showing None show (with_said change header.0) header.1)

changed-walked : {A : Type 0} (change : Said → Said) → KeepsLossless change
    → (show : Found → Result A Fault) (samples : Samples) (bytes rest : List ℕ) (final : Said)
    → (w : WritesSamples samples bytes final)
    → AreMeant show samples final w.sent rest (changed_showing change show (bytes ++ rest))
unfolding nothing_found nothing_said
changed-walked change keeps show samples bytes rest final w =
    let r = header-read MayEndSamples (samples-read samples) rest [] w.sent bytes final (replicate 4 None) w.written refl in
    let said = said_after r.0.between (Header r.0.number r.0.header) in
    let header = beside bring_samples said (replicate 4 None) in
    let left = r.0.left ++ rest in
    let all = samples-walked show samples bytes rest final w in (
      all.0,
      then-ok (header_at (bytes ++ rest)) _ (header, left) _ r.1
          (ap (λ (s : Said). rest_showing None show (beside bring_samples s (replicate 4 None)) left) (keeps said _ refl (r.0.said.shaped _ refl).1)
          ∙ sym (header-reads None show header (bytes ++ rest) left r.1) ∙ all.1),
    )

pub sized-walked : {A : Type 0} (width height : ℕ) (show : Found → Result A Fault) (samples : Samples)
    (bytes rest : List ℕ) (final : Said) → (w : WritesSamples samples bytes final)
    → AreMeant show samples final w.sent rest (sized_showing width height show (bytes ++ rest))
unfolding sized_showing
sized-walked width height = changed-walked (sized_to width height) (sized-keeps width height)

pub scaled-walked : {A : Type 0} (scale : Scale) (show : Found → Result A Fault) (samples : Samples)
    (bytes rest : List ℕ) (final : Said) → (w : WritesSamples samples bytes final)
    → AreMeant show samples final w.sent rest (scaled_showing scale show (bytes ++ rest))
unfolding scaled_showing
scaled-walked scale = changed-walked (scaled_to scale) (scaled-keeps scale)

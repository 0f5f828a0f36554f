-- The state between segments: frames that are decoded, at a scale, and what is kept from turn to turn.
use Rattle.std.proofs.Common.{zero, suc, rules, ◌≡◌, ◌≤◌, ◌<◌, ℕ, List, [], ◌∷◌, length, replicate}
use Rattle.std.proofs.Common.{refl, ap, ◌∙◌, arith, true, false, Option, Some, None, Ok, Err}
use Rattle.std.specs.Prelude.{IfSome, is_some, option_map}
use Rattle.std.specs.List.{AllByRecursion}
use Rattle.std.proofs.lemmas.Bool.{and_parts, eqb-true, leb-true}
use Rattle.std.proofs.lemmas.List.{length-map}
use Rattle.std.proofs.lemmas.List.Elements.{recursion_from_All}
use Rattle.std.proofs.lemmas.Grind.{common_steps}
use Rattle.jpeg_segments.specs.Frame.{Frame, Component, Factors, IsFrame, frame_of}
use Rattle.jpeg_segments.specs.Scales.{IsSizedFrame, frame_at, is_scale, scale_for, scaled_by, sized}
use Rattle.jpeg_segments.specs.declared.scale.Scale.{Scale}
use Rattle.jpeg_segments.specs.declared.frame.CodingProcess.{CodingProcess}
use Rattle.jpeg_segments.specs.declared.frame.CodingProcess.TheVariants.{DctSequential, DctProgressive, Lossless}
use Rattle.jpeg_segments.proofs.ScaleLemmas.{full_frames, scaled_again}
use Rattle.jpeg_pixels.specs.Pictures.{Source, HasSources, sources_of}
use Rattle.jpeg_meaning.specs.InTurn.{Fits}
use Rattle.jpeg_meaning.specs.DecodedImages.{Size, at_size}
use Rattle.jpeg_meaning.specs.Stream.{header_at, scaled_header_at, scaled_to, sized_header_at, sized_to}
use Rattle.jpeg_meaning.specs.Segments.{accepted, is_decoded_count, is_decoded_precision}
use Rattle.jpeg_meaning.specs.Found.{nothing_found, nothing_said, Found, with_said, Said}
use Rattle.jpeg_meaning.specs.ScanSegments.{arrays_before}
use Rattle.jpeg_meaning.specs.Sound.{AreSampled, HasDecodedFrame, IsUnread, IsDecodedFrame, ArePlanes, IsSound}
use Rattle.jpeg_meaning.proofs.Order.Apart.{zeros-sized}
use Rattle.jpeg_meaning.proofs.Order.FrameShapes.{scaled-frames-fit, frames-have-sources}
use borrow.Author.Tests.{not-false}
pub use Rattle.jpeg_meaning.proofs.Order.FrameShapes.{accepted-facts, count-few}
use Rattle.jpeg_bits.specs.Reading.{Fault, Answers, Outcome}
use Rattle.jpeg_bits.specs.Stream.{Stream}

-- ---- frames

-- a precision that the process can be decoded at
pub accepted-precision : (f g : Frame) → accepted f ≡ Ok g → is_decoded_precision f.process f.precision ≡ true
unfolding accepted
accepted-precision f g h = search (rules, not-false)

-- Samples of lossless frames have at most 16 bits.
pub decoded-precision : (f : Frame) → IsDecodedFrame f → f.process ≡ Lossless → f.precision ≤ 16
unfolding frame_at
decoded-precision f p e = search (rules, accepted-precision, leb-true, and_parts)

-- A frame has columns and lines.
pub decoded-some : (f : Frame) → IsDecodedFrame f → (0 < f.width) × (0 < f.height)
unfolding frame_at frame_of
decoded-some f p = search rules

pub scale-bounds : (s : ℕ) → is_scale s ≡ true → (0 < s) × (s ≤ 8)
scale-bounds s h = search (rules, eqb-true)

pub decoded-sized : (f : Frame) → IsDecodedFrame f → IsSizedFrame f
decoded-sized f p = record { full = p.full; scale = p.scale; is_read = p.is_read; is_scale = p.is_scale; made = p.made }

pub decoded-count : (f : Frame) → IsDecodedFrame f → is_decoded_count (length f.components) ≡ true
unfolding frame_at
decoded-count f p = search (rules, length-map, accepted-facts)

pub decoded-fits : (f : Frame) → IsDecodedFrame f → AllByRecursion (Fits f) f.components
decoded-fits f p = search (rules, scale-bounds, scaled-frames-fit, recursion_from_All)

sized-sources : (number precision width height : ℕ) (factors : List Factors) (sources : List Source)
    → sources_of (frame_of number precision width height factors).components (frame_of number precision width height
    factors).output_width (frame_of number precision width height factors).output_height ≡ Ok sources
    → sources_of (frame_of number precision width height factors).components width height ≡ Ok sources
unfolding frame_of
sized-sources number precision width height factors sources e = e

read-sources : (f : Frame) → IsFrame f → (sources : List Source)
    → sources_of f.components f.output_width f.output_height ≡ Ok sources
    → (s : ℕ) → 0 < s → s ≤ 8 → HasSources (frame_at s f)
read-sources f q sources e s some most = search (rules, frames-have-sources, recursion_from_All, sized-sources)

pub decoded-sources : (f : Frame) → IsDecodedFrame f → HasSources f
decoded-sources f p = search (rules, scale-bounds, accepted-facts, read-sources)

pub decoded-scaled : (s : ℕ) (f : Frame) → is_scale s ≡ true → (f.process ≡ Lossless → s ≡ 8) → IsDecodedFrame f
    → IsDecodedFrame (frame_at s f)
unfolding frame_at
decoded-scaled s f e full p = search (rules, scaled_again)

-- ---- states

pub sound_kept : (old new : Found) → IsSound old → new.said.frame ≡ old.said.frame → new.said.scanned ≡ old.said.scanned
    → new.kept ≡ old.kept → new.planes ≡ old.planes → new.samples ≡ old.samples → IsSound new
unfolding arrays_before
sound_kept old new p a b c d s = search rules

no-planes : (n : ℕ) (cs : List Component) → length cs ≤ n → ArePlanes cs (replicate n None)
unfolding ArePlanes
no-planes n [] h = tt
no-planes zero (c ∷ cs) h = absurd (omega arith)
no-planes (suc n) (c ∷ cs) h = (tt, no-planes n cs (omega arith))

pub no-samples : (n : ℕ) (cs : List Component) → length cs ≤ n → AreSampled cs (replicate n None)
unfolding AreSampled
no-samples n [] h = tt
no-samples zero (c ∷ cs) h = absurd (omega arith)
no-samples (suc n) (c ∷ cs) h = (tt, no-samples n cs (omega arith))

-- a frame after which nothing was read yet
pub sound-frame : (found : Found) (f : Frame) → IsDecodedFrame f → found.said.scanned ≡ false
    → found.planes ≡ replicate 4 None
    → found.samples ≡ replicate 4 None → IsSound (with_said (λ said. record said { frame = Some f }) found)
unfolding arrays_before
sound-frame found f p e n s = grind (
  arith,
  zeros-sized,
  no-planes 4 f.components (count-few (length f.components) (decoded-count f p)).1,
  no-samples 4 f.components (count-few (length f.components) (decoded-count f p)).1,
)

pub sound-framed : (found : Found) (f : Frame) → IsSound found → is_some found.said.frame ≡ false → IsFrame f
    → accepted f ≡ Ok f → IsSound (with_said (λ said. record said { frame = Some f }) found)
sound-framed found f p e q a =
    let d : IsDecodedFrame f = grind (arith, full_frames f q) in search (rules, sound-frame)

-- ---- the start of a stream

pub sound-nothing : (found : Found) → found ≡ nothing_found → IsSound found
unfolding nothing_found nothing_said
sound-nothing found e = search rules

pub nothing-framed : (found : Found) → found ≡ nothing_found → found.said.frame ≡ None
unfolding nothing_found nothing_said
nothing-framed found e = ap (λ (f : Found). f.said.frame) e

-- ---- frames at a scale

-- what was said, with its frame at a scale
abbrev pub said_at : ℕ → Said → Said
said_at scale said = record said { frame = option_map (λ f. scaled_by f.process scale f) said.frame }

decoded-at : (scale : ℕ) (f : Frame) → is_scale scale ≡ true → IsDecodedFrame f
    → IsDecodedFrame (scaled_by f.process scale f)
decoded-at scale f s p = go f.process refl
  where
    at : (f.process ≡ Lossless → ⊥) → IsDecodedFrame (frame_at scale f)
    at dct = search (rules, decoded-scaled)

    go : (process : CodingProcess) → f.process ≡ process → IsDecodedFrame (scaled_by process scale f)
    go DctSequential e = at (λ l. cc)
    go DctProgressive e = at (λ l. cc)
    go Lossless e = p

pub frames_scaled : (scale : ℕ) (old new : Found) → is_scale scale ≡ true → new ≡ with_said (said_at scale) old
    → HasDecodedFrame old → HasDecodedFrame new
frames_scaled scale old new s e h = search (rules, decoded-at)

pub sound_scaled : (scale : ℕ) (old new : Found) → is_scale scale ≡ true → new ≡ with_said (said_at scale) old
    → IsSound old → IsUnread old → IsSound new
sound_scaled scale old new s e p u = search (rules, sound-frame, decoded-at)

pub ruleset scaled_rules = (decoded-sized, frames_scaled, sound_scaled)

-- The frame at the requested scale.
pub said-sized : (width height scale : ℕ) (said : Said)
    → IfSome said.frame (λ f. scale ≡ scale_for f.width f.height width height)
    → said_at scale said ≡ sized_to width height said
said-sized width height scale said h = go said.frame h
  where
    go : (o : Option Frame) → IfSome o (λ f. scale ≡ scale_for f.width f.height width height)
        → record said { frame = option_map (λ f. scaled_by f.process scale f) o }
        ≡ record said { frame = option_map (sized width height) o }
    go None h = refl
    go (Some f) h = rw h refl

-- ---- sizes that are requested again

-- Of two sizes the last counts.
pub sized-again : (width height : ℕ) (size : Size) (said : Said)
    → sized_to width height (at_size size said) ≡ sized_to width height said
unfolding frame_at
sized-again width height size said = grind (arith, common_steps, scaled_again)

pub scaled-again : (scale : Scale) (size : Size) (said : Said)
    → scaled_to scale (at_size size said) ≡ scaled_to scale said
unfolding frame_at
scaled-again scale size said = grind (arith, common_steps, scaled_again)

-- ---- headers at a scale

pub sized-read : (width height : ℕ) (bytes rest : List ℕ) (found : Found) → header_at bytes ≡ Ok (found, rest)
    → sized_header_at width height bytes ≡ Ok (with_said (sized_to width height) found, rest)
unfolding sized_header_at
sized-read width height bytes rest found e = search rules

pub sized-refused : (width height : ℕ) (bytes : List ℕ) (fault : Fault) → header_at bytes ≡ Err fault
    → sized_header_at width height bytes ≡ Err fault
unfolding sized_header_at
sized-refused width height bytes fault e = search rules

pub scaled-read : (scale : Scale) (bytes rest : List ℕ) (found : Found) → header_at bytes ≡ Ok (found, rest)
    → scaled_header_at scale bytes ≡ Ok (with_said (scaled_to scale) found, rest)
unfolding scaled_header_at
scaled-read scale bytes rest found e = search rules

pub scaled-refused : (scale : Scale) (bytes : List ℕ) (fault : Fault) → header_at bytes ≡ Err fault
    → scaled_header_at scale bytes ≡ Err fault
unfolding scaled_header_at
scaled-refused scale bytes fault e = search rules

-- a header that is read, and then changed
pub changed-answers : {U : Type 0} (change : Said → Said) (read : List ℕ → Outcome Found) (old cur new : Stream)
    (found changed : Found) (u : U) (size : ℕ × ℕ)
    → ((bytes rest : List ℕ) (x : Found) → header_at bytes ≡ Ok (x, rest)
    → read bytes ≡ Ok (with_said change x, rest))
    → Answers (λ (x : U). found) header_at old (Ok u) cur → new ≡ cur → changed ≡ with_said change found
    → Answers (λ (x : ℕ × ℕ). changed) read old (Ok size) new
changed-answers change read old cur new found changed u size reads p s e = (
  ap (λ (x : Stream). x.failed) s ∙ p.0,
  λ k. let at = p.1 k in (grind (arith, reads old.bytes cur.bytes found at.1)),
)

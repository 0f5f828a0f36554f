-- A lossless frame that is accepted has samples that a writer may emit.
use Rattle.std.proofs.Common.{rules, arith, ◌≡◌, ◌⊎◌, ℕ, ◌≤◌, map, length, Ok}
use Rattle.std.specs.Prelude.{nat_le}
use Rattle.std.proofs.lemmas.Bool.{and_parts, eqb-true, leb-true, or_cases}
use Rattle.std.specs.List.{AllByRecursion}
use lib.ListN.{length-map}
use Rattle.jpeg_bits.proofs.ReadIntervals.{all-mapped}
use Rattle.jpeg_segments.specs.Frame.{component_of, frame_of, greatest}
use Rattle.jpeg_segments.specs.WrittenSegments.{FrameHeader, frame_written}
use Rattle.jpeg_meaning.specs.AcceptedFrames.{HasPicture, HasSamples, IsUpsampled}
use Rattle.jpeg_meaning.specs.Segments.{accepted}
use Rattle.jpeg_segments.proofs.ScaleLemmas.{factors-back}
use Rattle.jpeg_meaning.proofs.Pictures.UpsampledFactors.{Upsampled, sources-back}
use Rattle.jpeg_meaning.proofs.Soundness.{accepted-facts, accepted-precision}

abbrev HasCount : ℕ → Type 0
HasCount n = (n ≡ 1) ⊎ ((n ≡ 3) ⊎ (n ≡ 4))

accepted-parts : (number : ℕ) (h : FrameHeader) → accepted (frame_written number h) ≡ Ok (frame_written number h)
    → HasCount (length h.components) × AllByRecursion (IsUpsampled h) h.components
unfolding frame_of component_of
accepted-parts number h ok =
    let frame = frame_written number h in
    let facts = accepted-facts frame frame ok in
    let most_h = greatest (λ f. f.horizontal) h.components in
    let most_v = greatest (λ f. f.vertical) h.components in
    let cs = map (component_of h.width h.height most_h most_v) h.components in
    let back = factors-back h.width h.height most_h most_v h.components in
    let size : length frame.components ≡ length h.components = length-map h.components _ in (
      (search (rules, or_cases, eqb-true)),
      all-mapped (λ c. Upsampled most_h most_v h.width h.height c.factors) (component_of h.width h.height most_h most_v)
          h.components (sources-back most_h most_v h.width h.height cs facts.1.0
          (search rules)),
    )

pub accepted-samples : (h : FrameHeader) → accepted (frame_written 3 h) ≡ Ok (frame_written 3 h) → HasSamples 3 h
unfolding frame_of
accepted-samples h ok =
    let frame = frame_written 3 h in
    let parts = accepted-parts 3 h ok in
    let precise = and_parts (nat_le 2 h.precision) (nat_le h.precision 16) (accepted-precision frame frame ok) in
    grind (arith, leb-true 2 h.precision precise.0, leb-true h.precision 16 precise.1)

-- and a frame of SOF0, SOF1 or SOF2 has a picture
pub accepted-picture : (number : ℕ) (h : FrameHeader) → number ≤ 2
    → accepted (frame_written number h) ≡ Ok (frame_written number h) → HasPicture h
unfolding frame_of
accepted-picture number h le ok = search (rules, accepted-precision, accepted-parts, eqb-true)

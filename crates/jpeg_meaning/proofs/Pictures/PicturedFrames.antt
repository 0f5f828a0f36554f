-- A frame header that has a picture is accepted.
use Rattle.std.proofs.Common.{rules, ◌≡◌, ◌⊎◌, ℕ, ◌≤◌, true, false, List, map, length, Ok, arith}
use Rattle.std.proofs.lemmas.Grind.{common_steps}
use Rattle.std.proofs.lemmas.Bool.{eq-eqb, or_left}
use Rattle.std.specs.List.{AllByRecursion}
use Rattle.jpeg_bits.proofs.ReadIntervals.{all-map}
use Rattle.jpeg_pixels.specs.Pictures.{Source, sources_of}
use Rattle.jpeg_segments.specs.Frame.{component_of, frame_of, greatest}
use Rattle.jpeg_segments.specs.WrittenSegments.{FrameHeader, frame_written}
use Rattle.jpeg_meaning.specs.AcceptedFrames.{HasPicture, IsUpsampled}
use Rattle.jpeg_meaning.specs.Segments.{accepted, is_decoded_count, is_arithmetic, is_decoded_precision}
use Rattle.jpeg_meaning.proofs.Written.ReadTurns.{then-ok}
use Rattle.jpeg_segments.proofs.ScaleLemmas.{factors-back}
use Rattle.jpeg_meaning.proofs.Pictures.UpsampledFactors.{sources-some}

header-sources : (number : ℕ) (h : FrameHeader) → AllByRecursion (IsUpsampled h) h.components
    → (sources : List Source) × (sources_of (frame_written number h).components (frame_written
    number h).output_width (frame_written number h).output_height ≡ Ok sources)
unfolding frame_of component_of
header-sources number h p =
    let most_h = greatest (λ f. f.horizontal) h.components in
    let most_v = greatest (λ f. f.vertical) h.components in
    let cs = map (component_of h.width h.height most_h most_v) h.components in
    let back = factors-back h.width h.height most_h most_v h.components in
    let s = sources-some most_h most_v h.width h.height cs (all-map (IsUpsampled h) _ _ h.components (λ c u. u) p) in
    grind arith

header-count : (number : ℕ) (h : FrameHeader)
    → (length h.components ≡ 1) ⊎ ((length h.components ≡ 3) ⊎ (length h.components ≡ 4))
    → is_decoded_count (length (frame_written number h).components) ≡ true
unfolding frame_of
header-count number h p = grind (arith, common_steps, or_left, eq-eqb)

pub accepted-by : (number : ℕ) (h : FrameHeader) → (frame_written number h).is_differential ≡ false
    → is_arithmetic (frame_written number h).coding ≡ false
    → is_decoded_precision (frame_written number h).process (frame_written number h).precision ≡ true
    → (length h.components ≡ 1) ⊎ ((length h.components ≡ 3) ⊎ (length h.components ≡ 4))
    → AllByRecursion (IsUpsampled h) h.components → accepted (frame_written number h) ≡ Ok (frame_written number h)
unfolding accepted
accepted-by number h plain huffman precise counted upsampled =
    let s = header-sources number h upsampled in
    let count = header-count number h counted in
    search (rules, then-ok)

-- SOF0 to SOF2 are neither differential nor arithmetic, and are decoded at 8 bits.
pub header-accepted : (number : ℕ) (h : FrameHeader) → number ≤ 2 → HasPicture h
    → accepted (frame_written number h) ≡ Ok (frame_written number h)
unfolding frame_of
header-accepted number h le p = search (rules, accepted-by, eq-eqb)

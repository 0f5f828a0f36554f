-- Scans of samples, and their picture, where all components have the same sampling factors.
use Rattle.std.specs.Prelude.{◌≡◌, ℕ, List, length, map}
use Rattle.std.specs.List.{AllByRecursion, concat, range_with_len}
use Rattle.jpeg_segments.specs.Frame.{Frame, most_across, most_down}
use Rattle.jpeg_lossless.specs.Pictures.{sample_bytes}
use Rattle.jpeg_lossless.specs.Positions.{at_position}
use Rattle.jpeg_lossless.specs.Prediction.{start_of}
use Rattle.jpeg_lossless.specs.Scans.{Way}
use Rattle.jpeg_bits.specs.declared.scan.Predictor.{Predictor}
use Rattle.jpeg_meaning.specs.LosslessScans.{LosslessCoding}
use Rattle.jpeg_meaning.specs.WrittenLossless.{Samples}

-- The factors of each component are the greatest, as where there is one component, or all are 1.
abbrev pub HasEqualFactors : Frame → Type 0
HasEqualFactors frame =
    AllByRecursion
    (λ c. (c.factors.horizontal ≡ most_across frame.components)
    × (c.factors.vertical ≡ most_down frame.components)) frame.components

-- The bytes of a pixel: of each component the sample in its column and line.
abbrev pub plain_pixel : ℕ → ℕ → Samples → ℕ → ℕ → List ℕ
plain_pixel precision count samples y x =
    concat (map (λ k. sample_bytes precision (at_position (samples k) x y)) (range_with_len 0
    count))

abbrev pub plain_line : Frame → Samples → ℕ → List ℕ
plain_line frame samples y =
    concat (map (plain_pixel frame.precision (length frame.components) samples y)
    (range_with_len 0 frame.width))

-- The samples, pixel by pixel, line by line.
unfoldable pub plain_picture : Frame → Samples → List ℕ
plain_picture frame samples =
    concat (map (plain_line frame samples) (range_with_len 0 frame.height))

-- A scan whose MCUs are the pixels, with one sample of each component.
abbrev pub plain_way : Frame → Predictor → ℕ → List LosslessCoding → Way
plain_way frame selection point codings = record {
  wide = frame.width;
  selection = selection;
  start = start_of frame.precision point;
  parts = map (λ k. record {
    table = k.table;
    across = 1;
    down = 1;
    width = frame.width;
    height = frame.height;
  }) codings;
}

-- The planes of an image: those of its coefficients, and those of the samples of a lossless one
-- (T.81, A.1.1, A.3.3).
use Rattle.std.specs.Prelude.{ℕ, List, length, map, None, slice_index_or, Result, Ok}
use Rattle.std.specs.List.{concat, enumerate_from, range_with_len}
use Rattle.jpeg_bits.specs.Reading.{Fault, ◌>>=◌}
use Rattle.jpeg_segments.specs.Checks.{gathered, needed}
use Rattle.jpeg_meaning.specs.Found.{Said}
use Rattle.jpeg_meaning.specs.FoundPlanes.{bytes_of_samples, own_planes, planes_within}
use Rattle.jpeg_meaning.specs.Rasters.{plane_of_blocks}
use Rattle.jpeg_meaning.specs.WrittenLossless.{Samples}
use Rattle.jpeg_meaning.specs.WrittenScans.{Coefficients}

-- The planes of an image's blocks, by the tables that were said, where they are within a limit.
unfoldable pub planes_of_blocks : ℕ → Said → Coefficients → Result (List (List ℕ)) Fault
planes_of_blocks limit said blocks = planes_within limit said (λ frame.
    gathered (λ c. needed (slice_index_or said.quantization c.1.factors.quantization None)
    >>= (λ table. Ok (plane_of_blocks c.1 table (blocks c.0)))) (enumerate_from 0 frame.components)
    >>= (λ planes. Ok (own_planes frame.components planes)))

-- The planes of samples, where they are within a limit.
unfoldable pub planes_of_samples : ℕ → Said → Samples → Result (List (List ℕ)) Fault
planes_of_samples limit said samples = planes_within limit said (λ frame. Ok (
    map (λ k. bytes_of_samples frame.precision (concat (samples k)))
    (range_with_len 0 (length frame.components))))

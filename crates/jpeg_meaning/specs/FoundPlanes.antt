-- The planes of what was found, at the end of an image: the samples of each component, line by
-- line, at its own size (T.81, A.1.1).
use Rattle.std.specs.Prelude.{ℕ, ◌*◌, nat_lt, List, [], ◌∷◌, map, sum_by, slice_index_or}
use Rattle.std.specs.Prelude.{None, Result, Ok, Err, if◌then◌else◌}
use Rattle.std.specs.List.{concat, enumerate_from}
use Rattle.jpeg_bits.specs.Reading.{Fault, Malformed, ◌>>=◌}
use Rattle.jpeg_segments.specs.Checks.{gathered, needed}
use Rattle.jpeg_segments.specs.Frame.{Component, Frame}
use Rattle.jpeg_segments.specs.declared.frame.CodingProcess.{CodingProcess}
use Rattle.jpeg_segments.specs.declared.frame.CodingProcess.TheVariants.{Lossless}
use Rattle.jpeg_pixels.specs.Planes.{cropped}
use Rattle.jpeg_lossless.specs.Pictures.{sample_bytes}
use Rattle.jpeg_meaning.specs.Found.{Found, Said}
use Rattle.jpeg_meaning.specs.FoundPictures.{plane_at_end}

-- how many samples the components of a frame have together
abbrev pub samples_in : Frame → ℕ
samples_in frame = sum_by (λ c. c.width * c.height) frame.components

-- the plane of a component, of all its blocks, cropped to its own size
abbrev pub own_plane : Component → List ℕ → List ℕ
own_plane c plane = cropped (c.scale * c.blocks_wide) c.width c.height plane

-- those of components
unfoldable pub own_planes : List Component → List (List ℕ) → List (List ℕ)
own_planes (c ∷ components) (plane ∷ planes) = own_plane c plane ∷ own_planes components planes
own_planes _ _ = []

-- the bytes of samples: one of each up to precision 8, else two, the lower first
abbrev pub bytes_of_samples : ℕ → List ℕ → List ℕ
bytes_of_samples precision samples = concat (map (sample_bytes precision) samples)

-- planes of the frame that was said, where its samples are within a limit
unfoldable pub planes_within : ℕ → Said → (Frame → Result (List (List ℕ)) Fault)
    → Result (List (List ℕ)) Fault
planes_within limit said planes = do
  frame ← needed said.frame
  if nat_lt limit (samples_in frame) then Err Malformed else planes frame

-- The planes of a frame of blocks.
unfoldable pub blocks_planes : Found → Frame → Result (List (List ℕ)) Fault
blocks_planes found frame = do
  planes ← gathered (plane_at_end found frame) (enumerate_from 0 frame.components)
  Ok (own_planes frame.components planes)

-- The planes of a lossless frame.
unfoldable pub samples_planes : Found → Frame → Result (List (List ℕ)) Fault
samples_planes found frame = do
  planes ← gathered (λ c. needed (slice_index_or found.samples c.0 None))
      (enumerate_from 0 frame.components)
  Ok (map (bytes_of_samples frame.precision) planes)

abbrev pub planes_by_process : CodingProcess → Found → Frame → Result (List (List ℕ)) Fault
planes_by_process Lossless found frame = samples_planes found frame
planes_by_process _ found frame = blocks_planes found frame

-- The planes of what was found: within a limit on all their samples. Neither the colours nor the
-- luma of a picture make a difference.
unfoldable pub planes_of : ℕ → Found → Result (List (List ℕ)) Fault
planes_of limit found =
    planes_within limit found.said (λ frame. planes_by_process frame.process found frame)

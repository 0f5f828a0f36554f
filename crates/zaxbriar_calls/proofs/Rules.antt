-- Lemmas that the proofs of functions use, and definitions that they unfold, by what they are about.
use Rattle.std.proofs.Common.{length-append}
use Rattle.std.specs.Prelude.{⊤}
use Rattle.jpeg_bits.specs.Marker.{marker_of, next_marker}
use Rattle.jpeg_bits.specs.Reading.{length_at, next_u16, times}
use Rattle.jpeg_meaning.proofs.OnLiterals.{streams_on_literals}
use Rattle.jpeg_meaning.specs.ColourChoice.{by_identifiers, transform_of}
use Rattle.zaxbriar_calls.proofs.Cropped.{crop-fits, crop-lines, crop-samples}
use Rattle.zaxbriar_calls.proofs.Densities.{density-none, density-short, density-some, first-cut, first-ended, first-jfif}
use Rattle.zaxbriar_calls.proofs.Densities.{first-later, first-none, first-past}
use Rattle.zaxbriar_calls.proofs.Exceeded.{too-many-refused, unlimited}
use Rattle.zaxbriar_calls.proofs.FoundSegments.{marker-filled, marker-here, marker-later, no-marker, payload-cut, payload-is}
use Rattle.zaxbriar_calls.proofs.FoundSegments.{few-refused, marked-long, payload-short, payload-unsized, sized}
use Rattle.zaxbriar_calls.proofs.FoundSegments.{some-left, unsized}
use Rattle.zaxbriar_calls.proofs.Joining.{brought-all, brought-ended, brought-later, brought-none, brought-past}
use Rattle.zaxbriar_calls.proofs.Joining.{data-copied, none-copied}
use Rattle.zaxbriar_calls.proofs.KeptBytes.{marker-long, segment-cut, segment-found, segment-none}
use Rattle.zaxbriar_calls.proofs.Means.{given-fails, given-means, given-planes}
use Rattle.zaxbriar_calls.specs.Crops.{cut_lines}
use Rattle.zaxbriar_calls.specs.Layouts.{laid_out, pixels_of}
use Rattle.zaxbriar_calls.specs.Passes.{exceeds}
use Rattle.zaxbriar_calls.specs.Places.{segments_of}
use Rattle.zaxbriar_calls.specs.StreamSegments.{next_segment, payload_at, payload_by}
use Rattle.zaxbriar_calls.specs.Upright.{turned_byte}
use Rattle.zaxbriar_metadata.proofs.OnLiterals.{collections}
use Rattle.zaxbriar_samples.specs.Boxes.{box_line, box_line_sum, box_pixel, component_bytes, lower_first_bytes, mean_in}
use Rattle.zaxbriar_samples.specs.Boxes.{reduced_bytes, sample_of, sum_over, texts_below}
use Rattle.zaxbriar_samples.specs.Samples.{byte_at, pair_at, sample_in}
use Rattle.zaxbriar_calls.proofs.FoundPlaces.{other-said, places-are, places-ended, places-later, places-none, places-past}

-- how many bytes were read
pub ruleset counted = (length-append)

-- the next marker
pub ruleset markers = (no-marker, marker-here, marker-later, marker-filled)

-- the payload of a segment
pub ruleset payloads = (payload-unsized, payload-short, payload-cut, payload-is)

-- a marker with or without a length field
pub ruleset lengths = (sized, unsized)

-- what a payload needs that isn't whole
pub ruleset needs = (few-refused, some-left)

-- how long what is read of a segment is
pub ruleset long_segments = (marker-long, marked-long)

-- the first segment
pub ruleset read_segments = (segment-cut, segment-found, segment-none)

-- the applications that have no metadata
pub ruleset others = (other-said)

-- the places of metadata
pub ruleset places = (places-are, places-ended, places-later, places-none, places-past)

-- what the applications of a stream bring
pub ruleset collected = (brought-all, brought-ended, brought-later, brought-none, brought-past)

-- data that were copied
pub ruleset copied = (data-copied, none-copied)

-- the first JFIF segment
pub ruleset segments = (first-none, first-ended, first-cut, first-jfif, first-later, first-past)

-- the density of a stream
pub ruleset densities = (density-short, density-some, density-none)

-- the whole of what a stream gives
pub ruleset wholes = (given-means, given-fails, given-planes)

-- the passes that options allow
pub ruleset limits = (unlimited, too-many-refused)

-- the transform that a header asks for
unfoldable pub asked_transforms : ⊤
unfolding transform_of by_identifiers
asked_transforms = tt

-- the passes of streams that were worked by hand
unfoldable pub streams : ⊤
unfolding streams_on_literals exceeds
streams = tt

-- the lines of a part of a picture
pub ruleset crops = (crop-fits, crop-lines, crop-samples)

-- lines as they are stored and turned
unfoldable pub turned_lines : ⊤
unfolding laid_out pixels_of turned_byte cut_lines
turned_lines = tt

-- the same of a picture that is made smaller
unfoldable pub smaller_lines : ⊤
unfolding laid_out pixels_of turned_byte cut_lines reduced_bytes box_line box_pixel component_bytes mean_in
    box_line_sum sample_of sum_over texts_below lower_first_bytes sample_in byte_at pair_at
smaller_lines = tt

-- what the applications of a stream bring, on literals
unfoldable pub joined_streams : ⊤
unfolding collections segments_of next_segment next_marker marker_of payload_by payload_at length_at next_u16
    times
joined_streams = tt

-- Lemmas that the proofs of functions use, and definitions that they unfold, by what they are about.
use Rattle.std.specs.Prelude.{⊤}
use Rattle.jpeg_meaning.specs.Found.{nothing_found, nothing_said}
use Rattle.jpeg_meaning.specs.FoundPictures.{limited, picture_of, samples_picture}
use Rattle.jpeg_meaning.specs.FoundPlanes.{planes_of, planes_within}
use Rattle.jpeg_meaning.specs.Rasters.{plane_by, plane_of_blocks}
use Rattle.jpeg_meaning.specs.Reported.{told_by_turns}
use Rattle.jpeg_meaning.specs.ScanSegments.{put_arrays}
use Rattle.jpeg_meaning.specs.Stream.{header_at, segment_at, segments_at, turn_at}
use Rattle.std.proofs.lemmas.Grind.{common_steps}
use Rattle.std.proofs.lemmas.List.{drop-set-lt, get_or-map, length-map, map-set}
use Rattle.std.proofs.lemmas.List.Folds.{list_all-map}
use Rattle.jpeg_segments.proofs.ScaleLemmas.{full_size}
use Rattle.jpeg_meaning.proofs.Pictures.AcceptedSamples.{accepted-picture, accepted-samples}
use Rattle.jpeg_meaning.proofs.Order.Apart.{spots-apart, spots-inside, zeros-sized}
use Rattle.jpeg_meaning.proofs.Order.CountedScans.{frame-scans, scans-in-turn}
use Rattle.jpeg_meaning.proofs.Encoded.EncodedLossless.{lossless-script-written, samples-written}
use Rattle.jpeg_meaning.proofs.Order.FrameShapes.{frames-fit, scaled-frames-fit, frames-have-sources}
use Rattle.jpeg_meaning.proofs.Pictures.LosslessSizes.{lossless-accepted}
use Rattle.jpeg_meaning.proofs.Order.McuRows.{scans-by-rows, plane-strips, codings-are-of}
use Rattle.jpeg_meaning.proofs.Order.McuRows.{sequential-scan, progressive-scan}
use Rattle.jpeg_meaning.proofs.Pictures.PaddingUnseen.{own-predicted, pictures-agree, planes-same}
use Rattle.jpeg_meaning.proofs.Pictures.PicturedFrames.{header-accepted}
use Rattle.jpeg_meaning.proofs.Soundness.{nothing-framed, scaled-again, sized-again, sound-nothing}
use Rattle.jpeg_meaning.proofs.Soundness.{sound_kept}
use Rattle.jpeg_meaning.proofs.Written.SizedStreams.{scaled-taken, sized-taken, stream-means_scaled, stream-means_sized}
use Rattle.jpeg_meaning.proofs.Written.WalkedStreams.{front-append}
use Rattle.jpeg_meaning.proofs.Pictures.WholeImages.{cut-whole}
use Rattle.jpeg_meaning.proofs.Tested.WorkedStreams.{colour-written, grey-written, padding-written, three-written}
use Rattle.jpeg_meaning.proofs.Written.WrittenParts.{front-closed}
use Rattle.jpeg_meaning.proofs.Written.WrittenPictures.{stream-means, taken-means}
use Rattle.jpeg_decoder.proofs.Strips.StoredRows.{all-stored-long, filled-seen}
use Rattle.jpeg_decoder.proofs.Scans.BlocksBefore.{plane_by-length}
use Rattle.jpeg_decoder.proofs.Segments.HeaderThenRest.{header-lacks, header-means}
use Rattle.jpeg_decoder.proofs.Strips.JointDecided.{or-after, or-at, or-nothing, or-set, room-at, room-past}
use Rattle.std.proofs.lemmas.List.FromFn.{length-enumerate_from}
use Rattle.std.proofs.lemmas.Result.{err_from_is_err_and}
use Rattle.jpeg_segments.proofs.Gathered.{gathers-all, gathers-none}
use Rattle.jpeg_meaning.proofs.Refusals.{told-err, turns-no_start}
use Rattle.jpeg_decoder.proofs.LosslessFrames.LosslessReads.{picture-given, picture-lacks, picture-made}
use Rattle.jpeg_decoder.proofs.Pictures.OwnPlanes.{bytes-more, bytes-none, owned-all, owned-more, owned-none, owned-there, planes-more}
use Rattle.jpeg_decoder.proofs.Pictures.Ratios.{ratios_refused}
use Rattle.jpeg_decoder.proofs.Segments.ReplacedTables.{dht-onto}

-- the tables in force after a segment
pub ruleset replaced = (sound_kept, dht-onto)

-- the laws of images
pub ruleset images = (
  stream-means,
  stream-means_sized,
  stream-means_scaled,
  taken-means,
  sized-taken,
  scaled-taken,
  cut-whole,
  front-append,
  front-closed,
  grey-written,
  colour-written,
  header-accepted,
  accepted-picture,
)

-- the laws of streams and scans
pub ruleset streams = (
  header-means,
  header-lacks,
  sized-again,
  scaled-again,
  spots-apart,
  spots-inside,
  scans-in-turn,
  frame-scans,
  zeros-sized,
  scans-by-rows,
  sequential-scan,
  codings-are-of,
  progressive-scan,
  plane-strips,
  frames-fit,
  scaled-frames-fit,
  full_size,
  frames-have-sources,
)

-- the laws of lossless streams
pub ruleset samples = (own-predicted, planes-same, pictures-agree, lossless-accepted)

pub ruleset written_samples = (
  accepted-samples,
  samples-written,
  lossless-script-written,
  three-written,
  padding-written,
)

-- planes that are decided
pub ruleset planes = (length-map, get_or-map, map-set, or-nothing, or-at, or-set, or-after)

pub ruleset joint_planes = (room-at, room-past)

-- planes and blocks at the end
pub ruleset ends = (common_steps, drop-set-lt, map-set, plane_by-length)

-- results that are gathered
pub ruleset gathered = (common_steps, gathers-none, gathers-all, length-enumerate_from, length-map)

-- the picture of samples
pub ruleset given = (common_steps, err_from_is_err_and, picture-lacks, picture-made, picture-given)

-- refusals that are passed on
pub ruleset refused = (common_steps, err_from_is_err_and)

-- the start of a stream
pub ruleset starts = (
  common_steps,
  sound-nothing,
  nothing-framed,
  err_from_is_err_and,
  told-err,
  turns-no_start,
)

unfoldable pub headers : ⊤
unfolding header_at told_by_turns nothing_found segments_at
headers = tt

unfoldable pub found_planes : ⊤
unfolding planes_of planes_within
found_planes = tt

-- bytes of samples
pub ruleset sampled_bytes = (common_steps, bytes-more, bytes-none, planes-more)

-- planes at their own size
pub ruleset owned = (common_steps, owned-all, owned-none, owned-more, owned-there)

unfoldable pub nothing : ⊤
unfolding nothing_found nothing_said
nothing = tt

unfoldable pub turns : ⊤
unfolding turn_at segment_at
turns = tt

-- pictures of what is found
unfoldable pub sampled : ⊤
unfolding samples_picture
sampled = tt

unfoldable pub pictures : ⊤
unfolding picture_of limited
pictures = tt

unfoldable pub block_planes : ⊤
unfolding plane_by plane_of_blocks
block_planes = tt

-- blocks of a scan that are put
unfoldable pub puts : ⊤
unfolding put_arrays
puts = tt

-- blocks of which the first are stored
pub ruleset stored = (common_steps, all-stored-long, filled-seen)

-- sampling factors that are refused
pub ruleset ratios = (err_from_is_err_and, ratios_refused)

-- parts of a profile
pub ruleset parts = (list_all-map)

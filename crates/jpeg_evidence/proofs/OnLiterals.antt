-- What a law unfolds to compute its definitions on literals.
use Rattle.std.specs.Prelude.{⊤}
use Rattle.jpeg_lossless.specs.Prediction.{first_line, line_below, line_rest, residue}
use Rattle.jpeg_pixels.specs.Colour.{blue_of, colour_of, conversion_of, green_of, red_of}
use Rattle.jpeg_pixels.specs.Pictures.{is_blended}
use Rattle.jpeg_pixels.specs.Samples.{basis}
use Rattle.jpeg_pixels.specs.Upsampling.{rule_of}
use Rattle.jpeg_segments.specs.Frame.{component_of, frame_of}
use Rattle.jpeg_segments.specs.Scales.{component_at, frame_at}
use Rattle.jpeg_meaning.specs.ColourChoice.{by_identifiers, transform_of}
use Rattle.jpeg_meaning.proofs.OnLiterals.{samples_on_literals, streams_on_literals}
use Rattle.jpeg_lossless.specs.RowsReached.{rows_reached}
use Rattle.jpeg_meaning.specs.Brought.{blocks_brought, blocks_brought_by, interval_reached, interval_rows_reached}
use Rattle.jpeg_meaning.specs.Brought.{intervals_reached, reached_from, samples_brought, samples_brought_by}
use Rattle.jpeg_meaning.specs.Brought.{scan_brought, scan_rows_reached}
use Rattle.jpeg_meaning.specs.InTurn.{turn_from}
use Rattle.jpeg_meaning.specs.Limits.{exceeded_by, work_of, work_of_walk, work_within}
use Rattle.jpeg_meaning.specs.Profile.{profile_of}
use Rattle.jpeg_meaning.specs.Shown.{completed, fault_shown, picture_shown, shown_of, shown_rest_within, shown_within}
use Rattle.jpeg_meaning.specs.Shown.{whole_rows_rest, whole_rows_within, with_plane_shown, with_samples_shown}
use Rattle.jpeg_meaning.specs.WrittenPlanes.{planes_of_blocks, planes_of_samples}
use Rattle.jpeg_evidence.specs.Cosines.{cosine, is_entry, are_entries}
use Rattle.jpeg_evidence.specs.Limits.{work_done}

unfoldable pub files_on_literals : ⊤
unfolding streams_on_literals samples_on_literals
files_on_literals = tt

unfoldable pub matrix_on_literals : ⊤
unfolding basis cosine is_entry are_entries
matrix_on_literals = tt

unfoldable pub sizes_on_literals : ⊤
unfolding component_of frame_of component_at frame_at
sizes_on_literals = tt

unfoldable pub choices_on_literals : ⊤
unfolding by_identifiers transform_of conversion_of
choices_on_literals = tt

unfoldable pub pixels_on_literals : ⊤
unfolding red_of green_of blue_of colour_of
pixels_on_literals = tt

unfoldable pub predictions_on_literals : ⊤
unfolding residue first_line line_rest line_below
predictions_on_literals = tt

unfoldable pub profiles_on_literals : ⊤
unfolding streams_on_literals profile_of
profiles_on_literals = tt

unfoldable pub planes_on_literals : ⊤
unfolding streams_on_literals samples_on_literals planes_of_blocks planes_of_samples
planes_on_literals = tt

unfoldable pub cuts_on_literals : ⊤
unfolding streams_on_literals samples_on_literals blocks_brought blocks_brought_by interval_reached
    interval_rows_reached intervals_reached reached_from rows_reached samples_brought samples_brought_by scan_brought
    scan_rows_reached turn_from completed fault_shown picture_shown shown_within shown_of shown_rest_within
    with_plane_shown with_samples_shown
cuts_on_literals = tt

unfoldable pub rows_on_literals : ⊤
unfolding cuts_on_literals whole_rows_rest whole_rows_within is_blended rule_of
rows_on_literals = tt

unfoldable pub limits_on_literals : ⊤
unfolding rows_on_literals work_of work_of_walk work_within work_done exceeded_by
limits_on_literals = tt

unfoldable pub blended_on_literals : ⊤
unfolding component_of frame_of is_blended rule_of
blended_on_literals = tt

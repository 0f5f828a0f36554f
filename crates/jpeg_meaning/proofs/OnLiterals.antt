-- What is unfolded to compute the definitions of streams on a literal: those of any stream, and of lossless ones.
use Rattle.std.specs.Prelude.{⊤}
use Rattle.std.specs.Int.{int_wrap}
use Rattle.jpeg_bits.specs.Bands.{difference, first_ac, first_dc, token_at, token_from}
use Rattle.jpeg_bits.specs.Codes.{begins, code_from, code_in, code_value, codes_exist, lengths_from, symbol_from}
use Rattle.jpeg_bits.specs.Entropy.{bits_from, ending_at, extended, text_at}
use Rattle.jpeg_bits.specs.Intervals.{after_bytes, end_after, groups, interval, intervals}
use Rattle.jpeg_bits.specs.Marker.{marker_of, next_marker}
use Rattle.jpeg_bits.specs.Passes.{band_part, block_from, blocks_of, dc_part, zero_block}
use Rattle.jpeg_bits.specs.Readers.{each, signed_from}
use Rattle.jpeg_bits.specs.Reading.{length_at, next_u16, skip_at, times}
use Rattle.jpeg_bits.specs.Refinement.{corrected, refined_ac, refined_piece, through_zero, with_last}
use Rattle.jpeg_bits.specs.Zigzag.{coefficients_in_block_order, values_in_block_order, zigzag_indices}
use Rattle.jpeg_pixels.specs.Colour.{blue_of, colour_of, conversion_of, green_of, line_bytes, red_of}
use Rattle.jpeg_pixels.specs.Pictures.{image_of, lines_of, converted_picture, picture_line, source_of}
use Rattle.jpeg_pixels.specs.Planes.{cropped, plane_of}
use Rattle.jpeg_pixels.specs.Samples.{basis, column_value, dequantized, is_flat_column, sample, transformed}
use Rattle.jpeg_pixels.specs.Scaled.{column_of_4, even_part, odd_part, sample_at, sample_of_1, sample_of_2, sample_of_4}
use Rattle.jpeg_pixels.specs.Upsampling.{rule_of, upsampled}
use Rattle.jpeg_segments.specs.Application.{adobe_at, app_at, application_by, com_at, dri_at}
use Rattle.jpeg_segments.specs.Checks.{gathered}
use Rattle.jpeg_segments.specs.Frame.{component_of, components_from, factors_at, frame_of, size_at, sof_at}
use Rattle.jpeg_segments.specs.Scales.{component_at, frame_at, scale_for}
use Rattle.jpeg_segments.specs.ScanHeader.{band_at, count_at, scan_of, selector_at, selectors_from, sos_at}
use Rattle.jpeg_meaning.specs.ColourChoice.{by_identifiers, transform_of}
use Rattle.jpeg_meaning.specs.Found.{nothing_found, nothing_said}
use Rattle.jpeg_meaning.specs.FoundPictures.{blocks_picture, picture_by, picture_of, plane_at_end, limited}
use Rattle.jpeg_meaning.specs.FoundPictures.{samples_picture}
use Rattle.jpeg_meaning.specs.FoundPlanes.{blocks_planes, own_planes, planes_of, planes_within, samples_planes}
use Rattle.jpeg_meaning.specs.Rasters.{plane_by, plane_of_blocks}
use Rattle.jpeg_meaning.specs.Order.{all_spots, mcu_size, mcu_spots, own_spots, part_spots, spots_of}
use Rattle.jpeg_meaning.specs.ScanSegments.{after_restarts, after_scan, arrays_before, blocks_scan, codings_of}
use Rattle.jpeg_meaning.specs.ScanSegments.{component_coding, finished_by, pass_of, put_arrays, scan_arrays}
use Rattle.jpeg_meaning.specs.ScanSegments.{scan_segment, tables_of, vias_from, with_arrays, with_blocks, with_plane}
use Rattle.jpeg_meaning.specs.ScanSegments.{lossless_scan}
use Rattle.jpeg_meaning.specs.Scans.{arrays_at, put_blocks, turns_of, zero_arrays}
use Rattle.jpeg_meaning.specs.Segments.{accepted, frame_segment, updated}
use Rattle.jpeg_meaning.specs.Work.{blocks_coded, components_at, samples_coded, work_of_header, work_of_turn}
use Rattle.jpeg_meaning.specs.Stream.{brought_after, end_segment, header_at, segment_at, segments_at}
use Rattle.jpeg_meaning.specs.Stream.{scan_turn_at, start_at, turn_at, walk, rest_showing, meaning_showing, sized_showing, scaled_showing}
use Rattle.jpeg_segments.specs.HuffmanTables as tables
use Rattle.jpeg_segments.specs.Quantization as quantization
use Rattle.jpeg_lossless.specs.Differences as differences
use Rattle.jpeg_lossless.specs.Pictures as pictures
use Rattle.jpeg_lossless.specs.Prediction as prediction
use Rattle.jpeg_lossless.specs.Scans as scans
use Rattle.jpeg_segments.specs.ScanHeaders.{scan_payload}
use Rattle.jpeg_segments.specs.WrittenSegments.{frame_payload, huffman_bytes}
use Rattle.jpeg_meaning.specs.LosslessScans.{lossless_coding, lossless_codings, mcus_across, mcus_down, parts_of}
use Rattle.jpeg_meaning.specs.LosslessScans.{with_samples}

unfoldable pub streams_on_literals : ⊤
unfolding planes_of planes_within blocks_planes own_planes accepted adobe_at after_bytes after_restarts after_scan all_spots app_at application_by arrays_at
    arrays_before band_at band_part basis begins bits_from block_from blocks_of blocks_picture
    blocks_scan blue_of by_identifiers code_from code_in code_value codes_exist
    codings_of coefficients_in_block_order colour_of column_of_4 column_value com_at component_at
    brought_after component_coding component_of components_from conversion_of converted_picture corrected count_at
    cropped dc_part dequantized difference dri_at each end_after end_segment ending_at even_part extended
    factors_at finished_by first_ac first_dc frame_at frame_of frame_segment gathered green_of
    groups header_at image_of int_wrap interval intervals is_flat_column length_at lengths_from
    limited line_bytes lines_of marker_of mcu_size mcu_spots meaning_showing next_marker next_u16
    nothing_found nothing_said odd_part own_spots part_spots pass_of picture_by picture_line picture_of
    plane_at_end plane_by plane_of plane_of_blocks put_arrays put_blocks
    quantization.defined_table_at quantization.dqt_at quantization.quantization_from
    tables.defined_codes_at tables.dht_at red_of refined_ac refined_piece rest_showing rule_of sample
    sample_at sample_of_1 sample_of_2 sample_of_4 scale_for scaled_showing scan_arrays scan_of scan_segment scan_turn_at
    segment_at segments_at selector_at selectors_from signed_from size_at sized_showing skip_at
    sof_at sos_at source_of spots_of start_at symbol_from tables.tables_from tables_of text_at through_zero times token_at token_from transform_of transformed turn_at turns_of updated
    upsampled quantization.value_at values_in_block_order vias_from walk with_arrays with_blocks
    with_last with_plane zero_arrays zero_block zigzag_indices
    blocks_coded components_at samples_coded work_of_header work_of_turn
streams_on_literals = tt

unfoldable pub samples_on_literals : ⊤
unfolding each prediction.first_line frame_payload huffman_bytes differences.interval_rows
    prediction.line_below prediction.line_rest prediction.lines_below differences.lines_in
    lossless_coding lossless_codings pictures.lossless_picture lossless_scan differences.mcu_tables
    mcus_across mcus_down parts_of pictures.picture_by_samples pictures.pixel_of prediction.residue
    differences.row_tables differences.sample_difference samples_picture differences.strand
    differences.strands
    scan_payload samples_planes scans.lines_by_component scans.planes_of scans.scan_at with_samples
samples_on_literals = tt

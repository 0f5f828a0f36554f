-- What a law unfolds to compute the definitions of a scan on literals.
use Rattle.std.specs.Prelude.{⊤}
use Rattle.jpeg_bits.specs.Marker.{marker_of}
use Rattle.jpeg_bits.specs.Entropy.{ending_at, text_at, bits_from, extended}
use Rattle.jpeg_bits.specs.Readers.{signed_from, each}
use Rattle.jpeg_bits.specs.Codes.{lengths_from, code_value, begins, code_from, code_in, symbol_from}
use Rattle.jpeg_lossless.specs.Prediction.{residue, first_line, line_rest, line_below, lines_below}
use Rattle.jpeg_bits.specs.Intervals.{after_bytes, end_after, groups, interval, intervals}
use Rattle.jpeg_lossless.specs.Differences.{sample_difference, mcu_tables, row_tables, interval_rows}
use Rattle.jpeg_lossless.specs.Differences.{strand, strands, lines_in}
use Rattle.jpeg_lossless.specs.Scans.{lines_by_component, planes_of, scan_at}
use Rattle.jpeg_lossless.specs.Pictures.{sample_picture}

unfoldable pub scans_on_literals : ⊤
unfolding marker_of ending_at text_at after_bytes end_after bits_from extended signed_from lengths_from
    code_value begins code_from code_in symbol_from residue first_line line_rest line_below
    lines_below sample_difference each mcu_tables row_tables interval_rows groups interval
    intervals strand strands lines_in lines_by_component planes_of scan_at sample_picture
scans_on_literals = tt

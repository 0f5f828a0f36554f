-- Lemmas that the proofs of functions use, and definitions that they unfold, by what they are about.
use Rattle.std.specs.Prelude.{⊤}
use Rattle.jpeg_segments.specs.Parts.{table_in_destination_at}
use Rattle.jpeg_segments.specs.Quantization.{dqt_at, value_at}
use Rattle.jpeg_segments.proofs.FrameLemmas.{frame_rules}
use Rattle.jpeg_segments.proofs.HuffmanLemmas.{all_ac_set, huffman_steps}
use Rattle.jpeg_segments.proofs.PartsOfSegments.{parts}
use Rattle.jpeg_segments.proofs.QuantizationLemmas.{table_steps, value_widths}
use Rattle.jpeg_segments.proofs.ScaleLemmas.{frames_are_sized}
use Rattle.jpeg_segments.proofs.ScanLemmas.{mcu_of_blocks}

-- frames
pub ruleset frames = (frame_rules)

pub ruleset sized_frames = (frames_are_sized, parts)

-- Huffman tables
pub ruleset huffman = (huffman_steps)

pub ruleset classes = (all_ac_set)

unfoldable pub destinations : ⊤
unfolding table_in_destination_at
destinations = tt

-- the MCU of a scan
pub ruleset mcus = (mcu_of_blocks)

-- quantization tables
pub ruleset tables = (table_steps)

unfoldable pub tables_read : ⊤
unfolding dqt_at
tables_read = tt

-- their values, of 8 or 16 bits
pub ruleset values = (value_widths)

unfoldable pub widths : ⊤
unfolding value_at
widths = tt

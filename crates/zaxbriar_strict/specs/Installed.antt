-- The tables that are installed, in the words of a writer (T.81, B.2.4).
use Rattle.std.specs.Prelude.{◌≡◌, ℕ, List, Option, drop, flat_map, map, option_map, take}
use Rattle.std.specs.List.{AllByRecursion}
use Rattle.jpeg_bits.specs.Codes.{Table}
use Rattle.jpeg_bits.specs.declared.huffman.codes.HuffmanTableClass.{HuffmanTableClass}
use Rattle.jpeg_bits.specs.declared.huffman.codes.HuffmanTableClass.TheVariants.{AC, DC}
use Rattle.jpeg_meaning.specs.Segments.{updated, with_huffman}
use Rattle.jpeg_segments.specs.HuffmanTables.{DefinedTable, greatest_destination}
use Rattle.jpeg_segments.specs.HuffmanTables.{Tables as CodeTables}
use Rattle.jpeg_segments.specs.WrittenSegments.{IsHuffmanTable, IsQuantizationTable}
use Rattle.jpeg_segments.specs.WrittenSegments.{QuantizationTable, huffman_bytes}
use Rattle.jpeg_segments.specs.WrittenSegments.{huffman_tables, quantization_bytes}
use Rattle.jpeg_segments.specs.WrittenSegments.{quantization_tables}
use Rattle.zaxbriar_strict.specs.Heads.{is_baseline_of}
use Rattle.zaxbriar_strict.specs.Tables.{codes_in}
use Rattle.zaxbriar_strict.specs.declared.frame.Frame.{Frame}
use Rattle.zaxbriar_strict.specs.declared.tables.Tables.{Tables}

-- the quantization tables by their destinations, in zigzag order
abbrev pub steps_of : Tables → List (Option (List ℕ))
steps_of t = map (option_map (λ s. s.steps)) t.steps

-- the Huffman tables by their classes and destinations
abbrev pub codes_of : Tables → CodeTables
codes_of t = record {
  dc = map (option_map (codes_in DC)) (take 4 t.codes.items);
  ac = map (option_map (codes_in AC)) (drop 4 t.codes.items);
}

-- those of a class
abbrev pub tables_of_class : HuffmanTableClass → CodeTables → List (Option Table)
tables_of_class DC t = t.dc
tables_of_class AC t = t.ac

-- The bytes of a DQT segment after its length define tables, which are installed.
pub record InstallsSteps (bytes : List ℕ) (old new : Tables) : Type 0 where
  pub tables : List QuantizationTable
  pub legal : AllByRecursion IsQuantizationTable tables
  pub are : bytes ≡ flat_map quantization_bytes tables
  pub installed : steps_of new ≡ updated (steps_of old) (quantization_tables tables)
  pub codes : codes_of new ≡ codes_of old
  pub interval : new.interval ≡ old.interval

-- The bytes of a DHT segment after its length define tables, which are installed; in a baseline
-- frame at destinations 0 and 1 alone.
pub record InstallsCodes (frame : Option Frame) (bytes : List ℕ) (old new : Tables) : Type 0 where
  pub tables : List DefinedTable
  pub legal : AllByRecursion
      (IsHuffmanTable (greatest_destination (option_map is_baseline_of frame))) tables
  pub are : bytes ≡ flat_map huffman_bytes tables
  pub installed : codes_of new ≡ with_huffman (codes_of old) (huffman_tables tables)
  pub steps : steps_of new ≡ steps_of old
  pub interval : new.interval ≡ old.interval

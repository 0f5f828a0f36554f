-- The tables that segments give, in the words of a writer.
use Rattle.std.specs.Prelude.{◌≡◌, ℕ, ◌≤◌, ◌++◌, List, sum, take}
use Rattle.jpeg_bits.specs.Codes.{Table}
use Rattle.jpeg_bits.specs.declared.huffman.codes.HuffmanTableClass.{HuffmanTableClass}
use Rattle.jpeg_segments.specs.HuffmanTables.{DefinedTable, class_of}
use Rattle.jpeg_segments.specs.WrittenSegments.{huffman_bytes, IsHuffmanTable}
use Rattle.zaxbriar_strict.specs.declared.huffman.HuffmanTable.{HuffmanTable}

-- the codes of a table, as one of this class
abbrev pub codes_in : HuffmanTableClass → HuffmanTable → Table
codes_in class t =
    record { class = class; counts = t.counts; symbols = take (sum t.counts) t.symbols }

-- a table of a class and a destination, given by their numbers
abbrev pub defined_by : ℕ → ℕ → HuffmanTable → DefinedTable
defined_by class destination t =
    record { destination = destination; table = codes_in (class_of class) t }

-- Bytes that begin with a table (B.2.4.2), and these others.
pub record TakesCodes (class destination : ℕ) (t : HuffmanTable) (bytes rest : List ℕ)
    : Type 0 where
  pub classed : class ≤ 1
  pub legal : IsHuffmanTable 3 (defined_by class destination t)
  pub parts : bytes ≡ huffman_bytes (defined_by class destination t) ++ rest

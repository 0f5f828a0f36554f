-- Frames, tables and segments for laws on what a scan finds (T.81, B.2.3).
use Rattle.std.specs.Prelude.{ℕ, List, [], ◌∷◌, map, replicate, true, Option, Some, None, Result}
use Rattle.std.specs.Prelude.{Ok}
use Rattle.jpeg_bits.specs.Codes.{Table}
use Rattle.jpeg_bits.specs.Reading.{Fault, ◌>>=◌}
use Rattle.jpeg_bits.specs.declared.huffman.codes.HuffmanTableClass.{HuffmanTableClass}
use Rattle.jpeg_bits.specs.declared.huffman.codes.HuffmanTableClass.TheVariants.{DC, AC}
use Rattle.jpeg_segments.specs.Application.{Chunk}
use Rattle.jpeg_segments.specs.Frame.{Factors, Frame, frame_of}
use Rattle.jpeg_segments.specs.HuffmanTables.{no_tables}
use Rattle.jpeg_segments.specs.ScanHeader.{Selector}
use Rattle.jpeg_meaning.specs.Found.{Said, nothing_said, no_metadata}
use Rattle.jpeg_meaning.specs.ScanSegments.{Coding}

-- tables with one symbol
abbrev pub one_symbol : HuffmanTableClass → ℕ → Table
one_symbol class n = record { class = class; counts = 1 ∷ replicate 15 0; symbols = n ∷ [] }

abbrev pub factors_with : ℕ → ℕ → ℕ → ℕ → Factors
factors_with identifier across down quantization = record {
  identifier = identifier;
  horizontal = across;
  vertical = down;
  quantization = quantization;
}

-- four components with ten blocks in an MCU, each by another quantization table
abbrev pub frame_of_ten : Frame
frame_of_ten = frame_of 1 8 16 16
    (factors_with 1 2 2 3 ∷ factors_with 2 1 1 2 ∷ factors_with 3 1 1 1 ∷ factors_with 4 2 2 0 ∷ [])

abbrev pub progressive_one : Frame
progressive_one = frame_of 2 8 8 8 (factors_with 1 1 1 0 ∷ [])

abbrev pub baseline_one : Frame
baseline_one = frame_of 0 8 8 8 (factors_with 1 1 1 0 ∷ [])

-- some tables of each kind are there
abbrev pub said_with : Frame → List (Option Table) → List (Option Table) → Said
said_with frame dc ac = record nothing_said {
  frame = Some frame;
  quantization = Some (10 ∷ []) ∷ Some (11 ∷ []) ∷ Some (12 ∷ []) ∷ Some (13 ∷ []) ∷ [];
  huffman = record { dc = dc; ac = ac };
}

abbrev pub all_said : Frame → Said
all_said frame = said_with frame
    (Some (one_symbol DC 20) ∷ Some (one_symbol DC 21) ∷ Some (one_symbol DC 22)
    ∷ Some (one_symbol DC 23) ∷ [])
    (Some (one_symbol AC 30) ∷ Some (one_symbol AC 31) ∷ Some (one_symbol AC 32)
    ∷ Some (one_symbol AC 33) ∷ [])

abbrev pub dc_said : Said
dc_said = said_with progressive_one (Some (one_symbol DC 20) ∷ None ∷ None ∷ None ∷ [])
    (replicate 4 None)

abbrev pub ac_said : Said
ac_said = said_with progressive_one (replicate 4 None)
    (Some (one_symbol AC 30) ∷ None ∷ None ∷ None ∷ [])

abbrev pub mjpeg_said : Frame → Said
mjpeg_said frame =
    record (all_said frame) { huffman = no_tables; metadata = record no_metadata { avi1 = true } }

abbrev pub selector : ℕ → ℕ → ℕ → Selector
selector component dc ac = record { component = component; dc = dc; ac = ac }

-- Td goes down as Ta goes up
abbrev pub four_selectors : List Selector
four_selectors = selector 0 3 0 ∷ selector 1 2 1 ∷ selector 2 1 2 ∷ selector 3 0 3 ∷ []

-- the index, the quantization table and the symbols of each component
abbrev pub named : Result (List Coding) Fault → Result (List (ℕ × List ℕ × List ℕ × List ℕ)) Fault
named codings =
    codings >>= (λ cs. Ok (map (λ c. (c.index, c.quantization, c.dc.symbols, c.ac.symbols)) cs))

-- a part of an ICC profile with its number twice as its bytes
abbrev pub part_of_profile : ℕ → ℕ → Chunk
part_of_profile number count =
    record { number = number; count = count; bytes = number ∷ number ∷ [] }

-- Parts of headers and of bits, for the laws.
use Rattle.std.specs.Prelude.{ℕ, List, [], ◌∷◌, ◌++◌, codes, replicate, Bool, true, false}
use Rattle.jpeg_bits.specs.Codes.{Table}
use Rattle.jpeg_bits.specs.Entropy.{Broken, Text}
use Rattle.jpeg_bits.specs.Reading.{End}
use Rattle.jpeg_bits.specs.Readers.{text}
use Rattle.jpeg_bits.specs.declared.huffman.codes.HuffmanTableClass.TheVariants.{AC}
use Rattle.jpeg_segments.specs.Frame.{Frame, frame_of}
use Rattle.jpeg_meaning.specs.Worked.{factors_by}

-- the numbers of the markers SOFn: 4, 8 and 12 are other markers
abbrev pub frame_numbers : List ℕ
frame_numbers =
    0 ∷ 1 ∷ 2 ∷ 3 ∷ 5 ∷ 6 ∷ 7 ∷ 9 ∷ 10 ∷ 11 ∷ 13 ∷ 14 ∷ 15 ∷ []

-- a progressive frame of 8 bits and one component
abbrev pub progressive_grey : Frame
progressive_grey = frame_of 2 8 8 8 (factors_by 1 1 ∷ [])

-- An Adobe segment after its marker: the version, two flags of two bytes each, and the transform.
abbrev pub adobe_segment : ℕ → List ℕ
adobe_segment transform =
    0 ∷ 14 ∷ (codes "Adobe" ++ 0 ∷ 100 ∷ 128 ∷ 0 ∷ 0 ∷ 0 ∷ transform ∷ [])

-- some bits that are the last
abbrev pub last_bits : List Bool → Text
last_bits bits = text bits [] (Broken End)

abbrev pub ones : ℕ → Text
ones n = last_bits (replicate n true)

-- a table with the codes 0 of symbol F0 and 10 of symbol 01
abbrev pub table_of_f0 : Table
table_of_f0 = record { class = AC; counts = 1 ∷ 1 ∷ replicate 14 0; symbols = 240 ∷ 1 ∷ [] }

-- a code of symbol F0, one of symbol 01, and a bit that makes its number 1
abbrev pub f0_and_one : Text
f0_and_one = last_bits (false ∷ true ∷ false ∷ true ∷ [])

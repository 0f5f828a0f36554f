-- What is known after a segment that was written.
use Rattle.std.specs.Prelude.{◌⊎◌, ◌≤◌, Some}
use Rattle.jpeg_segments.specs.WrittenSegments.{Application, Comment, application_parts}
use Rattle.jpeg_segments.specs.WrittenSegments.{frame_written}
use Rattle.jpeg_segments.specs.WrittenSegments.{Header, Huffman, huffman_tables, Interval, MayStand}
use Rattle.jpeg_segments.specs.WrittenSegments.{Quantization, quantization_tables, Segment}
use Rattle.jpeg_meaning.specs.AcceptedFrames.{HasPicture, HasSamples}
use Rattle.jpeg_meaning.specs.Segments.{updated, with_application, with_huffman}
use Rattle.jpeg_meaning.specs.Found.{Said}

-- A header of a frame that is decoded: one of SOF0, SOF1 or SOF2 that has a picture, or a lossless
-- one that has samples.
abbrev pub IsDecoded : Segment → Type 0
IsDecoded (Header number h) = ((number ≤ 2) × HasPicture h) ⊎ HasSamples number h
IsDecoded _ = Unit {0}

-- The segment keeps its rules where so much is known.
abbrev pub Stands : Said → Segment → Type 0
Stands said s = MayStand said.frame s × IsDecoded s

-- What is said after it: tables take the places of earlier ones (B.2.4).
abbrev pub said_after : Said → Segment → Said
said_after said (Quantization ts) =
    record said { quantization = updated said.quantization (quantization_tables ts) }
said_after said (Huffman ts) =
    record said { huffman = with_huffman said.huffman (huffman_tables ts) }
said_after said (Interval n) = record said { restart = n }
said_after said (Application d) =
    record said { metadata = with_application said.metadata (application_parts d).2 }
said_after said (Comment payload) = said
said_after said (Header number h) = record said { frame = Some (frame_written number h) }

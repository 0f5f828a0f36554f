-- Lossless streams that are worked by hand, each of three components in two scans with a restart
-- after each row of MCUs: one without padding, and one with.
use Rattle.std.specs.Prelude.{ℕ, suc, zero, List, [], ◌∷◌, ◌++◌}
use Rattle.jpeg_segments.specs.Frame.{Factors}
use Rattle.jpeg_segments.specs.ScanHeader.{Selector}
use Rattle.jpeg_segments.specs.ScanHeaders.{scan_payload, ScanHeader}
use Rattle.jpeg_segments.specs.WrittenSegments.{FrameHeader, Header, Huffman, Interval, payload_of}
use Rattle.jpeg_segments.specs.WrittenSegments.{Segment, with_length}
use Rattle.jpeg_lossless.specs.Worked.{small_table}
use Rattle.jpeg_bits.specs.Written.{marker}
use Rattle.jpeg_meaning.specs.Found.{Said}
use Rattle.jpeg_meaning.specs.WrittenLossless.{Samples, WritesSamples}

-- ---- factors of 1

-- two lines of two samples of each component
unfoldable pub three_samples : Samples
three_samples zero = (129 ∷ 129 ∷ []) ∷ (128 ∷ 128 ∷ []) ∷ []
three_samples (suc zero) = (128 ∷ 128 ∷ []) ∷ (129 ∷ 128 ∷ []) ∷ []
three_samples (suc (suc k)) = (128 ∷ 129 ∷ []) ∷ (128 ∷ 128 ∷ []) ∷ []

-- a component with factors of 1
abbrev pub plain_factors : ℕ → Factors
plain_factors identifier =
    record { identifier = identifier; horizontal = 1; vertical = 1; quantization = 0 }

abbrev pub three_header : FrameHeader
three_header = record {
  precision = 8;
  width = 2;
  height = 2;
  components = plain_factors 1 ∷ plain_factors 2 ∷ plain_factors 3 ∷ [];
}

abbrev pub choice : ℕ → ℕ → ℕ × Selector
choice identifier component = (identifier, record { component = component; dc = 0; ac = 0 })

-- a scan of some components by a selection
abbrev pub samples_scan : List (ℕ × Selector) → ℕ → ScanHeader
samples_scan choices selection =
    record { choices = choices; first = selection; last = 0; high = 0; low = 0 }

abbrev pub third_scan : ScanHeader
third_scan = samples_scan (choice 3 2 ∷ []) 7

abbrev pub other_scan : ScanHeader
other_scan = samples_scan (choice 1 0 ∷ choice 2 1 ∷ []) 1

abbrev pub table_segment : Segment
table_segment = Huffman (record { destination = 0; table = small_table } ∷ [])

-- the third component: 0 101, a restart, 0 0, each filled up with ones
abbrev pub third_data : List ℕ
third_data = (0x5F ∷ []) ++ marker 0 0xD0 (0x3F ∷ [])

-- the others, sample by sample: 101 0 0 0, filled up with ones, a restart, 0 101 0 100
abbrev pub other_data : List ℕ
other_data = (0xA3 ∷ []) ++ marker 0 0xD0 (0x54 ∷ [])

-- SOF3, DHT, DRI after a fill byte, the two scans, and EOI
abbrev pub three_bytes : List ℕ
three_bytes =
    255 ∷ 216 ∷
    marker 0 195 (with_length (payload_of (Header 3 three_header)) ++
    marker 0 196 (with_length (payload_of table_segment) ++
    marker 1 221 (with_length (payload_of (Interval 2)) ++
    marker 0 218 (with_length (scan_payload third_scan) ++ (third_data ++
    marker 0 218 (with_length (scan_payload other_scan) ++ (other_data ++ marker 0 217 [])))))))

-- its picture, of two lines of two pixels
abbrev pub three_picture : List ℕ
three_picture = 129 ∷ 128 ∷ 128 ∷ 129 ∷ 128 ∷ 129 ∷ 128 ∷ 129 ∷ 128 ∷ 128 ∷ 128 ∷ 128 ∷ []

-- ---- factors of 2 and 1: padding

-- Of three lines of three pixels the first component has a sample each, and the others are half as
-- wide and high.
unfoldable pub padded_samples : Samples
padded_samples zero = (129 ∷ 129 ∷ 128 ∷ []) ∷ (128 ∷ 129 ∷ 129 ∷ []) ∷ (128 ∷ 127 ∷ 127 ∷ []) ∷ []
padded_samples (suc zero) = (128 ∷ 129 ∷ []) ∷ (127 ∷ 127 ∷ []) ∷ []
padded_samples (suc (suc k)) = (127 ∷ 127 ∷ []) ∷ (129 ∷ 128 ∷ []) ∷ []

-- a component with factors of 2
abbrev pub twice_factors : ℕ → Factors
twice_factors identifier =
    record { identifier = identifier; horizontal = 2; vertical = 2; quantization = 0 }

abbrev pub padded_header : FrameHeader
padded_header = record {
  precision = 8;
  width = 3;
  height = 3;
  components = twice_factors 1 ∷ plain_factors 2 ∷ plain_factors 3 ∷ [];
}

-- The first two components are in a scan of two rows of two MCUs, where the fourth column and line
-- of the first are padding. The selection is 2: the sample above.
abbrev pub padded_scan : ScanHeader
padded_scan = samples_scan (choice 1 0 ∷ choice 2 1 ∷ []) 2

-- the third component alone, whose MCUs are its own two lines of two samples
abbrev pub lone_scan : ScanHeader
lone_scan = samples_scan (choice 3 2 ∷ []) 1

-- Of the first component, with its padding:
--     129 129 128 127      1  0 -1 -1
--     128 129 129 128     -1  0  1  1
--     128 127 127 127      0 -1  0  0
--     127 128 127 126     -1  1  0 -1
-- and of the second:
--     128 129              0  1
--     127 127             -1  0
-- An MCU has two samples of two lines of the first, and one of the second:
--     101 0 100 0 0  100 100 101 101 101, a restart, 0 100 100 101 100  0 0 0 100 0 and 1111.
abbrev pub padded_data : List ℕ
padded_data = (0xA8 ∷ 0x49 ∷ 0x6D ∷ []) ++ marker 0 0xD0 (0x49 ∷ 0x60 ∷ 0x8F ∷ [])

-- the third component: 100 0, a restart, 101 100, each filled up with ones
abbrev pub lone_data : List ℕ
lone_data = (0x8F ∷ []) ++ marker 0 0xD0 (0xB3 ∷ [])

-- SOF3, DHT, DRI, the two scans, and EOI
abbrev pub padded_bytes : List ℕ
padded_bytes =
    255 ∷ 216 ∷
    marker 0 195 (with_length (payload_of (Header 3 padded_header)) ++
    marker 0 196 (with_length (payload_of table_segment) ++
    marker 0 221 (with_length (payload_of (Interval 2)) ++
    marker 0 218 (with_length (scan_payload padded_scan) ++ (padded_data ++
    marker 0 218 (with_length (scan_payload lone_scan) ++ (lone_data ++ marker 0 217 [])))))))

-- its picture, line by line
abbrev pub padded_picture : List ℕ
padded_picture =
    (129 ∷ 128 ∷ 127 ∷ 129 ∷ 128 ∷ 127 ∷ 128 ∷ 129 ∷ 127 ∷ [])
    ++ ((128 ∷ 128 ∷ 127 ∷ 129 ∷ 128 ∷ 127 ∷ 129 ∷ 129 ∷ 127 ∷ [])
    ++ (128 ∷ 127 ∷ 129 ∷ 127 ∷ 127 ∷ 129 ∷ 127 ∷ 127 ∷ 128 ∷ []))

-- ---- that they are written

-- It is a stream for these samples.
pub record AreWritten (samples : Samples) (bytes : List ℕ) : Type 0 where
  pub final : Said
  pub written : WritesSamples samples bytes final

-- The functions of the code that a segment is read by, each by a definition. What is read of a
-- whole segment is made of these, as proofs/PartsOfSegments says; no public clause speaks of them.
use Rattle.std.specs.Prelude.{◌≡◌, ℕ, ◌+◌, ◌*◌, ◌/◌, ◌%◌, List, Bool, Option, Some, Ok, Err, nat_lt}
use Rattle.std.specs.Prelude.{◌==◌, if◌then◌else◌, sum}
use Rattle.std.specs.List.{list_any}
use Rattle.jpeg_bits.specs.Reading.{Outcome, Malformed, ◌>>=◌, next_byte, length_at, times}
use Rattle.jpeg_bits.specs.Codes.{Table, code_lengths, codes_exist}
use Rattle.jpeg_bits.specs.declared.huffman.codes.HuffmanTableClass.{HuffmanTableClass}
use Rattle.jpeg_segments.specs.declared.scan_header.Selector.{Selector as Read}
use Rattle.jpeg_segments.specs.Application.{Application, application_by}
use Rattle.jpeg_segments.specs.Frame.{Factors, Frame, is_count, is_destination, is_factor}
use Rattle.jpeg_segments.specs.Frame.{is_precision, size_at}
use Rattle.jpeg_segments.specs.HuffmanTables.{DefinedTable, Tables, class_of}
use Rattle.jpeg_segments.specs.HuffmanTables.{greatest_destination, tables_from, with_table}
use Rattle.jpeg_segments.specs.Quantization.{value_at}
use Rattle.jpeg_segments.specs.ScanHeader.{Selector, blocks_by}

-- The sampling factors and the destination of the quantization table, after the identifier.
unfoldable pub parameters_at : Bool → ℕ → List ℕ → Outcome Factors
parameters_at lossless identifier bytes = do
  factors ← next_byte bytes
  if is_factor (factors.0 / 16) then (if is_factor (factors.0 % 16) then (do
    destination ← next_byte factors.1
    if is_destination lossless destination.0
        then Ok (
          record {
            identifier = identifier;
            horizontal = factors.0 / 16;
            vertical = factors.0 % 16;
            quantization = destination.0;
          },
          destination.1,
        )
        else Err Malformed) else Err Malformed) else Err Malformed

pub record Head : Type 0 where
  pub length : ℕ
  pub precision : ℕ
  pub width : ℕ
  pub height : ℕ
  pub count : ℕ

unfoldable pub head_at : ℕ → List ℕ → Outcome Head
head_at number bytes = do
  left ← length_at bytes
  if nat_lt left.0 7 then Err Malformed else (do
    precision ← next_byte left.1
    if is_precision number precision.0 then (do
      size ← size_at precision.1
      count ← next_byte size.1
      if is_count number count.0 then (
          if left.0 == 6 + 3 * count.0
          then Ok (
            record {
              length = left.0;
              precision = precision.0;
              width = size.0.0;
              height = size.0.1;
              count = count.0;
            },
            count.1,
          )
          else Err Malformed) else Err Malformed) else Err Malformed)

-- The destinations Td and Ta of the tables of the component at an index of the frame. In a baseline
-- frame they are 0 or 1.
unfoldable pub destinations_at : Frame → ℕ → List ℕ → Outcome Selector
destinations_at frame index bytes = do
  destinations ← next_byte bytes
  if nat_lt (greatest_destination (Some frame.is_baseline)) (destinations.0 / 16) then Err Malformed
      else (
      if nat_lt (greatest_destination (Some frame.is_baseline)) (destinations.0 % 16)
      then Err Malformed else
      Ok (
        record { component = index; dc = destinations.0 / 16; ac = destinations.0 % 16 },
        destinations.1,
      ))

-- The code keeps the blocks that the component of a selector has in an MCU.
abbrev pub HasBlocks : Frame → Read → Type 0
HasBlocks frame s = s.blocks ≡ blocks_by frame.components s.component

-- The values of a table of these counts, and the table, where codes of these lengths exist.
unfoldable pub symbols_at : HuffmanTableClass → List ℕ → List ℕ → Outcome Table
symbols_at class counts bytes = do
  symbols ← times (sum counts) next_byte bytes
  if codes_exist (code_lengths counts)
      then Ok (record { class = class; counts = counts; symbols = symbols.0 }, symbols.1)
      else Err Malformed

-- the class of a table and its destination
unfoldable pub table_destination_at : ℕ → List ℕ → Outcome (HuffmanTableClass × ℕ)
table_destination_at greatest bytes = do
  b ← next_byte bytes
  if nat_lt 1 (b.0 / 16) then Err Malformed else (
      if nat_lt greatest (b.0 % 16) then Err Malformed
      else Ok ((class_of (b.0 / 16), b.0 % 16), b.1))

-- The size of the next table, and the tables with it in its destination. It has 1 to 256 codes, and
-- no more than bytes of the segment are left.
unfoldable pub table_in_destination_at : ℕ → ℕ → Tables → List ℕ → Outcome (ℕ × Tables)
table_in_destination_at greatest left tables bytes = do
  destination ← table_destination_at greatest bytes
  counts ← times 16 next_byte destination.1
  if sum counts.0 == 0 then Err Malformed else (if nat_lt 256 (sum counts.0) then Err Malformed
      else (
      if nat_lt left (17 + sum counts.0) then Err Malformed else (do
        t ← symbols_at destination.0.0 counts.0 counts.1
        let defined : DefinedTable = record { destination = destination.0.1; table = t.0 } in
            Ok ((17 + sum counts.0, with_table tables defined), t.1))))

-- the tables of a segment, each in place of the one that was in its destination
unfoldable pub dht_onto : Option Bool → Tables → List ℕ → Outcome Tables
dht_onto is_baseline tables bytes = do
  left ← length_at bytes
  tables_from left.0 (greatest_destination is_baseline) left.0 tables left.1

-- 64 elements, none of which is 0
unfoldable pub table_at : Bool → List ℕ → Outcome (List ℕ)
table_at is_wide bytes = do
  values ← times 64 (value_at is_wide) bytes
  if list_any (λ v. v == 0) values.0 then Err Malformed else Ok values

-- what a payload of `left` bytes says, by the number n of the marker APPn
unfoldable pub payload_at : ℕ → ℕ → List ℕ → Outcome (Option Application)
payload_at number left bytes = do
  payload ← times left next_byte bytes
  Ok (application_by number payload.0, payload.1)

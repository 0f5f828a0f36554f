-- Streams of a writer that are cut: what stands whole in front of the cut, and what is brought of
-- the scan in whose data the cut is.
use Rattle.std.specs.Prelude.{◌≡◌, ℕ, ◌/◌, ◌%◌, true, List, [], ◌∷◌, ◌++◌, length, get_or}
use Rattle.std.specs.Prelude.{slice_get, Some, None, Result, Ok, replicate, slice_index_or}
use Rattle.std.specs.Prelude.{unwrap_or}
use Rattle.std.specs.List.{enumerate_from}
use Rattle.jpeg_bits.specs.Passes.{zero_block}
use Rattle.jpeg_bits.specs.Reading.{Fault, ◌>>=◌}
use Rattle.jpeg_bits.specs.Written.{marker}
use Rattle.jpeg_segments.specs.Checks.{gathered}
use Rattle.jpeg_segments.specs.Frame.{Component, Frame}
use Rattle.jpeg_segments.specs.ScanHeader.{Scan}
use Rattle.jpeg_segments.specs.ScanHeaders.{IsScan, ScanHeader, scan_payload, scan_written}
use Rattle.jpeg_segments.specs.WrittenSegments.{Segment, marker_code, payload_of, with_length}
use Rattle.jpeg_meaning.specs.declared.settings.Settings.{Settings}
use Rattle.jpeg_meaning.specs.Found.{Found, Said, nothing_said}
use Rattle.jpeg_meaning.specs.FoundPictures.{limited, picture_by}
use Rattle.jpeg_meaning.specs.InTurn.{IsIn}
use Rattle.jpeg_meaning.specs.Levels.{Levels, cut, nothing_sent, sent_after}
use Rattle.jpeg_meaning.specs.Order.{Spot, grid_of, spots_of}
use Rattle.jpeg_meaning.specs.Rasters.{plane_of_blocks}
use Rattle.jpeg_meaning.specs.SaidSegments.{Stands}
use Rattle.jpeg_meaning.specs.Scans.{Arrays, block_at}
use Rattle.jpeg_meaning.specs.ScanSegments.{Coding, after_scan, arrays_before, components_of}
use Rattle.jpeg_meaning.specs.ScanSegments.{is_progressive, pass_of}
use Rattle.jpeg_meaning.specs.WholeRows.{rows_above}
use Rattle.jpeg_meaning.specs.WrittenImages.{ClosesImage, MayStandInImage, WritesImageScan}
use Rattle.jpeg_meaning.specs.WrittenScans.{Coefficients, IsOwn}
use Rattle.jpeg_meaning.specs.WrittenStreams.{Writes}
use Rattle.jpeg_evidence.specs.FirstBlocks.{StandWhole}
use Rattle.jpeg_meaning.specs.LongerStreams.{IsMost}

-- Segments and scans of an image that are whole, without an end: what they say, and the levels
-- after them.
abbrev pub WritesFront : Coefficients → Said → (ℕ → Levels) → List ℕ → Type 0
WritesFront array said levels bytes =
    Writes MayStandInImage (WritesImageScan array) (λ said sent left. left ≡ []) nothing_said
    (λ k. nothing_sent) bytes said levels

-- A progressive frame keeps the own blocks of each component between scans: those of the array, cut
-- at these levels.
pub record KeepsOwn (array : Coefficients) (levels : ℕ → Levels) (frame : Frame) (found : Found)
    : Type 0 where
  pub kept : is_progressive frame.process ≡ true → (k : ℕ) (c : Component) (index : ℕ)
      → slice_get frame.components k ≡ Some c → IsOwn (grid_of c) index
      → get_or (get_or (arrays_before found frame) k []) index zero_block
      ≡ cut (levels k) (array k (index / c.blocks_wide) (index % c.blocks_wide))

-- What is found where a stream is cut within the data of a scan, or right after them: as after a
-- scan with blocks of which the first are the array's at the levels after the scan, and the others
-- those at the levels before it. This is said of the blocks that a component has by its own size.
pub record BringsCut (array : Coefficients) (said : Said) (levels : ℕ → Levels) (frame : Frame)
    (scan : Scan) (codings : List Coding) (found : Found) : Type 0 where
  pub before : Found
  pub blocks : Arrays
  pub done : List Spot
  pub others : List Spot
  pub is_said : before.said ≡ said
  pub before_scan : KeepsOwn array levels frame before
  pub brought : found ≡ after_scan before frame scan codings blocks
  pub parts : spots_of frame (components_of codings) ≡ done ++ others
  pub sent : (s : Spot) (k : Coding) → slice_get codings s.slot ≡ Some k
      → IsOwn (grid_of k.component) s.index → IsIn s done
      → block_at blocks s ≡ cut (sent_after (pass_of scan) (levels k.index))
      (array k.index (s.index / k.component.blocks_wide) (s.index % k.component.blocks_wide))
  pub kept : (s : Spot) (k : Coding) → slice_get codings s.slot ≡ Some k
      → IsOwn (grid_of k.component) s.index → (IsIn s done → ⊥)
      → block_at blocks s ≡ cut (levels k.index)
      (array k.index (s.index / k.component.blocks_wide) (s.index % k.component.blocks_wide))

-- What is found where a stream is cut in front of a scan's data: what was said, and of a
-- progressive frame the blocks that are kept.
pub record BringsFront (array : Coefficients) (said : Said) (levels : ℕ → Levels) (found : Found)
    : Type 0 where
  pub is_said : found.said ≡ said
  pub keeps : (frame : Frame) → said.frame ≡ Some frame → KeepsOwn array levels frame found

-- ---- the rows that are complete

-- The rows of the picture above the row of MCUs of the first of these blocks of a scan; all rows
-- where there is no block.
abbrev pub rows_before : Frame → List Component → List Spot → ℕ
rows_before frame components [] = frame.output_height
rows_before frame components (s ∷ others) = rows_above frame components s

-- So many rows of the picture are complete: these, where the image might be closed here, since each
-- component has what its picture is made of; and else none.
pub record HasRows (said : Said) (levels : ℕ → Levels) (these : Frame → ℕ) (rows : ℕ) : Type 0 where
  pub closed : (c : ClosesImage said levels (marker 0 217 [])) → rows ≡ these c.frame
  pub lacking : (ClosesImage said levels (marker 0 217 []) → ⊥) → rows ≡ 0

-- ---- the blocks that a cut stream holds

-- The block of a component, in a row and a column, is at one of these spots of a scan.
pub record HasBlock (codings : List Coding) (spots : List Spot) (index row column : ℕ)
    : Type 0 where
  pub spot : Spot
  pub coding : Coding
  pub is_there : IsIn spot spots
  pub is_coded : slice_get codings spot.slot ≡ Some coding
  pub is_of : coding.index ≡ index
  pub in_row : spot.index / coding.component.blocks_wide ≡ row
  pub in_column : spot.index % coding.component.blocks_wide ≡ column

-- What a cut leaves of the segment that comes next, in front of any data of a scan: bytes FF that
-- begin its marker, or none; its marker, with a part of what it says; or it is EOI, and whole.
pub data IsPartOfNext (said : Said) : List ℕ → Type 0 where
  of_marker : (count : ℕ) → IsPartOfNext said (replicate count 255)
  of_segment : (fill : ℕ) (s : Segment) (part more : List ℕ) → Stands said s
      → with_length (payload_of s) ≡ part ++ more → (more ≡ [] → ⊥)
      → IsPartOfNext said (marker fill (marker_code s) part)
  of_header : (frame : Frame) (fill : ℕ) (h : ScanHeader) (part more : List ℕ)
      → said.frame ≡ Some frame → IsScan frame h
      → with_length (scan_payload h) ≡ part ++ more → (more ≡ [] → ⊥)
      → IsPartOfNext said (marker fill 218 part)
  of_end : (fill : ℕ) → IsPartOfNext said (marker fill 217 [])

-- The blocks of an image that a stream holds which is cut, what it has said, and how many rows of
-- the picture are complete. Its whole segments and scans in front have said and sent so much, and
-- only a part of the next segment comes after them: then all rows are complete. Or a scan comes
-- next that is cut inside its data: then the first of its blocks are there, at the levels after it,
-- those whose data stand whole in these bytes and no more; and the rows above the others are
-- complete.
pub data HoldsCut (array blocks : Coefficients) : List ℕ → Said → ℕ → Type 0 where
  in_segment : (first rest : List ℕ) (said : Said) (levels : ℕ → Levels) (rows : ℕ)
      → WritesFront array said levels first → IsPartOfNext said rest
      → ((index row column : ℕ)
      → blocks index row column ≡ cut (levels index) (array index row column))
      → HasRows said levels (λ frame. frame.output_height) rows
      → HoldsCut array blocks (first ++ rest) said rows
  in_scan : (first : List ℕ) (said : Said) (levels next : ℕ → Levels) (frame : Frame) (fill : ℕ)
      (h : ScanHeader) (data_bytes more : List ℕ) (done others : List Spot) (rows : ℕ)
      → WritesFront array said levels first → said.frame ≡ Some frame → IsScan frame h
      → (scan : WritesImageScan array said levels frame h (data_bytes ++ more) next)
      → (more ≡ [] → ⊥) → spots_of frame (components_of scan.codings) ≡ done ++ others
      → IsMost (λ count. StandWhole frame said.restart (pass_of (scan_written frame h)) scan.codings
      scan.written.sent count data_bytes) (length done)
      → ((index row column : ℕ) → HasBlock scan.codings done index row column
      → blocks index row column ≡ cut (next index) (array index row column))
      → ((index row column : ℕ) → (HasBlock scan.codings done index row column → ⊥)
      → blocks index row column ≡ cut (levels index) (array index row column))
      → HasRows (record said { scanned = true }) next
      (λ frame. rows_before frame (components_of scan.codings) others) rows
      → HoldsCut array blocks
      (first ++ marker fill 218 (with_length (scan_payload h) ++ data_bytes))
      (record said { scanned = true }) rows

-- ---- the picture

-- The picture of an image's blocks, where it is within the limit, also where a component lacks its
-- quantization table: no scan of it came then, and of zeros any table makes the same samples.
unfoldable pub picture_held : Settings → Said → Coefficients → Result (List ℕ) Fault
picture_held settings said blocks = limited settings said (λ frame.
    gathered (λ c. Ok (plane_of_blocks c.1 (unwrap_or
    (slice_index_or said.quantization c.1.factors.quantization None) (replicate 64 1))
    (blocks c.0))) (enumerate_from 0 frame.components)
    >>= (λ planes. picture_by settings said.metadata frame frame.components planes))

-- A scan whose rows of MCUs become lines one by one: what is known of it between two of them.
use Rattle.std.specs.Prelude.{◌≡◌, ◌-◌, ◌<◌, ◌≤◌, ◌++◌, ℕ, List, [], Bool, true, false, map, Option}
use Rattle.std.specs.Prelude.{IfSome, None, Ok, Err, Result, length, option_map, replicate, suc}
use Rattle.std.specs.List.{concat, range_with_len}
use Rattle.jpeg_bits.specs.Entropy.{Ahead, Text, fresh, upcoming}
use Rattle.jpeg_bits.specs.Reading.{Answers, Fault}
use Rattle.jpeg_bits.specs.Stream.{Stream}
use Rattle.jpeg_bits.specs.declared.beyond.Beyond.TheVariants.{Zeros}
use Rattle.jpeg_bits.specs.declared.error.Error.{Error}
use Rattle.jpeg_segments.specs.Frame.{Frame}
use Rattle.jpeg_segments.specs.ScanHeader as headers
use Rattle.jpeg_pixels.specs.Pictures.{Source, sources_of}
use Rattle.jpeg_pixels.specs.declared.color_convert.ColorConvert.{ColorConvert}
use Rattle.jpeg_meaning.specs.Found.{Found}
use Rattle.jpeg_meaning.specs.InTurn.{Counted, counted_at_start}
use Rattle.jpeg_meaning.specs.Limits.{exceeded_rest}
use Rattle.jpeg_bits.specs.declared.color_transform.ColorTransform.{ColorTransform}
use Rattle.jpeg_meaning.specs.Order.{Spot}
use Rattle.jpeg_meaning.specs.Reported.{IsOfTurns, told_in_turns}
use Rattle.jpeg_meaning.specs.ScanSegments.{components_of}
use Rattle.jpeg_meaning.specs.Sound.{IsSound, IsUnread}
use Rattle.jpeg_meaning.specs.States.{Decoding, IsReading, MovesToEnd, OnTold, OnToldRefusal}
use Rattle.jpeg_meaning.specs.Stream.{Told, told_of}
use Rattle.jpeg_meaning.specs.Work.{left_after, work_of_header}
use Rattle.jpeg_meaning.specs.declared.settings.Settings.{Settings}
use Rattle.jpeg_decoder.specs.ByRows.{comes_by_rows, conversion_in, lines_decided, lines_from}
use Rattle.jpeg_decoder.specs.ByRows.{rows_rest, scan_walk, scan_walk_for, shown_at_scan}
use Rattle.jpeg_decoder.specs.ByRows.{transform_said}
use Rattle.jpeg_decoder.specs.Bytes.{HaveLines, Shape, shape_in, shape_of}
use Rattle.jpeg_decoder.specs.DecodesRows.{DecodesRows}
use Rattle.jpeg_decoder.specs.FirstLines.{GivesFirstIf, first_lines, lines_at_scan}
use Rattle.jpeg_decoder.specs.Givers.{GivesLines, IsEndOf, IsReady}
use Rattle.jpeg_decoder.specs.RowsView.{LinesLeft}
use Rattle.jpeg_decoder.specs.Scanning.{BlockScan, counted, scan_vias}
use Rattle.jpeg_decoder.specs.Steps.{IsHeaderOf, IsScanBy, IsSpareOf, header_within}
use Rattle.jpeg_decoder.specs.Strips.{no_samples, strips_from}
use Rattle.jpeg_decoder.specs.Walk.{IsOrderOf, walk_of_row}
use Rattle.jpeg_decoder.specs.Walks.{IsGoing, IsKnownIf, known_if}
use Rattle.jpeg_decoder.specs.declared.by_rows.first_scan.RowScan.{RowScan}
use Rattle.jpeg_decoder.specs.declared.by_rows.giver.RowGiver.{RowGiver}
use Rattle.jpeg_decoder.specs.declared.by_rows.rest.Begun.{Begun}
use Rattle.jpeg_decoder.specs.declared.by_rows.rest.Begun.TheVariants as begun

-- ---- rows of MCUs

-- planes of the first rows of MCUs of a scan
abbrev pub rows_to : BlockScan → ℕ → (ℕ → List Spot) → Counted → ℕ → Text
    → Result (List (List ℕ) × Text) Fault
rows_to s n f start high =
    strips_from s.pass (scan_vias s) n s.codings (map f (range_with_len 0 high))
    (no_samples s.codings) start

-- and those from one on, after planes
abbrev pub rows_on : BlockScan → ℕ → (ℕ → List Spot) → ℕ → ℕ → List (List ℕ) → Counted → Text
    → Result (List (List ℕ) × Text) Fault
rows_on s n f row high planes now = strips_from s.pass (scan_vias s) n s.codings
    (map f (range_with_len row (high - row))) planes now

-- However many rows of MCUs are read, after the first ones the others are left.
abbrev pub HaveLeft : BlockScan → ℕ → (ℕ → List Spot) → Counted → Ahead → Stream → ℕ
    → List (List ℕ) → Counted → Ahead → Stream → Type 0
HaveLeft s n f start a old row planes now b new =
    (high : ℕ) → row ≤ high
    → (new.failed ≡ old.failed) × (old.known ≡ true → (new.known ≡ true)
    × (rows_to s n f start high (upcoming a old.bytes)
    ≡ rows_on s n f row high planes now (upcoming b new.bytes)))

-- So many rows of MCUs of a scan were read from this state of an interval on, these bytes are the
-- lines that they decide, and the rows after them are left.
pub record HasGiven (frame : Frame) (s : BlockScan) (n : ℕ) (f : ℕ → List Spot)
    (convert : ColorConvert) (start : Counted) (a : Ahead) (old : Stream) (row : ℕ) (g : RowGiver)
    (now : Counted) (b : Ahead) (new : Stream) (bytes : List ℕ) : Type 0 where
  pub ready : IsReady frame s.codings convert row g
  pub planes : List (List ℕ)
  pub ends : IsEndOf frame planes g
  pub left : HaveLeft s n f start a old row planes now b new
  pub lines : (sources : List Source)
      → sources_of frame.components frame.output_width frame.output_height ≡ Ok sources
      → bytes ≡ concat (lines_from frame convert sources planes 0 (lines_decided frame row))

-- The same of a scan whose data begin a source.
pub record ReadsRows (found : Found) (frame : Frame) (scan : RowScan) (old new : Stream)
    (bytes : List ℕ) : Type 0 where
  pub s : BlockScan
  pub by : IsScanBy found.said frame scan.header s
  pub order : IsOrderOf frame (components_of s.codings) s.restart_interval scan.order
  pub zeros : scan.interval.beyond ≡ Zeros
  pub within : scan.giver.rows ≤ frame.mcus_high
  pub given : HasGiven frame s scan.order.interval (walk_of_row scan.order) scan.giver.convert
      (counted_at_start scan.order.interval []) fresh old scan.giver.rows scan.giver
      (counted scan.interval []) scan.interval.decoder new bytes

-- how many rows of MCUs are left of a scan, at most: no frame has more than 65535
abbrev pub rows_left : RowScan → ℕ
rows_left scan = 65535 - scan.giver.rows

-- ---- the scan

-- a header that was read
abbrev pub ReadsHeader : Option ℕ → Found → Stream → Result headers.Scan Error → Stream → Type 0
ReadsHeader limit found old r new =
    Answers (λ (h : headers.Scan). h) (header_within limit found) old r new

-- what is left of a limit after the header
abbrev pub IsTaken : Option ℕ → Found → Stream → Option ℕ → Type 0
IsTaken limit found old left =
    old.known ≡ true → left ≡ left_after limit (work_of_header found old.bytes)

-- What is known once the header of a scan was read.
pub record HasHeader (settings : Settings) (limit left : Option ℕ) (found kept : Found)
    (scan : headers.Scan) (old mid : Stream) : Type 0 where
  pub sound : IsSound found
  pub stays : kept ≡ found
  pub legal : IsHeaderOf found scan
  pub within : limit ≡ settings.max_blocks
  pub header : ReadsHeader limit found old (Ok scan) mid
  pub taken : IsTaken limit found old left

-- its lines are given as it is read, in these colours
abbrev pub ComesBy : Settings → Found → headers.Scan → ColorTransform → ColorConvert → Type 0
ComesBy settings found scan t convert = IfSome found.said.frame (λ f.
    (comes_by_rows settings found.said f scan ≡ true)
    × (t ≡ transform_said settings found.said f) × (conversion_in f.components t ≡ Ok convert))

-- A scan is read whose marker was met in a source, which counts as known by a condition; these bytes
-- are the lines that were given.
pub record InScan (settings : Settings) (k : Bool) (found : Found) (at : Stream) (scan : RowScan)
    (now : Stream) (bytes : List ℕ) : Type 0 where
  pub mid : Stream
  pub header : HasHeader settings settings.max_blocks scan.walk.budget.left found found scan.header
      (known_if k at) mid
  pub known : IsKnownIf k 0 at
  pub going : IsGoing scan.walk
  pub unread : IsUnread found
  pub spare : IsSpareOf found.said scan.header scan.spare
  pub comes : ComesBy settings found scan.header scan.transform scan.giver.convert
  pub reads : IfSome found.said.frame (λ f. ReadsRows found f scan mid now bytes)

-- there is such a scan
pub record IsInScan (found : Found) (scan : RowScan) (now : Stream) : Type 0 where
  pub settings : Settings
  pub k : Bool
  pub at : Stream
  pub bytes : List ℕ
  pub is : InScan settings k found at scan now bytes

-- ---- what is said of a stream

-- What a call says that has read what follows the marker of a scan.
pub record SaysAtScan (settings : Settings) (k : Bool) (found : Found) (at : Stream)
    (result : Result (Unit {0}) Error) (new : Stream) (told : Told) (exceeded : Bool)
    (bytes : List ℕ) : Type 0 where
  pub gives : GivesLines settings found.said.frame (shown_at_scan settings found) (known_if k at)
      result new told bytes
  pub tells : OnToldRefusal (known_if k at) new result
      (told ≡ told_of (scan_walk settings.max_blocks found at.bytes).found.said)
  pub turns : k ≡ true → IsOfTurns
      (λ n. told_of (scan_walk_for settings.max_blocks n found at.bytes).found.said) told
  pub exceeds : OnTold (known_if k at) new result
      (exceeded ≡ (scan_walk settings.max_blocks found at.bytes).exceeded)
  pub given : k ≡ true → GivesFirstIf (λ rows. lines_at_scan rows settings found at.bytes) result
      new.known bytes

-- The same of the rest of a stream after its header.
pub record SaysRest (settings : Settings) (found : Found) (old : Stream)
    (result : Result (Unit {0}) Error) (new : Stream) (told : Told) (exceeded : Bool)
    (bytes : List ℕ) : Type 0 where
  pub gives : GivesLines settings found.said.frame (rows_rest settings found) old result new told
      bytes
  pub tells : OnTold old new result
      (told ≡ told_in_turns settings.max_blocks (suc (length old.bytes)) false found old.bytes)
  pub turns : old.known ≡ true
      → IsOfTurns (λ n. told_in_turns settings.max_blocks n false found old.bytes) told
  pub exceeds : OnTold old new result
      (exceeded ≡ exceeded_rest settings.max_blocks Zeros found old.bytes)
  pub given : old.known ≡ true → GivesFirstIf (λ rows. first_lines rows settings found old.bytes)
      result new.known bytes

-- What is said of a stream from the marker of a scan on is said of all of it.
abbrev pub LeadsTo : Settings → Found → Stream → Bool → Found → Stream → Type 0
LeadsTo settings found old k now at =
    (result : Result (Unit {0}) Error) (new : Stream) (told : Told) (exceeded : Bool)
    (bytes : List ℕ) → SaysAtScan settings k now at result new told exceeded bytes
    → SaysRest settings found old result new told exceeded bytes

-- All lines of a picture are left, each of as many bytes as its shape says.
abbrev pub IsUntaken : Option Shape → LinesLeft → Type 0
IsUntaken shape shown =
    HaveLines shape shown.left × (shown.line ≡ []) × (length shown.left < 65536)

-- A scan was begun whose lines are given as it is read, or the lines are there of a picture that was
-- read whole, or it was refused.
pub record IsBegunAt (settings : Settings) (found : Found) (old : Stream) (now : Found)
    (scan : RowScan) (new : Stream) : Type 0 where
  pub k : Bool
  pub at : Stream
  pub leads : LeadsTo settings found old k now at
  pub is : InScan settings k now at scan new []
  pub none : scan.giver.lines.items ≡ []

abbrev pub Begins : Settings → Found → Stream → Result Begun Error → Found → Stream → Bool → Type 0
Begins settings found old (Ok (begun.Scan scan)) now new exceeded =
    (exceeded ≡ false) × IsBegunAt settings found old now scan new
Begins settings found old (Ok (begun.Lines shown)) now new exceeded =
    SaysRest settings found old (Ok tt) new (told_of now.said) exceeded (concat shown.left)
    × IsUntaken (option_map (shape_of settings) now.said.frame) shown
Begins settings found old (Err e) now new exceeded =
    SaysRest settings found old (Err e) new (told_of now.said) exceeded []

abbrev pub BeginsAtScan : Settings → Bool → Found → Stream → Result Begun Error → Found → Stream
    → Bool → Type 0
BeginsAtScan settings k found old (Ok (begun.Scan scan)) now new exceeded =
    (exceeded ≡ false) × (((now ≡ found) × (scan.giver.lines.items ≡ []))
    × InScan settings k found old scan new [])
BeginsAtScan settings k found old (Ok (begun.Lines shown)) now new exceeded =
    SaysAtScan settings k found old (Ok tt) new (told_of now.said) exceeded (concat shown.left)
    × IsUntaken (option_map (shape_of settings) now.said.frame) shown
BeginsAtScan settings k found old (Err e) now new exceeded =
    SaysAtScan settings k found old (Err e) new (told_of now.said) exceeded []

-- A row of MCUs more was read, or the stream to its end.
abbrev pub GoesOn : Settings → Bool → Found → Stream → Result Bool Error → Found → RowScan → Stream
    → Bool → List ℕ → Type 0
GoesOn settings k found at (Ok true) now scan new exceeded bytes = ((now ≡ found)
    × (exceeded ≡ false)) × InScan settings k found at scan new (bytes ++ scan.giver.lines.items)
GoesOn settings k found at (Ok false) now scan new exceeded bytes =
    SaysAtScan settings k found at (Ok tt) new (told_of now.said) exceeded bytes
GoesOn settings k found at (Err e) now scan new exceeded bytes =
    SaysAtScan settings k found at (Err e) new (told_of now.said) exceeded bytes

-- ---- a decoder

-- nothing is kept that scans gave
abbrev pub IsBare : Found → Type 0
IsBare found = (found.kept ≡ []) × (found.planes ≡ replicate 4 None)
    × (found.samples ≡ replicate 4 None)

-- A decoder, which was in this state, reads a scan by rows, and has given these bytes.
pub record IsGivingScan (start d : Decoding) (scan : RowScan) (bytes : List ℕ) : Type 0 where
  pub k : Bool
  pub at : Stream
  pub leads : (result : Result (Unit {0}) Error) (new : Decoding) (all : List ℕ)
      → SaysAtScan d.settings k d.found at result new.source (told_of new.found.said) new.exceeded
      all → MovesToEnd start.stage new.stage result → new.settings ≡ d.settings
      → new.found.said.frame ≡ d.found.said.frame → IsBare new.found
      → DecodesRows start result new all
  pub reading : IsReading start.stage
  pub is : InScan d.settings k d.found at scan d.source bytes

-- there is such a state
pub record IsGiving (d : Decoding) (scan : RowScan) : Type 0 where
  pub start : Decoding
  pub bytes : List ℕ
  pub is : IsGivingScan start d scan bytes

-- A decoder has begun to give lines.
abbrev pub StartsRows : Decoding → Result Begun Error → Decoding → Type 0
StartsRows old (Ok (begun.Scan scan)) new =
    IsGivingScan old new scan [] × (scan.giver.lines.items ≡ [])
StartsRows old (Ok (begun.Lines shown)) new =
    DecodesRows old (Ok tt) new (concat shown.left) × IsUntaken (shape_in new) shown
StartsRows old (Err e) new = DecodesRows old (Err e) new []

-- It has given more, or has come to the end.
abbrev pub GivesMore : Decoding → List ℕ → Result Bool Error → Decoding → RowScan → Type 0
GivesMore start bytes (Ok true) new scan =
    IsGivingScan start new scan (bytes ++ scan.giver.lines.items)
GivesMore start bytes (Ok false) new scan = DecodesRows start (Ok tt) new bytes
GivesMore start bytes (Err e) new scan = DecodesRows start (Err e) new bytes

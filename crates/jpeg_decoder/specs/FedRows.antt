-- Lines of a picture that are given while the bytes of its stream arrive: what was read of some bytes
-- is read so whatever bytes follow.
use Rattle.std.specs.Prelude.{◌≡◌, ◌⊎◌, ◌++◌, ℕ, List, [], Bool, false, true, Option, Result, Ok, Err}
use Rattle.std.specs.Prelude.{◌+◌, ◌*◌, if◌then◌else◌, None, Some, is_some, length, option_map}
use Rattle.std.specs.declared.alloc.Global.{Global}
use Rattle.std.specs.declared.vec.Vec.{Vec}
use Rattle.std.specs.List.{concat}
use Rattle.jpeg_bits.specs.Entropy.{Met, marker_from, upcoming_by}
use Rattle.jpeg_bits.specs.Stream.{Stream, stream_of}
use Rattle.jpeg_bits.specs.declared.error.Error.{Error}
use Rattle.jpeg_bits.specs.declared.error.Error.TheVariants.{OutOfMemory}
use Rattle.jpeg_bits.specs.declared.marker.Marker.{Marker}
use Rattle.jpeg_meaning.specs.Found.{Found, Said, nothing_found}
use Rattle.jpeg_meaning.specs.Sound.{HasDecodedFrame}
use Rattle.jpeg_meaning.specs.States.{Decoding}
use Rattle.jpeg_meaning.specs.declared.progress.Progress.TheVariants.{Failed, Fresh}
use Rattle.jpeg_meaning.specs.declared.settings.Settings.{Settings}
use Rattle.jpeg_decoder.specs.Bytes.{AreWholeLines, HaveLines, Shape, line_bytes, shape_of}
use Rattle.jpeg_decoder.specs.DecodesRows.{DecodesRows}
use Rattle.jpeg_decoder.specs.RowScans.{InScan, IsGivingScan, IsUntaken, rows_left}
use Rattle.jpeg_decoder.specs.RowsView.{LinesLeft}
use Rattle.jpeg_decoder.specs.declared.by_rows.first_scan.RowScan.{RowScan}
use Rattle.jpeg_decoder.specs.declared.by_rows.rest.Begun.{Begun}
use Rattle.jpeg_decoder.specs.declared.by_rows.rest.Begun.TheVariants as begun
use Rattle.jpeg_decoder.specs.declared.fed_rows.Ahead.{Ahead}
use Rattle.jpeg_decoder.specs.declared.fed_rows.Ahead.TheVariants as ahead
use Rattle.jpeg_decoder.specs.declared.fed_rows.Given.{Given}
use Rattle.jpeg_decoder.specs.declared.fed_rows.Given.TheVariants as gives

-- ---- a row of MCUs

-- a source of bytes in memory
abbrev pub in_memory : List ℕ → Stream
in_memory bytes = record { bytes = bytes; known = true; failed = false }

-- In these bytes more than 56 bits of data stand, or a marker ends them, or it was met.
abbrev pub IsSettled : Met → List ℕ → Type 0
IsSettled met now = (m : Option Marker × List ℕ) × (marker_from (upcoming_by [] met now) ≡ Ok m)

-- A row of MCUs of a scan was read of some bytes, after which these are left; and it is read, and its
-- lines are given, whatever bytes follow.
abbrev pub TakesRow : Found → RowScan → RowScan → List ℕ → List ℕ → Type 0
TakesRow found old new before after =
    (settings : Settings) (k : Bool) (at : Stream) (more given : List ℕ)
    → InScan settings k found at old (in_memory (before ++ more)) given
    → InScan settings k found at new (in_memory (after ++ more)) (given ++ new.giver.lines.items)

-- No row was, and nothing has changed that counts.
abbrev pub TakesNone : Found → RowScan → RowScan → Type 0
TakesNone found old new = (settings : Settings) (k : Bool) (at now : Stream) (given : List ℕ)
    → InScan settings k found at old now given → InScan settings k found at new now given

-- Some stream has such a scan, after whose header these bytes are left.
pub record HasScan (settings : Settings) (found : Found) (scan : RowScan) (left : List ℕ) : Type 0
  where
    pub k : Bool
    pub at : Stream
    pub given : List ℕ
    pub is : InScan settings k found at scan (in_memory left) given

-- ---- a stream

-- a decoder of these bytes that has read none
abbrev pub fed_start : Settings → List ℕ → Decoding
fed_start settings bytes = record {
  source = stream_of (Some bytes) false false;
  stage = Fresh;
  found = nothing_found;
  settings = settings;
  exceeded = false;
}

-- one that is in a scan, and has these bytes left
abbrev pub fed_now : Settings → Found → List ℕ → Decoding
fed_now settings found bytes = record {
  source = in_memory bytes;
  stage = Failed;
  found = found;
  settings = settings;
  exceeded = false;
}

-- Bytes begin a stream up to the data of its first scan, after which these are left; and they do so
-- whatever bytes follow.
pub record BeginsScan (settings : Settings) (before : List ℕ) (found : Found) (after : List ℕ)
    (scan : RowScan) : Type 0 where
  pub giving : (more : List ℕ) → IsGivingScan (fed_start settings (before ++ more))
      (fed_now settings found (after ++ more)) scan []
  pub none : scan.giver.lines.items ≡ []

-- A stream was read to its end, and these are the lines of its picture: see `DecodesRows`. Its
-- segments have said this.
pub record HasDecoded (start : Decoding) (given : List ℕ) (said : Said) : Type 0 where
  pub now : Decoding
  pub is : DecodesRows start (Ok tt) now given
  pub said_is : now.found.said ≡ said

-- It was refused for an error, and these are the lines before that. No read of its bytes has failed.
-- `exceeded` says whether a scan was refused since it codes more blocks than the limit leaves.
pub record HasRefused (start : Decoding) (e : Error) (given : List ℕ) (exceeded : Bool) : Type 0
  where
    pub now : Decoding
    pub is : DecodesRows start (Err e) now given
    pub known : start.source.known ≡ true → now.source.known ≡ true
    pub exceeded_is : now.exceeded ≡ exceeded

-- the same, unless memory ran out
abbrev pub IsRefused : Decoding → Error → List ℕ → Bool → Type 0
IsRefused start e given exceeded = (e ≡ OutOfMemory) ⊎ HasRefused start e given exceeded

-- Lines were begun to be given of all bytes of a stream.
abbrev pub StartsLines : Decoding → Settings → Found → List ℕ → Begun → Type 0
StartsLines start settings found left (begun.Scan rows) =
    IsGivingScan start (fed_now settings found left) rows [] × (rows.giver.lines.items ≡ [])
StartsLines start settings found left (begun.Lines shown) =
    HasDecoded start (concat shown.left) found.said × (shown.line ≡ [])

-- A frame was found that can be decoded.
abbrev pub IsFramed : Found → Type 0
IsFramed found = (is_some found.said.frame ≡ true) × HasDecodedFrame found

-- The lines of a picture that was decoded are whole.
abbrev pub AreReadyLines : Settings → Found → LinesLeft → Type 0
AreReadyLines settings found shown =
    let shape = option_map (shape_of settings) found.said.frame in
    HaveLines shape shown.left × AreWholeLines shape shown.line × IsFramed found

-- what always holds of what was begun
abbrev pub IsReadyBegun : Settings → Found → Begun → Type 0
IsReadyBegun settings found (begun.Scan rows) = HasScan settings found rows []
IsReadyBegun settings found (begun.Lines shown) =
    IsUntaken (option_map (shape_of settings) found.said.frame) shown × IsFramed found

-- More were given of a scan, or the end was reached, or the stream was refused.
abbrev pub GoesOnFed : Decoding → Settings → List ℕ → Result (Option (Vec ℕ Global)) Error → Found
    → RowScan → Type 0
GoesOnFed start settings given (Ok (Some left)) found rows =
    IsGivingScan start (fed_now settings found left.items) rows (given ++ rows.giver.lines.items)
GoesOnFed start settings given (Ok None) found rows = HasDecoded start given found.said
GoesOnFed start settings given (Err e) found rows =
    IsRefused start e given rows.walk.budget.exceeded

-- ---- what a caller sees of `FedRows`

-- bytes that weren't read
pub record UnreadBytes : Type 0 where
  pub tried : List ℕ
  pub later : List ℕ

abbrev pub all_unread : UnreadBytes → List ℕ
all_unread u = u.tried ++ u.later

-- what was set, whether the bytes have ended, whether a scan was refused for its blocks, what was
-- found, the bytes that weren't read, and what lies ahead
pub record FedRowsState : Type 0 where
  pub settings : Settings
  pub has_ended : Bool
  pub exceeded : Bool
  pub found : Found
  pub unread : UnreadBytes
  pub ahead : Ahead

-- what lies ahead after lines were begun to be given of all bytes
abbrev pub ahead_begun : Begun → Ahead
ahead_begun (begun.Scan rows) = ahead.Scan rows
ahead_begun (begun.Lines shown) = ahead.Lines shown

-- the lines that were given last
abbrev pub lines_in : Ahead → List ℕ
lines_in (ahead.Scan rows) = rows.giver.lines.items
lines_in (ahead.Lines shown) = shown.line
lines_in _ = []

-- how many calls may still return `Lines`, at most, before more bytes are fed: the first, one for
-- each row of MCUs or each line, and one for each byte that isn't tried yet
abbrev pub calls_ahead : Ahead → UnreadBytes → ℕ
calls_ahead ahead.Start unread = 65536 + length (all_unread unread)
calls_ahead (ahead.Scan rows) unread = rows_left rows + length unread.later
calls_ahead (ahead.Lines shown) unread = length shown.left
calls_ahead _ unread = 0

abbrev pub calls_left : FedRowsState → ℕ
calls_left d = calls_ahead d.ahead d.unread

-- whether lines lie ahead or were given last
abbrev pub has_lines : Ahead → Bool
has_lines (ahead.Scan rows) = true
has_lines (ahead.Lines shown) = true
has_lines _ = false

abbrev pub size_of : Option Shape → ℕ
size_of None = 0
size_of (Some shape) = line_bytes shape

-- the bytes of a line, or 0 where there are none
abbrev pub line_size : FedRowsState → ℕ
line_size d = if has_lines d.ahead
    then size_of (option_map (shape_of d.settings) d.found.said.frame) else 0

-- Some bytes are those of whole lines.
abbrev pub AreOfLines : ℕ → List ℕ → Type 0
AreOfLines size bytes = (count : ℕ) × (length bytes ≡ count * size)

-- what always holds
abbrev pub IsReadyAhead : Settings → Found → Ahead → Type 0
IsReadyAhead settings found (ahead.Scan rows) = HasScan settings found rows []
IsReadyAhead settings found (ahead.Lines shown) = AreReadyLines settings found shown
IsReadyAhead settings found _ = Unit {0}

-- Of bytes that were fed these lines were given so far. In a scan it is so whatever bytes follow, and
-- none do once their end was said.
abbrev pub AreFed : Settings → Bool → Found → List ℕ → List ℕ → List ℕ → Ahead → Type 0
AreFed settings ended found unread fed given ahead.Start = (unread ≡ fed) × (given ≡ [])
AreFed settings ended found unread fed given (ahead.Scan rows) =
    (more : List ℕ) → (ended ≡ true → more ≡ []) → IsGivingScan (fed_start settings (fed ++ more))
    (fed_now settings found (unread ++ more)) rows given
AreFed settings ended found unread fed given (ahead.Lines shown) =
    (ended ≡ true) × HasDecoded (fed_start settings fed) (given ++ concat shown.left) found.said
AreFed settings ended found unread fed given ahead.End =
    (ended ≡ true) × HasDecoded (fed_start settings fed) given found.said
AreFed settings ended found unread fed given ahead.Failed = ⊥

abbrev pub AreFedTo : List ℕ → List ℕ → FedRowsState → Type 0
AreFedTo fed given d =
    AreFed d.settings d.has_ended d.found (all_unread d.unread) fed given d.ahead

-- After some lines more were given, or bytes are needed, or all lines were given, or the stream was
-- refused. Memory may run out at any time.
abbrev pub GivesFed : List ℕ → List ℕ → Result Given Error → FedRowsState → Type 0
GivesFed fed given (Ok gives.Lines) new = AreFedTo fed (given ++ lines_in new.ahead) new
GivesFed fed given (Ok gives.Waiting) new =
    (new.has_ended ≡ false) × AreFedTo fed given new × (lines_in new.ahead ≡ [])
GivesFed fed given (Ok gives.End) new =
    (new.has_ended ≡ true) × HasDecoded (fed_start new.settings fed) given new.found.said
GivesFed fed given (Err e) new = (e ≡ OutOfMemory)
    ⊎ ((new.has_ended ≡ true) × HasRefused (fed_start new.settings fed) e given new.exceeded)

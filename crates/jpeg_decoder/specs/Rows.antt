-- What a caller sees of lines that are given as a stream is read: see `Rows`.
use Rattle.std.specs.Prelude.{◌≡◌, ◌++◌, ℕ, List, [], length, Bool, true, false, Result, Ok, Err}
use Rattle.std.specs.List.{concat}
use Rattle.jpeg_bits.specs.declared.error.Error.{Error}
use Rattle.jpeg_meaning.specs.States.{Decoding}
use Rattle.jpeg_decoder.specs.Bytes.{HaveLines, shape_in}
use Rattle.jpeg_decoder.specs.DecodesRows.{DecodesRows}
use Rattle.jpeg_decoder.specs.RowScans.{IsGiving, IsGivingScan, rows_left}
use Rattle.jpeg_decoder.specs.declared.rows.Ahead.{Ahead}
use Rattle.jpeg_decoder.specs.declared.rows.Ahead.TheVariants as ahead

-- a decoder, and what lies ahead
pub record RowsState : Type 0 where
  pub decoder : Decoding
  pub ahead : Ahead

-- the lines that were given last
abbrev pub lines_in : Ahead → List ℕ
lines_in ahead.Start = []
lines_in (ahead.Scan rows) = rows.giver.lines.items
lines_in (ahead.Lines shown) = shown.line
lines_in ahead.End = []

-- how many calls may still return true, at most: the first, and one for each row of MCUs or each line
abbrev pub calls_left : Ahead → ℕ
calls_left ahead.Start = 65536
calls_left (ahead.Scan rows) = rows_left rows
calls_left (ahead.Lines shown) = length shown.left
calls_left ahead.End = 0

-- what always holds
abbrev pub IsReadyAhead : Decoding → Ahead → Type 0
IsReadyAhead decoder (ahead.Scan rows) = IsGiving decoder rows
IsReadyAhead decoder (ahead.Lines shown) = HaveLines (shape_in decoder) shown.left
IsReadyAhead decoder _ = Unit {0}

-- Lines are given of what lay ahead of a decoder: these bytes so far.
abbrev pub AreGiven : Decoding → List ℕ → Decoding → Ahead → Type 0
AreGiven start bytes decoder ahead.Start = (decoder ≡ start) × (bytes ≡ [])
AreGiven start bytes decoder (ahead.Scan rows) = IsGivingScan start decoder rows bytes
AreGiven start bytes decoder (ahead.Lines shown) =
    DecodesRows start (Ok tt) decoder (bytes ++ concat shown.left)
AreGiven start bytes decoder ahead.End = ⊥

-- After some bytes more were given, or none are left, or the stream was refused.
abbrev pub GivesNext : Decoding → List ℕ → Result Bool Error → RowsState → Type 0
GivesNext start bytes (Ok true) new =
    AreGiven start (bytes ++ lines_in new.ahead) new.decoder new.ahead
GivesNext start bytes (Ok false) new = DecodesRows start (Ok tt) new.decoder bytes
GivesNext start bytes (Err e) new = DecodesRows start (Err e) new.decoder bytes

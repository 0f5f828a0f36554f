-- What a C program holds from one call to the next: a picture that is given line by line, a stream
-- that arrives in pieces, or the lines of its picture.
use Rattle.std.specs.declared.option.Option.{Option}
use Rattle.std.specs.declared.option.Option.TheVariants.{None, Some}
use Rattle.zaxbriar_calls.specs.Arrived.{Arrived}
use Rattle.zaxbriar_calls.specs.declared.fed_rows.FedRowReader.{FedRowReader}
use Rattle.zaxbriar_calls.specs.declared.handle.Handle.{Handle}
use Rattle.zaxbriar_calls.specs.declared.handle.Handle.TheVariants.{FedRows, Rows, Stream}
use Rattle.zaxbriar_calls.specs.declared.rows.RowReader.{RowReader}

-- the reader of lines that is held, if one is
abbrev pub rows_in : Option Handle → Option RowReader
rows_in None = None
rows_in (Some (Rows reader)) = Some reader
rows_in (Some (Stream stream)) = None
rows_in (Some (FedRows reader)) = None

-- the stream that is held, if one is
abbrev pub stream_in : Option Handle → Option Arrived
stream_in None = None
stream_in (Some (Rows reader)) = None
stream_in (Some (Stream stream)) = Some stream
stream_in (Some (FedRows reader)) = None

-- the reader of lines that come while their bytes arrive, if it is held
abbrev pub fed_rows_in : Option Handle → Option FedRowReader
fed_rows_in None = None
fed_rows_in (Some (Rows reader)) = None
fed_rows_in (Some (Stream stream)) = None
fed_rows_in (Some (FedRows reader)) = Some reader

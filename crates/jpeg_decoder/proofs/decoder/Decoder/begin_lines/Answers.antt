use Rattle.std.proofs.lemmas.Result.{err_from_is_err_and}
use Rattle.jpeg_decoder.proofs.ByRows.DecodedRows.{at-lines, at-scan, begun-lines, begun-refused, begun-scan, rows-unbegun}
use Rattle.jpeg_decoder.proofs.Pictures.DecodedLines.{begun-seen}
use Rattle.jpeg_decoder.proofs.decoder.Decoder.begin_lines.Goals as goal

-- ---- the header was refused

pub returns-in_err-begin-clause-starts : goal.returns-in_err-begin-clause-starts
returns-in_err-begin-clause-starts g c =
    let p = err_from_is_err_and c.from_residual.result c.from_residual.ensures.1 in
    rw (p.1, p.2) (rows-unbegun _ _ _ (record {
      stage = c.in_err-begin.ensures.stage;
      ended = c.in_err-begin.ensures.ended;
      reads = c.in_err-begin.ensures.reads;
      tells = c.in_err-begin.ensures.told;
      turns = c.in_err-begin.ensures.turns;
      still = c.in_err-begin.ensures.still;
      exceeded = c.in_err-begin.ensures.exceeded;
      emptied = c.in_err-begin.ensures.emptied;
    }) c.in_err-begin.ensures.settings)

-- ---- a scan was begun

pub returns-in-Ok-Scan-clause-starts : goal.returns-in-Ok-Scan-clause-starts
returns-in-Ok-Scan-clause-starts g c =
    begun-scan _ _ _ _ _ _ _ (begun-seen _ _ _ c.self.view_is c.in_ok-begin.ensures.reads c.in_ok-begin.ensures.still
    c.in_ok-begin.ensures.settings) c.in_ok-begin.ensures.begun.0
    (at-scan _ _ _ _ _ _ _ c.in-Ok-Scan.rows c.in-Ok-Scan.field-0-is c.in-Ok-Scan.ensures.begins)
    c.begin_rest-begun.ensures.stays

-- ---- the stream was read

pub returns-in-Ok-Lines-clause-starts : goal.returns-in-Ok-Lines-clause-starts
returns-in-Ok-Lines-clause-starts g c =
    begun-lines _ _ c.begin_rest-begun.new.state _ _ _ _ (begun-seen _ _ _ c.self.view_is c.in_ok-begin.ensures.reads
    c.in_ok-begin.ensures.still c.in_ok-begin.ensures.settings) c.in_ok-begin.ensures.begun.0
    (at-lines _ _ _ _ _ _ _ c.in-Ok-Lines.shown c.in-Ok-Lines.field-0-is c.in-Ok-Lines.ensures.begins)
    c.begin_rest-begun.ensures.stays (record {
      told = c.drop_decoded.ensures.told;
      emptied = c.drop_decoded.ensures.emptied;
    })

pub returns-in-Err-clause-starts : goal.returns-in-Err-clause-starts
returns-in-Err-clause-starts g c =
    begun-refused _ _ c.begin_rest-begun.new.state _ _ _ _ (begun-seen _ _ _ c.self.view_is c.in_ok-begin.ensures.reads
    c.in_ok-begin.ensures.still c.in_ok-begin.ensures.settings) c.in_ok-begin.ensures.begun.0
    c.in-Err.ensures.begins c.begin_rest-begun.ensures.stays (record {
      told = c.drop_decoded-in-Err.ensures.told;
      emptied = c.drop_decoded-in-Err.ensures.emptied;
    })

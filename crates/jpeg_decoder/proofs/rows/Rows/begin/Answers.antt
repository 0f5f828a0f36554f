use Rattle.jpeg_decoder.proofs.ByRows.NextRows.{started-lines, started-scan}
use Rattle.jpeg_decoder.proofs.rows.Rows.begin.Goals as goal

pub returns-in-Scan-clause-whole : goal.returns-in-Scan-clause-whole
returns-in-Scan-clause-whole g c =
    started-scan _ c.begin_lines.new.self c.in_ok-rows.field-0 c.in-Scan.rows c.in-Scan.is c.in_ok-rows.ensures.starts

pub returns-in-Lines-clause-whole : goal.returns-in-Lines-clause-whole
returns-in-Lines-clause-whole g c =
    started-lines _ c.begin_lines.new.self c.in_ok-rows.field-0 c.in-Lines.shown c.in-Lines.is
    c.in_ok-rows.ensures.starts

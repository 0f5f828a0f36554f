use Rattle.jpeg_decoder.proofs.ByRows.NextRows.{lines-ahead, scan-ahead}
use Rattle.jpeg_decoder.proofs.rows.Rows.read.Goals as goal

pub returns-in-Scan-clause-gives : goal.returns-in-Scan-clause-gives
returns-in-Scan-clause-gives g c start bytes h =
    c.read_scan.ensures.gives start bytes (scan-ahead c.args.self.now c.self.inside.decoder c.self.inside.ahead
    c.in-Scan.rows start bytes c.self.view_is c.in-Scan.ensures.value h)

pub returns-in-Lines-clause-gives : goal.returns-in-Lines-clause-gives
returns-in-Lines-clause-gives g c start bytes h =
    c.take_line.ensures.gives start bytes (lines-ahead c.args.self.now c.self.inside.decoder c.self.inside.ahead
    c.in-Lines.shown start bytes c.self.view_is c.in-Lines.ensures.value h)

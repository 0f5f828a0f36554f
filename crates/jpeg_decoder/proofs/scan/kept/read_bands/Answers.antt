use Rattle.std.proofs.Common.{◌∷◌, ◌∙◌, Option}
use Rattle.std.proofs.lemmas.Result.{err_from_is_err_and}
use Rattle.jpeg_bits.specs.declared.marker.Marker.{Marker}
use Rattle.jpeg_meaning.specs.Scans.{Arrays}
use Rattle.jpeg_decoder.specs.Scanning.{blocks_in, counted, scan_vias}
use Rattle.jpeg_decoder.specs.Walk.{rows_spots}
use Rattle.jpeg_decoder.proofs.Kept.LinesOfBlocks.{scan-ended, scan-stopped}
use Rattle.jpeg_decoder.proofs.scan.kept.read_bands.Goals as goal

pub returns-in_err-read_lines-clause-scan : goal.returns-in_err-read_lines-clause-scan
returns-in_err-read_lines-clause-scan g c others =
    let e = err_from_is_err_and c.from_residual.result c.from_residual.ensures.1 in
    let a = c.args in
    let new = c.read_lines.new in
    let n = c.from-n.ensures ∙ c.restart_interval.ensures in
    let held : Arrays = blocks_in a.array.now ∷ others in
    rw (e.1, e.2) (scan-stopped (λ (m : Option Marker). (held, m))
    (λ (u : Unit {0}). counted new.interval (blocks_in new.array ∷ others)) a.scan.now.pass
    (scan_vias a.scan.now) a.scan.now.restart_interval (rows_spots a.grid 0 a.grid.own_high) held
    new.interval.decoder a.source.now new.source _ (rw (c.first_interval-interval.ensures, n) at
    (c.in_err-read_lines.ensures.blocks others)))

pub returns-clause-scan : goal.returns-clause-scan
returns-clause-scan g c others =
    let a = c.args in
    let new = c.read_lines.new in
    let n = c.from-n.ensures ∙ c.restart_interval.ensures in
    let held : Arrays = blocks_in a.array.now ∷ others in
    scan-ended a.scan.now.pass (scan_vias a.scan.now) a.scan.now.restart_interval
    (rows_spots a.grid 0 a.grid.own_high) held (counted new.interval (blocks_in new.array ∷ others))
    new.interval.decoder a.source.now new.source _ _ (rw (c.first_interval-interval.ensures, n) at
    (c.in_ok-read_lines.ensures.blocks others)) c.take_marker.ensures.answers

use Rattle.std.proofs.Common.{◌∷◌, ◌∙◌, arith}
use Rattle.std.proofs.lemmas.Result.{err_from_is_err_and}
use Rattle.jpeg_bits.specs.Readers.{Reads}
use Rattle.jpeg_meaning.specs.InTurn.{Counted, blocks_from}
use Rattle.jpeg_decoder.specs.Scanning.{blocks_in, counted, scan_vias}
use Rattle.jpeg_decoder.specs.Walk.{rows_spots}
use Rattle.jpeg_decoder.proofs.Kept.LinesOfBlocks.{rows-end, rows-go, rows-stop}
use Rattle.jpeg_decoder.proofs.scan.kept.read_lines.Goals as goal

pub returns-in_err-read_line-clause-blocks : goal.returns-in_err-read_line-clause-blocks
returns-in_err-read_line-clause-blocks g c others =
    let e = err_from_is_err_and c.from_residual.result c.from_residual.ensures.1 in
    let a = c.args in
    let p = a.scan.now.pass in
    let vias = scan_vias a.scan.now in
    let n = a.scan.now.restart_interval in
    let l = c.loop-row in
    let new = c.read_line.new in
    rw (e.1, e.2) (rows-stop p vias n a.grid l.row a.grid.own_high
    (blocks_from p vias n (rows_spots a.grid 0 a.grid.own_high) (counted a.interval.now (blocks_in a.array.now ∷ others)))
    a.interval.now.decoder l.interval.decoder new.interval.decoder a.source.now l.source new.source
    (counted l.interval (blocks_in l.array ∷ others)) (l.invariant.blocks others)
    (λ (u : Unit {0}). counted l.interval (blocks_in l.array ∷ others))
    (λ (u : Unit {0}). counted new.interval (blocks_in new.array ∷ others)) _ c.loop-row-test.true
    (rw (c.from.ensures, c.from-in-loop-row.ensures) at (c.in_err-read_line.ensures.blocks others)))

pub loop-row-preserved : goal.loop-row-preserved
loop-row-preserved g c =
    let a = c.args in
    let p = a.scan.now.pass in
    let vias = scan_vias a.scan.now in
    let n = a.scan.now.restart_interval in
    let l = c.loop-row in
    let new = c.read_line.new in
    record {
      most = omega (arith, c.loop-row-test.true);
      four = c.in_ok-read_line.ensures.four;
      size = c.in_ok-read_line.ensures.size ∙ l.invariant.size;
      blocks = λ others.
          let whole : Reads Counted = blocks_from p vias n (rows_spots a.grid 0 a.grid.own_high)
          (counted a.interval.now (blocks_in a.array.now ∷ others)) in
          rows-go p vias n a.grid l.row a.grid.own_high whole a.interval.now.decoder l.interval.decoder
          new.interval.decoder a.source.now l.source new.source (counted l.interval (blocks_in l.array ∷ others))
          (l.invariant.blocks others) (counted new.interval (blocks_in new.array ∷ others)) c.loop-row-test.true
          (rw (c.from.ensures, c.from-in-loop-row.ensures) at (c.in_ok-read_line.ensures.blocks others));
    }

pub returns-clause-blocks : goal.returns-clause-blocks
returns-clause-blocks g c others =
    let a = c.args in
    let p = a.scan.now.pass in
    let vias = scan_vias a.scan.now in
    let n = a.scan.now.restart_interval in
    let l = c.loop-row in
    rows-end p vias n a.grid l.row a.grid.own_high
    (blocks_from p vias n (rows_spots a.grid 0 a.grid.own_high) (counted a.interval.now (blocks_in a.array.now ∷ others)))
    a.interval.now.decoder l.interval.decoder l.interval.decoder a.source.now l.source l.source
    (counted l.interval (blocks_in l.array ∷ others)) (l.invariant.blocks others)
    (omega (arith, c.loop-row-test.false))

use Rattle.std.proofs.Common.{◌<◌, length, arith}
use Rattle.jpeg_bits.specs.Passes.{band_part}
use Rattle.jpeg_bits.specs.Refinement.{corrected}
use Rattle.jpeg_bits.specs.BlockView.{pass_in}
use Rattle.jpeg_bits.specs.ZigzagParts.{band_in}
use Rattle.jpeg_bits.proofs.BandSteps.{Leaves-whole, Leaves-err}
use Rattle.jpeg_bits.proofs.BlockParts.{some_indices, band_corrected, band_refused}
use Rattle.jpeg_bits.proofs.blocks.bands.read_refined.Goals as goal

pub returns-then-not-correct_band-clause-band : goal.returns-then-not-correct_band-clause-band
returns-then-not-correct_band-clause-band g c =
    let is = c.args.coding.now.legal in
    let p = pass_in c.args.coding.now.pass in
    let band = band_in p c.args.block.now in
    let some : 0 < length band = some_indices _ _ _ is.order is.end (λ e. omega (arith, c.requires.some, is.order, e)) in
    let whole = band_part p c.args.coding.now.ac_table.now band c.args.run.now in
    Leaves-err (λ (u : Unit {0}). (band, c.args.run.now)) (λ (u : Unit {0}). band) whole whole (corrected p.al band)
    c.args.buffered.now _ c.correct_band.new.buffered c.args.source.now _ c.correct_band.new.source _
    (λ t f h. band_refused _ _ _ _ t _ c.requires.refined some c.if-run-gt0.true h)
    (Leaves-whole whole c.args.buffered.now c.args.source.now) c.if-not-correct_band.ensures.band

pub returns-then-run-gt0-clause-band : goal.returns-then-run-gt0-clause-band
returns-then-run-gt0-clause-band g c =
    let is = c.args.coding.now.legal in
    let p = pass_in c.args.coding.now.pass in
    let band = band_in p c.args.block.now in
    let some : 0 < length band = some_indices _ _ _ is.order is.end (λ e. omega (arith, c.requires.some, is.order, e)) in
    let read = c.if-not-correct_band.ensures.band in (
      read.0,
      λ known. (
        (read.1 known).0,
        band_corrected _ _ _ _ _ _ _ c.requires.refined some c.if-run-gt0.true
            (read.1 known).1,
      ),
    )

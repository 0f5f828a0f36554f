use Rattle.jpeg_bits.proofs.blocks.refinement.correct_band.Goals as goal
use Rattle.std.proofs.Common.{◌-◌, arith}
use Rattle.jpeg_bits.specs.BlockView.{pass_in}
use Rattle.jpeg_bits.proofs.RefinedBands.{band_is_corrected}

pub returns-clause-band : goal.returns-clause-band
returns-clause-band g c =
    let p = pass_in c.args.pass in
    let start = c.band_start-start.result in
    let end = c.band_end.ensures in
    band_is_corrected p c.args.block.now c.correct_piece-next.new.block start (c.band_end.result - start)
    c.args.buffered.now c.correct_piece-next.new.buffered c.args.source.now c.correct_piece-next.new.source
    c.correct_piece-next.result c.correct_piece-next.new.refusal c.is_some.result c.requires
    c.band_start-start.ensures (omega arith) c.is_some.ensures
    (rw c.copied-local.ensures at c.correct_piece-next.ensures.piece)

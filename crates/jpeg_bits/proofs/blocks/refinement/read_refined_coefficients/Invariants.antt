use Rattle.std.proofs.Common.{◌≡◌, ◌≤◌, ◌-◌, length}
use Rattle.jpeg_bits.specs.Masks.{MarksFrom}
use Rattle.jpeg_bits.specs.Pieces.{refined_band_from}
use Rattle.jpeg_bits.specs.BlockView.{pass_in}
use Rattle.jpeg_bits.specs.ZigzagParts.{band_start, band_end, band_in, KeepsOthers}
use Rattle.jpeg_bits.proofs.BandLoop.{Leaves}
use Rattle.jpeg_bits.proofs.RefinedBands.{refined_left}
use Rattle.jpeg_bits.proofs.blocks.refinement.read_refined_coefficients.Given as goal

abbrev pub invariant-loop-index : goal.invariant-loop-index
invariant-loop-index g l = record {
  len : length l.block ≡ 64;
  from : band_start (pass_in l.fn.pass) ≤ l.index;
  within : l.index ≤ band_end (pass_in l.fn.pass);
  rest : Leaves (refined_band_from l.fn.table l.fn.pass.al (band_in (pass_in l.fn.pass)
      l.fn.block)) l.fn.buffered
      l.fn.source (refined_left l.fn.table l.fn.pass.al (band_in (pass_in l.fn.pass) l.block)
      (l.index - band_start (pass_in l.fn.pass))) l.buffered l.source;
  others : KeepsOthers (pass_in l.fn.pass) l.fn.block l.block;
  marks : MarksFrom l.mask l.index l.block;
}

abbrev pub decreases-loop-index : goal.decreases-loop-index
decreases-loop-index g l = l.end - l.index

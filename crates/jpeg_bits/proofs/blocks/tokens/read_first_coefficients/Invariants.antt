use Rattle.std.proofs.Common.{◌≡◌, ◌≤◌, ◌-◌, length}
use Rattle.jpeg_bits.specs.Bands.{first_ac}
use Rattle.jpeg_bits.specs.BlockView.{pass_in}
use Rattle.jpeg_bits.specs.ZigzagParts.{band_start, band_in, KeepsOthers}
use Rattle.jpeg_bits.proofs.BandLoop.{IsAt}
use Rattle.jpeg_bits.proofs.blocks.tokens.read_first_coefficients.Given as goal

abbrev pub invariant-loop-at : goal.invariant-loop-at
invariant-loop-at g l = record {
  len : length l.block ≡ 64;
  from : band_start (pass_in l.fn.pass) ≤ l.at;
  text : IsAt l.fn.table l.fn.pass.al (first_ac l.fn.table l.fn.pass.al (length (band_in (pass_in l.fn.pass)
      l.fn.block)) (band_in (pass_in l.fn.pass) l.fn.block)) l.fn.buffered l.fn.source (band_in
      (pass_in l.fn.pass) l.block) (l.at - band_start (pass_in l.fn.pass)) l.buffered l.source;
  others : KeepsOthers (pass_in l.fn.pass) l.fn.block l.block;
}

abbrev pub decreases-loop-at : goal.decreases-loop-at
decreases-loop-at g l = l.end - l.at

use Rattle.std.proofs.Common.{◌≤◌, ◌-◌, ℤ, length, map}
use Rattle.std.specs.List.{range_with_len}
use Rattle.jpeg_bits.specs.BlockLines.{blocks_at}
use Rattle.jpeg_bits.specs.BlockView.{pass_in, to_block}
use Rattle.jpeg_bits.proofs.BandLoop.{Leaves}
use Rattle.jpeg_bits.proofs.BlockLines.{left_at}
use Rattle.jpeg_bits.proofs.blocks.bands.take_refined_bands.Given as goal

abbrev pub invariant-loop-index : goal.invariant-loop-index
invariant-loop-index g l = record {
  most : l.index ≤ length l.blocks;
  blocks : (z : ℤ) → Leaves (blocks_at (pass_in l.fn.coding.pass) l.fn.coding.dc_table.now l.fn.coding.ac_table.now
      (range_with_len 0 (length l.fn.blocks)) (map to_block l.fn.blocks, z, l.fn.run)) l.fn.decoder l.fn.source
      (left_at (pass_in l.fn.coding.pass) l.fn.coding.dc_table.now l.fn.coding.ac_table.now z l.index l.blocks l.run)
      l.buffered l.source;
}

abbrev pub decreases-loop-index : goal.decreases-loop-index
decreases-loop-index g l = length l.blocks - l.index

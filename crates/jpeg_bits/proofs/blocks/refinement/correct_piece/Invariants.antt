use Rattle.std.proofs.Common.{◌≡◌, ◌-◌, ◌≤◌, length}
use Rattle.jpeg_bits.specs.Masks.{MarksFrom}
use Rattle.jpeg_bits.specs.Pieces.{piece_from}
use Rattle.jpeg_bits.specs.BlockView.{pass_in}
use Rattle.jpeg_bits.specs.ZigzagParts.{band_end, rest_in, IsKeptAround}
use Rattle.jpeg_bits.proofs.BandLoop.{Leaves}
use Rattle.jpeg_bits.proofs.PieceWalks.{walk_left}
use Rattle.jpeg_bits.proofs.blocks.refinement.correct_piece.Given as goal

abbrev pub invariant-loop-index : goal.invariant-loop-index
invariant-loop-index g l = record {
  len : length l.block ≡ 64;
  after : l.fn.piece.from ≤ l.index;
  within : l.index ≤ band_end (pass_in l.fn.piece.pass);
  walk : Leaves (piece_from l.fn.piece.pass.al l.fn.piece.zeros
      (rest_in (pass_in l.fn.piece.pass) l.fn.piece.from l.fn.block)) l.fn.buffered l.fn.source
      (walk_left l.fn.piece.pass.al l.left (rest_in (pass_in l.fn.piece.pass) l.fn.piece.from l.block)
      (l.index - l.fn.piece.from)) l.buffered l.source;
  others : IsKeptAround l.fn.piece.from (band_end (pass_in l.fn.piece.pass)) l.fn.block l.block;
  marks : MarksFrom l.fn.mask l.index l.block;
}

abbrev pub decreases-loop-index : goal.decreases-loop-index
decreases-loop-index g l = l.end - l.index

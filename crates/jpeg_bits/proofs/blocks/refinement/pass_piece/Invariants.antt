use Rattle.jpeg_bits.proofs.blocks.refinement.pass_piece.Given as goal
use Rattle.std.proofs.Common.{◌≡◌, ◌-◌, ◌≤◌, List, ℤ, Ok, length}
use Rattle.jpeg_bits.specs.Entropy.{Text, bits_from}
use Rattle.jpeg_bits.specs.Masks.{MarksFrom}
use Rattle.jpeg_bits.specs.Pieces.{piece_from}
use Rattle.jpeg_bits.specs.BlockView.{pass_in}
use Rattle.jpeg_bits.specs.ZigzagParts.{band_end, rest_in}
use Rattle.jpeg_bits.proofs.PieceWalks.{walk_at}

abbrev pub invariant-loop-index : goal.invariant-loop-index
invariant-loop-index l = record {
  after : l.fn.piece.from ≤ l.index;
  within : l.index ≤ band_end (pass_in l.fn.piece.pass);
  walk : (block : List ℤ) (t : Text) → length block ≡ 64 → MarksFrom l.fn.mask l.fn.piece.from block
      → bits_from 1 t ≡ Ok (0, t)
      → piece_from l.fn.piece.pass.al l.fn.piece.zeros (rest_in (pass_in l.fn.piece.pass) l.fn.piece.from block) t
      ≡ walk_at l.fn.piece.pass.al l.left l.fn.piece.from (band_end (pass_in l.fn.piece.pass)) block l.index t;
}

abbrev pub decreases-loop-index : goal.decreases-loop-index
decreases-loop-index l = l.end - l.index

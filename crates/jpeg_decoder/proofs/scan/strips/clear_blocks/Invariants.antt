use Rattle.std.proofs.Common.{◌≡◌, length, replicate, pos}
use Rattle.jpeg_meaning.proofs.InPlace.{patched}
use Rattle.jpeg_decoder.proofs.scan.strips.clear_blocks.Given as goal

abbrev pub invariant-loop-block : goal.invariant-loop-block
invariant-loop-block l = l.blocks ≡ patched l.block-index (replicate (length l.fn.blocks) (replicate 64
    (pos 0))) l.fn.blocks

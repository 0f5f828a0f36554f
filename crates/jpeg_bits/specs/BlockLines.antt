-- Blocks of a component that a scan codes one after the other, as they are read and put back. The
-- code's own.
use Rattle.std.specs.Prelude.{ℕ, ℤ, List, [], ◌∷◌, get_or, set}
use Rattle.jpeg_bits.specs.Readers.{Reads, ◌>>=◌, gives}
use Rattle.jpeg_bits.specs.Codes.{Table}
use Rattle.jpeg_bits.specs.Passes.{Pass, Block, block_from, zero_block}

-- blocks, the predictor of their component, and the blocks of the run that follows
abbrev pub Line : Type 0
Line = List Block × ℤ × ℕ

-- the blocks at these indices, each on what is kept of it
unfoldable pub blocks_at : Pass → Table → Table → List ℕ → Line → Reads Line
blocks_at p dc ac [] line = gives line
blocks_at p dc ac (k ∷ more) line =
    block_from p dc ac line.1 line.2 (get_or line.0 k zero_block) >>= (λ r.
    blocks_at p dc ac more (set line.0 k r.0, r.1, r.2))

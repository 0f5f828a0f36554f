-- Whether entropy-coded data go on where their bytes do.
use Rattle.std.specs.Prelude.{◌≡◌}
use Rattle.jpeg_bits.specs.Entropy.{At, Met, Unmet}
use Rattle.jpeg_bits.specs.declared.beyond.Beyond.TheVariants.{Zeros}
use Rattle.jpeg_bits.specs.declared.huffman.ahead.DataEnd.TheVariants as ends

-- the data haven't ended with their bytes, and zeros follow the marker that ends them
abbrev pub IsOpen : Met → Type 0
IsOpen (Unmet beyond) = beyond ≡ Zeros
IsOpen (At e) = e ≡ ends.Ended → ⊥

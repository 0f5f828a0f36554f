-- What the reader of bits stands for.
use Rattle.jpeg_bits.specs.Written.{low_bits}
use Rattle.zaxbriar_strict.specs.Data.{Data}
use Rattle.zaxbriar_strict.specs.declared.bits.Bits.{Bits}

abbrev pub data_of : Bits → Data
data_of b = record { bits = low_bits b.left b.window; bytes = b.rest.rest.now }

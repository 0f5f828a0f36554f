-- Why a picture isn't written.
use Rattle.jpeg_bits.specs.declared.error.Error.{Error}
use Rattle.jpeg_bits.specs.declared.error.Error.TheVariants.{Io, OutOfMemory}

-- an error of the writer, or out of memory
abbrev pub IsOfWriter : Error → Type 0
IsOfWriter (Io error) = Unit {0}
IsOfWriter OutOfMemory = Unit {0}
IsOfWriter _ = ⊥

-- What a call left of a whole that is read in parts.
use Rattle.std.proofs.Common.{arith, ◌≡◌, Err}
use Rattle.jpeg_bits.specs.Stream.{Stream}
use Rattle.jpeg_bits.specs.Reading.{Fault}
use Rattle.jpeg_bits.specs.Entropy.{Text, Ahead, Takes}
use Rattle.jpeg_bits.specs.declared.error.Error.{Error}
use Rattle.jpeg_bits.specs.Readers.{Reads}
use Rattle.jpeg_bits.proofs.BandLoop.{Leaves}

-- a refusal after a part of the whole
pub refused_after : {X Y Z W : Type 0} (v : X → Y) (view : Z → W) (whole rest : Reads Y) (read : Reads W)
    (a b d : Ahead) (old cur new : Stream) (e : Error)
    → ((t : Text) (f : Fault) → read t ≡ Err f → rest t ≡ Err f) → Leaves whole a old rest b cur
    → Takes view read b cur (Err e) d new → Takes v whole a old (Err e) d new
refused_after v view whole rest read a b d old cur new e through p q = grind arith

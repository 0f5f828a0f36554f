use Rattle.std.proofs.Common.{◌≡◌, take}
use Rattle.jpeg_meaning.specs.FoundPlanes.{bytes_of_samples}
use Rattle.jpeg_decoder.proofs.picture.planes.bytes_of_samples.Given as goal

abbrev pub invariant-loop-index : goal.invariant-loop-index
invariant-loop-index l = l.bytes.items ≡ bytes_of_samples l.precision (take l.index l.fn.samples)

use Rattle.std.proofs.Common.{◌≡◌, map, take}
use Rattle.jpeg_meaning.specs.FoundPlanes.{bytes_of_samples}
use Rattle.jpeg_decoder.proofs.picture.planes.bytes_of_all.Given as goal

abbrev pub invariant-loop-index : goal.invariant-loop-index
invariant-loop-index l = map (λ v. v.items) l.all.items
    ≡ map (bytes_of_samples l.precision) (take l.index (map (λ v. v.items) l.fn.planes))

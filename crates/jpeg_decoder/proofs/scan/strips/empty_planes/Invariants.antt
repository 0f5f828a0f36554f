use Rattle.std.proofs.Common.{◌≡◌, map, take, []}
use Rattle.jpeg_decoder.specs.Steps.{coding_in}
use Rattle.jpeg_decoder.specs.Strips.{plane_lists}
use Rattle.jpeg_decoder.proofs.scan.strips.empty_planes.Given as goal

abbrev pub invariant-loop-coded : goal.invariant-loop-coded
invariant-loop-coded l = plane_lists l.planes.items ≡ map (λ c. []) (map coding_in (take
    l.coded-index l.codings))

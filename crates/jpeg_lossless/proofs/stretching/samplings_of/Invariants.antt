use Rattle.std.proofs.Common.{◌≡◌, map, take}
use Rattle.jpeg_lossless.specs.Samplings.{sampling_in}
use Rattle.jpeg_lossless.proofs.stretching.samplings_of.Given as goal

abbrev pub invariant-loop-i : goal.invariant-loop-i
invariant-loop-i l = l.samplings.items ≡ map sampling_in (take l.i l.components)

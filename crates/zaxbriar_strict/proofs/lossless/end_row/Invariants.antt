use Rattle.std.proofs.Common.{◌≡◌, map}
use Rattle.zaxbriar_strict.specs.ScanSamples.{share_of}
use Rattle.zaxbriar_strict.proofs.lossless.end_row.Given as goal

abbrev pub invariant-loop-slot : goal.invariant-loop-slot
invariant-loop-slot l = map share_of l.all.items ≡ map share_of l.fn.all.items

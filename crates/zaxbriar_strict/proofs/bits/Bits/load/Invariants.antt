use Rattle.std.proofs.Common.{[]}
use Rattle.zaxbriar_strict.specs.Data.{Takes}
use Rattle.zaxbriar_strict.specs.Loaded.{data_of}
use Rattle.zaxbriar_strict.proofs.bits.Bits.load.Given as goal

abbrev pub invariant-loop : goal.invariant-loop
invariant-loop l = Takes [] (data_of l.initial.self) (data_of l.self)

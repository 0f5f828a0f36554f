use Rattle.std.proofs.Common.{length}
use Rattle.std.specs.Option.{option_copied}
use Rattle.zaxbriar_strict.proofs.Segments.{CodesRead, most_of}
use Rattle.zaxbriar_strict.proofs.tables.Tables.read_codes.Given as goal

abbrev pub invariant-loop-rest : goal.invariant-loop-rest
invariant-loop-rest l =
    CodesRead (most_of (option_copied l.frame)) l.initial.rest.rest.now l.rest.rest.now l.initial.self l.self

abbrev pub decreases-loop-rest : goal.decreases-loop-rest
decreases-loop-rest l = length l.rest.rest.now

use Rattle.std.proofs.Common.{None, slice_index_or, take}
use Rattle.std.specs.List.{AllByRecursion}
use Rattle.zaxbriar_strict.specs.Contexts.{IsInstalled}
use Rattle.zaxbriar_strict.specs.Heads.{members_of}
use Rattle.zaxbriar_strict.specs.Installed.{codes_of}
use Rattle.zaxbriar_strict.specs.Members.{HaveTables}
use Rattle.zaxbriar_strict.proofs.lossless.check_tables.Given as goal

abbrev pub invariant-loop-member : goal.invariant-loop-member
invariant-loop-member l = HaveTables 3 (members_of l.scan) → AllByRecursion
    (λ m. IsInstalled (slice_index_or (codes_of l.tables).dc m.dc None)) (take l.member-index (members_of l.scan))

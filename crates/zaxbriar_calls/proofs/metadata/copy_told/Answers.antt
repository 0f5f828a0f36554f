use Rattle.std.proofs.Common.{arith, ◌∙◌, sym}
use Rattle.zaxbriar_calls.proofs.Fails.{no-kind, other-named}
use Rattle.zaxbriar_calls.specs.Metadata.{kind_alone}
use Rattle.zaxbriar_calls.proofs.metadata.copy_told.Goals as goal
use Rattle.zaxbriar_calls.proofs.metadata.copy_told.Goals.{then-code-eq-NO_DATA, else-code-eq-NO_DATA}

pub returns-clause-copied : goal.returns-clause-copied
returns-clause-copied g c none =
    let told = c.in-Ok.ensures.told c.requires.known in
    elim c.if-code-eq-NO_DATA.branch [
      | then-code-eq-NO_DATA w ↦ absurd (c.in-Ok.ensures.fails.0 (sym w.result-is ∙ none))
      | else-code-eq-NO_DATA w ↦ grind arith
    ]

pub returns-clause-named : goal.returns-clause-named
returns-clause-named g c =
    grind (arith, then-code-eq-NO_DATA, else-code-eq-NO_DATA, other-named)

pub returns-clause-room : goal.returns-clause-room
returns-clause-room g c longer =
    let told = c.in-Ok.ensures.told c.requires.known in
    elim c.if-code-eq-NO_DATA.branch [
      | then-code-eq-NO_DATA w ↦ absurd (c.in-Ok.ensures.fails.1 (sym w.result-is ∙ longer))
      | else-code-eq-NO_DATA w ↦ grind arith
    ]

pub returns-clause-unsaid : goal.returns-clause-unsaid
returns-clause-unsaid g c some few =
    let told = c.in-Ok.ensures.told c.requires.known in
    elim c.if-code-eq-NO_DATA.branch [
      | then-code-eq-NO_DATA w ↦ grind arith
      | else-code-eq-NO_DATA w ↦ grind arith
    ]

pub returns-clause-uncounted : goal.returns-clause-uncounted
returns-clause-uncounted g c a b =
    grind (arith, then-code-eq-NO_DATA, else-code-eq-NO_DATA)

pub returns-clause-known : goal.returns-clause-known
returns-clause-known g c unknown =
    elim c.if-code-eq-NO_DATA.branch [
      | then-code-eq-NO_DATA w ↦ absurd (c.in-Ok.ensures.fails.2 (sym w.result-is ∙ unknown))
      | else-code-eq-NO_DATA w ↦ no-kind (kind_alone c.args.kind) c.in_ok-code.code
          (rw c.kind_alone.ensures at c.in_ok-code.ensures.known) (sym w.result-is ∙ unknown)
    ]

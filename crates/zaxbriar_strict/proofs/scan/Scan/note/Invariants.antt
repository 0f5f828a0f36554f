use Rattle.std.proofs.Common.{take}
use Rattle.zaxbriar_strict.proofs.NotedScans.{NotesFirst}
use Rattle.zaxbriar_strict.proofs.scan.Scan.note.Given as goal

abbrev pub invariant-loop-member : goal.invariant-loop-member
invariant-loop-member l = NotesFirst l.self (take l.member-index l.member-items) l.fn.frame l.frame

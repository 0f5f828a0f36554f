use Rattle.std.proofs.Common.{◌≡◌, drop}
use Rattle.zaxbriar_files.specs.Machine.{number_from}
use Rattle.zaxbriar_files.proofs.machine.number_in.Given as goal

abbrev pub invariant-loop-byte : goal.invariant-loop-byte
invariant-loop-byte l =
    number_from l.number (drop l.byte-index l.fn.text) ≡ number_from 0 l.fn.text

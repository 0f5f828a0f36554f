-- The status that the program ends with.
use Rattle.std.specs.Prelude.{ℕ, ◌==◌, ◌&&◌, not, if◌then◌else◌, Result, Ok, Err}
use Rattle.zaxbriar_files.specs.declared.ending.Failure.{Failure}
use Rattle.zaxbriar_files.specs.declared.ending.Failure.TheVariants.{Faulty, Refused, WrongUse}

-- 0 where all was done, 1 where a file was refused or can't be read or written, 2 for wrong
-- arguments, and 3 where a file has a fault and the part of its picture before it was written
abbrev pub status_of : Result (Unit {0}) Failure → ℕ
status_of (Ok done) = 0
status_of (Err Refused) = 1
status_of (Err WrongUse) = 2
status_of (Err Faulty) = 3

-- the status after two files: that of the first that did not end well, but 3 only where no other
-- did worse
abbrev pub worse_status : ℕ → ℕ → ℕ
worse_status first second =
    if first == 0 then second else if first == 3 && not (second == 0) then second else first

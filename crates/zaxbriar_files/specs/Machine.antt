-- How many bytes a picture may take on a machine, by what its system says.
use Rattle.std.specs.Prelude.{ℕ, ◌+◌, ◌*◌, ◌-◌, ◌/◌, ◌^◌, ◌==◌, List, [], ◌∷◌, min, Option, None}
use Rattle.std.specs.Prelude.{Some, if◌then◌else◌}
use Rattle.std.specs.Char.{is_ascii_digit}

-- a number, as far as 64 bits hold it
abbrev pub capped : ℕ → ℕ
capped n = min n (2 ^ 64 - 1)

-- A number with a further digit, where a byte is one: 48 is `0`.
abbrev pub with_digit : ℕ → ℕ → ℕ
with_digit number byte =
    if is_ascii_digit byte then capped (capped (number * 10) + (byte - 48)) else number

-- The number whose digits the rest of a line has, after those of a number; 10 ends the line.
unfoldable pub number_from : ℕ → List ℕ → ℕ
number_from number [] = number
number_from number (byte ∷ more) =
    if byte == 10 then number else number_from (with_digit number byte) more

-- Half of the lesser number of bytes, of a machine of so many kilobytes and of a control group of
-- so many bytes. 0 is a number that isn't known.
abbrev pub share_of : ℕ → ℕ → Option ℕ
share_of kilobytes group =
    let bytes = capped (kilobytes * 1024) in
    if bytes == 0 then (if group == 0 then None else Some (group / 2))
    else (if group == 0 then Some (bytes / 2) else Some (min bytes group / 2))

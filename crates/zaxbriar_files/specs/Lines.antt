-- Characters that a text of one line has not.
use Rattle.std.specs.Prelude.{ℕ, ◌||◌, ◌&&◌, ◌==◌, Bool, nat_le}

-- whether a number is within these bounds
abbrev pub is_from_to : ℕ → ℕ → ℕ → Bool
is_from_to first last n = nat_le first n && nat_le n last

-- whether a character, given by its number in Unicode, ends the line, or acts on a terminal or on
-- the text around it in place of being shown: the control characters C0, DEL and C1, the separators
-- of lines and paragraphs, and the marks, embeddings, overrides and isolates of direction
abbrev pub is_acting : ℕ → Bool
is_acting c = is_from_to 0 31 c || (is_from_to 127 159 c || (c == 1564
    || (is_from_to 8206 8207 c || (is_from_to 8232 8238 c || is_from_to 8294 8297 c))))

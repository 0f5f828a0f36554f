-- What lies ahead of the lines that are given one after the other.
use Rattle.std.specs.Prelude.{◌==◌, ℕ, List, [], true, false}

-- lines of a picture that are left, and the last one that was taken
pub record LinesLeft : Type 0 where
  pub left : List (List ℕ)
  pub line : List ℕ

-- the last line of so many, by the room for it
unfoldable pub line_taken : ℕ → List ℕ → List ℕ
line_taken taken room = elim (taken == 0) [ true ↦ [] | false ↦ room ]

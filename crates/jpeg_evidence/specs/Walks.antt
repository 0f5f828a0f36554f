-- The zigzag order of T.81, Figure A.6, as a walk over the diagonals of a block.
use Rattle.std.specs.Prelude.{ℕ, zero, suc, ◌+◌, ◌-◌, ◌*◌, ◌%◌, ◌==◌, List, [], ◌∷◌, if◌then◌else◌}

-- a row and a column
pub record Position : Type 0 where
  pub row : ℕ
  pub column : ℕ

abbrev pub at : ℕ → ℕ → Position
at row column = record { row = row; column = column }

-- The next position: up and right on a diagonal whose row and column add up to an even number, down
-- and left on another; at the block's edge on to the next diagonal.
abbrev pub next : Position → Position
next p =
    if (p.row + p.column) % 2 == 0
    then (if p.column == 7 then at (p.row + 1) 7 else (if p.row == 0 then at 0 (p.column + 1)
    else at (p.row - 1) (p.column + 1)))
    else (if p.row == 7 then at 7 (p.column + 1) else (if p.column == 0 then at (p.row + 1) 0
    else at (p.row + 1) (p.column - 1)))

-- the positions of a walk of n steps, by row * 8 + column
unfoldable pub walk : ℕ → Position → List ℕ
walk zero p = []
walk (suc n) p = (p.row * 8 + p.column) ∷ walk n (next p)

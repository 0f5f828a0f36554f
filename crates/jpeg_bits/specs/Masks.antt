-- The coefficients of a block that aren't 0, as the bits of a number.
use Rattle.std.specs.Prelude.{◌≡◌, ◌≤◌, ◌<◌, ℕ, List, ℤ, pos, get_or, true, false}
use Rattle.std.specs.Int.{bit_at}
use Rattle.jpeg_bits.specs.Zigzag.{zigzag}
use Rattle.jpeg_bits.specs.Refinement.{is_zero}

-- the coefficient of a block in block order that stands at a zigzag index
abbrev pub coefficient_at : ℕ → List ℤ → ℤ
coefficient_at k block = get_or block (get_or zigzag k 0) (pos 0)

-- From a zigzag index on, bit k of a mask is set where the coefficient at zigzag index k isn't 0.
pub record MarksFrom (mask from : ℕ) (block : List ℤ) : Type 0 where
  pub zeros : (k : ℕ) → from ≤ k → k < 64 → bit_at mask k ≡ 0 → coefficient_at k block ≡ pos 0
  pub values : (k : ℕ) → from ≤ k → k < 64 → bit_at mask k ≡ 1 → coefficient_at k block ≡ pos 0 → ⊥

-- 1 for a coefficient that isn't 0
abbrev pub marked : ℤ → ℕ
marked z = elim (is_zero z) [ true ↦ 0 | false ↦ 1 ]

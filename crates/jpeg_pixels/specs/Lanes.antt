-- The lanes of a vector.
use Rattle.std.specs.Prelude.{ℕ, List, map, ℤ, pos, slice_index_or, Bool, unsigned_abs, ◌==◌}
use Rattle.std.specs.List.{range_with_len}

-- a vector of eight lanes, by what stands in each
unfoldable pub lanes : {A : Type 0} → (ℕ → A) → List A
lanes f = map f (range_with_len 0 8)

-- what stands in a lane
abbrev pub lane : List ℤ → ℕ → ℤ
lane v k = slice_index_or v k (pos 0)

-- whether 0 stands in a lane
abbrev pub lane_is_zero : List ℤ → ℕ → Bool
lane_is_zero v k = unsigned_abs (lane v k) == 0

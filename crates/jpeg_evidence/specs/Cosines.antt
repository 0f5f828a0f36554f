-- The cosines of m sixteenths of pi, in units of 10^-12, and how near to them the numbers of the
-- inverse transform are (T.81, A.3.3).
use Rattle.std.specs.Prelude.{ℕ, zero, suc, ◌+◌, ◌-◌, ◌*◌, ◌%◌, ◌&&◌, ◌||◌, nat_le, nat_lt}
use Rattle.std.specs.Prelude.{Bool, true, false, List, [], ◌∷◌, ℤ, pos, negsuc, neg_ℤ, ◌+ℤ◌, ◌-ℤ◌}
use Rattle.std.specs.Prelude.{◌*ℤ◌, unsigned_abs, slice_index_or, if◌then◌else◌}
use Rattle.std.specs.List.{list_all, range_with_len}
use Rattle.jpeg_pixels.specs.Samples.{basis}

abbrev pub unit : ℕ
unit = 1000000000000

abbrev pub cosines : List ℤ
cosines =
    pos 1000000000000 ∷ pos 980785280403 ∷ pos 923879532511 ∷ pos 831469612303 ∷ pos 707106781187
    ∷ pos 555570233020 ∷ pos 382683432365 ∷ pos 195090322016 ∷ pos 0 ∷ neg_ℤ (pos 195090322016)
    ∷ neg_ℤ (pos 382683432365) ∷ neg_ℤ (pos 555570233020) ∷ neg_ℤ (pos 707106781187)
    ∷ neg_ℤ (pos 831469612303) ∷ neg_ℤ (pos 923879532511) ∷ neg_ℤ (pos 980785280403)
    ∷ neg_ℤ (pos 1000000000000) ∷ []

-- of any number of sixteenths: it is the same 32 further, and as far below 32
unfoldable pub cosine : ℕ → ℤ
cosine m =
    let n = m % 32 in
    slice_index_or cosines (if nat_le n 16 then n else 32 - n) (pos 0)

abbrev pub is_near : ℕ → ℤ → ℤ → Bool
is_near most a b = nat_le (unsigned_abs (a -ℤ b)) most

abbrev pub is_positive : ℤ → Bool
is_positive (pos zero) = false
is_positive (pos (suc n)) = true
is_positive (negsuc n) = false

-- d'Alembert's equation, which makes a function with these ends that falls the cosine:
-- 2 cos i cos j = cos (i - j) + cos (i + j), within 2 units
unfoldable pub adds : ℕ → ℕ → Bool
adds i j = nat_lt i j || is_near (2 * unit) (pos 2 *ℤ cosine i *ℤ cosine j)
    (pos unit *ℤ (cosine (i - j) +ℤ cosine (i + j)))

-- The entry of the transform's matrix has the sign of cos ((2 row + 1) k pi / 16), and its square
-- is that of 4096 sqrt 2 times the cosine within 19147: so the entry is within 2 of it.
unfoldable pub is_entry : ℕ → ℕ → Bool
is_entry row k =
    let c = cosine ((2 * row + 1) * k) in
    let b = basis row k in
    is_positive (b *ℤ c)
    && is_near (19147 * (unit * unit)) (b *ℤ b *ℤ pos (unit * unit)) (pos 33554432 *ℤ (c *ℤ c))

-- each entry but those of DC, which are 4096
unfoldable pub are_entries : Bool
are_entries = list_all (λ row. list_all (is_entry row) (range_with_len 1 7)
    && is_near 0 (basis row 0) (pos 4096)) (range_with_len 0 8)

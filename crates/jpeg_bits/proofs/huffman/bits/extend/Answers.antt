use Rattle.std.proofs.Common.{◌≡◌, ◌≤◌, ◌<◌, ◌^◌, ℕ, ℤ, ◌-◌, ◌*◌, ◌/◌, ◌-ℤ◌, w16, arith}
use Rattle.std.proofs.Math.Nat.{pow-suc, div-eq_of_lt, div-eq-sub-div}
use Rattle.std.proofs.lemmas.Bool.{lt-ltb, le-ltb}
use Rattle.std.proofs.lemmas.Int.{to_z_pos, to_z-of_z}
use Rattle.std.specs.Int.{cast_signed, cast_unsigned}
use Rattle.jpeg_bits.specs.Entropy.{extended}
use Rattle.jpeg_bits.proofs.huffman.bits.extend.Goals as goal
use Rattle.std.proofs.lemmas.Grind.{common_steps}

-- what is computed, by the highest bit of v
abbrev by_top : ℕ → ℕ → ℕ → ℤ
by_top v h top = cast_signed w16 (cast_unsigned w16 (cast_signed w16 v -ℤ cast_signed w16 ((1 - top) * (2 * h - 1))))

is_extended : (v s h : ℕ) → h ≡ 2 ^ (s - 1) → 2 ^ s ≡ 2 * h → v < 2 * h → h ≤ 16384
    → by_top v h (v / h) ≡ extended v s
unfolding extended
is_extended v s h half whole small most =
    grind (arith, common_steps, div-eq_of_lt, to_z_pos, lt-ltb, to_z-of_z, div-eq-sub-div, le-ltb)

pub returns : goal.returns
returns c = grind (arith, common_steps, pow-suc, is_extended)

-- What a caller sees of the state of a scan.
use Rattle.std.specs.Prelude.{ℕ, ◌≤◌, List, ℤ, pos, drop, get_or, slice_index_or}
use Rattle.jpeg_bits.specs.Passes.{Pass, Block}
use Rattle.jpeg_bits.specs.Zigzag.{coefficients_in_zigzag}
use Rattle.jpeg_bits.specs.declared.blocks.pass.Pass as declared
use Rattle.jpeg_bits.specs.declared.blocks.Carried.{Carried}

abbrev pub pass_in : declared.Pass → Pass
pass_in p = record { is_first = p.is_first; ss = p.ss; se = p.se; al = p.al }

-- the DC coefficient of a block in block order
abbrev pub dc_in : List ℤ → ℤ
dc_in l = slice_index_or l 0 (pos 0)

-- a block of its coefficients, which stand in block order
abbrev pub to_block : List ℤ → Block
to_block l = record { dc = dc_in l; acs = drop 1 (coefficients_in_zigzag l) }

-- the predictor of the component with this index in the scan
abbrev pub predictor_at : ℕ → Carried → ℤ
predictor_at slot c = get_or c.predictors slot (pos 0)

-- The indices of a pass are indices of a block, and its level is one that a scan may have.
pub record IsPass (p : Pass) : Type 0 where
  pub order : p.ss ≤ p.se
  pub end : p.se ≤ 63
  pub level : p.al ≤ 13

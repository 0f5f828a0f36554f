-- The band of a sequential scan (T.81, B.2.3 and F.1.2).
use Rattle.std.specs.Prelude.{◌≡◌, false}
use Rattle.zaxbriar_strict.specs.declared.blocks.Band.{Band}

-- All coefficients are sent, with all their bits, in a first scan, and no band ends with others.
pub record IsWhole (b : Band) : Type 0 where
  pub first : b.first ≡ 0
  pub last : b.last ≡ 63
  pub low : b.low ≡ 0
  pub is_first : b.is_refined ≡ false
  pub sequential : b.is_progressive ≡ false

-- A stream that arrives in pieces.
use Rattle.std.specs.Prelude.{ℕ, List}
use Rattle.zaxbriar_calls.specs.declared.options.Options.{Options}

-- how it is to be decoded, and all bytes that have arrived
pub record Arrived : Type 0 where
  pub options : Options
  pub bytes : List ℕ

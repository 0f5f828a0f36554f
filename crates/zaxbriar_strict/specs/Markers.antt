-- Markers in the words of a writer (T.81, B.1.1.2 and B.1.1.3).
use Rattle.std.specs.Prelude.{◌≡◌, ◌≢◌, ℕ, ◌+◌, ◌%◌, List}
use Rattle.jpeg_bits.specs.Written.{marker}
use Rattle.zaxbriar_strict.specs.Data.{Data, IsFilling, Reads, data_at}

-- Bytes that begin with a marker of this code, after any number of fill bytes, and these others.
pub record BeginsMarker (code : ℕ) (bytes rest : List ℕ) : Type 0 where
  pub fill : ℕ
  pub parts : bytes ≡ marker fill code rest
  pub some : code ≢ 0
  pub other : code ≢ 255

-- The data of an interval end, and those of the next begin after RST with number k modulo 8
-- (E.1.4).
pub record Restarts (k : ℕ) (old new : Data) : Type 0 where
  pub between : List ℕ
  pub after : List ℕ
  pub filled : Reads IsFilling old (data_at between)
  pub marked : BeginsMarker (0xD0 + k % 8) between after
  pub begins : new ≡ data_at after

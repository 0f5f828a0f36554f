-- What is taken of entropy-coded data (T.81, B.1.1.5), in the words of a writer.
use Rattle.std.specs.Prelude.{◌≡◌, ℕ, ◌≤◌, ◌++◌, Bool, true, List, [], replicate}
use Rattle.jpeg_bits.specs.Written.{bits_of_bytes, stuffed}

-- Data that are still to be read: the bits that are loaded and not taken, and the bytes after them.
pub record Data : Type 0 where
  pub bits : List Bool
  pub bytes : List ℕ

-- data of which nothing is loaded
abbrev pub data_at : List ℕ → Data
data_at bytes = record { bits = []; bytes = bytes }

-- These bits were taken. Some bytes went, with 00 after each FF, and their bits stand after those
-- that were loaded before: first come the bits that were taken, and then those that are loaded now.
pub record Takes (own : List Bool) (old new : Data) : Type 0 where
  pub data_bytes : List ℕ
  pub parts : old.bytes ≡ stuffed data_bytes ++ new.bytes
  pub has_bits : old.bits ++ bits_of_bytes data_bytes ≡ own ++ new.bits

-- Bits were taken of which this holds.
pub record Reads (P : List Bool → Type 0) (old new : Data) : Type 0 where
  pub own : List Bool
  pub taken : Takes own old new
  pub holds : P own

-- what fills a last byte: at most 7 bits, all of them ones (F.1.2.3)
pub record IsFilling (own : List Bool) : Type 0 where
  pub count : ℕ
  pub few : count ≤ 7
  pub are : replicate count true ≡ own

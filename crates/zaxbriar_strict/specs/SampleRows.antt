-- Rows of MCUs of a lossless scan as they are read, interval by interval, in the words of a writer
-- (T.81, E.1.4 and H.1.1).
use Rattle.std.specs.Prelude.{◌≡◌, ◌≢◌, ◌≤◌, ◌+◌, ◌*◌, ◌/◌, ◌%◌, ℕ, List, map, replicate}
use Rattle.jpeg_bits.specs.Codes.{Table}
use Rattle.jpeg_lossless.specs.Written.{WritesRows}
use Rattle.zaxbriar_strict.specs.Data.{Reads, data_at}
use Rattle.zaxbriar_strict.specs.Loaded.{data_of}
use Rattle.zaxbriar_strict.specs.Runs.{Closes}
use Rattle.zaxbriar_strict.specs.declared.intervals.Intervals.{Intervals}

-- differences, each beside its table
abbrev pub Row : Type 0
Row = List (Table × ℕ)

-- So many rows have these tables each.
abbrev pub AreRows : List Table → ℕ → List Row → Type 0
AreRows tables count rows = map (map (λ x. x.0)) rows ≡ replicate count tables

-- So many rows of so many MCUs, by some tables each, were read of these bytes, where an interval
-- has a number of MCUs, or 0 for any: those of intervals that are closed, and others of the
-- interval that is read now.
pub record HaveRead (tables : List Table) (wide every : ℕ) (bytes : List ℕ) (count : ℕ)
    (i : Intervals) : Type 0 where
  pub not_empty : 1 ≤ wide
  pub whole : every % wide ≡ 0
  pub every_is : i.every ≡ every
  pub before : ℕ
  pub closed : List Row
  pub closed_are : AreRows tables before closed
  pub number : ℕ
  pub numbered : i.next % 8 ≡ number % 8
  pub rest : List ℕ
  pub closes : Closes WritesRows (every / wide) closed number bytes rest
  pub size : ℕ
  pub now : List Row
  pub now_are : AreRows tables size now
  pub run : Reads (WritesRows now) (data_at rest) (data_of i.bits)
  pub counted : before + size ≡ count
  pub left : every ≢ 0 → i.left + size * wide ≡ every

-- The same after a row, if there was one: the interval that is read now has it.
pub record IsAfterRows (tables : List Table) (wide every : ℕ) (bytes : List ℕ) (count : ℕ)
    (i : Intervals) : Type 0 where
  pub so_far : HaveRead tables wide every bytes count i
  pub some : 1 ≤ count → 1 ≤ so_far.size

-- The same before a row: the interval that is read now has room for it.
pub record IsBeforeRow (tables : List Table) (wide every : ℕ) (bytes : List ℕ) (count : ℕ)
    (i : Intervals) : Type 0 where
  pub so_far : HaveRead tables wide every bytes count i
  pub room : every ≢ 0 → wide ≤ i.left

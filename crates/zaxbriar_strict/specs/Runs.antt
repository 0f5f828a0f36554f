-- Blocks of a scan as they are read, MCU by MCU and interval by interval, in the words of a writer
-- (T.81, E.1.4 and F.1.2).
use Rattle.std.specs.Prelude.{◌≡◌, ◌≢◌, ◌+◌, ◌*◌, ◌≤◌, ◌%◌, ◌++◌, [], ℕ, zero, suc, Bool, true}
use Rattle.std.specs.Prelude.{false, List, length, map, zip}
use Rattle.std.specs.List.{AllByRecursion}
use Rattle.jpeg_bits.specs.Intervals.{first_group, other_groups}
use Rattle.jpeg_bits.specs.Passes.{Block, Pass, Via, predictors_at_start}
use Rattle.jpeg_bits.specs.Written.{WritesIntervals}
use Rattle.jpeg_meaning.specs.Levels.{Is8Bit}
use Rattle.jpeg_meaning.specs.WrittenData.{WritesBlocks}
use Rattle.zaxbriar_strict.specs.Blocks.{WritesTurns}
use Rattle.zaxbriar_strict.specs.Changes.{AreMade, Change, IsGood, IsNext, Kept, Place, sent_by}
use Rattle.zaxbriar_strict.specs.Data.{Data, Reads, data_at}
use Rattle.zaxbriar_strict.specs.Loaded.{data_of}
use Rattle.zaxbriar_strict.specs.Sent.{AllInner}
use Rattle.zaxbriar_strict.specs.declared.intervals.Intervals.{Intervals}
use Rattle.zaxbriar_strict.specs.declared.transform.Past.{Past}

-- this many MCUs, of which each has blocks that are coded in these ways
unfoldable pub repeated : ℕ → List Via → List Via
repeated zero unit = []
repeated (suc n) unit = unit ++ repeated n unit

-- ---- blocks

-- the blocks that the end of a band stands for: none in a sequential frame
abbrev pub run_in : Bool → Past → ℕ
run_in false past = 0
run_in true past = past.run

abbrev pub at_start : Past
at_start = record { dc = predictors_at_start; run = 0 }

-- What is asked of changes: in a frame whose blocks aren't kept, nothing.
unfoldable pub AreGood : Bool → Pass → List Change → Type 0
AreGood false p cs = Unit {0}
AreGood true p cs = AllByRecursion (IsGood p) cs

-- Blocks were changed in this pass: of a frame whose blocks are kept (a progressive one), from what
-- is kept before to what is kept after, or else of one whose blocks are 8-bit samples'. A number at
-- an end of the range of 16 bits is noted.
pub record AreChanged (is_kept : Bool) (p : Pass) (cs : List Change) (from to : Kept) : Type 0 where
  pub made : is_kept ≡ true → AreMade cs from to
  pub next : is_kept ≡ true → AreGood is_kept p cs → AllByRecursion (IsNext p) cs
  pub inner : is_kept ≡ true → to.is_wide ≡ false
      → (from.is_wide ≡ false) × AllByRecursion (λ c. AllInner c.new) cs
  pub in_range : is_kept ≡ false → AllByRecursion (λ c. Is8Bit (sent_by p c)) cs

-- the turns of such blocks, by the ways in which they are coded
abbrev pub turns_by : Pass → List Via → List Change → List (Via × Block)
turns_by p ways cs = zip ways (map (sent_by p) cs)

-- Blocks that are coded in these ways were read at these places.
pub record ReadsRun (is_kept : Bool) (p : Pass) (ways : List Via) (places : List Place)
    (before after : Past) (from to : Kept) (old new : Data) : Type 0 where
  pub changes : List Change
  pub counted : length changes ≡ length ways
  pub placed : map (λ c. c.place) changes ≡ places
  pub changed : AreChanged is_kept p changes from to
  pub read : AreGood is_kept p changes
      → Reads (WritesTurns p before.dc (run_in is_kept before) after.dc (run_in is_kept after)
      (turns_by p ways changes)) old new

-- ---- intervals

-- The bytes of intervals of so many parts each, from number k on, where the parts of an interval
-- are written so.
abbrev pub WritesGroups :
    {A : Type 0} → (List A → List Bool → Type 0) → ℕ → ℕ → List A → List ℕ → Type 0
WritesGroups writes every k parts bytes =
    WritesIntervals writes k (first_group every parts) (other_groups every parts) bytes

-- The first k intervals have these parts, and the next one begins these other bytes: what it and
-- those after it are written as goes on what was read.
pub record Closes {A : Type 0} (writes : List A → List Bool → Type 0) (every : ℕ)
    (closed : List A) (k : ℕ) (bytes rest : List ℕ) : Type 0 where
  pub front : List ℕ
  pub parts : bytes ≡ front ++ rest
  pub goes_on : (more : List A) (tail : List ℕ) → 1 ≤ length more
      → WritesGroups writes every k more tail
      → WritesGroups writes every 0 (closed ++ more) (front ++ tail)

-- the bits of the blocks of an interval
abbrev pub WritesPassBlocks : Pass → List (Via × Block) → List Bool → Type 0
WritesPassBlocks p = WritesBlocks p predictors_at_start 0

-- So many MCUs, of some blocks each, were read of these bytes at these places, where an interval
-- has a number of them, or 0 for any: those of intervals that are closed, and others of the
-- interval that is read now.
pub record IsOpen (is_kept : Bool) (p : Pass) (unit : List Via) (every : ℕ) (bytes : List ℕ)
    (count : ℕ) (places : List Place) (from to : Kept) (i : Intervals) (past : Past) : Type 0 where
  pub not_empty : 1 ≤ length unit
  pub every_is : i.every ≡ every
  pub before : ℕ
  pub closed : List Change
  pub sized : length closed ≡ length (repeated before unit)
  pub middle : Kept
  pub changed : AreChanged is_kept p closed from middle
  pub number : ℕ
  pub numbered : i.next % 8 ≡ number % 8
  pub rest : List ℕ
  pub closes : AreGood is_kept p closed
      → Closes (WritesPassBlocks p) (every * length unit)
      (turns_by p (repeated before unit) closed) number bytes rest
  pub size : ℕ
  pub own : List Place
  pub run : ReadsRun is_kept p (repeated size unit) own at_start past middle to (data_at rest)
      (data_of i.bits)
  pub placed : map (λ c. c.place) closed ++ own ≡ places
  pub counted : before + size ≡ count
  pub left : every ≢ 0 → i.left + size ≡ every

-- The same after an MCU, if there was one: the interval that is read now has it.
pub record IsAfter (is_kept : Bool) (p : Pass) (unit : List Via) (every : ℕ) (bytes : List ℕ)
    (count : ℕ) (places : List Place) (from to : Kept) (i : Intervals) (past : Past) : Type 0 where
  pub so_far : IsOpen is_kept p unit every bytes count places from to i past
  pub some : 1 ≤ count → 1 ≤ so_far.size

-- The same before an MCU: the interval that is read now has room for it.
pub record IsBefore (is_kept : Bool) (p : Pass) (unit : List Via) (every : ℕ) (bytes : List ℕ)
    (count : ℕ) (places : List Place) (from to : Kept) (i : Intervals) (past : Past) : Type 0 where
  pub so_far : IsOpen is_kept p unit every bytes count places from to i past
  pub room : every ≢ 0 → 1 ≤ i.left

-- Blocks of a sequential scan that are read, in the words of a writer (T.81, F.1.1.5.1 and F.1.2).
use Rattle.std.specs.Prelude.{◌≡◌, ◌++◌, Bool, false, ℕ, List, ℤ}
use Rattle.jpeg_bits.specs.Codes.{Table}
use Rattle.jpeg_bits.specs.Passes.{Block, Pass, Via, band_of, whole_pass}
use Rattle.jpeg_meaning.specs.Levels.{Is8Bit}
use Rattle.jpeg_meaning.specs.WrittenData.{WritesAc, WritesBlocks, WritesDc}
use Rattle.zaxbriar_strict.specs.Data.{Data, Reads}

-- These are the bits of a block by these tables, after a prediction: DC, which is the next
-- prediction, and then all of AC.
pub record WritesWhole (dc ac : Table) (u : Block) (predictor : ℤ) (own : List Bool) : Type 0 where
  pub dc_bits : List Bool
  pub ac_bits : List Bool
  pub writes_dc : WritesDc whole_pass dc u.dc predictor dc_bits u.dc
  pub writes_ac : WritesAc whole_pass ac (band_of whole_pass u.acs) 0 ac_bits 0
  pub whole : dc_bits ++ ac_bits ≡ own

-- A block was read by these tables, from one prediction to the next: of samples of 12 bits, or of
-- 8, where its coefficients have the range of such a block.
pub record ReadsBlock (is_deep : Bool) (dc ac : Table) (before after : ℤ) (old new : Data)
    : Type 0 where
  pub block : Block
  pub in_range : is_deep ≡ false → Is8Bit block
  pub next : after ≡ block.dc
  pub read : Reads (WritesWhole dc ac block before) old new

-- These bits stand for blocks that follow one another, whatever blocks stand after them: from the
-- predictions of the components before them to those after them, and from the blocks that the end
-- of an earlier band stands for to those that the end of the last one does.
abbrev pub WritesTurns : Pass → List ℤ → ℕ → List ℤ → ℕ → List (Via × Block) → List Bool → Type 0
WritesTurns p before run after left turns own =
    (more : List (Via × Block)) (bits : List Bool) → WritesBlocks p after left more bits
    → WritesBlocks p before run (turns ++ more) (own ++ bits)

use Rattle.std.proofs.Common.{◌≡◌, ℕ, ℤ, List, suc, length, ◌+◌, ◌-◌, ◌++◌}
use Rattle.jpeg_bits.specs.declared.huffman.codes.HuffmanTableClass.{HuffmanTableClass}
use Rattle.jpeg_meaning.specs.WrittenData.{no_numbers}
use Rattle.zaxbriar_strict.specs.BandCodes.{ReadsStep}
use Rattle.zaxbriar_strict.specs.Loaded.{data_of}
use Rattle.zaxbriar_strict.specs.Tables.{codes_in}
use Rattle.zaxbriar_strict.proofs.blocks.Band.read_codes.Given as goal

abbrev pub invariant-loop-place : goal.invariant-loop-place
invariant-loop-place l = record {
  same : l.run ≡ l.fn.run;
  read : (count : ℕ) (front tail : List ℤ) → length front ≡ l.start → l.start + count ≡ suc l.self.last
      → l.fn.block ≡ front ++ (no_numbers count ++ tail) → (class : HuffmanTableClass)
      → ReadsStep (codes_in class l.table) l.self.low l.self.last l.start l.place front tail l.block (data_of l.fn.bits)
      (data_of l.bits);
}

abbrev pub decreases-loop-place : goal.decreases-loop-place
decreases-loop-place l = 64 - l.place

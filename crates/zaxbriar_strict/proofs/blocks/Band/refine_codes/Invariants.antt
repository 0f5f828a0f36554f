use Rattle.std.proofs.Common.{◌≡◌, ℤ, List, suc, length, ◌+◌, ◌-◌, ◌++◌, ◌≤◌}
use Rattle.jpeg_bits.specs.declared.huffman.codes.HuffmanTableClass.{HuffmanTableClass}
use Rattle.zaxbriar_strict.specs.BandCodes.{Refines, RefinesFront}
use Rattle.zaxbriar_strict.specs.Loaded.{data_of}
use Rattle.zaxbriar_strict.specs.Sent.{AllInner, scaled_by}
use Rattle.zaxbriar_strict.specs.Tables.{codes_in}
use Rattle.zaxbriar_strict.proofs.blocks.Band.refine_codes.Given as goal

abbrev pub invariant-loop-place : goal.invariant-loop-place
invariant-loop-place l = record {
  same : l.run ≡ l.fn.run;
  within : l.self.first ≤ suc l.self.last → l.place ≤ suc l.self.last;
  inner : AllInner l.block → AllInner l.fn.block;
  read : (front kept tail : List ℤ) → length front ≡ l.self.first → l.self.first + length kept ≡ suc l.self.last
      → AllInner (scaled_by (suc l.self.low) kept) → l.fn.block ≡ front ++ (scaled_by (suc l.self.low) kept ++ tail)
      → (class : HuffmanTableClass)
      → Refines (RefinesFront (codes_in class l.table)) l.self.low l.place front kept tail l.block (data_of l.fn.bits)
      (data_of l.bits);
}

abbrev pub decreases-loop-place : goal.decreases-loop-place
decreases-loop-place l = 64 - l.place

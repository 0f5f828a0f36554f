use Rattle.std.proofs.Common.{◌≡◌, ℤ, List, suc, length, ◌+◌, ◌-◌, ◌++◌, ◌≤◌}
use Rattle.zaxbriar_strict.specs.BandCodes.{PassesZeros, Refines}
use Rattle.zaxbriar_strict.specs.Loaded.{data_of}
use Rattle.zaxbriar_strict.specs.Sent.{AllInner, scaled_by}
use Rattle.zaxbriar_strict.proofs.blocks.Band.pass.Given as goal

abbrev pub invariant-loop-place : goal.invariant-loop-place
invariant-loop-place l = record {
  few : l.left ≤ l.zeros;
  inner : AllInner l.block → AllInner l.fn.block;
  read : (front kept tail : List ℤ) → length front ≡ l.place-2 → l.place-2 + length kept ≡ suc l.self.last
      → AllInner (scaled_by (suc l.self.low) kept) → l.fn.block ≡ front ++ (scaled_by (suc l.self.low) kept ++ tail)
      → Refines (PassesZeros (l.zeros - l.left)) l.self.low l.place front kept tail l.block (data_of l.fn.bits) (data_of l.bits);
}

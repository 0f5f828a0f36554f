use Rattle.std.proofs.Common.{◌≡◌, ℕ, ◌+◌, ◌≤◌, ◌++◌, List}
use Rattle.jpeg_bits.specs.Passes.{Pass, Via}
use Rattle.zaxbriar_strict.specs.Changes.{Kept, Place, kept_in}
use Rattle.zaxbriar_strict.specs.Contexts.{IsContext, row_places, unit_of}
use Rattle.zaxbriar_strict.specs.Heads.{members_of}
use Rattle.zaxbriar_strict.specs.Kept.{IsKept}
use Rattle.zaxbriar_strict.specs.Runs.{IsAfter}
use Rattle.zaxbriar_strict.proofs.transform.Context.read_row.Given as goal

abbrev pub invariant-loop-column : goal.invariant-loop-column
invariant-loop-column l = record {
  kept : IsKept l.fn.frame l.frame;
  read : (p : Pass) (vias unit : List Via) (every : ℕ) (bytes : List ℕ) (count : ℕ) (places : List Place) (from : Kept)
      → IsContext l.self p vias → l.columns ≤ 300000 → l.row ≤ 300000
      → let size = l.self.scan.now.count in let cs = l.fn.frame.components.items in
      let ms = members_of l.self.scan.now in unit ≡ unit_of size cs ms vias
      → IsAfter l.self.is_progressive p unit every bytes count places from (kept_in cs) l.fn.intervals l.fn.past
      → IsAfter l.self.is_progressive p unit every bytes (count + l.column)
      (places ++ row_places size cs ms l.row l.column) from (kept_in l.frame.components.items) l.intervals l.past;
}

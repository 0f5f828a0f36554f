use Rattle.std.proofs.Common.{◌≡◌, ◌≤◌, ℕ, ◌*◌, List, []}
use Rattle.jpeg_bits.specs.Passes.{Pass, Via}
use Rattle.zaxbriar_strict.specs.Changes.{Kept, kept_in}
use Rattle.zaxbriar_strict.specs.Contexts.{IsContext, scan_places, unit_of}
use Rattle.zaxbriar_strict.specs.Heads.{members_of}
use Rattle.zaxbriar_strict.specs.Kept.{IsKept}
use Rattle.zaxbriar_strict.specs.Runs.{IsAfter}
use Rattle.zaxbriar_strict.proofs.transform.read_scan.Given as goal

abbrev pub invariant-loop-row : goal.invariant-loop-row
invariant-loop-row l = record {
  kept : IsKept l.fn.frame l.frame;
  read : (p : Pass) (vias unit : List Via) (every : ℕ) (bytes : List ℕ) (from : Kept) → IsContext l.context p vias
      → l.columns ≤ 300000 → l.rows ≤ 300000 → let k = l.context.is_progressive in let size = l.scan.count in
      let cs = l.fn.frame.components.items in let ms = members_of l.scan in unit ≡ unit_of size cs ms vias
      → IsAfter k p unit every bytes 0 [] from (kept_in l.initial.frame.components.items) l.initial.intervals
      l.initial.past
      → IsAfter k p unit every bytes (l.row * l.columns) (scan_places size cs ms l.columns l.row) from
      (kept_in l.frame.components.items) l.intervals l.past;
}

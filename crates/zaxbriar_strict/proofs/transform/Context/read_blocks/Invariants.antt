use Rattle.std.proofs.Common.{◌≡◌, ◌≤◌, ◌+◌, ◌*◌, ◌++◌, ℕ, List, Some, replicate, set, slice_get}
use Rattle.std.specs.List.{flat_map, range_with_len}
use Rattle.jpeg_bits.specs.Passes.{Pass, Via}
use Rattle.zaxbriar_strict.specs.Contexts.{IsContext, ReadsBlocks, part_line}
use Rattle.zaxbriar_strict.specs.Kept.{IsKeptComponent}
use Rattle.zaxbriar_strict.specs.declared.frame.Component.{Component}
use Rattle.zaxbriar_strict.proofs.transform.Context.read_blocks.Given as goal

abbrev pub invariant-loop-below : goal.invariant-loop-below
invariant-loop-below l = record {
  kept : IsKeptComponent l.fn.component l.component;
  read : (p : Pass) (vias : List Via) (via : Via) (index : ℕ) (cs : List Component) → IsContext l.self p vias
      → l.fn.place.0 ≤ 300000 → l.fn.place.1 ≤ 300000 → slice_get vias l.slot ≡ Some via
      → slice_get cs index ≡ Some l.fn.component
      → ReadsBlocks l.self p (replicate (l.below * l.across) via)
      (flat_map (part_line l.fn.place.1 l.fn.place.0 index l.fn.component l.fn.component.across)
      (range_with_len 0 l.below)) l.fn.past l.past cs (set cs index l.component) l.fn.bits l.bits;
}

abbrev pub invariant-loop-beside : goal.invariant-loop-beside
invariant-loop-beside l = record {
  kept : IsKeptComponent l.fn.component l.component;
  read : (p : Pass) (vias : List Via) (via : Via) (index : ℕ) (cs : List Component) → IsContext l.self p vias
      → l.fn.place.0 ≤ 300000 → l.fn.place.1 ≤ 300000 → slice_get vias l.slot ≡ Some via
      → slice_get cs index ≡ Some l.fn.component
      → ReadsBlocks l.self p (replicate (l.below * l.across + l.beside) via)
      (flat_map (part_line l.fn.place.1 l.fn.place.0 index l.fn.component l.fn.component.across)
      (range_with_len 0 l.below)
      ++ part_line l.fn.place.1 l.fn.place.0 index l.fn.component l.beside l.below) l.fn.past l.past cs
      (set cs index l.component) l.fn.bits l.bits;
}

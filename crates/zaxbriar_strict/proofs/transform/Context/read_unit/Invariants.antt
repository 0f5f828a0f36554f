use Rattle.std.proofs.Common.{◌≤◌, List, take}
use Rattle.jpeg_bits.specs.Passes.{Pass, Via}
use Rattle.zaxbriar_strict.specs.Contexts.{IsContext, ReadsBlocks, unit_of, unit_places}
use Rattle.zaxbriar_strict.specs.Heads.{members_of}
use Rattle.zaxbriar_strict.specs.Kept.{IsKept}
use Rattle.zaxbriar_strict.proofs.transform.Context.read_unit.Given as goal

abbrev pub invariant-loop-slot : goal.invariant-loop-slot
invariant-loop-slot l = record {
  kept : IsKept l.fn.frame l.frame;
  read : (p : Pass) (vias : List Via) → IsContext l.self p vias → l.fn.place.0 ≤ 300000 → l.fn.place.1 ≤ 300000
      → let count = l.self.scan.now.count in let cs = l.fn.frame.components.items in
      let ms = take l.slot (members_of l.self.scan.now) in
      ReadsBlocks l.self p (unit_of count cs ms (take l.slot vias))
      (unit_places count cs ms l.fn.place.1 l.fn.place.0) l.fn.past l.past cs l.frame.components.items l.fn.bits
      l.bits;
}

use Rattle.std.proofs.Common.{◌≡◌, map, take}
use Rattle.jpeg_bits.specs.Passes.{Pass}
use Rattle.zaxbriar_strict.specs.Changes.{kept_of}
use Rattle.zaxbriar_strict.specs.Heads.{IsMade, members_of, written_frame}
use Rattle.zaxbriar_strict.specs.Kept.{IsKept}
use Rattle.zaxbriar_strict.specs.ScanData.{AreInstalled, HasMembers}
use Rattle.zaxbriar_strict.proofs.transform.check_tables.Given as goal

abbrev pub invariant-loop-member : goal.invariant-loop-member
invariant-loop-member l = record {
  kept : IsKept l.fn.frame l.frame;
  rows : map kept_of l.frame.components.items ≡ map kept_of l.fn.frame.components.items;
  tables : (p : Pass) → IsMade l.fn.frame → l.band.first ≡ p.ss → l.band.last ≡ p.se → HasMembers l.fn.frame l.scan
      → AreInstalled p l.tables (written_frame l.fn.frame) (take l.member-index (members_of l.scan));
}

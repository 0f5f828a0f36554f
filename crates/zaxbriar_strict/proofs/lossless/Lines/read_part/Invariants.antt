use Rattle.std.proofs.Common.{◌≡◌, ◌≤◌, ◌+◌, ◌*◌, replicate}
use Rattle.zaxbriar_strict.specs.Loaded.{data_of}
use Rattle.zaxbriar_strict.specs.ScanSamples.{ReadsDifferences, difference_codes, share_of}
use Rattle.zaxbriar_strict.proofs.lossless.Lines.read_part.Given as goal

abbrev pub invariant-loop-below : goal.invariant-loop-below
invariant-loop-below l = record {
  kept : share_of l.self ≡ share_of l.fn.self;
  read : l.fn.self.member.dc ≤ 3 → ReadsDifferences
      (replicate (l.below * l.fn.self.across) (difference_codes l.tables l.fn.self.member))
      (data_of l.fn.bits) (data_of l.bits);
}

abbrev pub invariant-loop-beside : goal.invariant-loop-beside
invariant-loop-beside l = record {
  kept : share_of l.self ≡ share_of l.fn.self;
  read : l.fn.self.member.dc ≤ 3 → ReadsDifferences
      (replicate (l.below * l.fn.self.across + l.beside) (difference_codes l.tables l.fn.self.member))
      (data_of l.fn.bits) (data_of l.bits);
}

use Rattle.std.proofs.Common.{◌≡◌, map, take}
use Rattle.zaxbriar_strict.specs.Heads.{members_of}
use Rattle.zaxbriar_strict.specs.ScanSamples.{share_of, shares_of}
use Rattle.zaxbriar_strict.proofs.lossless.make_lines.Given as goal

abbrev pub invariant-loop-member : goal.invariant-loop-member
invariant-loop-member l =
    map share_of l.all.items ≡ shares_of l.scan.count l.frame.components.items (take l.member-index (members_of l.scan))

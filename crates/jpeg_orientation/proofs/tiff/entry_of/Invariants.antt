use Rattle.std.proofs.Common.{◌≡◌, ◌-◌}
use Rattle.jpeg_orientation.specs.Tiff.{entries_in, tagged}
use Rattle.jpeg_orientation.proofs.tiff.entry_of.Given as goal

abbrev pub invariant-loop : goal.invariant-loop
invariant-loop l =
    tagged l.is_little l.tag (entries_in l.count l.entries)
    ≡ tagged l.is_little l.tag (entries_in (l.count - l.counter) l.rest)

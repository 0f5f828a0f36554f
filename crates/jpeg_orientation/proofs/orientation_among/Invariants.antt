use Rattle.std.proofs.Common.{◌≡◌, ◌-◌}
use Rattle.jpeg_orientation.specs.Orientation.{orientation_among}
use Rattle.jpeg_orientation.specs.Tiff.{entries_in}
use Rattle.jpeg_orientation.proofs.orientation_among.Given as goal

abbrev pub invariant-loop : goal.invariant-loop
invariant-loop l =
    orientation_among l.is_little (entries_in l.count l.entries)
    ≡ orientation_among l.is_little (entries_in (l.count - l.counter) l.rest)

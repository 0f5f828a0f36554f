use Rattle.std.proofs.Common.{◌≡◌, map, take}
use Rattle.jpeg_decoder.specs.Steps.{coding_in}
use Rattle.jpeg_decoder.specs.Strips.{tables_of}
use Rattle.jpeg_decoder.proofs.scan.strips.sample_tables.Given as goal

abbrev pub invariant-loop-coded : goal.invariant-loop-coded
invariant-loop-coded l = l.tables.items ≡ tables_of (map coding_in (take l.coded-index l.codings))

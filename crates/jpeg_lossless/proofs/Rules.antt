-- Lemmas that the proofs of functions use, and definitions that they unfold, by what they are about.
use Rattle.std.specs.Prelude.{⊤}
use Rattle.std.proofs.lemmas.Grind.{common_steps}
use Rattle.jpeg_lossless.specs.Differences.{sample_difference}
use Rattle.jpeg_lossless.specs.PlanesRead.{planes_scan}
use Rattle.jpeg_lossless.specs.Prediction.{line_rest}
use Rattle.jpeg_lossless.proofs.DifferenceLoops.{signed_none}
use Rattle.jpeg_lossless.proofs.LineLoops.{below_steps}
use Rattle.jpeg_lossless.proofs.PlaneLoops.{after_none, interval_last}
use Rattle.jpeg_lossless.proofs.RowLoops.{tables_none}

-- a difference
pub ruleset no_bits = (signed_none)

unfoldable pub differences : ⊤
unfolding sample_difference
differences = tt

-- the tables of an MCU
pub ruleset no_tables = (tables_none, common_steps)

-- lines
pub ruleset lines = (below_steps)

unfoldable pub rests : ⊤
unfolding line_rest
rests = tt

-- the end of intervals
pub ruleset ends = (after_none, interval_last)

-- scans
unfoldable pub scans : ⊤
unfolding planes_scan
scans = tt

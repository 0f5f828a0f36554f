use Rattle.std.proofs.Common.{refl}
use Rattle.jpeg_evidence.proofs.extremes.premises_are_met.Goals as goal

pub returns : goal.returns
returns c = record { fresh = λ bytes found. refl; interval = λ said n. tt; untransformed = λ count. tt }

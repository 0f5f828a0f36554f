-- Lemmas that the proofs of laws use, by what they are about.
use Rattle.jpeg_meaning.proofs.Written.CodingsInForce.{codings-found, found-codings, found-samples, samples-found}

-- the codings of scans
pub ruleset found = (codings-found, found-codings, samples-found, found-samples)

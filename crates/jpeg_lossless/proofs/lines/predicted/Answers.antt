use Rattle.std.proofs.Common.{rules}
use Rattle.std.proofs.lemmas.Int.{to_z-of_z}
use Rattle.jpeg_lossless.proofs.Residues.{residue_is}
use Rattle.jpeg_lossless.proofs.lines.predicted.Goals as goal

pub returns : goal.returns
returns c = search (rules, residue_is, to_z-of_z)

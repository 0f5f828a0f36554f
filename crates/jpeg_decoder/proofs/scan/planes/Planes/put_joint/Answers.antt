use Rattle.std.proofs.Common.{◌∙◌, rules}
use Rattle.jpeg_decoder.proofs.Strips.JointDecided.{none-own}
use Rattle.jpeg_decoder.proofs.scan.planes.Planes.put_joint.Goals as goal

pub returns : goal.returns
returns c = rw (none-own _ _ 4 (c.self.view_is ∙ c.requires.none)) (search rules)

use Rattle.std.proofs.Common.{◌∙◌}
use Rattle.jpeg_lossless.proofs.KeptLines.{lines_count}
use Rattle.jpeg_lossless.proofs.picture.SampleLines.height.Goals as goal

pub returns : goal.returns
returns c = c.from.ensures ∙ lines_count c.self.inside c.args.self.now c.self.view_is

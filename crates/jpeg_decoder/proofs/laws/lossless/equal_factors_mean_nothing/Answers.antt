use Rattle.jpeg_meaning.proofs.Pictures.PlainScans.{way-alone, way-together}
use Rattle.jpeg_decoder.proofs.LosslessFrames.PlainPixels.{picture-plain}
use Rattle.jpeg_decoder.proofs.laws.lossless.equal_factors_mean_nothing.Goals as goal

pub returns : goal.returns
returns c = record { pictured = picture-plain; alone = way-alone; together = way-together }

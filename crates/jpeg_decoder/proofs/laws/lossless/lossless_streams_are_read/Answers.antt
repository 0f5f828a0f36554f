use Rattle.std.proofs.Common.{◌∙◌}
use Rattle.jpeg_decoder.proofs.LosslessFrames.LosslessPixels.{limit-takes, lossless-means}
use Rattle.jpeg_decoder.proofs.laws.lossless.lossless_streams_are_read.Goals as goal

pub returns : goal.returns
returns c settings samples image rest final frame w within =
    lossless-means settings samples image rest final w ∙ limit-takes settings samples image rest final frame w within

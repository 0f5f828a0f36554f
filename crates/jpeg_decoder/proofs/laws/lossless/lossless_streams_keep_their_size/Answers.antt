use Rattle.std.proofs.Common.{◌∙◌}
use Rattle.jpeg_decoder.proofs.LosslessFrames.LosslessPixels.{limit-takes, lossless-scaled, lossless-sized}
use Rattle.jpeg_decoder.proofs.laws.lossless.lossless_streams_keep_their_size.Goals as goal

pub returns-clause-sized : goal.returns-clause-sized
returns-clause-sized c width height settings samples image rest final frame w within =
    lossless-sized width height settings samples image rest final w
    ∙ limit-takes settings samples image rest final frame w within

pub returns-clause-scaled : goal.returns-clause-scaled
returns-clause-scaled c scale settings samples image rest final frame w within =
    lossless-scaled scale settings samples image rest final w
    ∙ limit-takes settings samples image rest final frame w within

use Rattle.jpeg_decoder.proofs.LosslessFrames.SamplesMeant.{samples-alike}
use Rattle.jpeg_decoder.proofs.laws.lossless.lossless_pictures_are_of_samples.Goals as goal

pub returns : goal.returns
returns c = samples-alike

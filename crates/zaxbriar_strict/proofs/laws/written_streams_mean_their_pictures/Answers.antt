use Rattle.jpeg_meaning.proofs.Written.WrittenPictures.{stream-means}
use Rattle.zaxbriar_strict.proofs.laws.written_streams_mean_their_pictures.Goals as goal

pub returns : goal.returns
returns c settings bytes rest image =
    stream-means settings image.array bytes rest image.final image.last image.in_range image.written

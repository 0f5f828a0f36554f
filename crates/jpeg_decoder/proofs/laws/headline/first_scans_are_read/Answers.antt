use Rattle.jpeg_meaning.proofs.Written.WrittenPictures.{stream-means}
use Rattle.jpeg_meaning.proofs.Written.SizedStreams.{stream-means_scaled, stream-means_sized}
use Rattle.jpeg_decoder.proofs.laws.headline.first_scans_are_read.Goals as goal

pub returns : goal.returns
returns c = record {
  whole = λ s a b r f l range w first. stream-means s a b r f l range w;
  sized = λ x y s a b r f l range w first. stream-means_sized x y s a b r f l range w;
  scaled = λ x s a b r f l range w first. stream-means_scaled x s a b r f l range w;
}

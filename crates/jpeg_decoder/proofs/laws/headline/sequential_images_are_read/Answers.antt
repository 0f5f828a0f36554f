use Rattle.std.proofs.Common.{◌∙◌}
use Rattle.jpeg_meaning.proofs.Written.WrittenPictures.{stream-means}
use Rattle.jpeg_meaning.proofs.Written.SizedStreams.{stream-means_scaled, stream-means_sized}
use Rattle.jpeg_meaning.proofs.Pictures.WholeImages.{sequential-whole, whole-is, scaled-whole, sized-whole}
use Rattle.jpeg_decoder.proofs.laws.headline.sequential_images_are_read.Goals as goal

pub returns-clause-whole : goal.returns-clause-whole
returns-clause-whole c s a b r f l g range w e n =
    stream-means s a b r f l range w
    ∙ whole-is s a b r f l g range w e (sequential-whole a b f l g w e n)

pub returns-clause-sized : goal.returns-clause-sized
returns-clause-sized c x y s a b r f l g range w e n =
    stream-means_sized x y s a b r f l range w
    ∙ sized-whole x y s a b r f l g range w e (sequential-whole a b f l g w e n)

pub returns-clause-scaled : goal.returns-clause-scaled
returns-clause-scaled c x s a b r f l g range w e n =
    stream-means_scaled x s a b r f l range w
    ∙ scaled-whole x s a b r f l g range w e (sequential-whole a b f l g w e n)

use Rattle.std.proofs.Common.{[], ◌∷◌, ◌++◌}
use Rattle.jpeg_meaning.proofs.Written.WrittenParts.{front-closed}
use Rattle.jpeg_meaning.proofs.Written.WrittenPictures.{stream-means}
use Rattle.jpeg_decoder.proofs.laws.headline.progressive_images_may_end_early.Goals as goal

pub returns-clause-pictured : goal.returns-clause-pictured
returns-clause-pictured c = λ settings array front rest said levels frame range f scanned framed progressive tables.
    stream-means settings array (255 ∷ 216 ∷ (front ++ (255 ∷ 217 ∷ []))) rest said levels range
    (front-closed array front said levels frame f scanned framed progressive tables)

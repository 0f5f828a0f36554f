-- What a stream means that is written for coefficients and all their bits.
use Rattle.std.proofs.Common.{◌≡◌, ◌∙◌, ◌++◌, ◌∷◌, ℕ, List}
use Rattle.jpeg_meaning.specs.Stream.{meaning}
use Rattle.jpeg_meaning.specs.WholeImages.{whole_meaning}
use Rattle.jpeg_meaning.specs.declared.settings.Settings.{Settings}
use Rattle.jpeg_meaning.proofs.Pictures.WholeImages.{whole-is}
use Rattle.jpeg_meaning.proofs.Written.WrittenPictures.{stream-means}
use Rattle.zaxbriar_strict.specs.Exact.{IsWhollyWritten, IsWritten}

-- It means the picture of these coefficients.
abbrev pub MeansPicture : List ℕ → Type 0
MeansPicture after = (image : IsWritten (255 ∷ 216 ∷ after)) × ((settings : Settings) (rest : List ℕ)
    → meaning settings (255 ∷ 216 ∷ (after ++ rest)) ≡ whole_meaning settings image.final image.array rest)

pub means-picture : (after : List ℕ) → IsWhollyWritten (255 ∷ 216 ∷ after) → MeansPicture after
means-picture after whole =
    let image = whole.image in
    let stream = 255 ∷ 216 ∷ after in (
      image,
      λ settings rest. stream-means settings image.array stream rest image.final image.last image.in_range image.written
          ∙ whole-is settings image.array stream rest image.final image.last whole.frame image.in_range image.written
          whole.framed whole.complete,
    )

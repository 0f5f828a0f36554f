-- Pictures that are decoded.
use Rattle.std.specs.Prelude.{ℕ, List}
use Rattle.jpeg_meaning.specs.declared.images.ImageInfo.{ImageInfo}
use Rattle.zaxbriar_samples.specs.declared.netpbm.Picture.{Picture}

-- a picture: what is said of it, how many bits a sample has, and its pixels
pub record Decoded : Type 0 where
  pub info : ImageInfo
  pub precision : ℕ
  pub pixels : List ℕ

abbrev pub decoded : ImageInfo → ℕ → List ℕ → Decoded
decoded info precision pixels = record { info = info; precision = precision; pixels = pixels }

-- the picture that a `Picture` is
abbrev pub decoded_in : Picture → Decoded
decoded_in picture = decoded picture.info picture.precision picture.pixels.items

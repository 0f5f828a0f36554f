-- The picture of the coefficients of an image, as far as their bits were sent (T.81, A.3.3, G.1).
use Rattle.std.specs.Prelude.{◌≡◌, ℕ, ◌*◌, ◌≤◌, ◌&&◌, List, [], ◌∷◌, length, slice_index_or}
use Rattle.std.specs.Prelude.{Bool, true, false}
use Rattle.std.specs.Prelude.{Some, None, Result, Ok}
use Rattle.std.specs.List.{enumerate_from}
use Rattle.jpeg_bits.specs.Reading.{Outcome, Fault, ◌>>=◌}
use Rattle.jpeg_bits.specs.declared.color_transform.ColorTransform.{ColorTransform}
use Rattle.jpeg_bits.specs.declared.color_transform.ColorTransform.TheVariants as transforms
use Rattle.jpeg_segments.specs.Frame.{Component, Frame}
use Rattle.jpeg_meaning.specs.ColourChoice.{identifiers_of, transform_of}
use Rattle.jpeg_meaning.specs.declared.settings.Settings.{Settings}
use Rattle.jpeg_meaning.specs.Levels.{Levels, cut}
use Rattle.jpeg_segments.specs.Checks.{needed, gathered}
use Rattle.jpeg_meaning.specs.Stream.{Told, told_of}
use Rattle.jpeg_meaning.specs.FoundPictures.{is_as_large, is_luma, limited, picture_by}
use Rattle.jpeg_meaning.specs.Pixels.{samples_shown}
use Rattle.jpeg_meaning.specs.Rasters.{plane_of_blocks}
use Rattle.jpeg_meaning.specs.Found.{Said}
use Rattle.jpeg_meaning.specs.WrittenScans.{Coefficients}

-- ---- the picture

-- The picture of an image's blocks, where it is within the limit: that of their planes, by the
-- tables that were said, by upsampling and the conversion of colours.
unfoldable pub picture_of_blocks : Settings → Said → Coefficients → Result (List ℕ) Fault
picture_of_blocks settings said blocks = limited settings said (λ frame.
    gathered (λ c. needed (slice_index_or said.quantization c.1.factors.quantization None)
    >>= (λ table. Ok (plane_of_blocks c.1 table (blocks c.0)))) (enumerate_from 0 frame.components)
    >>= (λ planes. picture_by settings said.metadata frame frame.components planes))

-- the blocks of an image, cut at the bits that were sent
abbrev pub as_sent : Coefficients → (ℕ → Levels) → Coefficients
as_sent array levels = λ index row column. cut (levels index) (array index row column)

-- the picture of the coefficients of an image, as far as their bits were sent
abbrev pub picture_of_array : Settings → Said → Coefficients → (ℕ → Levels) → Result (List ℕ) Fault
picture_of_array settings said array levels = picture_of_blocks settings said (as_sent array levels)

-- The meaning of a stream that says this and sends these levels: what a caller is given, the
-- picture, and the bytes after the image.
abbrev pub meaning_of_array :
    Settings → Said → Coefficients → (ℕ → Levels) → List ℕ → Outcome (Told × List ℕ)
meaning_of_array settings w array levels tail =
    picture_of_array settings w array levels >>= (λ picture. Ok ((told_of w, picture), tail))

-- ---- settings that take a picture

-- The colour transforms that a picture of this many components can have: none, for three components
-- RGB and YCbCr, and for four CMYK and YCCK.
abbrev pub IsTransformOf : ℕ → ColorTransform → Type 0
IsTransformOf count transforms.None = Unit {0}
IsTransformOf count transforms.RGB = count ≡ 3
IsTransformOf count transforms.YCbCr = count ≡ 3
IsTransformOf count transforms.CMYK = count ≡ 4
IsTransformOf count transforms.YCCK = count ≡ 4
IsTransformOf count _ = ⊥

-- The picture of this many components can be made by a transform: where its luma is asked for, the
-- first component is luma, and has a sample for each pixel.
abbrev pub IsMadeBy : Bool → Frame → Component → ℕ → ColorTransform → Type 0
IsMadeBy true frame first count transform =
    (is_luma transform && is_as_large frame first) ≡ true
IsMadeBy false frame first count transform = IsTransformOf count transform

-- A picture of several components can be made by the transform that is set, or else that its
-- segments and the components' identifiers say.
abbrev pub HasTransform : Settings → Said → Frame → List Component → Type 0
HasTransform settings w frame [] = ⊥
HasTransform settings w frame (c ∷ []) = Unit {0}
HasTransform settings w frame (c ∷ d ∷ more) =
    IsMadeBy settings.luma frame c (length (c ∷ d ∷ more))
    (transform_of settings.color_transform (identifiers_of (c ∷ d ∷ more)) w.metadata.jfif
    w.metadata.adobe)

-- The settings take the picture of the frame that was said: its samples are within the limit, and
-- its components can have the colour transform.
pub record TakesPicture (settings : Settings) (w : Said) : Type 0 where
  pub frame : Frame
  pub is_said : w.frame ≡ Some frame
  pub limit : samples_shown settings frame * (frame.output_width * frame.output_height)
      ≤ settings.limit
  pub transform : HasTransform settings w frame frame.components

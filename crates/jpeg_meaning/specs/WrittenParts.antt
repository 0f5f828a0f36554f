-- Streams that are written as far as some segment or scan, and streams that mean one picture.
use Rattle.std.specs.Prelude.{◌≡◌, ℕ, ◌<◌, List, [], Some, None, slice_get, slice_index_or, Result}
use Rattle.std.specs.Prelude.{Ok}
use Rattle.std.specs.List.{AllByRecursion}
use Rattle.jpeg_bits.specs.Reading.{Fault, ◌>>=◌}
use Rattle.jpeg_segments.specs.Frame.{Component, Frame}
use Rattle.jpeg_meaning.specs.Levels.{Levels}
use Rattle.jpeg_meaning.specs.Order.{grid_of}
use Rattle.jpeg_meaning.specs.Stream.{meaning}
use Rattle.jpeg_meaning.specs.Found.{Said}
use Rattle.jpeg_meaning.specs.WrittenImages.{WritesPart}
use Rattle.jpeg_meaning.specs.WrittenScans.{Coefficients}
use Rattle.jpeg_meaning.specs.declared.settings.Settings.{Settings}

-- ---- fronts of a stream

-- Some segments and scans that follow one another: what was said before them, the levels that were
-- sent; their bytes; and the same after them.
abbrev pub WritesFront : Coefficients →
    Said → (ℕ → Levels) → List ℕ → Said → (ℕ → Levels) → Type 0
WritesFront array = WritesPart array (λ said levels bytes. bytes ≡ [])

-- ---- pictures that are the same

-- the picture that a stream means, or why it means none
abbrev pub picture_meant_by : Settings → List ℕ → Result (List ℕ) Fault
picture_meant_by settings bytes = meaning settings bytes >>= (λ m. Ok m.0.1)

-- What is said gives the same picture: the same size, the same components with the same
-- quantization tables, and the same choice of colours. The processes and all else may differ.
pub record HaveSamePicture (a b : Said) : Type 0 where
  pub frame_a : Frame
  pub frame_b : Frame
  pub is_a : a.frame ≡ Some frame_a
  pub is_b : b.frame ≡ Some frame_b
  pub width : frame_a.output_width ≡ frame_b.output_width
  pub height : frame_a.output_height ≡ frame_b.output_height
  pub components : frame_a.components ≡ frame_b.components
  pub tables : AllByRecursion
      (λ c. slice_index_or a.quantization c.factors.quantization None
      ≡ slice_index_or b.quantization c.factors.quantization None)
      frame_a.components
  pub jfif : a.metadata.jfif ≡ b.metadata.jfif
  pub adobe : a.metadata.adobe ≡ b.metadata.adobe

-- Two arrays agree on the blocks that the components have by their own sizes. The others are
-- padding, up to whole MCUs.
abbrev pub AgreeOnOwn : Frame → Coefficients → Coefficients → Type 0
AgreeOnOwn frame a b =
    (index row column : ℕ) (c : Component) → slice_get frame.components index ≡ Some c →
    row < (grid_of c).own_high → column < (grid_of c).own_wide →
    a index row column ≡ b index row column

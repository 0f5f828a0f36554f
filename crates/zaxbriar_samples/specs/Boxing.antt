-- What is known of a picture that is made smaller line by line.
use Rattle.std.specs.Prelude.{◌≡◌, ◌<◌, ◌≤◌, ℕ, ◌+◌, ◌*◌, List, true, length, take, drop}
use Rattle.std.specs.Prelude.{slice_index}
use Rattle.jpeg_segments.specs.declared.frame.Dimensions.{Dimensions}
use Rattle.jpeg_meaning.specs.declared.images.ImageInfo.{ImageInfo}
use Rattle.zaxbriar_samples.specs.Boxes.{box_line, edge, is_smaller, lines_in, reduction_of}
use Rattle.zaxbriar_samples.specs.Boxes.{resized, texts_below}
use Rattle.zaxbriar_samples.specs.BoxSums.{AreSums}
use Rattle.zaxbriar_samples.specs.Png.{line_bytes}
use Rattle.zaxbriar_samples.specs.declared.boxes.Boxing.{Boxing}

-- these bytes are the line in a row of a picture
abbrev pub IsLine : ImageInfo → ℕ → List ℕ → ℕ → List ℕ → Type 0
IsLine info precision pixels row line = let bytes = line_bytes info precision in
    (line ≡ take bytes (drop (row * bytes) pixels)) × (length line ≡ bytes)

-- Of the line of boxes that begins at a line of a picture, so many lines have been taken: their
-- samples are summed.
pub record IsPart (pixels : List ℕ) (info : ImageInfo) (precision : ℕ) (size : Dimensions)
    (taken : ℕ) (b : Boxing) : Type 0 where
  pub place : taken ≡ edge b.made info.height size.height + b.lines
  pub inside : b.lines < lines_in (reduction_of info precision size) b.made
  pub sums_are : AreSums pixels (reduction_of info precision size)
      (edge b.made info.height size.height) b.lines b.sums.items
  pub most : (i : ℕ) → i < length b.sums.items → slice_index b.sums.items i ≤ 65535 * b.lines

-- So many lines of a picture have been taken, which is made smaller to a size. The boxes that lie
-- in them are the smaller picture's lines so far.
pub record HasTaken (pixels : List ℕ) (info : ImageInfo) (precision : ℕ) (size : Dimensions)
    (taken : ℕ) (b : Boxing) : Type 0 where
  pub smaller : is_smaller size info ≡ true
  pub info_is : b.info ≡ resized info size
  pub reduction_is : b.reduction ≡ reduction_of info precision size
  pub made_are : b.pixels.items
      ≡ texts_below b.made (box_line pixels (reduction_of info precision size))
  pub within : b.made ≤ size.height
  pub part : b.made < size.height → IsPart pixels info precision size taken b

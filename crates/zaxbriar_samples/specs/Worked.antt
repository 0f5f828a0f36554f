-- A worked picture.
use Rattle.std.specs.Prelude.{[], ◌∷◌}
use Rattle.jpeg_orientation.specs.declared.areas.Area.{Area}
use Rattle.jpeg_meaning.specs.declared.images.PixelFormat.TheVariants.{L8}
use Rattle.jpeg_segments.specs.declared.frame.CodingProcess.TheVariants.{DctSequential}
use Rattle.zaxbriar_samples.specs.DecodedPictures.{Decoded, decoded}

-- a grey picture of three columns and two lines
abbrev pub three_by_two : Decoded
three_by_two = decoded (record {
  width = 3;
  height = 2;
  pixel_format = L8;
  coding_process = DctSequential;
}) 8 (1 ∷ 2 ∷ 3 ∷ 4 ∷ 5 ∷ 6 ∷ [])

-- the second column of the first two lines
abbrev pub column_of_two : Area
column_of_two = record { left = 1; top = 0; width = 1; height = 2 }

-- all of the first line
abbrev pub line_of_three : Area
line_of_three = record { left = 0; top = 0; width = 3; height = 1 }

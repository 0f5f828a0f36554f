-- What a caller sees of the lines of a picture.
use Rattle.std.specs.Prelude.{ℕ, List}
use Rattle.jpeg_pixels.specs.declared.lines.LineSource.{LineSource}
use Rattle.jpeg_pixels.specs.declared.lines.LineSource.TheVariants.{Cropped, Upsampled, Joint}

abbrev pub lines_in : LineSource → List (List ℕ)
lines_in (Cropped lines) = lines
lines_in (Upsampled lines) = lines
lines_in (Joint lines) = lines

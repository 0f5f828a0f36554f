-- Lemmas that the proofs of functions use, and definitions that they unfold, by what they are about.
use Rattle.std.specs.Prelude.{⊤}
use Rattle.jpeg_pixels.specs.Colour.{blue_of, colour_of, green_of, line_bytes, red_of}
use Rattle.jpeg_pixels.specs.JointPlanes.{converted, gathered, joint_bytes, strip_lines}
use Rattle.jpeg_pixels.specs.Samples.{is_flat_column}
use Rattle.std.proofs.Common.{length-append, length-drop, length-take}
use Rattle.std.proofs.Math.Seq.{take-length}
use Rattle.std.proofs.lemmas.Grind.{common_steps}
use Rattle.std.proofs.lemmas.List.{length-map, take_all, with_items_is}
use Rattle.std.proofs.lemmas.List.Elements.{All-more, All-same}
use Rattle.std.proofs.lemmas.Result.{err_from_is_err_and}
use Rattle.jpeg_pixels.proofs.ComponentLines.{cover-lower, lines_of-length, lines_of-long}
use Rattle.jpeg_pixels.proofs.Fours.{few}
use Rattle.jpeg_pixels.proofs.JoinedLines.{no-lines}
use Rattle.jpeg_pixels.proofs.JointPictures.{all-written, strips-inside, part-fits}
use Rattle.jpeg_pixels.proofs.LaneSums.{kept_halves, kept_words, residue_bits, wrapping}
use Rattle.jpeg_pixels.proofs.WholePictures.{conversion-fits, image-no_conversion, image-no_sources}
use Rattle.jpeg_pixels.proofs.WholePictures.{picture-more, picture-none, sources-count}
use Rattle.jpeg_segments.proofs.Gathered.{gathers-all, gathers-none}
use borrow.Rule.Slice.PartMut.{put_mid}

pub ruleset alike = (All-more, All-same, take_all)

-- what a picture asks of its conversion, and its errors
pub ruleset images = (conversion-fits, err_from_is_err_and, length-map, sources-count)

pub ruleset refusals = (image-no_conversion, image-no_sources)

-- lines of a picture
pub ruleset line = (length-map, lines_of-length, lines_of-long, take-length)

pub ruleset pictures = (cover-lower, picture-more, picture-none)

pub ruleset above = (common_steps, length-append, length-drop, length-take, put_mid, with_items_is)

-- strips of components alike
pub ruleset rows = (no-lines, part-fits, take_all)

pub ruleset written = (all-written, strips-inside, take_all)

pub ruleset sources = (gathers-none, gathers-all, length-map)

unfoldable pub strips : ⊤
unfolding strip_lines
strips = tt

unfoldable pub gathers : ⊤
unfolding gathered
gathers = tt

unfoldable pub converts : ⊤
unfolding converted
converts = tt

unfoldable pub joint : ⊤
unfolding joint_bytes
joint = tt

-- transforms
pub ruleset kept = (kept_halves, kept_words)

pub ruleset twos = (few, residue_bits, wrapping)

unfoldable pub flat : ⊤
unfolding is_flat_column
flat = tt

-- colours of known pixels
unfoldable pub colours : ⊤
unfolding red_of green_of blue_of colour_of line_bytes
colours = tt

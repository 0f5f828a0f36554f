-- Lemmas that the proofs of functions use, and definitions that they unfold, by what they are about.
use Rattle.std.specs.Prelude.{⊤}
use Rattle.jpeg_orientation.specs.Tiff.{entries_in}
use Rattle.jpeg_orientation.proofs.Directories.{cut_link, found_link, four_higher, four_lower, none_tagged}
use Rattle.jpeg_orientation.proofs.Directories.{tag_met, tag_passed, two_higher, two_lower}
use Rattle.jpeg_orientation.proofs.Parts.{column-of-part, inside-parts, line-of-part, stored-inside}
use Rattle.jpeg_orientation.proofs.Orientations.{cut_directory, found_directory, met, none_among, passed}

pub ruleset shorts = (two_lower, two_higher)

pub ruleset longs = (four_lower, four_higher)

pub ruleset entries = (none_among, passed, met)

unfoldable pub listed : ⊤
unfolding entries_in
listed = tt

pub ruleset tags = (none_tagged, tag_passed, tag_met)

pub ruleset links = (cut_link, found_link)

pub ruleset directories = (cut_directory, found_directory)

-- areas inside a picture, and the stored ones
pub ruleset areas = (inside-parts, stored-inside)

-- where the pixels of a part are stored
pub ruleset parts = (column-of-part, line-of-part)

-- What a law unfolds to compute its definitions on literals.
use Rattle.std.specs.Prelude.{⊤}
use Rattle.jpeg_orientation.specs.Tiff.{entries_in, first_directory, lower_first, order_in}
use Rattle.zaxbriar_files.specs.MultiPicture.{images_by, images_in, index_by, index_in, index_of, is_index}

unfoldable pub indexes : ⊤
unfolding entries_in first_directory lower_first order_in images_by images_in index_by index_in index_of is_index
indexes = tt

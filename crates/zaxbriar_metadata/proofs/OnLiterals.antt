-- What a law unfolds to compute its definitions on literals.
use Rattle.std.specs.Prelude.{⊤}
use Rattle.jpeg_orientation.specs.Tiff.{entries_in, lower_first, next_of, number_in, order_in, second_directory}
use Rattle.zaxbriar_metadata.specs.Collected.{with_segment}
use Rattle.zaxbriar_metadata.specs.Exif.{number_of, part_of, thumbnail_in, with_exif}
use Rattle.zaxbriar_metadata.specs.Photoshop.{first_resource, iptc_in, resource_of}
use Rattle.zaxbriar_metadata.specs.Xmp.{after, extended_xmp, extension, guid_in, joined, value_of}

unfoldable pub exif : ⊤
unfolding entries_in lower_first next_of number_in order_in second_directory number_of part_of thumbnail_in with_exif
exif = tt

unfoldable pub photoshop : ⊤
unfolding lower_first first_resource iptc_in resource_of
photoshop = tt

unfoldable pub xmp : ⊤
unfolding lower_first after extended_xmp extension guid_in joined value_of
xmp = tt

unfoldable pub collections : ⊤
unfolding lower_first with_exif with_segment next_of number_in order_in second_directory number_of part_of thumbnail_in
    after extended_xmp extension guid_in joined value_of first_resource iptc_in resource_of entries_in
collections = tt

-- The limits of some options, and the memory that they are compared with.
use Rattle.std.specs.Prelude.{◌==◌, ◌&&◌, ◌||◌, ◌+◌, ◌*◌, ℕ, Bool, not, min, nat_le, nat_lt}
use Rattle.std.specs.Prelude.{Option, None, option_map, if◌then◌else◌}
use Rattle.std.specs.List.{list_all}
use Rattle.jpeg_decoder.specs.declared.sizes.DecodingBytes.{DecodingBytes}
use Rattle.jpeg_segments.specs.Frame.{Frame}
use Rattle.jpeg_meaning.specs.Work.{picture_blocks}
use Rattle.zaxbriar_calls.specs.Boxed.{is_fitted}
use Rattle.zaxbriar_calls.specs.Crops.{is_cropped}
use Rattle.zaxbriar_calls.specs.declared.extents.Extent.{Extent}
use Rattle.zaxbriar_calls.specs.declared.extents.Extent.TheVariants.{Planes}
use Rattle.zaxbriar_calls.specs.declared.options.Options.{Options}
use Rattle.zaxbriar_calls.specs.declared.picture.Picture.{Picture}

-- whether a number is the denominator of a scale, or 0
abbrev pub is_denominator : ℕ → Bool
is_denominator n = n == 0 || (n == 1 || (n == 2 || (n == 4 || n == 8)))

-- whether a picture is to have its full size, whatever that is
abbrev pub is_full_size : Options → Bool
is_full_size o = o.scale == 0 && (o.min_width == 0 && o.min_height == 0)

-- whether all that is reserved is 0
abbrev pub is_rest_zero : Options → Bool
is_rest_zero o = list_all (λ word. word == 0) o.pointer_words
    && (list_all (λ word. word == 0) o.reserved_words
    && (list_all (λ byte. byte == 0) o.reserved_bytes
    && list_all (λ byte. byte == 0) o.reserved_half))

-- whether all options exist whatever the picture is: the transform, of which 1, none, goes with
-- layout 0 alone, and with no turn, no part and no size to fit within, the scale, whether the rows
-- stand from the bottom, 1 or 0, and so whether the picture is turned upright, and whether it is
-- its luma, and what is reserved
abbrev pub are_known : Options → Bool
are_known o = (not (o.transform == 1)
    || (o.layout == 0 && (o.upright == 0 && (not (is_cropped o) && not (is_fitted o)))))
    && (nat_le o.transform 5 && (is_denominator o.scale
    && (nat_le o.bottom_up 1 && (nat_le o.upright 1 && (nat_le o.luma 1 && is_rest_zero o)))))

-- whether no option asks for other samples than the stream has, or for another arrangement of them
abbrev pub are_as_coded : Options → Bool
are_as_coded o = o.stride == 0 && (o.layout == 0 && (o.bottom_up == 0 && (o.transform == 0
    && (o.upright == 0 && (o.luma == 0 && (not (is_cropped o) && not (is_fitted o)))))))

-- whether all options exist for what is asked for: planes are given as they are coded
abbrev pub are_known_for : Extent → Options → Bool
are_known_for Planes o = are_known o && are_as_coded o
are_known_for _ o = are_known o

-- The most memory for samples that decoding takes at a time beside the caller's, whether the whole
-- of a picture is asked for or a part: blocks and planes, from which the lines are written.
abbrev pub bytes_beside : DecodingBytes → ℕ
bytes_beside d = d.coefficients + d.planes

-- whether a count is above a limit, where 0 is none
abbrev pub is_over : ℕ → ℕ → Bool
is_over limit count = not (limit == 0) && nat_lt limit count

-- whether a picture is above a limit: by its samples, or by the memory that decoding takes
abbrev pub exceeds_limits : Options → Picture → Bool
exceeds_limits o picture =
    is_over o.max_samples (picture.width * picture.height * picture.components)
    || is_over o.max_bytes picture.decoding_bytes

-- How many blocks the scans of a stream may code that go so many times over the picture of its
-- frame, at most 2^64 - 1, where 0 is no limit.
abbrev pub blocks_of_passes : ℕ → Option Frame → Option ℕ
blocks_of_passes passes frame = if passes == 0 then None
    else option_map (λ blocks. min (passes * blocks) 18446744073709551615)
    (option_map picture_blocks frame)

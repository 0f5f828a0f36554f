-- Pictures made smaller: each sample is the mean of those of its box, rounded to the nearest
-- number, halves up.
use Rattle.std.specs.Prelude.{ℕ, zero, suc, ◌+◌, ◌-◌, ◌*◌, ◌/◌, ◌%◌, List, [], ◌∷◌, ◌++◌}
use Rattle.std.specs.Prelude.{◌&&◌, ◌||◌, Bool, if◌then◌else◌, nat_le, nat_lt}
use Rattle.jpeg_segments.specs.declared.frame.Dimensions.{Dimensions}
use Rattle.jpeg_meaning.specs.declared.images.ImageInfo.{ImageInfo}
use Rattle.jpeg_meaning.specs.declared.images.PixelFormat.{PixelFormat}
use Rattle.jpeg_meaning.specs.declared.images.PixelFormat.TheVariants.{L8, L16, RGB24, CMYK32}
use Rattle.zaxbriar_samples.specs.Samples.{sample_in}
use Rattle.zaxbriar_samples.specs.DecodedPictures.{Decoded, decoded}
use Rattle.zaxbriar_samples.specs.declared.boxes.Area.{Area}
use Rattle.zaxbriar_samples.specs.declared.boxes.Reduction.{Reduction}

-- Where a box begins on a side: the pixels of a side are shared out
-- to as many boxes as the smaller side has pixels.
abbrev pub edge : ℕ → ℕ → ℕ → ℕ
edge index side boxes = index * side / boxes

-- how many lines the boxes in a line of boxes have
abbrev pub lines_in : Reduction → ℕ → ℕ
lines_in r y = edge (y + 1) r.height r.to_height - edge y r.height r.to_height

-- the box of a pixel of the smaller picture: its columns and its lines
abbrev pub area_of : Reduction → ℕ → ℕ → Area
area_of r x y = record {
  left = edge x r.width r.to_width;
  top = edge y r.height r.to_height;
  width = edge (x + 1) r.width r.to_width - edge x r.width r.to_width;
  height = lines_in r y;
}

-- the sum of the values of a function at each number below a count
unfoldable pub sum_over : ℕ → (ℕ → ℕ) → ℕ
sum_over zero f = 0
sum_over (suc count) f = sum_over count f + f count

-- the index of a component's sample in a box, by its line and its column there
abbrev pub index_of : Reduction → Area → ℕ → ℕ → ℕ → ℕ
index_of r area component down across =
    ((area.top + down) * r.width + (area.left + across)) * r.components + component

unfoldable pub sample_of : List ℕ → Reduction → Area → ℕ → ℕ → ℕ → ℕ
sample_of pixels r area component down across =
    sample_in r.precision pixels (index_of r area component down across)

unfoldable pub box_line_sum : List ℕ → Reduction → Area → ℕ → ℕ → ℕ
box_line_sum pixels r area component down = sum_over area.width (sample_of pixels r area component
    down)

-- the mean of values, by their sum and their count: the nearest number, halves up
abbrev pub rounded_mean : ℕ → ℕ → ℕ
rounded_mean sum count = (sum + count / 2) / count

-- the mean of a component's samples in a box
unfoldable pub mean_in : List ℕ → Reduction → Area → ℕ → ℕ
mean_in pixels r area component =
    rounded_mean (sum_over area.height (box_line_sum pixels r area component)) (area.width *
    area.height)

-- the bytes of a sample of this precision, the lower first
unfoldable pub lower_first_bytes : ℕ → ℕ → List ℕ
lower_first_bytes precision sample =
    if nat_lt 8 precision then sample % 256 ∷ sample / 256 % 256 ∷ [] else sample % 256 ∷ []

-- the texts of a function at each number below a count, one after the other
unfoldable pub texts_below : ℕ → (ℕ → List ℕ) → List ℕ
texts_below zero f = []
texts_below (suc count) f = texts_below count f ++ f count

-- the bytes of a component, of a pixel, of a line and of the whole of the smaller picture
unfoldable pub component_bytes : List ℕ → Reduction → Area → ℕ → List ℕ
component_bytes pixels r area component = lower_first_bytes r.precision (mean_in pixels r area
    component)

unfoldable pub box_pixel : List ℕ → Reduction → ℕ → ℕ → List ℕ
box_pixel pixels r y x = texts_below r.components (component_bytes pixels r (area_of r x y))

unfoldable pub box_line : List ℕ → Reduction → ℕ → List ℕ
box_line pixels r y = texts_below r.to_width (box_pixel pixels r y)

unfoldable pub reduced_bytes : List ℕ → Reduction → List ℕ
reduced_bytes pixels r = texts_below r.to_height (box_line pixels r)

-- how many samples a pixel has
abbrev pub components_a_pixel : PixelFormat → ℕ
components_a_pixel L8 = 1
components_a_pixel L16 = 1
components_a_pixel RGB24 = 3
components_a_pixel CMYK32 = 4

-- how a picture is made smaller to a size
abbrev pub reduction_of : ImageInfo → ℕ → Dimensions → Reduction
reduction_of info precision size = record {
  width = info.width;
  height = info.height;
  to_width = size.width;
  to_height = size.height;
  components = components_a_pixel info.pixel_format;
  precision = precision;
}

-- whether a size is smaller than a picture in one direction, and not greater in the other
abbrev pub is_smaller : Dimensions → ImageInfo → Bool
is_smaller size info = nat_le size.width info.width && (nat_le size.height info.height
    && (nat_lt size.width info.width || nat_lt size.height info.height))

-- what is said of a picture that has another size
abbrev pub resized : ImageInfo → Dimensions → ImageInfo
resized info size = record info { width = size.width; height = size.height }

-- The picture boxed down to a size. A picture that isn't greater stays as it is.
abbrev pub boxed : Dimensions → Decoded → Decoded
boxed size p = if is_smaller size p.info then decoded (resized p.info size) p.precision
    (reduced_bytes p.pixels (reduction_of p.info p.precision size)) else p

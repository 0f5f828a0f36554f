-- Planes of like components in one buffer: for each row of MCUs one strip per component.
use Rattle.std.specs.Prelude.{◌≡◌, ℕ, ◌+◌, ◌*◌, ◌/◌, ◌%◌, ◌<◌, ◌≤◌, List, [], map, length, take}
use Rattle.std.specs.Prelude.{drop, get_or, slice_index}
use Rattle.std.specs.List.{AllByRecursion, concat, range_with_len}
use Rattle.jpeg_segments.specs.Frame.{Component}
use Rattle.jpeg_segments.specs.declared.frame.Component as declared
use Rattle.jpeg_pixels.specs.Colour.{line_bytes}
use Rattle.jpeg_pixels.specs.declared.joint_planes.JointShape.{JointShape}
use Rattle.jpeg_pixels.specs.declared.color_convert.ColorConvert.{ColorConvert}

-- the samples of a component in a row of MCUs, and those of all components
abbrev pub strip_size : JointShape → ℕ
strip_size shape = shape.lines * shape.stride

abbrev pub joint_row_size : JointShape → ℕ
joint_row_size shape = shape.count * strip_size shape

-- the plane of the component in this slot: strip after strip
unfoldable pub joint_plane : JointShape → List ℕ → ℕ → List ℕ
joint_plane shape samples slot =
    map (λ i. slice_index samples (i / strip_size shape * joint_row_size shape + (slot * strip_size
    shape
    + i % strip_size shape))) (range_with_len 0 (length samples / shape.count))

unfoldable pub joint_planes : JointShape → List ℕ → List (List ℕ)
joint_planes shape samples = map (joint_plane shape samples) (range_with_len 0 shape.count)

-- a line of each strip of a row of MCUs, as far as the picture goes
unfoldable pub strip_lines : JointShape → ℕ → List ℕ → ℕ → List (List ℕ)
strip_lines shape width strips line =
    map (λ slot. take width (drop (slot * strip_size shape + line * shape.stride) strips))
    (range_with_len 0 shape.count)

-- the first lines of a row of MCUs, and their colours
unfoldable pub gathered : JointShape → ℕ → List ℕ → ℕ → List ℕ
gathered shape width strips count =
    concat (map (λ line. concat (strip_lines shape width strips line)) (range_with_len 0 count))

unfoldable pub converted : ColorConvert → JointShape → ℕ → List ℕ → ℕ → List ℕ
converted convert shape width strips count =
    concat (map (λ line. line_bytes convert width (strip_lines shape width strips line))
    (range_with_len 0 count))

-- the strips of a row of MCUs
abbrev pub strips_at : JointShape → List ℕ → ℕ → List ℕ
strips_at shape samples row = take (joint_row_size shape) (drop (row * joint_row_size shape)
    samples)

-- a line of the picture
abbrev pub joint_line : ColorConvert → JointShape → ℕ → List ℕ → ℕ → List ℕ
joint_line convert shape width samples row = line_bytes convert width (strip_lines shape width
    (strips_at shape samples (row / shape.lines)) (row % shape.lines))

-- the first lines of the picture
unfoldable pub joint_bytes : ColorConvert → JointShape → ℕ → List ℕ → ℕ → List ℕ
joint_bytes convert shape width samples height =
    concat (map (joint_line convert shape width samples) (range_with_len 0 height))

-- Each line has this many samples.
pub record HaveWidth (width : ℕ) (lines : List (List ℕ)) : Type 0 where
  pub each : (k : ℕ) → k < length lines → length (get_or lines k []) ≡ width

-- a component has the factors, the columns of blocks and the scale of another one
pub record IsLike (first c : declared.Component) : Type 0 where
  pub horizontal : c.horizontal_sampling_factor ≡ first.horizontal_sampling_factor
  pub vertical : c.vertical_sampling_factor ≡ first.vertical_sampling_factor
  pub wide : c.block_size.width ≡ first.block_size.width
  pub scale : c.dct_scale ≡ first.dct_scale

-- Components with the same factors, whose planes have lines of this many samples.
pub record AreAlike (components : List Component) (stride : ℕ) : Type 0 where
  pub horizontal : ℕ
  pub vertical : ℕ
  pub factors : AllByRecursion (λ c. (c.factors.horizontal ≡ horizontal)
      × (c.factors.vertical ≡ vertical)) components
  pub strides : AllByRecursion (λ c. c.blocks_wide * c.scale ≡ stride) components

-- The sizes of strips are within those of frames.
pub record HasFrameSizes (shape : JointShape) : Type 0 where
  pub count : shape.count ≤ 4
  pub stride : shape.stride ≤ 524280
  pub lines : shape.lines ≤ 32
  pub rows : shape.rows ≤ 65535

-- Three or four components alike, whose planes have the samples of a picture of this width and
-- height.
pub record IsShapeOf (components : List Component) (width height : ℕ) (shape : JointShape)
    : Type 0 where
  pub count : shape.count ≡ length components
  pub some : 3 ≤ shape.count
  pub small : HasFrameSizes shape
  pub alike : AreAlike components shape.stride
  pub wide : width ≤ shape.stride
  pub high : height ≤ shape.rows * shape.lines

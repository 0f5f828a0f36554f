-- The colour transform that a stream asks for, whatever a caller has set.
use Rattle.std.specs.Prelude.{ℕ, List, [], ◌∷◌, None}
use Rattle.jpeg_bits.specs.declared.color_transform.ColorTransform.{ColorTransform}
use Rattle.jpeg_bits.specs.declared.color_transform.ColorTransform.TheVariants as transforms
use Rattle.jpeg_segments.specs.Frame.{Frame}
use Rattle.jpeg_segments.specs.declared.frame.CodingProcess.{CodingProcess}
use Rattle.jpeg_segments.specs.declared.frame.CodingProcess.TheVariants.{Lossless}
use Rattle.jpeg_meaning.specs.ColourChoice.{identifiers_of, transform_of}
use Rattle.jpeg_meaning.specs.Found.{Metadata}

-- by the identifiers of the components and the segments: neither one component nor the samples of a
-- lossless frame are converted
abbrev pub transform_by : CodingProcess → List ℕ → Metadata → ColorTransform
transform_by Lossless identifiers m = transforms.None
transform_by _ (identifier ∷ []) m = transforms.None
transform_by _ identifiers m = transform_of None identifiers m.jfif m.adobe

-- that of a frame
abbrev pub frame_transform : Metadata → Frame → ColorTransform
frame_transform m f = transform_by f.process (identifiers_of f.components) m

-- The picture of several components.
use Rattle.std.specs.Prelude.{◌≡◌, ℕ, ◌+◌, ◌-◌, ◌*◌, ◌<◌, ◌≤◌, List, [], ◌∷◌, map, length}
use Rattle.std.specs.Prelude.{slice_index, ok_or, zip, Result, Ok, Bool, true, false, Some, None}
use Rattle.std.specs.List.{range_with_len, concat}
use Rattle.jpeg_bits.specs.Reading.{Fault, Lacks, ◌>>=◌}
use Rattle.jpeg_bits.specs.declared.error.UnsupportedFeature.TheVariants.{NonIntegerSubsamplingRatio}
use Rattle.jpeg_bits.specs.declared.color_transform.ColorTransform.{ColorTransform}
use Rattle.jpeg_segments.specs.Checks.{gathered}
use Rattle.jpeg_segments.specs.Frame.{Frame, Component, most_across, most_down}
use Rattle.jpeg_pixels.specs.declared.upsample_rows.UpsampleRule.{UpsampleRule}
use Rattle.jpeg_pixels.specs.declared.upsample_rows.UpsampleRule.TheVariants.{H1V2, H2V2}
use Rattle.jpeg_pixels.specs.declared.color_convert.ColorConvert.{ColorConvert}
use Rattle.jpeg_pixels.specs.Upsampling.{upsampled, rule_of, across, down}
use Rattle.jpeg_pixels.specs.Colour.{line_bytes, conversion_of}

-- A component's samples: how they are upsampled, their size, and the samples that a line of its
-- plane has.
pub record Source : Type 0 where
  pub rule : UpsampleRule
  pub width : ℕ
  pub height : ℕ
  pub stride : ℕ

-- how a component is upsampled in a picture of this width and height, in a frame of these greatest
-- factors
unfoldable pub source_of : ℕ → ℕ → ℕ → ℕ → Component → Result Source Fault
source_of most_h most_v width height c = do
  rule ← ok_or (rule_of c.factors.horizontal c.factors.vertical most_h most_v width height)
      (Lacks NonIntegerSubsamplingRatio)
  Ok (record { rule = rule; width = c.width; height = c.height; stride = c.blocks_wide * c.scale })

-- each component's, or the first refusal
abbrev pub sources_of : List Component → ℕ → ℕ → Result (List Source) Fault
sources_of components width height =
    gathered (source_of (most_across components) (most_down components) width height) components

-- whether a rule blends a line of a component with the one below it
abbrev pub blends_down : UpsampleRule → Bool
blends_down H1V2 = true
blends_down H2V2 = true
blends_down _ = false

-- whether a component's lines are blended so in the picture of a frame
unfoldable pub is_blended : Frame → Component → Bool
is_blended frame c = elim (rule_of c.factors.horizontal c.factors.vertical
    (most_across frame.components) (most_down frame.components) frame.output_width
    frame.output_height) [
      | Some rule ↦ blends_down rule
      | None ↦ false
    ]

-- a line of a component as wide as the picture
abbrev pub line_of : Source → List ℕ → ℕ → ℕ → List ℕ
line_of s plane width row = map (λ x. upsampled s.rule (λ i j. slice_index plane (j * s.stride + i))
    s.width s.height x row) (range_with_len 0 width)

unfoldable pub lines_of : List Source → List (List ℕ) → ℕ → ℕ → List (List ℕ)
lines_of sources planes width row = map (λ x. line_of x.0 x.1 width row) (zip sources planes)

-- a line of the picture
unfoldable pub picture_line : ColorConvert → List Source → List (List ℕ) → ℕ → ℕ → List ℕ
picture_line convert sources planes width row =
    line_bytes convert width (lines_of sources planes width row)

-- the picture: its lines from above
unfoldable pub converted_picture : ColorConvert → List Source → List (List ℕ) → ℕ → ℕ → List ℕ
converted_picture convert sources planes width height =
    concat (map (picture_line convert sources planes width) (range_with_len 0 height))

unfoldable pub image_of : List Component → List (List ℕ) → ℕ → ℕ → ColorTransform
    → Result (List ℕ) Fault
image_of components planes width height transform =
    conversion_of (length components) transform >>= (λ convert.
    sources_of components width height
    >>= (λ sources. Ok (converted_picture convert sources planes width height)))

-- ---- what is asked of planes

-- A plane has the samples that its rule asks for in a picture of this width and height.
pub record Covers (s : Source) (plane : List ℕ) (width height : ℕ) : Type 0 where
  pub some_width : 0 < s.width
  pub some_across : 0 < across s.rule
  pub some_down : 0 < down s.rule
  pub wide_enough : width ≤ across s.rule * s.width
  pub high_enough : height ≤ down s.rule * s.height
  pub room : (s.height - 1) * s.stride + s.width ≤ length plane

-- each plane does
unfoldable pub AllCover : List Source → List (List ℕ) → ℕ → ℕ → Type 0
AllCover [] planes width height = Unit {0}
AllCover (s ∷ sources) [] width height = ⊥
AllCover (s ∷ sources) (plane ∷ planes) width height =
    Covers s plane width height × AllCover sources planes width height

-- planes with room for the samples of these components, where a line is as long as the component's
-- blocks
unfoldable pub HaveRoom : List Component → List (List ℕ) → Type 0
HaveRoom [] planes = Unit {0}
HaveRoom (c ∷ more) [] = ⊥
HaveRoom (c ∷ more) (plane ∷ planes) =
    ((c.height - 1) * (c.blocks_wide * c.scale) + c.width ≤ length plane) × HaveRoom more planes

-- planes of all blocks of these components
unfoldable pub AreWhole : List Component → List (List ℕ) → Type 0
AreWhole [] planes = Unit {0}
AreWhole (c ∷ more) [] = ⊥
AreWhole (c ∷ more) (plane ∷ planes) =
    (length plane ≡ (c.blocks_high * c.scale) * (c.blocks_wide * c.scale)) × AreWhole more planes

-- A frame has a way to upsample each component to the size of its picture, and planes of all blocks
-- have the samples for it.
pub record HasSources (frame : Frame) : Type 0 where
  pub sources : List Source
  pub is : sources_of frame.components frame.output_width frame.output_height ≡ Ok sources
  pub cover : (planes : List (List ℕ)) → AreWhole frame.components planes
      → AllCover sources planes frame.output_width frame.output_height

-- Frame headers (T.81, B.2.2), and the sizes that they give (A.1.1, A.2).
use Rattle.std.specs.Prelude.{ℕ, zero, suc, ◌≤◌, ◌+◌, ◌-◌, ◌*◌, ◌/◌, ◌%◌, max, List, [], ◌∷◌, ◌++◌}
use Rattle.std.specs.Prelude.{◌≡◌, ◌<◌, All, Bool, not, ◌&&◌, ◌||◌, Ok, Err, nat_lt, nat_le, ◌==◌}
use Rattle.std.specs.Prelude.{if◌then◌else◌, map}
use Rattle.std.specs.List.{list_any}
use Rattle.jpeg_bits.specs.Reading.{Outcome, Malformed, Lacks, ◌>>=◌, next_byte, next_u16}
use Rattle.jpeg_bits.specs.Reading.{length_at}
use Rattle.jpeg_bits.specs.declared.error.UnsupportedFeature.TheVariants.{DNL}
use Rattle.jpeg_segments.specs.declared.frame.CodingProcess.{CodingProcess}
use Rattle.jpeg_segments.specs.declared.frame.CodingProcess.TheVariants.{DctSequential}
use Rattle.jpeg_segments.specs.declared.frame.CodingProcess.TheVariants.{DctProgressive, Lossless}
use Rattle.jpeg_segments.specs.declared.frame.EntropyCoding.{EntropyCoding}
use Rattle.jpeg_segments.specs.declared.frame.EntropyCoding.TheVariants.{Huffman, Arithmetic}
use Rattle.jpeg_segments.specs.Checks.{check}

-- The parameters of a component (B.2.2): its identifier Ci, its sampling factors Hi and Vi, and the
-- destination Tqi of its quantization table.
pub record Factors : Type 0 where
  pub identifier : ℕ
  pub horizontal : ℕ
  pub vertical : ℕ
  pub quantization : ℕ

-- A component: its parameters, the number of samples along a side of a block, its size in samples
-- (A.1.1), and its size in blocks when all MCUs are whole (A.2.4).
pub record Component : Type 0 where
  pub factors : Factors
  pub scale : ℕ
  pub width : ℕ
  pub height : ℕ
  pub blocks_wide : ℕ
  pub blocks_high : ℕ

-- A frame: its process (Table B.1), its sample precision and its size in samples, the size of the
-- picture that is made of it, the number of MCUs across and down (A.2), and the components.
pub record Frame : Type 0 where
  pub is_baseline : Bool
  pub is_differential : Bool
  pub process : CodingProcess
  pub coding : EntropyCoding
  pub precision : ℕ
  pub width : ℕ
  pub height : ℕ
  pub output_width : ℕ
  pub output_height : ℕ
  pub mcus_wide : ℕ
  pub mcus_high : ℕ
  pub components : List Component

-- n / d, rounded up
abbrev pub ceiling : ℕ → ℕ → ℕ
ceiling n d = (n + (d - 1)) / d

abbrev pub greatest : (Factors → ℕ) → List Factors → ℕ
greatest f [] = 1
greatest f (c ∷ more) = max (f c) (greatest f more)

-- the greatest sampling factors of some components
abbrev pub most_across : List Component → ℕ
most_across components = greatest (λ f. f.horizontal) (map (λ c. c.factors) components)

abbrev pub most_down : List Component → ℕ
most_down components = greatest (λ f. f.vertical) (map (λ c. c.factors) components)

-- A component of a frame of this width and height, where these are the greatest sampling factors of
-- its components.
unfoldable pub component_of : ℕ → ℕ → ℕ → ℕ → Factors → Component
component_of width height most_horizontal most_vertical c = record {
  factors = c;
  scale = 8;
  width = ceiling (width * c.horizontal) most_horizontal;
  height = ceiling (height * c.vertical) most_vertical;
  blocks_wide = ceiling width (8 * most_horizontal) * c.horizontal;
  blocks_high = ceiling height (8 * most_vertical) * c.vertical;
}

-- ---- processes (Table B.1), by the number n of the marker SOFn

abbrev pub process_of : ℕ → CodingProcess
process_of number = if nat_lt (number % 4) 2 then DctSequential
    else (if number % 4 == 2 then DctProgressive else Lossless)

abbrev pub is_lossless_number : ℕ → Bool
is_lossless_number number = number % 4 == 3

abbrev pub is_progressive_number : ℕ → Bool
is_progressive_number number = number % 4 == 2

-- SOF5 to SOF7 and SOF13 to SOF15
abbrev pub is_differential_number : ℕ → Bool
is_differential_number number = nat_lt 4 (number % 8)

abbrev pub coding_of : ℕ → EntropyCoding
coding_of number = if nat_lt 8 number then Arithmetic else Huffman

unfoldable pub frame_of : ℕ → ℕ → ℕ → ℕ → List Factors → Frame
frame_of number precision width height components =
    let h = greatest (λ c. c.horizontal) components in
    let v = greatest (λ c. c.vertical) components in
    record {
      is_baseline = number == 0;
      is_differential = is_differential_number number;
      process = process_of number;
      coding = coding_of number;
      precision = precision;
      width = width;
      height = height;
      output_width = width;
      output_height = height;
      mcus_wide = ceiling width (8 * h);
      mcus_high = ceiling height (8 * v);
      components = map (component_of width height h v) components;
    }

-- ---- components

abbrev pub is_factor : ℕ → Bool
is_factor n = not (n == 0) && nat_le n 4

-- whether a component in `front` has this identifier
abbrev pub is_taken : List Factors → ℕ → Bool
is_taken front identifier = list_any (λ c. c.identifier == identifier) front

-- a destination of a quantization table, which is 0 in a lossless frame
abbrev pub is_destination : Bool → ℕ → Bool
is_destination lossless destination = if lossless then destination == 0 else nat_le destination 3

-- A component after those in `front`: an identifier of its own, its sampling factors and the
-- destination of its quantization table.
unfoldable pub factors_at : Bool → List Factors → List ℕ → Outcome Factors
factors_at lossless front bytes = do
  c ← next_byte bytes
  _ ← check (not (is_taken front c.0))
  f ← next_byte c.1
  _ ← check (is_factor (f.0 / 16) && is_factor (f.0 % 16))
  q ← next_byte f.1
  _ ← check (is_destination lossless q.0)
  Ok (
    record { identifier = c.0; horizontal = f.0 / 16; vertical = f.0 % 16; quantization = q.0 },
    q.1,
  )

-- n more components, after those in `front`
unfoldable pub components_from : Bool → ℕ → List Factors → List ℕ → Outcome (List Factors)
components_from lossless zero front bytes = Ok (front, bytes)
components_from lossless (suc n) front bytes =
    factors_at lossless front bytes >>= (λ c. components_from lossless n (front ++ c.0 ∷ []) c.1)

-- ---- headers

-- The number of lines and of samples in a line. 0 lines would be defined by a later DNL segment.
unfoldable pub size_at : List ℕ → Outcome (ℕ × ℕ)
size_at bytes = do
  height ← next_u16 bytes
  width ← next_u16 height.1
  if height.0 == 0 then Err (Lacks DNL) else (if width.0 == 0 then Err Malformed
      else Ok ((width.0, height.0), width.1))

-- 8 bits, or 12 where the frame is not baseline; in a lossless frame at most 16
abbrev pub is_precision : ℕ → ℕ → Bool
is_precision number precision =
    if is_lossless_number number then nat_le precision 16 else precision == 8
    || (precision == 12 && not (number == 0))

-- at least one component, and in a progressive frame at most 4
abbrev pub is_count : ℕ → ℕ → Bool
is_count number count = not (count == 0) && (not (is_progressive_number number) || nat_le count 4)

-- The parameters of an SOFn segment, after the marker.
unfoldable pub sof_at : ℕ → List ℕ → Outcome Frame
sof_at number bytes = do
  left ← length_at bytes
  _ ← check (nat_le 7 left.0)
  precision ← next_byte left.1
  _ ← check (is_precision number precision.0)
  size ← size_at precision.1
  count ← next_byte size.1
  _ ← check (is_count number count.0 && left.0 == 6 + 3 * count.0)
  components ← components_from (is_lossless_number number) count.0 [] count.1
  Ok (frame_of number precision.0 size.0.0 size.0.1 components.0, components.1)

-- ---- what each frame that is read has

-- the sampling factors of a component are 1 to 4, and a block gives at most 8 samples a side
pub record HasSampling (c : Component) : Type 0 where
  pub horizontal_some : 1 ≤ c.factors.horizontal
  pub horizontal_most : c.factors.horizontal ≤ 4
  pub vertical_some : 1 ≤ c.factors.vertical
  pub vertical_most : c.factors.vertical ≤ 4
  pub scale_most : c.scale ≤ 8

unfoldable pub AllHaveSampling : List Component → Type 0
AllHaveSampling [] = Unit {0}
AllHaveSampling (c ∷ more) = HasSampling c × AllHaveSampling more

-- the sampling factors that a header gives a component are 1 to 4
pub record IsInRange (c : Factors) : Type 0 where
  pub horizontal_some : 1 ≤ c.horizontal
  pub horizontal_most : c.horizontal ≤ 4
  pub vertical_some : 1 ≤ c.vertical
  pub vertical_most : c.vertical ≤ 4

-- A frame that a header gives: its picture has lines and samples, and the sampling factors of its
-- components are 1 to 4.
pub record IsFrame (f : Frame) : Type 0 where
  pub number : ℕ
  pub precision : ℕ
  pub width : ℕ
  pub height : ℕ
  pub factors : List Factors
  pub in_range : All IsInRange factors
  pub some_width : 0 < width
  pub some_height : 0 < height
  pub made : f ≡ frame_of number precision width height factors

-- What becomes of the lines of a picture as they come from the top: see `line_takers`.
use Rattle.std.specs.Prelude.{◌≡◌, ◌≤◌, ◌*◌, ◌++◌, ℕ, List, length, true, Option, None, Some}
use Rattle.std.specs.Prelude.{IsSomeAnd, drop, if◌then◌else◌, map, option_map, take}
use Rattle.std.specs.List.{AllByRecursion, concat}
use Rattle.std.specs.Io.KnownBytes.{Appends}
use Rattle.jpeg_meaning.specs.Output.{header_line_of}
use Rattle.jpeg_meaning.specs.declared.images.ImageInfo.{ImageInfo}
use Rattle.jpeg_orientation.specs.Areas.{is_inside}
use Rattle.jpeg_orientation.specs.declared.areas.Area.{Area}
use Rattle.jpeg_segments.specs.declared.frame.Dimensions.{Dimensions}
use Rattle.zaxbriar_samples.specs.Boxes.{boxed, is_smaller}
use Rattle.zaxbriar_samples.specs.Boxing.{HasTaken}
use Rattle.zaxbriar_samples.specs.DecodedPictures.{Decoded, decoded}
use Rattle.zaxbriar_samples.specs.Files.{file_as, has_pixels}
use Rattle.zaxbriar_samples.specs.Netpbm.{header_in}
use Rattle.zaxbriar_samples.specs.Parts.{part_info, part_of, pixel_bytes}
use Rattle.zaxbriar_samples.specs.Png.{has_png, line_bytes}
use Rattle.zaxbriar_samples.specs.PngLines.{HasLines}
use Rattle.zaxbriar_samples.specs.Turns.{upright}
use Rattle.zaxbriar_samples.specs.declared.files.PictureFormat.{PictureFormat}
use Rattle.zaxbriar_samples.specs.declared.files.PictureFormat.TheVariants.{Netpbm, Png}
use Rattle.zaxbriar_samples.specs.declared.line_takers.Form.{Form}
use Rattle.zaxbriar_samples.specs.declared.line_takers.Form.TheVariants as forms
use Rattle.zaxbriar_samples.specs.declared.line_takers.LineTaker.{LineTaker}
use Rattle.zaxbriar_samples.specs.declared.line_takers.Plan.{Plan}
use Rattle.zaxbriar_samples.specs.declared.line_takers.Taker.{Taker}
use Rattle.zaxbriar_samples.specs.declared.line_takers.Taker.TheVariants as takers
use Rattle.zaxbriar_samples.specs.declared.line_takers.Target.{Target}
use Rattle.zaxbriar_samples.specs.declared.line_takers.Target.TheVariants as targets
use Rattle.zaxbriar_samples.specs.declared.line_takers.Window.{Window}
use Rattle.zaxbriar_samples.specs.declared.line_takers.Stored.{Stored}

-- each line has this many bytes
abbrev pub HaveBytes : ℕ → List (List ℕ) → Type 0
HaveBytes bytes lines = AllByRecursion (λ line. length line ≡ bytes) lines

-- the bytes of a picture: a line with its size and its format, and its pixels
abbrev pub raw_bytes : Decoded → List ℕ
raw_bytes p = header_line_of (Some p.info) ++ p.pixels

-- ---- a part of a picture

-- what is said of it
abbrev pub said_of : Stored → Option Area → Stored
said_of stored None = stored
said_of stored (Some area) = record stored { info = part_info area stored.info }

-- the lines, and the bytes of each, that it has
abbrev pub window_of : Stored → Area → Window
window_of stored area = record {
  top = area.top;
  height = area.height;
  from = area.left * pixel_bytes stored.info stored.precision;
  bytes = area.width * pixel_bytes stored.info stored.precision;
}

abbrev pub lines_within : Option Window → List (List ℕ) → List (List ℕ)
lines_within None lines = lines
lines_within (Some w) lines =
    map (λ line. take w.bytes (drop w.from line)) (take w.height (drop w.top lines))

-- its picture
abbrev pub part_within : Option Area → Decoded → Decoded
part_within None p = p
part_within (Some area) p = part_of area p

-- It lies in the picture.
abbrev pub IsWithin : Option Area → Stored → Type 0
IsWithin None stored = Unit {0}
IsWithin (Some area) stored = is_inside area stored.info.width stored.info.height ≡ true

-- ---- what is written of it

-- of a picture for a size, in a file of a format
abbrev pub form_for : ImageInfo → Dimensions → PictureFormat → Form
form_for info size format =
    if is_smaller size info then forms.Smaller size format else forms.File format

-- Such a picture can be written so.
abbrev pub CanBegin : Form → Stored → Type 0
CanBegin forms.Raw said = Unit {0}
CanBegin (forms.File Netpbm) said = said.precision ≡ 8
CanBegin (forms.File Png) said = has_png said.info.pixel_format ≡ true
CanBegin (forms.Smaller size format) said =
    (is_smaller size said.info ≡ true) × (has_pixels format said.info.pixel_format ≡ true)

-- A writer was given what stands before these bytes of its lines, and them.
abbrev pub HasWritten : Form → Stored → List ℕ → Option (List ℕ) → Option (List ℕ) → Type 0
HasWritten forms.Raw said bytes before after =
    Appends before after (header_line_of (Some said.info) ++ bytes)
HasWritten (forms.File Netpbm) said bytes before after = (said.precision ≡ 8)
    × Appends before after (header_in said.info.pixel_format said.info 255 ++ bytes)
HasWritten _ said bytes before after = ⊥

-- These lines have gone where lines go.
abbrev pub HasTakenLines : Form → Stored → List (List ℕ) → Target → Option (List ℕ)
    → Option (List ℕ) → Type 0
HasTakenLines form said lines targets.Writer before after =
    HasWritten form said (concat lines) before after
HasTakenLines (forms.File Png) said lines (targets.Png file) before after =
    (has_png said.info.pixel_format ≡ true) × ((more : List ℕ)
    → HasLines said.info said.precision (concat lines ++ more) (length lines) file before after)
HasTakenLines (forms.Smaller size format) said lines (targets.Smaller s) before after =
    (after ≡ before) × (s.format ≡ format) × (s.orientation ≡ said.orientation)
    × (has_pixels format said.info.pixel_format ≡ true) × ((more : List ℕ)
    → HasTaken (concat lines ++ more) said.info said.precision size (length lines) s.boxing)
HasTakenLines _ said lines target before after = ⊥

-- All that comes after the lines can be written.
abbrev pub CanEnd : Target → Type 0
CanEnd targets.Writer = Unit {0}
CanEnd (targets.Png file) = Unit {0}
CanEnd (targets.Smaller s) = (form : Form) × (said : Stored) × (lines : List (List ℕ))
    × (before : Option (List ℕ)) × HasTakenLines form said lines (targets.Smaller s) before before
    × (length lines ≡ said.info.height)

-- This is written of a picture.
abbrev pub IsWrittenAs : Form → ℕ → Decoded → Option (List ℕ) → Option (List ℕ) → Type 0
IsWrittenAs forms.Raw orientation p before after = Appends before after (raw_bytes p)
IsWrittenAs (forms.File format) orientation p before after =
    IsSomeAnd (file_as format p) (Appends before after)
IsWrittenAs (forms.Smaller size format) orientation p before after =
    IsSomeAnd (file_as format (upright orientation (boxed size p))) (Appends before after)

-- ---- the lines of the whole picture

-- A picture's lines are taken by themselves: these so far.
pub record IsTaking (plan : Plan) (lines : List (List ℕ)) (t : LineTaker)
    (before after : Option (List ℕ)) : Type 0 where
  pub window_is : t.window ≡ option_map (window_of plan.stored) plan.area
  pub bytes_are : t.line_bytes ≡ line_bytes plan.stored.info plan.stored.precision
  pub height_is : t.height ≡ plan.stored.info.height
  pub taken_are : t.taken ≡ length lines
  pub within : IsWithin plan.area plan.stored
  pub low : length lines ≤ plan.stored.info.height
  pub long : HaveBytes (line_bytes plan.stored.info plan.stored.precision) lines
  pub given : HasTakenLines plan.form (said_of plan.stored plan.area) (lines_within t.window lines)
      t.target before after

-- These bytes of a picture's lines have been taken.
abbrev pub HasTakenBytes : Plan → List ℕ → Taker → Option (List ℕ) → Option (List ℕ) → Type 0
HasTakenBytes plan bytes takers.Bytes before after =
    (plan.area ≡ None) × HasWritten plan.form plan.stored bytes before after
HasTakenBytes plan bytes (takers.Lines t) before after = (lines : List (List ℕ))
    × (concat lines ≡ bytes) × IsTaking plan lines t before after

-- What stands after the lines can be written.
abbrev pub CanFinish : Taker → Type 0
CanFinish takers.Bytes = Unit {0}
CanFinish (takers.Lines t) = t.taken ≡ t.height → CanEnd t.target

-- the picture of which these are the bytes, or the part of it
abbrev pub planned : Plan → List ℕ → Decoded
planned plan bytes =
    part_within plan.area (decoded plan.stored.info plan.stored.precision bytes)

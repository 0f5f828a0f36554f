-- The lines of a part of a picture.
use Rattle.std.specs.Prelude.{◌≡◌, List, ℕ, Bool, false, Option, length}
use Rattle.std.specs.Prelude.{option_map}
use Rattle.std.specs.List.{concat}
use Rattle.jpeg_decoder.specs.Bytes.{HaveBytes}
use Rattle.jpeg_orientation.specs.Areas.{stored_area}
use Rattle.jpeg_orientation.specs.declared.areas.Area.{Area}
use Rattle.zaxbriar_files.specs.declared.refusal.Refusal.{Refusal}
use Rattle.zaxbriar_files.specs.declared.refusal.Refusal.TheVariants.{Crop}
use Rattle.zaxbriar_samples.specs.DecodedPictures.{Decoded, decoded}
use Rattle.zaxbriar_samples.specs.Parts.{part_of, stored_part}
use Rattle.zaxbriar_samples.specs.Png.{line_bytes}
use Rattle.zaxbriar_samples.specs.Turns.{turn_by}
use Rattle.zaxbriar_pictures.specs.declared.lines.Part.{Part}
use Rattle.zaxbriar_samples.specs.declared.line_takers.Stored.{Stored}

-- the picture of these lines
abbrev pub picture_of : Stored → List (List ℕ) → Decoded
picture_of stored lines = decoded stored.info stored.precision (concat lines)

-- These are the lines of a picture, of which another is said.
pub record HasPicture (picture : Decoded) (stored : Stored) (p : Part) : Type 0 where
  pub picture_is : picture_of p.stored p.lines ≡ picture
  pub orientation_is : p.stored.orientation ≡ stored.orientation
  pub format_is : p.stored.info.pixel_format ≡ stored.info.pixel_format
  pub height : length p.lines ≡ p.stored.info.height
  pub bytes : HaveBytes (line_bytes p.stored.info p.stored.precision) p.lines

-- the part of an area, and the one that becomes the part which is asked for
abbrev pub IsAreaOf : Area → Stored → List (List ℕ) → Part → Type 0
IsAreaOf area stored lines p = HasPicture (part_of area (picture_of stored lines)) stored p

abbrev pub IsPartFor : Option Area → Stored → List (List ℕ) → Part → Type 0
IsPartFor crop stored lines p =
    HasPicture (stored_part crop stored.orientation (picture_of stored lines)) stored p

-- the area of a stored picture that becomes the part which is asked for
abbrev pub area_for : Option Area → Stored → Option Area
area_for crop stored = option_map (stored_area (turn_by stored.info stored.orientation)) crop

-- a part is refused since it doesn't fit
abbrev pub IsOutside : Bool → Refusal → Type 0
IsOutside fits (Crop area width height) = fits ≡ false
IsOutside fits _ = ⊥

-- Options, lines and streams that the laws on worked streams and pictures name.
use Rattle.std.specs.Prelude.{ℕ, List, [], ◌∷◌, ◌++◌, Some, replicate, true}
use Rattle.jpeg_orientation.specs.declared.areas.Area.{Area}
use Rattle.jpeg_segments.specs.declared.frame.CodingProcess.TheVariants.{DctSequential}
use Rattle.jpeg_meaning.specs.declared.images.ImageInfo.{ImageInfo}
use Rattle.jpeg_meaning.specs.declared.images.PixelFormat.{PixelFormat}
use Rattle.zaxbriar_metadata.specs.Collected.{Collection, exif_name}
use Rattle.zaxbriar_metadata.specs.Worked.{extension_part, main_packet, two_resources}
use Rattle.zaxbriar_metadata.specs.Worked.{with_thumbnail}
use Rattle.zaxbriar_calls.specs.Lines.{lines_by}
use Rattle.zaxbriar_calls.specs.declared.layouts.Conversion.TheVariants.{Stored}
use Rattle.zaxbriar_calls.specs.declared.lines.Lines.{Lines}
use Rattle.zaxbriar_calls.specs.declared.options.Options.{Options}

abbrev pub crop_at : ℕ → ℕ → ℕ → ℕ → Area
crop_at left top width height = record { left = left; top = top; width = width; height = height }

-- the picture as it is stored, of a stream whose scans may go so many times over it
abbrev pub passes_alone : ℕ → Options
passes_alone passes = record {
  max_samples = 0;
  stride = 0;
  min_width = 0;
  min_height = 0;
  transform = 0;
  layout = 0;
  scale = 0;
  bottom_up = 0;
  max_bytes = 0;
  pointer_words = replicate 2 0;
  max_passes = passes;
  upright = 0;
  luma = 0;
  reserved_bytes = replicate 6 0;
  crop = crop_at 0 0 0 0;
  most_width = 0;
  most_height = 0;
  reserved_half = replicate 4 0;
  reserved_words = replicate 6 0;
}

-- the picture upright and without a gap
abbrev pub upright_alone : Options
upright_alone = record (passes_alone 0) { upright = 1 }

-- a part of the picture upright
abbrev pub cropped_alone : ℕ → ℕ → ℕ → ℕ → Options
cropped_alone left top width height =
    record upright_alone { crop = crop_at left top width height }

-- the picture upright, and within a size
abbrev pub fitted_alone : ℕ → ℕ → Options
fitted_alone width height = record upright_alone { most_width = width; most_height = height }

-- the luma without a gap, as it is stored
abbrev pub luma_alone : Options
luma_alone = record (passes_alone 0) { luma = 1 }

-- a picture of 3 by 4 pixels of a format
abbrev pub three_by_four : PixelFormat → ImageInfo
three_by_four format =
    record { width = 3; height = 4; pixel_format = format; coding_process = DctSequential }

-- the lines of a picture of 3 by 2 pixels of a format, a precision and an orientation, as some
-- options ask for them
abbrev pub three_by_two : Options → PixelFormat → ℕ → ℕ → Lines
three_by_two o format precision orientation = lines_by o
    (record { width = 3; height = 2; pixel_format = format; coding_process = DctSequential })
    precision orientation Stored

-- Exif data in two segments of an image, with another application's between them, and in a third
-- one after its end
abbrev pub exif_twice : List ℕ
exif_twice =
    255 ∷ 216 ∷ 255 ∷ 225 ∷ 0 ∷ 12 ∷ (exif_name ++ (73 ∷ 73 ∷ 42 ∷ 0 ∷ 255 ∷ 236 ∷ 0 ∷ 2
    ∷ 255 ∷ 225 ∷ 0 ∷ 9 ∷ (exif_name ++ (7 ∷ 255 ∷ 217
    ∷ 255 ∷ 225 ∷ 0 ∷ 9 ∷ (exif_name ++ 8 ∷ [])))))

-- data of each kind
abbrev pub all_data : Collection
all_data = record {
  exif = Some (with_thumbnail true);
  xmp = Some main_packet;
  extensions = extension_part 65 1 0 ∷ [];
  resources = two_resources ++ (28 ∷ 2 ∷ []);
}

-- What the steps of writing the picture of a stream have done: its header was read for a request,
-- and its picture was written.
use Rattle.std.specs.Prelude.{◌≡◌, ℕ, List, Ok, Option, Some, option_map, true, IsSomeAnd}
use Rattle.std.specs.Io.KnownBytes.{Appends}
use Rattle.jpeg_bits.specs.declared.error.Error.{Error}
use Rattle.jpeg_meaning.specs.Found.{Found, with_said}
use Rattle.jpeg_meaning.specs.Pixels.{info_by}
use Rattle.jpeg_meaning.specs.Shown.{Shown}
use Rattle.jpeg_meaning.specs.States.{Decoding}
use Rattle.jpeg_meaning.specs.Stream.{Told, header_at, rest_by, scaled_to, told_of}
use Rattle.jpeg_meaning.specs.declared.progress.Progress.TheVariants.{HeaderRead}
use Rattle.jpeg_decoder.specs.Reaching.{NamesFault}
use Rattle.zaxbriar_files.specs.declared.limits.Limits.{Limits}
use Rattle.zaxbriar_pictures.specs.Given.{complete_rest, given_rest, settings_within}
use Rattle.zaxbriar_pictures.specs.ScaledPictures.{settings_for}
use Rattle.zaxbriar_samples.specs.DecodedPictures.{Decoded, decoded}
use Rattle.zaxbriar_samples.specs.Files.{file_as}
use Rattle.zaxbriar_samples.specs.LineTakers.{raw_bytes}
use Rattle.zaxbriar_samples.specs.Sizes.{luma_for, orientation_for, scale_of_request, size_for}
use Rattle.zaxbriar_samples.specs.Parts.{shown_part}
use Rattle.jpeg_orientation.specs.declared.areas.Area.{Area}
use Rattle.zaxbriar_pictures.specs.declared.extents.Completeness.{Completeness}
use Rattle.zaxbriar_pictures.specs.declared.extents.Extent.{Extent}
use Rattle.zaxbriar_samples.specs.declared.line_takers.Stored.{Stored}
use Rattle.zaxbriar_pictures.specs.declared.scaled.Choice.{Choice}
use Rattle.zaxbriar_samples.specs.declared.files.PictureFormat.{PictureFormat}
use Rattle.zaxbriar_samples.specs.declared.requests.Request.{Request}

-- A choice is the one for a request, by what a header says.
pub record IsChoice (request : Request) (header : Found) (choice : Choice) : Type 0 where
  pub sized : IsSomeAnd (option_map (info_by (settings_for (luma_for request)))
      header.said.frame) (λ full. (choice.full ≡ full)
      × (choice.scale ≡ scale_of_request request full choice.orientation)
      × (choice.size ≡ size_for request full choice.orientation))
  pub turned : choice.orientation ≡ orientation_for request header.said.metadata.exif

-- This is said of the picture of a decoder.
pub record IsSaid (stored : Stored) (d : Decoding) : Type 0 where
  pub info_is : option_map (info_by d.settings) d.found.said.frame ≡ Some stored.info
  pub precision_is : option_map (λ f. f.precision) d.found.said.frame ≡ Some stored.precision

-- A decoder of known bytes has read their header, its picture is to have the scale of a choice,
-- which is the one for a request, and its scans may code as many blocks as the limits allow.
pub record ReadsForRequest (request : Request) (limits : Limits) (choice : Choice)
    (old new : Decoding) : Type 0 where
  pub stage : new.stage ≡ HeaderRead
  pub settings : new.settings ≡ settings_within (luma_for request) limits new.found
  pub reads : old.source.known ≡ true → (new.source.known ≡ true) × ((header : Found)
      × (header_at old.source.bytes ≡ Ok (header, new.source.bytes))
      × (new.found ≡ with_said (scaled_to choice.scale) header)
      × IsChoice request header choice)

-- A decoder of known bytes, which had read their header, has given what the rest gives by its
-- settings: samples, and an error for the fault.
abbrev pub GivesRest : Extent → Decoding → Decoding → List ℕ → Option Error → Type 0
GivesRest extent old new samples fault = old.source.known ≡ true → (s : Shown)
    × (given_rest extent old.settings old.found old.source.bytes ≡ Ok s)
    × (samples ≡ s.picture) × (told_of new.found.said ≡ s.told) × NamesFault fault s.fault

-- Such a decoder has counted the complete rows of what it gave, which has this height.
abbrev pub CountsRest : Extent → Decoding → ℕ → ℕ → Type 0
CountsRest extent old height rows = old.source.known ≡ true
    → rows ≡ complete_rest extent old.settings.max_blocks old.found old.source.bytes height

-- Such a decoder has given a picture, and has told how much of it is complete.
pub record GivesPicture (extent : Extent) (old new : Decoding) (picture : Decoded)
    (told : Completeness) : Type 0 where
  pub rest : GivesRest extent old new picture.pixels told.fault
  pub info_is : option_map (info_by old.settings) new.found.said.frame ≡ Some picture.info
  pub precision_is : option_map (λ f. f.precision) new.found.said.frame ≡ Some picture.precision
  pub told_is : told.info ≡ picture.info
  pub rows : CountsRest extent old told.info.height told.whole_rows

-- Such a decoder has given a picture, and a writer has got its file, or that of a part, in a format
-- that has one, once it was turned upright by an orientation.
pub record WritesFile (extent : Extent) (crop : Option Area) (orientation : ℕ)
    (format : PictureFormat) (old : Decoding) (before after : Option (List ℕ))
    (told : Completeness) : Type 0 where
  pub picture : Decoded
  pub new : Decoding
  pub gives : GivesPicture extent old new picture told
  pub written : IsSomeAnd (file_as format (shown_part crop orientation picture))
      (Appends before after)

-- The rest of such a decoder's bytes means these pixels, of the frame of their header, and a writer
-- has got the header line and the pixels of the picture, or those of a part, turned upright.
pub record WritesPixels (crop : Option Area) (stored : Stored) (old : Decoding)
    (before after : Option (List ℕ)) : Type 0 where
  pub told : Told
  pub pixels : List ℕ
  pub left : List ℕ
  pub means : rest_by old.settings old.found old.source.bytes ≡ Ok ((told, pixels), left)
  pub frame_is : told.frame ≡ old.found.said.frame
  pub written : Appends before after (raw_bytes (shown_part crop stored.orientation
      (decoded stored.info stored.precision pixels)))

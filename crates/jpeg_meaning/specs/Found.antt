-- What the segments and scans of a stream have said so far (T.81, B.2).
use Rattle.std.specs.Prelude.{ℕ, List, [], replicate, Bool, false, Option, None}
use Rattle.jpeg_segments.specs.declared.application.AdobeColorTransform.{AdobeColorTransform}
use Rattle.jpeg_segments.specs.Frame.{Frame}
use Rattle.jpeg_segments.specs.HuffmanTables.{Tables, no_tables}
use Rattle.jpeg_segments.specs.Application.{Chunk}
use Rattle.jpeg_meaning.specs.Scans.{Arrays}

-- What the segments of applications have said: whether JFIF or an MJPEG frame was named, and the
-- last Adobe transform, Exif, XMP and Photoshop data; parts of ICC profiles add up.
pub record Metadata : Type 0 where
  pub jfif : Bool
  pub avi1 : Bool
  pub adobe : Option AdobeColorTransform
  pub exif : Option (List ℕ)
  pub xmp : Option (List ℕ)
  pub psir : Option (List ℕ)
  pub icc : List Chunk

abbrev pub no_metadata : Metadata
no_metadata =
    record {
      jfif = false;
      avi1 = false;
      adobe = None;
      exif = None;
      xmp = None;
      psir = None;
      icc = [];
    }

-- What the segments of a stream have said so far: the frame; the tables in force, by their
-- destinations, those of quantization in zigzag order; the restart interval; whether there was a
-- scan; and the metadata.
pub record Said : Type 0 where
  pub frame : Option Frame
  pub quantization : List (Option (List ℕ))
  pub huffman : Tables
  pub restart : ℕ
  pub scanned : Bool
  pub metadata : Metadata

unfoldable pub nothing_said : Said
nothing_said = record {
  frame = None;
  quantization = replicate 4 None;
  huffman = no_tables;
  restart = 0;
  scanned = false;
  metadata = no_metadata;
}

-- What was found in a stream so far: what was said, and what scans have brought, by the components'
-- indices in the frame. In a progressive frame these are the blocks that are kept between scans,
-- which of the 64 indices of a block are finished, and the planes that are decided; in a lossless
-- frame its samples.
pub record Found : Type 0 where
  pub said : Said
  pub kept : Arrays
  pub finished : List (List Bool)
  pub planes : List (Option (List ℕ))
  pub samples : List (Option (List ℕ))

-- what was found, where what was said changes so
abbrev pub with_said : (Said → Said) → Found → Found
with_said change found = record found { said = change found.said }

-- no index of a block is finished
abbrev pub none_finished : List Bool
none_finished = replicate 64 false

unfoldable pub nothing_found : Found
nothing_found = record {
  said = nothing_said;
  kept = [];
  finished = replicate 4 none_finished;
  planes = replicate 4 None;
  samples = replicate 4 None;
}

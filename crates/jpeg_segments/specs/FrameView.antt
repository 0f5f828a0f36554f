-- What a caller sees of the results of the parsers.
use Rattle.std.specs.Prelude.{map}
use Rattle.jpeg_segments.specs.declared.frame.FrameInfo.{FrameInfo}
use Rattle.jpeg_segments.specs.declared.frame.Component.{Component}
use Rattle.jpeg_segments.specs.declared.frame.Factors.{Factors}
use Rattle.jpeg_segments.specs.declared.application.IccChunk.{IccChunk}
use Rattle.jpeg_segments.specs.declared.application.AppData.{AppData}
use Rattle.jpeg_segments.specs.declared.application.AppData.TheVariants as seen
use Rattle.jpeg_segments.specs.Application.{Application, Chunk, Adobe, Jfif, Avi1, Icc, Exif, Xmp}
use Rattle.jpeg_segments.specs.Application.{Psir}
use Rattle.jpeg_segments.specs.Frame as frames
use Rattle.jpeg_segments.specs.ScanHeader as scans
use Rattle.jpeg_segments.specs.ScanHeader.{Scan}
use Rattle.jpeg_segments.specs.declared.scan_header.Selector.{Selector}
use Rattle.jpeg_bits.specs.declared.scan.ScanInfo.{ScanInfo}

-- what is read of a component
abbrev pub factors_of : Factors → frames.Factors
factors_of c =
    record {
      identifier = c.identifier;
      horizontal = c.horizontal;
      vertical = c.vertical;
      quantization = c.quantization;
    }

abbrev pub factors_in : Component → frames.Factors
factors_in c = record {
  identifier = c.identifier;
  horizontal = c.horizontal_sampling_factor;
  vertical = c.vertical_sampling_factor;
  quantization = c.quantization_table_index;
}

abbrev pub component_in : Component → frames.Component
component_in c = record {
  factors = factors_in c;
  scale = c.dct_scale;
  width = c.size.width;
  height = c.size.height;
  blocks_wide = c.block_size.width;
  blocks_high = c.block_size.height;
}

abbrev pub frame_in : FrameInfo → frames.Frame
frame_in f = record {
  is_baseline = f.is_baseline;
  is_differential = f.is_differential;
  process = f.coding_process;
  coding = f.entropy_coding;
  precision = f.precision;
  width = f.image_size.width;
  height = f.image_size.height;
  output_width = f.output_size.width;
  output_height = f.output_size.height;
  mcus_wide = f.mcu_size.width;
  mcus_high = f.mcu_size.height;
  components = map component_in f.components.items;
}

-- a component of a scan, as it is read
abbrev pub selector_of : Selector → scans.Selector
selector_of s = record { component = s.component; dc = s.dc; ac = s.ac }

abbrev pub scan_in : ScanInfo → Scan
scan_in s = record {
  components = s.component_indices.items;
  dc_destinations = s.dc_table_indices.items;
  ac_destinations = s.ac_table_indices.items;
  first = s.spectral_selection.start;
  after = s.spectral_selection.end;
  predictor = s.predictor_selection;
  high = s.successive_approximation_high;
  low = s.successive_approximation_low;
  point_transform = s.point_transform;
}

abbrev pub chunk_in : IccChunk → Chunk
chunk_in c = record { number = c.seq_no; count = c.num_markers; bytes = c.bytes.items }

abbrev pub application_in : AppData → Application
application_in (seen.Adobe transform) = Adobe transform
application_in seen.Jfif = Jfif
application_in seen.Avi1 = Avi1
application_in (seen.Icc chunk) = Icc (chunk_in chunk)
application_in (seen.Exif bytes) = Exif bytes.items
application_in (seen.Xmp bytes) = Xmp bytes.items
application_in (seen.Psir bytes) = Psir bytes.items

-- What a caller sees of the parts of a decoder.
use Rattle.std.specs.Prelude.{ℕ, List, Option, map, option_map}
use Rattle.jpeg_segments.specs.FrameView.{frame_in, chunk_in}
use Rattle.jpeg_decoder.specs.declared.scan.decoded.Decoded.{Decoded}
use Rattle.jpeg_decoder.specs.declared.stream.state.Said.TheInside.{Inside}
use Rattle.jpeg_decoder.specs.declared.stream.metadata.Metadata as declared
use Rattle.jpeg_decoder.specs.PlanesView.{planes_in}
use Rattle.jpeg_decoder.specs.Scanning.{arrays_in}
use Rattle.jpeg_meaning.specs.Found.{Found, Metadata, Said}
use Rattle.std.specs.declared.alloc.Global.{Global}
use Rattle.std.specs.declared.vec.Vec.{Vec}

abbrev pub bytes_in : Option (Vec ℕ Global) → Option (List ℕ)
bytes_in bytes = option_map (λ v. v.items) bytes

abbrev pub metadata_in : declared.Metadata → Metadata
metadata_in m = record {
  jfif = m.jfif;
  avi1 = m.avi1;
  adobe = m.adobe;
  exif = bytes_in m.exif;
  xmp = bytes_in m.xmp;
  psir = bytes_in m.psir;
  icc = map chunk_in m.icc.items;
}

-- what the segments have said
abbrev pub said_of : Inside → Said
said_of s = record {
  frame = option_map frame_in s.frame;
  quantization = s.quantization;
  huffman = record { dc = s.dc_tables; ac = s.ac_tables };
  restart = s.restart_interval;
  scanned = s.scanned;
  metadata = metadata_in s.metadata;
}

-- what was said, and what scans have given
abbrev pub found_of : Said → Decoded → Found
found_of said d = record {
  said = said;
  kept = arrays_in d.kept.items;
  finished = d.finished;
  planes = d.planes;
  samples = planes_in d.samples;
}

use Rattle.std.proofs.Common.{◌≡◌, map, take}
use Rattle.jpeg_segments.specs.FrameView.{component_in}
use Rattle.jpeg_decoder.specs.Scanning.{arrays_in}
use Rattle.jpeg_meaning.specs.Scans.{zero_of}
use Rattle.jpeg_decoder.proofs.scan.decoded.zero_frame.Given as goal

abbrev pub invariant-loop-component : goal.invariant-loop-component
invariant-loop-component l = arrays_in l.arrays.items
    ≡ map zero_of (map component_in (take l.component-index l.component-items))

use Rattle.std.proofs.Common.{map}
use Rattle.jpeg_segments.specs.FrameView.{component_in}
use Rattle.jpeg_segments.proofs.Gathered.{Gathers}
use Rattle.jpeg_pixels.specs.Pictures.{source_of}
use Rattle.jpeg_pixels.specs.PicturesView.{source_in}
use Rattle.jpeg_pixels.proofs.sources.component_sources.Given as goal

abbrev pub invariant-loop-component : goal.invariant-loop-component
invariant-loop-component l = Gathers (source_of l.greatest_h l.greatest_v l.output_width
    l.output_height) (map component_in l.components) l.component-index (map source_in
    l.sources.items)

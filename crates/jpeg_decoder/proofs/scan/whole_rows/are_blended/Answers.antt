use Rattle.std.proofs.Common.{◌∙◌}
use Rattle.jpeg_segments.specs.FrameView.{frame_in}
use Rattle.jpeg_decoder.proofs.Partial.RowsAbove.{any_component}
use Rattle.jpeg_decoder.proofs.scan.whole_rows.are_blended.Goals as goal

pub returns : goal.returns
returns c = c.has_blended.ensures ∙ any_component (frame_in c.args.frame.now) c.args.codings.now

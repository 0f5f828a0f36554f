use Rattle.jpeg_evidence.proofs.Cut.CutScans.{cut_headers_add_nothing, cut_segments_add_nothing}
use Rattle.jpeg_evidence.proofs.cut_images.cut_segments_add_nothing.Goals as goal

pub returns-clause-segment : goal.returns-clause-segment
returns-clause-segment c = cut_segments_add_nothing

pub returns-clause-header : goal.returns-clause-header
returns-clause-header c = cut_headers_add_nothing

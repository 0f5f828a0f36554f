use Rattle.jpeg_evidence.proofs.HeaderRules.{kept-frame, frame-kept}
use Rattle.jpeg_evidence.proofs.header_rules.frame_headers_keep_the_table.Goals as goal

pub returns : goal.returns
returns c = record { kept = frame-kept; enough = kept-frame }

use Rattle.jpeg_evidence.proofs.HeaderRules.{kept-scan, scan-kept}
use Rattle.jpeg_evidence.proofs.header_rules.scan_headers_keep_the_table.Goals as goal

pub returns : goal.returns
returns c = record { kept = scan-kept; enough = kept-scan }

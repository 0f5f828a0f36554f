use Rattle.jpeg_meaning.proofs.Encoded.EncodedScripts.{plain-tables}
use Rattle.jpeg_meaning.proofs.Written.ScriptLevels.{pass-by}
use Rattle.jpeg_evidence.proofs.HeaderRules.{slots-are}
use Rattle.jpeg_evidence.proofs.header_rules.scans_code_what_headers_say.Goals as goal

pub returns : goal.returns
returns c = record { pass = pass-by; slots = slots-are; tables = plain-tables }

use Rattle.jpeg_meaning.proofs.Encoded.EncodedData.{scan-sent}
use Rattle.jpeg_decoder.proofs.laws.headline.legal_scans_have_data.Goals as goal

pub returns : goal.returns
returns c = scan-sent

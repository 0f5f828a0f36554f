use Rattle.jpeg_meaning.proofs.Encoded.EncodedScripts.{script-written}
use Rattle.jpeg_decoder.proofs.laws.headline.every_script_has_a_stream.Goals as goal

pub returns : goal.returns
returns c = script-written

use Rattle.std.proofs.Common.{rules}
use Rattle.jpeg_decoder.proofs.decoder.Decoder.decoding_bytes.Goals as goal

pub decoding_bytes-requires : goal.decoding_bytes-requires
decoding_bytes-requires g c = search rules

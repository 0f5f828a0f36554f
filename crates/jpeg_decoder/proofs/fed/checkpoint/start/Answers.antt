use Rattle.std.proofs.Common.{refl}
use Rattle.jpeg_decoder.proofs.FedBytes.{at-start}
use Rattle.jpeg_decoder.proofs.fed.checkpoint.start.Goals as goal

pub returns : goal.returns
returns c =
    at-start c.args.max_blocks c.args.bytes.now _ c.if-bytes-lt2.false c.if-bytes.false c.if-bytes-2.false refl refl refl
    c.new.ensures

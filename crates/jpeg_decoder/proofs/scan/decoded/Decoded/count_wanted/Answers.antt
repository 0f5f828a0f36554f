use Rattle.jpeg_decoder.specs.Steps.{coding_in, IsDecided}
use Rattle.jpeg_decoder.proofs.Scans.DecidedScans.{all-from}
use Rattle.jpeg_decoder.proofs.scan.decoded.Decoded.count_wanted.Goals as goal

pub returns-clause-decided : goal.returns-clause-decided
returns-clause-decided c =
    all-from (IsDecided c.args.self.now.planes) coding_in c.args.codings.now c.loop-slot.count c.loop-slot.slot
    c.loop-slot-test.false c.loop-slot.invariant.decided

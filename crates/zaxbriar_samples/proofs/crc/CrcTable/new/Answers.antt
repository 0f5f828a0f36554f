use Rattle.std.proofs.Common.{rules, arith, ◌≡◌, ◌+◌, suc}
use Rattle.zaxbriar_samples.specs.Samples.{tabulate}
use Rattle.zaxbriar_samples.proofs.crc.CrcTable.new.Goals as goal

pub loop-byte-init : goal.loop-byte-init
unfolding tabulate
loop-byte-init c = search rules

pub loop-byte-preserved : goal.loop-byte-preserved
unfolding tabulate
loop-byte-preserved c =
    let next : c.loop-byte.byte + 1 ≡ suc c.loop-byte.byte = omega arith in
    rw next (search rules)

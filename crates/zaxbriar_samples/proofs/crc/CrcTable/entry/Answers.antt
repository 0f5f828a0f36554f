use Rattle.std.proofs.Common.{◌≡◌, ◌∙◌, ap, arith, length, rules}
use Rattle.zaxbriar_samples.specs.Png.{crc_bits}
use Rattle.zaxbriar_samples.proofs.CrcSteps.{entries, entry-at}
use Rattle.zaxbriar_samples.proofs.crc.CrcTable.entry.Goals as goal

pub index-requires : goal.index-requires
index-requires c =
    let long : length c.self.inside.entries.items ≡ 256 = ap length c.self.invariant ∙ entries 256 (crc_bits 8) in
    omega (arith, long, c.self.inside.entries.ok.0, c.from.ensures, c.ranges.byte.fits)

pub returns : goal.returns
returns c = search (rules, entry-at)

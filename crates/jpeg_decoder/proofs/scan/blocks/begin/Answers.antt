use Rattle.std.proofs.Common.{◌≡◌, ◌<◌, ◌+◌, ◌%◌, arith}
use Rattle.jpeg_bits.specs.Entropy.{upcoming}
use Rattle.jpeg_bits.proofs.WholeBlocks.{refused_after}
use Rattle.jpeg_meaning.specs.InTurn.{begun_from, restart_from}
use Rattle.jpeg_decoder.specs.Scanning.{counted}
use Rattle.jpeg_bits.proofs.BandSteps.{Leaves-whole}
use Rattle.jpeg_decoder.proofs.Orders.BlockSteps.{begun_next, begun_refused}
use Rattle.jpeg_decoder.proofs.scan.blocks.begin.Goals as goal

pub returns-in-Err-clause-begun : goal.returns-in-Err-clause-begun
returns-in-Err-clause-begun g c arrays =
    let i = c.args.interval.now in
    let some : 0 < c.args.n = omega arith in
    let none : i.left ≡ 0 = omega arith in
    let whole = begun_from c.args.n (counted i arrays) in
    (refused_after (λ (u : Unit {0}). counted i arrays) (λ (u : Unit {0}). tt)
    whole whole (restart_from i.beyond i.number)
    i.decoder i.decoder c.read_restart.new.decoder c.args.source.now c.args.source.now c.read_restart.new.source _
    (λ t f h. begun_refused c.args.n (counted i arrays) t f some none h)
    (Leaves-whole whole i.decoder c.args.source.now) c.in-Err.ensures)

pub returns-clause-begun : goal.returns-clause-begun
returns-clause-begun g c arrays =
    let i = c.args.interval.now in
    let some : 0 < c.args.n = omega arith in
    let none : i.left ≡ 0 = omega arith in
    let next : (i.number + 1) % 256 % 8 ≡ (i.number + 1) % 8 = omega arith in
    let q = c.in_default.ensures in (
      q.0,
      λ k. let at = q.1 k in (
        at.0,
        rw (next, c.at_start-interval.ensures) (begun_next c.args.n (counted i arrays)
            (upcoming i.decoder c.args.source.now.bytes) (upcoming c.read_restart.new.decoder
            c.read_restart.new.source.bytes) some none at.1),
      ),
    )

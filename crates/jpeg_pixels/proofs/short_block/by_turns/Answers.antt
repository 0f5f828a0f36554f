use Rattle.std.proofs.Common.{◌+◌, arith}
use Rattle.jpeg_pixels.proofs.LaneSums.{halves_fit}
use Rattle.jpeg_pixels.proofs.ShortLanes.{paired_kept, sixteen_fits}
use Rattle.jpeg_pixels.proofs.short_block.by_turns.Goals as goal

pub returns-clause-first : goal.returns-clause-first
returns-clause-first c f g ea eb =
    let fa = sixteen_fits c.args.a f ea (halves_fit c.args.a _ c.well_formed.0.1.1) in
    let fb = sixteen_fits c.args.b g eb (halves_fit c.args.b _ c.well_formed.1.0.1.1) in
    rw (ea, eb) (paired_kept f g (λ j h. fa j (omega (arith, h))) (λ j h. fb j (omega (arith, h))))

pub returns-clause-last : goal.returns-clause-last
returns-clause-last c f g ea eb =
    let fa = sixteen_fits c.args.a f ea (halves_fit c.args.a _ c.well_formed.0.1.1) in
    let fb = sixteen_fits c.args.b g eb (halves_fit c.args.b _ c.well_formed.1.0.1.1) in
    rw (ea, eb) (paired_kept (λ j. f (8 + j)) (λ j. g (8 + j)) (λ j h. fa (8 + j) (omega (arith, h)))
    (λ j h. fb (8 + j) (omega (arith, h))))

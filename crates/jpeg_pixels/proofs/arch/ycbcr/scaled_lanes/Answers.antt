use Rattle.std.proofs.Common.{◌≤◌, ◌∙◌, ap, lit<, of_z, subst, sym, unsigned_abs, FitsSigned}
use Rattle.std.proofs.lemmas.Int.{to_z-of_z}
use Rattle.std.proofs.lemmas.Simd.{shifts_fit_splat}
use Rattle.std.specs.Int.{w16, w32}
use Rattle.jpeg_pixels.proofs.ShortLanes.{each_signed, signed_add, signed_cast, signed_shr}
use Rattle.jpeg_pixels.proofs.ColourLanes.{one, rounds, scaled_small, signed_at, signed_exact, upper_fits, upper_lanes}
use Rattle.jpeg_pixels.proofs.arch.ycbcr.scaled_lanes.Goals as goal

pub overflow_shr-upper : goal.overflow_shr-upper
overflow_shr-upper g c = shifts_fit_splat 32 _ g.row.N 16 (lit< tt)

pub overflow_cast-upper : goal.overflow_cast-upper
overflow_cast-upper g c =
    let f = c.args.factor in
    let is = ap (of_z w32) (c.from.ensures ∙ to_z-of_z w16 f c.ranges.factor) in
    let upper = upper_lanes c.args.c f (of_z w32 c.from.result) c.fits-c.0 c.fits-c.1 is c.ranges.factor in
    each_signed upper _ (λ j. subst (FitsSigned w16) (sym (to_z-of_z w32 _ (upper.fits j)))
    (upper_fits c.args.c f (of_z w32 c.from.result) c.fits-c.0 c.fits-c.1 is c.ranges.factor j))

pub overflow_shr-result : goal.overflow_shr-result
overflow_shr-result g c = shifts_fit_splat 16 _ g.row.N 1 (lit< tt)

pub returns : goal.returns
returns g c =
    let f = c.args.factor in
    let is = ap (of_z w32) (c.from.ensures ∙ to_z-of_z w16 f c.ranges.factor) in
    let bits = of_z w32 c.from.result in
    let upper = upper_lanes c.args.c f bits c.fits-c.0 c.fits-c.1 is c.ranges.factor in
    let lanes = signed_shr 1 (signed_exact (signed_add
    (signed_cast upper (upper_fits c.args.c f bits c.fits-c.0 c.fits-c.1 is c.ranges.factor)) one)
    (rounds c.args.c f bits c.fits-c.0 c.fits-c.1 is c.ranges.factor)) in
    record {
      small = λ x h. subst (λ z. unsigned_abs z ≤ 1000) (sym (signed_at lanes x h))
          (scaled_small c.args.c f bits c.fits-c.0 c.fits-c.1 is c.ranges.factor x);
      value = λ x h. signed_at lanes x h;
    }

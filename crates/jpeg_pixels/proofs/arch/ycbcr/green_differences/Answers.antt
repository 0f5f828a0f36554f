use Rattle.std.proofs.Common.{◌≤◌, ◌∙◌, ◌-ℤ◌, ap, arith, lit<, pos, refl, subst, sym, unsigned_abs}
use Rattle.std.proofs.lemmas.Int.{ints}
use Rattle.std.proofs.lemmas.Simd.{shifts_fit_splat}
use Rattle.std.specs.Int.{w16}
use Rattle.jpeg_pixels.proofs.ShortLanes.{signed_splat, signed_sub}
use Rattle.jpeg_pixels.proofs.ColourLanes.{differ_small, each_unsigned, green_at, green_less, green_small, green_lanes}
use Rattle.jpeg_pixels.proofs.ColourLanes.{signed_at, signed_exact, unsigned_signed}
use Rattle.jpeg_pixels.proofs.arch.ycbcr.green_differences.Goals as goal

pub overflow_shr-middle : goal.overflow_shr-middle
overflow_shr-middle g c = shifts_fit_splat 16 _ g.row.N 6 (lit< tt)

pub overflow_shr-sum : goal.overflow_shr-sum
overflow_shr-sum g c = shifts_fit_splat 16 _ g.row.N 7 (lit< tt)

pub overflow_shr-result : goal.overflow_shr-result
overflow_shr-result g c = shifts_fit_splat 16 _ g.row.N 7 (lit< tt)

pub overflow_cast-result : goal.overflow_cast-result
overflow_cast-result g c =
    let cb = c.args.cb in
    let cr = c.args.cr in
    each_unsigned (green_lanes {n = g.row.N} cb cr c.fits-cb.0 c.fits-cr.0 c.fits-cb.1 c.fits-cr.1) _
    (λ j. record { sfits = green_small {n = g.row.N} cb cr c.fits-cb.0 c.fits-cr.0 c.fits-cb.1 c.fits-cr.1 j })

pub returns : goal.returns
returns g c =
    let cb = c.args.cb in
    let cr = c.args.cr in
    let lanes = signed_exact (signed_sub (unsigned_signed
    (green_lanes {n = g.row.N} cb cr c.fits-cb.0 c.fits-cr.0 c.fits-cb.1 c.fits-cr.1)
    (green_small {n = g.row.N} cb cr c.fits-cb.0 c.fits-cr.0 c.fits-cb.1 c.fits-cr.1))
    (signed_splat w16 134 (pos 134) refl (omega (arith, ints))))
    (green_less {n = g.row.N} cb cr c.fits-cb.0 c.fits-cr.0 c.fits-cb.1 c.fits-cr.1) in
    record {
      small = λ x h. subst (λ z. unsigned_abs z ≤ 1000) (sym (signed_at lanes x h))
          (differ_small {n = g.row.N} cb cr c.fits-cb.0 c.fits-cr.0 c.fits-cb.1 c.fits-cr.1 x);
      value = λ x h. signed_at lanes x h
          ∙ ap (λ m. pos m -ℤ pos 134) (green_at {n = g.row.N} cb cr c.fits-cb.0 c.fits-cr.0 c.fits-cb.1 c.fits-cr.1 x);
    }

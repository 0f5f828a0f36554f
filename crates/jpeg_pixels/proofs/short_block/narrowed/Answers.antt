use Rattle.std.proofs.Common.{◌≡◌, length, rules, sym, refl, ◌∙◌, FitsSigned, subst, pos, negsuc, arith}
use Rattle.std.proofs.lemmas.Int.{ints, to_z-of_z}
use Rattle.std.specs.Int.{w16, w32}
use Rattle.jpeg_pixels.specs.Lanes.{lane}
use Rattle.jpeg_pixels.proofs.LaneSums.{lanes_fit, lanes_same, own_lanes}
use Rattle.jpeg_pixels.proofs.ShortLanes.{signed_lanes, signed_cast, signed_given, signed_splat}
use Rattle.jpeg_pixels.proofs.ShortLanes.{each_signed, clamped_lanes, kept_fits, kept_same}
use Rattle.jpeg_pixels.proofs.short_block.narrowed.Goals as goal

pub overflow_cast-result : goal.overflow_cast-result
overflow_cast-result c =
    let clamped = clamped_lanes 4294934528 32767 (negsuc 32767) (pos 32767)
    (signed_given {n = 8} c.args.row (search rules) (lanes_fit c.args.row _ c.well_formed.0.1.1))
    (signed_splat w32 4294934528 (negsuc 32767) refl (omega (arith, ints)))
    (signed_splat w32 32767 (pos 32767) refl (omega (arith, ints))) in
    each_signed clamped _ (λ j. subst (FitsSigned w16) (sym (to_z-of_z w32 _ (clamped.fits j)))
    (kept_fits (lane c.args.row j)))

pub returns : goal.returns
returns c fits =
    let long : length c.args.row ≡ 8 = search rules in
    let clamped = clamped_lanes 4294934528 32767 (negsuc 32767) (pos 32767)
    (signed_given {n = 8} c.args.row long (lanes_fit c.args.row _ c.well_formed.0.1.1))
    (signed_splat w32 4294934528 (negsuc 32767) refl (omega (arith, ints)))
    (signed_splat w32 32767 (pos 32767) refl (omega (arith, ints))) in
    signed_lanes (signed_cast clamped (λ j. kept_fits (lane c.args.row j)))
    ∙ lanes_same _ _ (λ j h. kept_same (lane c.args.row j) (fits j h)) ∙ sym (own_lanes c.args.row long)

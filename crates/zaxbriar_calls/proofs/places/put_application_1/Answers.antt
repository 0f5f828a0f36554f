use Rattle.std.proofs.Common.{arith, ◌≡◌, ◌∙◌, ap, false, sym, true}
use Rattle.jpeg_segments.specs.Application.{begins_with, exif_name, xmp_name}
use Rattle.zaxbriar_calls.specs.declared.places.Place.{Place}
use Rattle.zaxbriar_calls.proofs.FoundPlaces.{xmp-said}
use Rattle.zaxbriar_calls.proofs.places.put_application_1.Goals as goal

pub returns-then-starts_with-2 : goal.returns-then-starts_with-2
returns-then-starts_with-2 c =
    let exif : begins_with c.args.payload.now exif_name ≡ false = grind arith in
    let xmp : begins_with c.args.payload.now xmp_name ≡ true = grind arith in
    ap (λ (place : Place). record c.args.places.now { xmp = place }) c.place_before-places-then-starts_with-2.ensures
    ∙ sym (xmp-said c.args.end c.args.payload.now c.args.places.now exif xmp)

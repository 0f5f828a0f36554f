use Rattle.std.proofs.Common.{arith, ◌≡◌, ◌∙◌, ap, sym, true}
use Rattle.jpeg_segments.specs.Application.{begins_with, icc_name}
use Rattle.zaxbriar_calls.specs.declared.places.Place.{Place}
use Rattle.zaxbriar_calls.specs.Places.{with_part}
use Rattle.zaxbriar_calls.proofs.FoundPlaces.{part-said}
use Rattle.zaxbriar_calls.proofs.places.put_application_2.Goals as goal

pub returns-then-starts_with : goal.returns-then-starts_with
returns-then-starts_with c =
    let named : begins_with c.args.payload.now icc_name ≡ true = grind arith in
    c.put_part.ensures
    ∙ ap (λ (place : Place). with_part place c.args.places.now) c.place_before.ensures
    ∙ sym (part-said c.args.end c.args.payload.now c.args.places.now c.if-payload-gt14.true named)

use Rattle.std.proofs.Common.{arith, ◌∙◌, ap, refl, sym}
use Rattle.zaxbriar_calls.proofs.FoundSegments.{marked-long, refused-sized}
use Rattle.zaxbriar_calls.proofs.KeptBytes.{marker-cut, marker-long, none-cut, segment-found, segment-none, segment-refused}
use Rattle.zaxbriar_calls.proofs.KeptBytes.{marker-coded, none-coded, segment-stands}
use Rattle.zaxbriar_calls.specs.Faults.{reading_code}
use Rattle.zaxbriar_calls.proofs.calls.next_segment.Goals as goal

pub returns-in_default : goal.returns-in_default
returns-in_default c = record {
  code_is = ap reading_code (sym (segment-none c.args.jpeg.now c.in_default.ensures));
  marker = none-coded c.args.jpeg.now c.in_default.ensures;
  found = λ z. absurd (omega (arith, z));
  none = λ n. (refl, refl, refl);
  cut = λ z. none-cut c.args.jpeg.now _ c.from-begun.result c.in_default.ensures (grind arith) refl refl refl;
  whole = λ n. absurd (n refl);
  reserved = refl;
}

pub returns-in-Some-payload_after : goal.returns-in-Some-payload_after
returns-in-Some-payload_after c =
    let long = marker-long c.args.jpeg.now c.in-Some.after.now c.in-Some.marker c.in-Some.ensures in
    let whole = marked-long c.in-Some.marker c.in-Some.after.now c.in-Some-payload_after.payload.now
    c.in-Some-payload_after.rest.now c.in-Some-payload_after.ensures in
    record {
      code_is = ap reading_code (sym (segment-found c.args.jpeg.now c.in-Some.after.now
          c.in-Some-payload_after.payload.now c.in-Some-payload_after.rest.now c.in-Some.marker c.in-Some.ensures
          c.in-Some-payload_after.ensures));
      marker = marker-coded c.args.jpeg.now c.in-Some.after.now c.in-Some.marker c.in-Some.ensures;
      found = λ z. record {
        marker = c.in-Some.marker;
        payload = c.in-Some-payload_after.payload.now;
        rest = c.in-Some-payload_after.rest.now;
        reads = segment-found c.args.jpeg.now c.in-Some.after.now c.in-Some-payload_after.payload.now
            c.in-Some-payload_after.rest.now c.in-Some.marker c.in-Some.ensures c.in-Some-payload_after.ensures;
        size = refl;
        stands = segment-stands c.args.jpeg.now c.in-Some.after.now c.in-Some-payload_after.payload.now
            c.in-Some-payload_after.rest.now c.in-Some.marker c.in-Some.ensures c.in-Some-payload_after.ensures;
        offset = omega (arith, long, whole);
        end = omega (arith, long, whole);
      };
      none = λ n. absurd (n refl);
      cut = λ z. absurd (omega (arith, z));
      whole = λ n. (refl, refl);
      reserved = refl;
    }

pub payload_needs-requires : goal.payload_needs-requires
payload_needs-requires c =
    let sized = refused-sized c.in-Some.marker c.in-Some.after.now c.in_default-payload_after.ensures
    c.in-Some.after.now in
    record { cut = grind arith }

pub returns-in-Some-payload_needs : goal.returns-in-Some-payload_needs
returns-in-Some-payload_needs c =
    let sized = refused-sized c.in-Some.marker c.in-Some.after.now c.in_default-payload_after.ensures in
    record {
      code_is = ap reading_code (sym (segment-refused c.args.jpeg.now c.in-Some.after.now c.in-Some.marker _
          c.in-Some.ensures (sized c.in-Some.after.now ∙ c.in-Some-payload_needs.ensures.1)));
      marker = marker-coded c.args.jpeg.now c.in-Some.after.now c.in-Some.marker c.in-Some.ensures;
      found = λ z. absurd (omega (arith, z));
      none = λ n. (refl, refl, refl);
      cut = λ z. marker-cut c.args.jpeg.now c.in-Some.after.now c.in-Some.marker _ c.in-Some.ensures sized
          c.in-Some-payload_needs.ensures.0 refl refl;
      whole = λ n. absurd (n refl);
      reserved = refl;
    }

pub returns-in-None : goal.returns-in-None
returns-in-None c =
    let sized = refused-sized c.in-Some.marker c.in-Some.after.now c.in_default-payload_after.ensures in
    record {
      code_is = ap reading_code (sym (segment-refused c.args.jpeg.now c.in-Some.after.now c.in-Some.marker _
          c.in-Some.ensures (sized c.in-Some.after.now ∙ c.in-None.ensures)));
      marker = marker-coded c.args.jpeg.now c.in-Some.after.now c.in-Some.marker c.in-Some.ensures;
      found = λ z. absurd (omega (arith, z));
      none = λ n. (refl, refl, refl);
      cut = λ z. absurd (omega (arith, z));
      whole = λ n. (refl, refl);
      reserved = refl;
    }

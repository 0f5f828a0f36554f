use Rattle.std.proofs.Common.{◌*◌, ◌∙◌, ℕ, ap, inl, length, List, rules, subst, sym}
use Rattle.jpeg_decoder.specs.Bytes.{HaveBytes}
use Rattle.jpeg_segments.specs.declared.frame.Dimensions.{Dimensions}
use Rattle.zaxbriar_calls.proofs.Decoded.{lines-fit, part-counted, part-stored, part-there, size-is, stored-is}
use Rattle.zaxbriar_calls.specs.Boxed.{IsOwnOrSmaller, fit_samples}
use Rattle.zaxbriar_calls.specs.Given.{outcome_of}
use Rattle.zaxbriar_calls.specs.Upright.{arranged_in}
use Rattle.zaxbriar_calls.proofs.decode.write_lines.Goals as goal

pub part_lines-requires : goal.part_lines-requires
part_lines-requires c =
    let p = c.requires.picture in
    part-there p.options p.info p.precision p.orientation c.args.lines c.args.decoded.lines p.asked p.height p.bytes

pub fit_lines-requires-clause-height : goal.fit_lines-requires-clause-height
fit_lines-requires-clause-height c =
    let p = c.requires.picture in
    part-counted p.options p.info p.precision p.orientation c.args.lines c.args.decoded.lines c.in_ok-part.part p.asked
    p.height c.in_ok-part.ensures.lines

pub fit_lines-requires-clause-bytes : goal.fit_lines-requires-clause-bytes
fit_lines-requires-clause-bytes c =
    let p = c.requires.picture in
    part-stored p.options p.info p.precision p.orientation c.args.lines c.args.decoded.lines c.in_ok-part.part p.asked
    p.bytes c.in_ok-part.ensures.lines

pub fit_lines-requires-clause-stored : goal.fit_lines-requires-clause-stored
fit_lines-requires-clause-stored c =
    let p = c.requires.picture in stored-is p.options p.info p.precision p.orientation c.args.lines p.asked

pub fit_lines-requires-clause-size : goal.fit_lines-requires-clause-size
fit_lines-requires-clause-size c =
    let p = c.requires.picture in
    subst (λ (s : Dimensions). IsOwnOrSmaller c.args.lines.info s) (sym c.given_size-size.ensures)
    (size-is p.options p.info p.precision p.orientation c.args.lines p.asked)

pub put_lines-requires-clause-stored : goal.put_lines-requires-clause-stored
put_lines-requires-clause-stored c = record {
  count = c.in_ok-picture.ensures.height ∙ ap (λ (s : Dimensions). s.height) c.given_size-size.ensures;
  stored = subst (λ (s : Dimensions). HaveBytes (s.width * c.args.lines.stored) c.in_ok-picture.picture)
      c.given_size-size.ensures c.in_ok-picture.ensures.bytes;
  row = search rules;
  pixel = search rules;
  fits = search rules;
}

pub put_lines-requires-clause-room : goal.put_lines-requires-clause-room
put_lines-requires-clause-room c = record {
  width = search rules;
  height = search rules;
  line = search rules;
  wide = search rules;
  room = λ y low. lines-fit c.args.lines.stride c.args.lines.row_bytes c.args.lines.height
      (length c.args.pixels.now) y c.requires.room low;
}

pub returns : goal.returns
returns c =
    inl (
      c.outcome_of.ensures ∙ ap (λ (n : ℕ). outcome_of n c.args.decoded.fault) c.part_rows.ensures,
      c.put_lines.ensures
          ∙ ap (λ (s : List ℕ). arranged_in c.args.lines s c.args.pixels.now) (c.in_ok-picture.ensures.samples
          ∙ (λ i. fit_samples c.args.lines.info c.args.lines.precision (c.given_size-size.ensures i)
          (c.in_ok-part.ensures.samples i))),
    )

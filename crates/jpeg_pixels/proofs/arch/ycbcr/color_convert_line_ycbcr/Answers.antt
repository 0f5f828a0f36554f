use Rattle.std.proofs.Common.{◌-◌, ◌*◌, ◌/◌, ◌%◌, length, arith, ◌∙◌}
use Rattle.std.proofs.lemmas.Bool.{cases_lt}
use Rattle.jpeg_pixels.proofs.arch.ycbcr.color_convert_line_ycbcr.Goals as goal

pub loop-piece-preserved : goal.loop-piece-preserved
loop-piece-preserved c =
    let start = 64 * c.loop-piece.piece in
    let now = c.write_ycbcr_piece.ensures in
    record {
      red = λ x h. grind (arith, cases_lt x start, now.red (x - start));
      green = λ x h. grind (arith, cases_lt x start, now.green (x - start));
      blue = λ x h. grind (arith, cases_lt x start, now.blue (x - start));
      rest = λ i h. now.after i (omega arith) ∙ c.loop-piece.invariant.rest i (omega arith);
    }

pub returns : goal.returns
returns c =
    let count = length c.args.output.now / 3 - length c.args.output.now / 3 % 8 in
    let start = 64 * (count / 64) in
    let now = c.write_ycbcr_piece-2.ensures in
    record {
      red = λ x h. grind (arith, cases_lt x start, now.red (x - start));
      green = λ x h. grind (arith, cases_lt x start, now.green (x - start));
      blue = λ x h. grind (arith, cases_lt x start, now.blue (x - start));
      rest = λ i h. now.after i (omega arith) ∙ c.loop-piece.invariant.rest i (omega arith);
      count = omega arith;
    }

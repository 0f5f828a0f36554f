use Rattle.std.proofs.Common.{◌-◌, ◌*◌, ◌/◌, arith}
use Rattle.std.proofs.lemmas.Bool.{cases_lt}
use Rattle.jpeg_pixels.proofs.color_rows.write_ycck.Goals as goal

pub loop-piece-preserved : goal.loop-piece-preserved
loop-piece-preserved c =
    let start = 64 * c.loop-piece.piece in
    let now = c.write_ycck_piece.ensures in
    record {
      red = λ x h. grind (arith, cases_lt x start, now.red (x - start));
      green = λ x h. grind (arith, cases_lt x start, now.green (x - start));
      blue = λ x h. grind (arith, cases_lt x start, now.blue (x - start));
      black = λ x h. grind (arith, cases_lt x start, now.black (x - start));
    }

pub returns : goal.returns
returns c =
    let start = 64 * (c.args.width / 64) in
    let now = c.write_ycck_piece-2.ensures in
    record {
      red = λ x h. grind (arith, cases_lt x start, now.red (x - start));
      green = λ x h. grind (arith, cases_lt x start, now.green (x - start));
      blue = λ x h. grind (arith, cases_lt x start, now.blue (x - start));
      black = λ x h. grind (arith, cases_lt x start, now.black (x - start));
    }

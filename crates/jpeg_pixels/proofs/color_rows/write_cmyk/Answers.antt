use Rattle.std.proofs.Common.{◌-◌, ◌*◌, ◌/◌, arith}
use Rattle.std.proofs.lemmas.Bool.{cases_lt}
use Rattle.jpeg_pixels.proofs.color_rows.write_cmyk.Goals as goal

pub loop-piece-preserved : goal.loop-piece-preserved
loop-piece-preserved c =
    let start = 64 * c.loop-piece.piece in
    let now = c.write_cmyk_piece.ensures in
    record {
      cyan = λ x h. grind (arith, cases_lt x start, now.cyan (x - start));
      magenta = λ x h. grind (arith, cases_lt x start, now.magenta (x - start));
      yellow = λ x h. grind (arith, cases_lt x start, now.yellow (x - start));
      black = λ x h. grind (arith, cases_lt x start, now.black (x - start));
    }

pub returns : goal.returns
returns c =
    let start = 64 * (c.args.width / 64) in
    let now = c.write_cmyk_piece-2.ensures in
    record {
      cyan = λ x h. grind (arith, cases_lt x start, now.cyan (x - start));
      magenta = λ x h. grind (arith, cases_lt x start, now.magenta (x - start));
      yellow = λ x h. grind (arith, cases_lt x start, now.yellow (x - start));
      black = λ x h. grind (arith, cases_lt x start, now.black (x - start));
    }

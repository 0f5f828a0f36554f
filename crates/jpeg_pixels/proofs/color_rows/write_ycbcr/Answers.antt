use Rattle.std.proofs.Common.{ℕ, ◌-◌, ◌*◌, length, arith, refl}
use Rattle.std.proofs.lemmas.Bool.{cases_lt}
use Rattle.jpeg_pixels.proofs.PlaneRows.{tail_was}
use Rattle.jpeg_pixels.proofs.color_rows.write_ycbcr.Goals as goal

pub returns : goal.returns
returns c =
    let w = c.args.width in
    let lines = c.args.lines.now in
    let done = c.color_convert_line_ycbcr-done.result in
    let now = c.write_ycbcr_piece.ensures in
    let cb = λ (x : ℕ). tail_was w (length lines - w) lines x refl in
    let cr = λ (x : ℕ). tail_was (2 * w) (length lines - 2 * w) lines x refl in
    record {
      red = λ x h. grind (arith, cases_lt x done, now.red (x - done), cr x);
      green = λ x h. grind (arith, cases_lt x done, now.green (x - done), cb x, cr x);
      blue = λ x h. grind (arith, cases_lt x done, now.blue (x - done), cb x);
    }

use Rattle.std.proofs.Common.{◌≡◌, length, rules, lit≤}
use Rattle.jpeg_pixels.proofs.LaneSums.{halves_fit}
use Rattle.jpeg_pixels.proofs.Corners.{bits_or, bits_of_halves, all_zero, zero_all, first_bits}
use Rattle.jpeg_pixels.proofs.Corners.{last_lanes, corner_is, corner_zero}
use Rattle.jpeg_pixels.proofs.arch.is_in_corner.Goals as goal

pub returns : goal.returns
returns c =
    let coefficients = c.args.coefficients in
    let long : length coefficients ≡ 64 = search rules in
    let row = bits_of_halves coefficients in
    let upper = bits_or (bits_or (bits_or (first_bits coefficients long) (row 8 long (lit≤ tt)))
    (row 16 long (lit≤ tt))) (row 24 long (lit≤ tt)) in
    let lower = bits_or (bits_or (bits_or (row 32 long (lit≤ tt)) (row 40 long (lit≤ tt))) (row 48 long (lit≤ tt)))
    (row 56 long (lit≤ tt)) in
    let both = bits_or lower (last_lanes upper) in (
      λ full. corner_is coefficients (halves_fit coefficients _ c.well_formed.0.1.1) (all_zero _ _ both full),
      λ corner. zero_all _ _ both (corner_zero coefficients corner),
    )

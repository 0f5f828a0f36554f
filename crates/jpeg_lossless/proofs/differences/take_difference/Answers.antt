use Rattle.std.proofs.Common.{◌∙◌, ap, rules}
use Rattle.std.proofs.lemmas.Int.{to_z-of_z}
use Rattle.std.specs.Int.{cast_unsigned, w16}
use Rattle.jpeg_lossless.proofs.DifferenceLoops.{short-taken}
use Rattle.jpeg_lossless.proofs.differences.take_difference.Goals as goal

pub returns-in-Some-short-clause-difference : goal.returns-in-Some-short-clause-difference
returns-in-Some-short-clause-difference g c =
    short-taken c.args.table.now c.args.decoder.now c.take_short_difference.new.self c.args.source.now
    c.take_short_difference.new.source c.in-Some-short.difference c.cast_unsigned.result
    (c.cast_unsigned.ensures ∙ ap (cast_unsigned w16) (to_z-of_z w16 c.in-Some-short.difference (search rules)))
    (rw c.in-Some-short.is at c.in-Some.ensures.difference)

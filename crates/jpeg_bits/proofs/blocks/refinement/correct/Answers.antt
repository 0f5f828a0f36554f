use Rattle.jpeg_bits.proofs.blocks.refinement.correct.Goals as goal
use Rattle.std.proofs.Common.{arith, ◌≡◌, w16}
use Rattle.std.proofs.lemmas.Int.{to_z-of_z}
use Rattle.std.specs.Int.{cast_signed, cast_unsigned}
use Rattle.jpeg_bits.specs.Entropy.{bits_from}
use Rattle.jpeg_bits.specs.Pieces.{corrected_from, moved_within, distance_of}
use Rattle.jpeg_bits.proofs.PieceWalks.{index-moved, Takes-given, given, not_zero}

pub returns-clause-index : goal.returns-clause-index
returns-clause-index g c =
    let value = c.args.value in
    let same : cast_signed w16 (cast_unsigned w16 value) ≡ value = to_z-of_z w16 value c.ranges.value in
    let by : c.distance.result ≡ distance_of c.args.al value c.in-Some.bit
    = rw same at c.distance.ensures.distance in
    Takes-given (corrected_from c.args.al value) (bits_from 1) c.args.buffered.now c.take_number.new.self
    c.args.source.now c.take_number.new.source c.in-Some.bit (moved_within c.distance.result value)
    c.move_away.result c.move_away.new.refusal (grind (arith, index-moved, not_zero, w16, given))
    c.in-Some.ensures.bits (rw same at c.move_away.ensures.moved)

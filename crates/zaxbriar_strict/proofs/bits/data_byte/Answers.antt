use Rattle.zaxbriar_strict.proofs.Taken.{stuffed-other, stuffed-zero}
use Rattle.zaxbriar_strict.proofs.bits.data_byte.Goals as goal

pub returns-then-byte : goal.returns-then-byte
returns-then-byte c = stuffed-other c.in-Some.byte _ _ c.if-byte.true c.in-Some.ensures

pub returns : goal.returns
returns c =
    stuffed-zero c.in-Some.byte c.in-Some-eq0.field-0 _ _ _ c.in-Some.ensures c.if-byte.false c.in-Some-eq0.ensures
    c.in-Some-eq0.field-0-test

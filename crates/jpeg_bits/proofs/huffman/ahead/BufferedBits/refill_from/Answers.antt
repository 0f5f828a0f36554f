use Rattle.jpeg_bits.proofs.huffman.ahead.BufferedBits.refill_from.Goals as goal
use Rattle.std.proofs.Common.{◌≡◌, ◌≤◌, ◌∙◌, ap, arith, length, length-append, sym, Ok}
use Rattle.jpeg_bits.specs.Entropy.{Ahead, Text, Unmet, bits_of, upcoming}
use Rattle.jpeg_bits.specs.declared.huffman.ahead.Piece.TheVariants.{Byte, Data}
use Rattle.jpeg_bits.proofs.Loops.{plain-piece, Holds-byte, Holds-end, Holds-refused}

pub loop-source-preserved-in-loop-source : goal.loop-source-preserved-in-loop-source
loop-source-preserved-in-loop-source g c =
    let stream = g.S.Bytes.stream in
    let l = c.loop-source in
    let few : length l.bits ≤ 56 = omega (arith, c.loop-source-test.true, c.len.ensures.count) in
    let longer = ap length c.push.ensures ∙ length-append l.bits (bits_of c.in-Some-Some.byte) in
    record {
      met = l.invariant.met;
      within = omega (arith, longer, few);
      text = Holds-byte c.args.self.now (stream c.args.source.now) (stream l.source) (stream c.next_byte-next.new.self) l.bits c.push.new.self
          l.self-inside.beyond c.in-Some-Some.byte few c.push.ensures l.invariant.text
          (plain-piece (stream l.source) (stream c.next_byte-next.new.self) c.next_byte-next.result c.next_byte-next.new.refusal c.in-Some-Some.byte
          (grind arith) (grind arith) c.next_byte-next.ensures.answers);
    }

pub loop-source-preserved : goal.loop-source-preserved
loop-source-preserved g c =
    let stream = g.S.Bytes.stream in
    let l = c.loop-source in
    let few : length l.bits ≤ 56 = omega (arith, c.loop-source-test.true, c.len.ensures.count) in
    let longer = ap length c.push-in-Some-Byte.ensures ∙ length-append l.bits (bits_of c.in-Some-Byte.byte) in
    let is : c.in-Some-Byte.field-0 ≡ Byte c.in-Some-Byte.byte = grind arith in
    record {
      met = l.invariant.met;
      within = omega (arith, longer, few);
      text = Holds-byte c.args.self.now (stream c.args.source.now) (stream l.source) (stream c.piece_of.new.source) l.bits
          c.push-in-Some-Byte.new.self l.self-inside.beyond c.in-Some-Byte.byte few c.push-in-Some-Byte.ensures l.invariant.text
          (rw is at (c.in-Some-Byte.ensures.answers (stream l.source) c.next_byte-next.ensures.answers));
    }

pub returns-in-Some-Data-clause-fills : goal.returns-in-Some-Data-clause-fills
unfolding upcoming
returns-in-Some-Data-clause-fills g c =
    let stream = g.S.Bytes.stream in
    let l = c.loop-source in
    let is : c.in-Some-Data.field-0 ≡ Data c.in-Some-Data.end = grind arith in
    let held = Holds-end c.args.self.now (stream c.args.source.now) (stream l.source) (stream c.piece_of.new.source) l.bits
    l.self-inside.beyond c.in-Some-Data.end c.end_before.result
    (omega (arith, c.loop-source-test.true, c.len.ensures.count)) c.end_before.ensures l.invariant.text
    (rw is at (c.in-Some-Data.ensures.answers (stream l.source) c.next_byte-next.ensures.answers)) in
    (held.0, λ known. ((held.1 known).0, ap (λ (t : Text). Ok (0, t)) (sym (held.1 known).1)))

pub returns-in-None-clause-fills : goal.returns-in-None-clause-fills
returns-in-None-clause-fills g c =
    let stream = g.S.Bytes.stream in
    let b : Ahead = record { bits = c.loop-source.bits; met = Unmet c.loop-source.self-inside.beyond } in
    Holds-refused (Unit {0}) c.args.self.now b (stream c.args.source.now) (stream c.loop-source.source) (stream c.piece_of.new.source)
    c.loop-source.bits (Unmet c.loop-source.self-inside.beyond) _ c.loop-source.invariant.text
    (c.in-None.ensures.answers (stream c.loop-source.source) c.next_byte-next.ensures.answers)

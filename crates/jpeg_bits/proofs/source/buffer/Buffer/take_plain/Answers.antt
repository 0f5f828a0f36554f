use Rattle.std.proofs.Common.{◌∙◌, sym, ap, arith, take, drop, List, ℕ}
use Rattle.jpeg_bits.proofs.PlainBytes.{taken-plain}
use Rattle.jpeg_bits.proofs.source.buffer.Buffer.take_plain.Goals as goal

pub returns-clause-some : goal.returns-clause-some
returns-clause-some c =
    let s = c.self.inside in (
      c.has_no_ff.ensures c.if-not-has_no_ff.false,
      taken-plain s.bytes.items c.args.self.now s.start s.end c.args.count c.word_at-word.result
          (omega (arith, c.if-self-lt8.false)) (sym c.self.view_is) c.requires
          (c.word_at-word.ensures ∙ ap (λ (l : List ℕ). take 8 (drop s.start l)) c.deref.ensures.value),
    )

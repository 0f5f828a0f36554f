use Rattle.std.proofs.Common.{◌≡◌, ◌-◌, ◌∙◌, ◌++◌, sym, ap, arith, drop, length, List, ℕ, Ok}
use Rattle.jpeg_bits.specs.Reading.{Outcome}
use Rattle.jpeg_bits.proofs.Filled.{skip-front}
use Rattle.jpeg_bits.proofs.PlainBytes.{slice-length, slice-rest}
use Rattle.jpeg_bits.proofs.source.buffer.Buffer.pass.Goals as goal

pub returns-clause-passed : goal.returns-clause-passed
returns-clause-passed c =
    let s = c.self.inside in
    let n = c.args.count in
    let long : length c.args.self.now ≡ s.end - s.start
    = ap length (sym c.self.view_is) ∙ slice-length s.bytes.items s.start s.end c.self.invariant.1 in
    let rest-same = ap (drop n) (sym c.self.view_is)
    ∙ sym (slice-rest s.bytes.items s.start s.end n (omega (arith, c.if-self-count.false, c.self.invariant.0))) in
    λ _ rest. skip-front n c.args.self.now rest (omega (arith, long, c.if-self-count.false))
    ∙ ap {B = Outcome (Unit {0})} (λ (l : List ℕ). Ok (tt, l ++ rest)) rest-same

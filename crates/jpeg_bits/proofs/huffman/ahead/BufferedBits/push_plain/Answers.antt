use Rattle.std.proofs.Common.{◌≤◌, ◌-◌, ◌*◌, ◌/◌, ◌^◌, ◌++◌, ◌∙◌, Bool, List, ap, arith, length, subst, sym}
use Rattle.jpeg_bits.specs.Entropy.{Ahead, IsFilled, IsUnmet, IsWithin, Met, met_of}
use Rattle.jpeg_bits.proofs.BufferedBits.{unmet}
use Rattle.jpeg_bits.specs.Written.{low_bits}
use Rattle.jpeg_bits.proofs.PlainBytes.{pushed-length, pushed-text}
use Rattle.jpeg_bits.proofs.huffman.ahead.BufferedBits.push_plain.Goals as goal

pub invariant_of-self : goal.invariant_of-self
invariant_of-self g c =
    let b = ap (λ (a : Ahead). a.bits) c.self.view_is in
    let m = ap (λ (a : Ahead). a.met) c.self.view_is in
    let few : c.len.result ≤ 56 = omega (arith, c.requires.few, c.len.ensures.count, ap length b) in
    let more = pushed-length c.self.inside.bits c.push_front.new.self c.len.result _ c.len.ensures.count few
    c.push_front.ensures in
    let none = unmet c.self.inside.beyond c.self.inside.end (subst IsUnmet (sym m) c.requires.unended) in
    subst (λ (m : Met). IsWithin (length c.push_front.new.self) m) (sym none) more.1

pub returns-in-Some-clause-pushed : goal.returns-in-Some-clause-pushed
returns-in-Some-clause-pushed g c =
    let b = ap (λ (a : Ahead). a.bits) c.self.view_is in
    let m = ap (λ (a : Ahead). a.met) c.self.view_is in
    let few : c.len.result ≤ 56 = omega (arith, c.requires.few, c.len.ensures.count, ap length b) in
    let n = 8 * ((64 - c.len.result) / 8) in
    let front = low_bits n (c.in-Some.word / 2 ^ (64 - n)) in
    let beyond = c.self.inside.beyond in
    let none = unmet beyond c.self.inside.end (subst IsUnmet (sym m) c.requires.unended) in
    let new : Ahead = record { bits = c.push_front.new.self; met = met_of beyond c.self.inside.end } in
    λ _. pushed-text beyond c.args.self.now new c.args.source.now c.take_plain.new.self c.len.result
    c.in-Some.word (c.len.ensures.count ∙ ap length b) few (sym m ∙ none) none
    (c.push_front.ensures ∙ ap (λ (l : List Bool). l ++ front) b) c.in-Some.ensures.some

pub returns-in-Some-clause-full : goal.returns-in-Some-clause-full
returns-in-Some-clause-full g c =
    let b = ap (λ (a : Ahead). a.bits) c.self.view_is in
    let m = ap (λ (a : Ahead). a.met) c.self.view_is in
    let few : c.len.result ≤ 56 = omega (arith, c.requires.few, c.len.ensures.count, ap length b) in
    let more = pushed-length c.self.inside.bits c.push_front.new.self c.len.result _ c.len.ensures.count few
    c.push_front.ensures in
    let none = unmet c.self.inside.beyond c.self.inside.end (subst IsUnmet (sym m) c.requires.unended) in
    λ _. subst (λ (m : Met). IsFilled 57 c.push_front.new.self m) (sym none) more.0

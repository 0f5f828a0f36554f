use Rattle.std.proofs.Common.{◌≡◌, ◌≤◌, ◌+◌, ◌*◌, ◌∙◌, ◌∷◌, [], ℕ, replicate, refl, sym, ap, subst, arith, add-mul}
use Rattle.zaxbriar_strict.specs.Loaded.{data_of}
use Rattle.zaxbriar_strict.specs.ScanSamples.{ReadsDifferences, Share, difference_codes}
use Rattle.zaxbriar_strict.specs.declared.scan.Member.{Member}
use Rattle.zaxbriar_strict.proofs.SampleDifferences.{differences-more, no-differences}
use Rattle.zaxbriar_strict.proofs.lossless.Lines.read_part.Goals as goal

pub loop-below-init : goal.loop-below-init
loop-below-init c = record {
  kept = refl;
  read = λ placed.
      no-differences (0 * c.args.self.now.across) (difference_codes c.args.tables.now c.args.self.now.member)
      (data_of c.args.bits.now) (omega arith);
}

pub loop-beside-init : goal.loop-beside-init
loop-beside-init c = record {
  kept = c.loop-below.invariant.kept;
  read = λ placed.
      let table = difference_codes c.args.tables.now c.args.self.now.member in
      let n = c.loop-below.below * c.args.self.now.across in
      let same : n ≡ n + 0 = omega arith in
      subst (λ (n : ℕ). ReadsDifferences (replicate n table) (data_of c.args.bits.now) (data_of c.loop-below.bits)) same
      (c.loop-below.invariant.read placed);
}

pub loop-beside-preserved : goal.loop-beside-preserved
loop-beside-preserved c = record {
  kept = c.in_ok-read_sample.ensures.kept ∙ c.loop-beside.invariant.kept;
  read = λ placed.
      let i = c.loop-beside.invariant in
      let table = difference_codes c.args.tables.now c.args.self.now.member in
      let n = c.loop-below.below * c.args.self.now.across in
      let member : c.loop-beside.self.member ≡ c.args.self.now.member = ap (λ (s : Share). s.member) i.kept in
      let near : c.loop-beside.self.member.dc ≤ 3 = subst (λ (m : Member). m.dc ≤ 3) (sym member) placed in
      let next = subst (λ (m : Member). ReadsDifferences (difference_codes c.args.tables.now m ∷ [])
      (data_of c.loop-beside.bits) (data_of c.read_sample.new.bits)) member (c.in_ok-read_sample.ensures.read near) in
      let more : n + c.loop-beside.beside + 1 ≡ n + (c.loop-beside.beside + 1) = omega arith in
      subst (λ (n : ℕ). ReadsDifferences (replicate n table) (data_of c.args.bits.now) (data_of c.read_sample.new.bits))
      more (differences-more (n + c.loop-beside.beside) table (i.read placed) next);
}

pub returns-in_err-read_sample-clause-kept : goal.returns-in_err-read_sample-clause-kept
returns-in_err-read_sample-clause-kept c = c.in_err-read_sample.ensures.kept ∙ c.loop-beside.invariant.kept

pub loop-below-preserved : goal.loop-below-preserved
loop-below-preserved c = record {
  kept = c.loop-beside.invariant.kept;
  read = λ placed.
      let table = difference_codes c.args.tables.now c.args.self.now.member in
      let across = c.args.self.now.across in
      let over = c.loop-beside-test.false in
      let most = c.loop-beside.auto.beside-end in
      let same : c.loop-below.self.across ≡ across = ap (λ (s : Share). s.across) c.loop-below.invariant.kept in
      let all : c.loop-beside.beside ≡ across = omega (arith, over, most, same) in
      let n = c.loop-below.below in
      let whole : n * across + c.loop-beside.beside ≡ (n + 1) * across = omega (arith, all, add-mul n 1 across) in
      subst (λ (n : ℕ). ReadsDifferences (replicate n table) (data_of c.args.bits.now) (data_of c.loop-beside.bits))
      whole (c.loop-beside.invariant.read placed);
}

pub returns-clause-read : goal.returns-clause-read
returns-clause-read c = λ placed.
    let table = difference_codes c.args.tables.now c.args.self.now.member in
    let over = c.loop-below-test.false in
    let most = c.loop-below.auto.below-end in
    let all : c.loop-below.below ≡ c.args.self.now.down = omega (arith, over, most) in
    subst (λ (n : ℕ). ReadsDifferences (replicate (n * c.args.self.now.across) table) (data_of c.args.bits.now)
    (data_of c.loop-below.bits)) all (c.loop-below.invariant.read placed)

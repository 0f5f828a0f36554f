use Rattle.std.proofs.Common.{◌≡◌, ℕ, ℤ, List, ◌++◌, refl, sym, ◌∙◌, arith, subst, append_assoc}
use Rattle.zaxbriar_strict.specs.BandCodes.{ReadsCodes}
use Rattle.zaxbriar_strict.specs.Loaded.{data_of}
use Rattle.zaxbriar_strict.specs.Sent.{scaled_by}
use Rattle.zaxbriar_strict.specs.Tables.{codes_in}
use Rattle.zaxbriar_strict.proofs.Bands.{before-next, codes-all, codes-end, step-none, step-then}
use Rattle.zaxbriar_strict.proofs.Taken.{takes-none}
use Rattle.zaxbriar_strict.proofs.blocks.Band.read_codes.Goals as goal

pub loop-place-init : goal.loop-place-init
loop-place-init c = record {
  same = refl;
  read = λ count front tail l size e class.
      step-none (codes_in class c.args.table.now) c.args.self.now.low c.args.self.now.last c.args.start count front tail
      c.args.block.now _ size e (takes-none _);
}

pub returns-in-Some-clause-sent : goal.returns-in-Some-clause-sent
returns-in-Some-clause-sent c = λ none count front tail l size e class.
    let r = c.loop-place.invariant.read count front tail l size e class in
    let end = rw c.in-Some.is at c.in_ok-step.ensures.end in
    subst (λ (b : List ℤ). ReadsCodes (codes_in class c.args.table.now) c.args.self.now.low count c.in_ok-run.field-0 front tail b
    (data_of c.args.bits.now) (data_of c.read_run.new.bits)) (sym end.1)
    (codes-end count size r c.loop-place-test.true end.0 (end.2 class) c.in_ok-run.ensures.sent)

pub loop-place-preserved : goal.loop-place-preserved
loop-place-preserved c = record {
  same = c.loop-place.invariant.same;
  read = λ count front tail l size e class.
      let r = c.loop-place.invariant.read count front tail l size e class in
      let low = c.args.self.now.low in
      step-then r (c.in_ok-step.ensures.step c.in_default.is (front ++ scaled_by low r.numbers) tail
      (before-next low front r.numbers c.args.start c.loop-place.place l r.sized)
      (r.are ∙ sym (append_assoc front (scaled_by low r.numbers) _)) class);
}

pub returns-clause-sent : goal.returns-clause-sent
returns-clause-sent c = λ none count front tail l size e class.
    let r = c.loop-place.invariant.read count front tail l size e class in
    let test = c.loop-place-test.false in
    let run : c.loop-place.run ≡ 0 = c.loop-place.invariant.same ∙ none in
    subst (λ (k : ℕ). ReadsCodes (codes_in class c.args.table.now) c.args.self.now.low count k front tail c.loop-place.block
    (data_of c.args.bits.now) (data_of c.loop-place.bits)) (sym run) (codes-all count size r (omega (arith, test)))

pub returns-clause-one : goal.returns-clause-one
returns-clause-one c = λ none sequential. let same = c.loop-place.invariant.same in omega (arith, same, none)

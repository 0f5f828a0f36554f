use Rattle.std.proofs.Common.{◌≡◌, ℕ, ℤ, List, suc, ◌-◌, ◌++◌, refl, sym, ◌∙◌, arith, subst}
use Rattle.zaxbriar_strict.specs.BandCodes.{Refines, RefinesCodes, RefinesFront}
use Rattle.zaxbriar_strict.specs.Loaded.{data_of}
use Rattle.zaxbriar_strict.specs.Sent.{scaled_by}
use Rattle.zaxbriar_strict.specs.Tables.{codes_in}
use Rattle.zaxbriar_strict.proofs.RefinedBands.{before-place, codes-done, codes-ended, from-place}
use Rattle.zaxbriar_strict.proofs.RefinedBands.{front-empty, inner-others, left-over}
use Rattle.zaxbriar_strict.proofs.RefinedBands.{refines-start, steps-then}
use Rattle.zaxbriar_strict.proofs.Taken.{takes-none}
use Rattle.zaxbriar_strict.proofs.blocks.Band.refine_codes.Goals as goal

pub loop-place-init : goal.loop-place-init
loop-place-init c = record {
  same = refl;
  within = λ h. h;
  inner = λ h. h;
  read = λ front kept tail l size inner e class.
      let table = codes_in class c.args.table.now in
      refines-start (RefinesFront table) c.args.self.now.low c.args.self.now.first front kept tail c.args.block.now _
      (front-empty table) l
      e (takes-none _);
}

pub returns-in-Some-clause-sent : goal.returns-in-Some-clause-sent
returns-in-Some-clause-sent c = λ none front kept tail l size inner e class.
    let r = c.loop-place.invariant.read front kept tail l size inner e class in
    let end = rw c.in-Some.is at c.in_ok-step.ensures.end in
    subst (λ (b : List ℤ). Refines (RefinesCodes (codes_in class c.args.table.now) (suc c.args.self.now.last - c.loop-place.place)
    c.in_ok-run.field-0) c.args.self.now.low c.loop-place.place front kept tail b (data_of c.args.bits.now)
    (data_of c.read_run.new.bits)) (sym end.1)
    (codes-ended r c.loop-place-test.true end.0 (end.2 class) c.in_ok-run.ensures.sent)

pub returns-in-Some-clause-inner : goal.returns-in-Some-clause-inner
returns-in-Some-clause-inner c = λ h. c.loop-place.invariant.inner (c.in_ok-step.ensures.inner h)

pub loop-place-preserved : goal.loop-place-preserved
loop-place-preserved c = record {
  same = c.loop-place.invariant.same;
  within = λ h. (c.in_ok-step.ensures.on c.in_default.is).1;
  inner = λ h. c.loop-place.invariant.inner (c.in_ok-step.ensures.inner h);
  read = λ front kept tail l size inner e class.
      let r = c.loop-place.invariant.read front kept tail l size inner e class in
      let low = c.args.self.now.low in
      steps-then r (c.in_ok-step.ensures.step c.in_default.is (front ++ scaled_by low r.numbers) r.others tail
      (before-place low c.loop-place.place front r.numbers r.sized)
      (left-over (suc c.args.self.now.last) c.args.self.now.first r l size)
      (inner-others r inner) (from-place r) class);
}

pub returns-clause-sent : goal.returns-clause-sent
returns-clause-sent c = λ none front kept tail l size inner e class.
    let r = c.loop-place.invariant.read front kept tail l size inner e class in
    let test = c.loop-place-test.false in
    let run : c.loop-place.run ≡ 0 = c.loop-place.invariant.same ∙ none in
    subst (λ (k : ℕ). Refines (RefinesCodes (codes_in class c.args.table.now) (suc c.args.self.now.last - c.loop-place.place) k)
    c.args.self.now.low c.loop-place.place front kept tail c.loop-place.block (data_of c.args.bits.now)
    (data_of c.loop-place.bits))
    (sym run) (codes-done {last = c.args.self.now.last} r (takes-none _) (omega (arith, test)))

pub returns-clause-within : goal.returns-clause-within
returns-clause-within c = c.loop-place.invariant.within

pub returns-clause-inner : goal.returns-clause-inner
returns-clause-inner c = c.loop-place.invariant.inner

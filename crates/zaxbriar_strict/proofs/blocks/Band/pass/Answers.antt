use Rattle.std.proofs.Common.{◌≡◌, ℕ, ℤ, pos, ◌-◌, ◌≤◌, refl, sym, ap, ◌∙◌, arith, rules}
use Rattle.std.proofs.Common.{subst, set, suc, slice_index_or}
use Rattle.std.proofs.Common.{to_z, of_z, w16, to_z-of_z, SFits}
use Rattle.zaxbriar_strict.specs.BandCodes.{PassesZeros, Refines}
use Rattle.zaxbriar_strict.specs.Bands.{IsInner}
use Rattle.zaxbriar_strict.specs.Loaded.{data_of}
use Rattle.zaxbriar_strict.proofs.RefinedBands.{corrects-at, inner-set, none-passed, passes-old, passes-zero}
use Rattle.zaxbriar_strict.proofs.RefinedBands.{refines-start, zero-at}
use Rattle.zaxbriar_strict.proofs.Taken.{takes-none}
use Rattle.zaxbriar_strict.proofs.blocks.Band.pass.Goals as goal
use Rattle.zaxbriar_strict.proofs.blocks.Band.pass.Goals.{then-block-place-ne0+in_ok-block}
use Rattle.zaxbriar_strict.proofs.blocks.Band.pass.Goals.{else-block-place-ne0+else-left-eq0}

pub loop-place-init : goal.loop-place-init
loop-place-init c = record {
  few = omega arith;
  inner = λ h. h;
  read = λ front kept tail l size inner e.
      let none : 0 ≡ c.args.zeros - c.args.zeros = omega arith in
      subst (λ (k : ℕ). Refines (PassesZeros k) c.args.self.now.low c.args.place front kept tail c.args.block.now
      (data_of c.args.bits.now) (data_of c.args.bits.now)) none
      (refines-start (PassesZeros 0) c.args.self.now.low c.args.place front kept tail c.args.block.now _ none-passed l e
      (takes-none _));
}

pub returns-then-left-eq0-clause-sent : goal.returns-then-left-eq0-clause-sent
returns-then-left-eq0-clause-sent c = λ within front kept tail l size inner e.
    let none = c.if-left-eq0.true in
    let all : c.args.zeros - c.loop-place.left ≡ c.args.zeros = omega (arith, none) in
    subst (λ (k : ℕ). Refines (PassesZeros k) c.args.self.now.low c.loop-place.place front kept tail c.loop-place.block
    (data_of c.args.bits.now) (data_of c.loop-place.bits)) all (c.loop-place.invariant.read front kept tail l size inner e)

pub returns-then-left-eq0-clause-inner : goal.returns-then-left-eq0-clause-inner
returns-then-left-eq0-clause-inner c = c.loop-place.invariant.inner

pub loop-place-preserved : goal.loop-place-preserved
loop-place-preserved c = record {
  few = (let few = c.loop-place.invariant.few in elim c.if-block-place-ne0.branch [
    | then-block-place-ne0+in_ok-block w ↦ rw w.left-is few
    | else-block-place-ne0+else-left-eq0 w ↦ rw w.left-is (omega (arith, few))
  ]);
  inner = elim c.if-block-place-ne0.branch [
    | then-block-place-ne0+in_ok-block w ↦
        let x = slice_index_or c.loop-place.block c.loop-place.place (pos 0) in
        let fits : SFits w16 x = search rules in
        let v = w.in_ok-block.field-0 in
        let fits_v : SFits w16 v = search rules in
        rw w.block-is (λ h. c.loop-place.invariant.inner (inner-set c.loop-place.block c.loop-place.place _
        (λ i. subst IsInner (to_z-of_z fits) (w.in_ok-block.ensures.inner (subst IsInner (to_z-of_z fits_v) i))) h))
    | else-block-place-ne0+else-left-eq0 w ↦ rw w.block-is c.loop-place.invariant.inner
  ];
  read = λ front kept tail l size inner e.
      let r = c.loop-place.invariant.read front kept tail l size inner e in
      let x = slice_index_or c.loop-place.block c.loop-place.place (pos 0) in
      let zeros = c.args.zeros in
      let few = c.loop-place.invariant.few in
      let test = c.loop-place-test.true in
      let within : c.loop-place.place ≤ c.args.self.now.last = omega (arith, test) in
      elim c.if-block-place-ne0.branch [
        | then-block-place-ne0+in_ok-block w ↦
            let fits : SFits w16 x = search rules in
            let v = w.in_ok-block.field-0 in
            let fits_v : SFits w16 v = search rules in
            let same = to_z-of_z fits in
            rw (w.block-is, w.bits-is, w.left-is)
            (corrects-at (PassesZeros (zeros - c.loop-place.left)) (passes-old (zeros - c.loop-place.left))
            r l size within inner x v refl
            (λ e. w.if-block-place-ne0.true (ap (of_z w16) e))
            (λ m is some i. w.in_ok-block.ensures.sent m (same ∙ is) (λ e. some (sym same ∙ e)) (subst IsInner (sym same) i))
            (ap (λ (y : ℤ). set c.loop-place.block c.loop-place.place y) (to_z-of_z fits_v)))
        | else-block-place-ne0+else-left-eq0 w ↦
            let fits : SFits w16 x = search rules in
            let on = w.if-left-eq0.false in
            let none : x ≡ pos 0 = sym (to_z-of_z fits) ∙ ap (to_z w16) w.if-block-place-ne0.false in
            let next : suc (zeros - c.loop-place.left) ≡ zeros - (c.loop-place.left - 1) = omega (arith, on, few) in
            rw (w.block-is, w.bits-is, w.left-is, ← next)
            (zero-at (PassesZeros (suc (zeros - c.loop-place.left))) (passes-zero (zeros - c.loop-place.left))
            r l size within none)
      ];
}

pub returns-clause-inner : goal.returns-clause-inner
returns-clause-inner c = c.loop-place.invariant.inner

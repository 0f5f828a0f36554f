use Rattle.std.proofs.Common.{◌≡◌, ℕ, ℤ, pos, ◌≤◌, refl, sym, ap, ◌∙◌, arith, rules}
use Rattle.std.proofs.Common.{subst, set, suc, slice_index_or}
use Rattle.std.proofs.Common.{to_z, of_z, w16, to_z-of_z, SFits}
use Rattle.zaxbriar_strict.specs.BandCodes.{AreCorrections, Refines}
use Rattle.zaxbriar_strict.specs.Bands.{IsInner}
use Rattle.zaxbriar_strict.specs.Loaded.{data_of}
use Rattle.zaxbriar_strict.proofs.RefinedBands.{corrected-one, corrects-at, inner-set, none-corrected}
use Rattle.zaxbriar_strict.proofs.RefinedBands.{passed-zero, refines-start, zero-at}
use Rattle.zaxbriar_strict.proofs.Taken.{takes-none}
use Rattle.zaxbriar_strict.proofs.blocks.Band.correct_rest.Goals as goal
use Rattle.zaxbriar_strict.proofs.blocks.Band.correct_rest.Goals.{then-block-place-ne0+in_ok-block}
use Rattle.zaxbriar_strict.proofs.blocks.Band.correct_rest.Goals.{else-block-place-ne0}

pub loop-place-init : goal.loop-place-init
loop-place-init c = record {
  inner = λ h. h;
  read = λ front kept tail l size inner e.
      refines-start AreCorrections c.args.self.now.low c.args.place front kept tail c.args.block.now _ none-corrected l e
      (takes-none _);
}

pub loop-place-preserved : goal.loop-place-preserved
loop-place-preserved c = record {
  inner = elim c.if-block-place-ne0.branch [
    | then-block-place-ne0+in_ok-block w ↦
        let x = slice_index_or c.loop-place.block c.loop-place.place (pos 0) in
        let fits : SFits w16 x = search rules in
        let v = w.in_ok-block.field-0 in
        let fits_v : SFits w16 v = search rules in
        rw w.block-is (λ h. c.loop-place.invariant.inner (inner-set c.loop-place.block c.loop-place.place _
        (λ i. subst IsInner (to_z-of_z fits) (w.in_ok-block.ensures.inner (subst IsInner (to_z-of_z fits_v) i))) h))
    | else-block-place-ne0 w ↦ rw w.block-is c.loop-place.invariant.inner
  ];
  read = λ front kept tail l size inner e.
      let r = c.loop-place.invariant.read front kept tail l size inner e in
      let x = slice_index_or c.loop-place.block c.loop-place.place (pos 0) in
      let test = c.loop-place-test.true in
      let within : c.loop-place.place ≤ c.args.self.now.last = omega (arith, test) in
      elim c.if-block-place-ne0.branch [
        | then-block-place-ne0+in_ok-block w ↦
            let fits : SFits w16 x = search rules in
            let v = w.in_ok-block.field-0 in
            let fits_v : SFits w16 v = search rules in
            let same = to_z-of_z fits in
            rw (w.block-is, w.bits-is)
            (corrects-at AreCorrections (λ us u a b o q e. corrected-one us u a b o q e) r l size within inner x v refl
            (λ e. w.if-block-place-ne0.true (ap (of_z w16) e))
            (λ m is some i. w.in_ok-block.ensures.sent m (same ∙ is) (λ e. some (sym same ∙ e)) (subst IsInner (sym same) i))
            (ap (λ (y : ℤ). set c.loop-place.block c.loop-place.place y) (to_z-of_z fits_v)))
        | else-block-place-ne0 w ↦
            let fits : SFits w16 x = search rules in
            let none : x ≡ pos 0 = sym (to_z-of_z fits) ∙ ap (to_z w16) w.if-block-place-ne0.false in
            rw (w.block-is, w.bits-is) (zero-at AreCorrections passed-zero r l size within none)
      ];
}

pub returns-clause-sent : goal.returns-clause-sent
returns-clause-sent c = λ front kept tail l size inner e.
    let r = c.loop-place.invariant.read front kept tail l size inner e in
    let test = c.loop-place-test.false in
    let end = c.loop-place.auto.place-end in
    let at : c.loop-place.place ≡ suc c.args.self.now.last = omega (arith, test, end, size) in
    subst (λ (k : ℕ). Refines AreCorrections c.args.self.now.low k front kept tail c.loop-place.block (data_of c.args.bits.now)
    (data_of c.loop-place.bits)) at r

pub returns-clause-inner : goal.returns-clause-inner
returns-clause-inner c = c.loop-place.invariant.inner

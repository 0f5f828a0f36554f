use Rattle.std.proofs.Common.{◌≡◌, ◌≢◌, ◌≤ℤ◌, ℕ, zero, ℤ, pos, negsuc, ◌+ℤ◌, ◌-ℤ◌, ◌^◌, ◌<ℤ◌, suc}
use Rattle.std.proofs.Common.{Bool, [], ◌∷◌, refl, sym, ap, ap₂, ◌∙◌, arith, rules, subst}
use Rattle.std.proofs.Common.{to_z, of_z, w16, w32, to_z-of_z, SFits}
use Rattle.std.proofs.lemmas.Int.{ints}
use Rattle.std.proofs.Math.Nat.{one-mul}
use Rattle.std.specs.Int.Signed.{lt_z}
use Rattle.zaxbriar_strict.specs.Data.{Takes}
use Rattle.zaxbriar_strict.specs.Loaded.{data_of}
use Rattle.zaxbriar_strict.proofs.SentNumbers.{above-zero, corrects-negative, corrects-positive, corrects-same}
use Rattle.zaxbriar_strict.proofs.SentNumbers.{room-above, room-below, up-to-zero}
use Rattle.zaxbriar_strict.proofs.blocks.Band.corrected.Goals as goal

pub returns-then-not-branch-clause-sent : goal.returns-then-not-branch-clause-sent
returns-then-not-branch-clause-sent c = λ kept is some inner.
    let f : SFits w16 c.args.coefficient = c.ranges.coefficient in
    corrects-same c.args.self.now.low kept c.args.coefficient _ is some (to_z-of_z f)
    (subst (λ (b : Bool). Takes (b ∷ []) (data_of c.args.bits.now) (data_of c.take_bit.new.self)) c.if-not-branch.true
    c.in_ok-take_bit.ensures)

pub returns-then-coefficient-gt0-clause-sent : goal.returns-then-coefficient-gt0-clause-sent
returns-then-coefficient-gt0-clause-sent c = λ kept is some inner.
    let x = c.args.coefficient in
    let u = c.unit.result in
    let s = c.sum_of.result in
    let low = c.args.self.now.low in
    let fits_x : SFits w16 x = c.ranges.coefficient in
    let fits_u : SFits w32 u = search rules in
    let fits_s : SFits w16 s = search rules in
    let sum : to_z w16 (of_z w16 x) +ℤ to_z w32 (of_z w32 u) ≡ x +ℤ pos (2 ^ low) =
    ap₂ (λ (y z : ℤ). y +ℤ z) (to_z-of_z fits_x) (to_z-of_z fits_u ∙ c.unit.ensures) in
    let above : pos 0 <ℤ x = above-zero x (ap (lt_z (pos 0)) (sym (to_z-of_z fits_x)) ∙ c.if-coefficient-gt0.true) in
    let room = room-above low kept x c.args.self.now.shallow is (let h = inner.high in omega (arith, ints, h)) above in
    let room = rw (← sum) at room in
    let e = to_z-of_z fits_s ∙ c.sum_of.ensures.exact room.0 room.1 ∙ sum in
    corrects-positive low 1 kept x _ (omega arith) is above (e ∙ ap (λ (k : ℕ). x +ℤ pos k) (sym (one-mul (2 ^ low))))
    (subst (λ (b : Bool). Takes (b ∷ []) (data_of c.args.bits.now) (data_of c.take_bit.new.self)) c.if-not-branch.false
    c.in_ok-take_bit.ensures)

pub returns-else-coefficient-gt0-clause-sent : goal.returns-else-coefficient-gt0-clause-sent
returns-else-coefficient-gt0-clause-sent c = λ kept is some inner.
    let x = c.args.coefficient in
    let u = c.unit-else-coefficient-gt0.result in
    let s = c.difference_of.result in
    let low = c.args.self.now.low in
    let fits_x : SFits w16 x = c.ranges.coefficient in
    let fits_u : SFits w32 u = search rules in
    let fits_s : SFits w16 s = search rules in
    let sum : to_z w16 (of_z w16 x) -ℤ to_z w32 (of_z w32 u) ≡ x -ℤ pos (2 ^ low) =
    ap₂ (λ (y z : ℤ). y -ℤ z) (to_z-of_z fits_x) (to_z-of_z fits_u ∙ c.unit-else-coefficient-gt0.ensures) in
    let below : x ≤ℤ pos 0 = up-to-zero x (ap (lt_z (pos 0)) (sym (to_z-of_z fits_x)) ∙ c.if-coefficient-gt0.false) in
    let room = room-below low kept x c.args.self.now.shallow is inner.low below in
    let room = rw (← sum) at room in
    let e = to_z-of_z fits_s ∙ c.difference_of.ensures.exact room.0 room.1 ∙ sum in
    corrects-negative low 1 kept x _ (omega arith) is (under-zero x below some)
    (e ∙ ap (λ (k : ℕ). x -ℤ pos k) (sym (one-mul (2 ^ low))))
    (subst (λ (b : Bool). Takes (b ∷ []) (data_of c.args.bits.now) (data_of c.take_bit.new.self)) c.if-not-branch.false
    c.in_ok-take_bit.ensures)
  where
    under-zero : (x : ℤ) → x ≤ℤ pos 0 → x ≢ pos 0 → x <ℤ pos 0
    under-zero (pos zero) h n = absurd (n refl)
    under-zero (pos (suc k)) h n = absurd (omega (arith, ints, h))
    under-zero (negsuc k) h n = omega (arith, ints)

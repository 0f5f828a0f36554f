use Rattle.std.proofs.Common.{◌≡◌, ℕ, suc, ℤ, pos, ◌+ℤ◌, ◌*ℤ◌, ◌^◌, Bool, [], ◌∷◌, refl, sym, ap}
use Rattle.std.proofs.Common.{ap₂, ◌∙◌, arith, rules, subst}
use Rattle.std.proofs.Common.{slice_index_or, to_z, of_z, w16, w32, to_z-of_z, SFits}
use Rattle.std.proofs.lemmas.Int.{ints}
use Rattle.std.proofs.lemmas.List.{get_or-set_same}
use Rattle.std.proofs.Math.Nat.{one-mul, zero-mul}
use Rattle.zaxbriar_strict.specs.Data.{Takes}
use Rattle.zaxbriar_strict.specs.Loaded.{data_of}
use Rattle.zaxbriar_strict.proofs.SentNumbers.{dc-again, drop-set, room-dc}
use Rattle.zaxbriar_strict.proofs.blocks.Band.refine_dc.Goals as goal

pub returns-then-branch : goal.returns-then-branch
returns-then-branch c = record {
  sent = λ p is s f kept was table before.
      let block = c.args.block.now in
      let x = slice_index_or block 0 (pos 0) in
      let u = c.unit.result in
      let v = c.sum_of.result in
      let low = c.args.self.now.low in
      let fits_x : SFits w16 x = search rules in
      let fits_u : SFits w32 u = search rules in
      let fits_v : SFits w16 v = search rules in
      let is_low = is.low in
      let sum : to_z w16 (of_z w16 x) +ℤ to_z w32 (of_z w32 u) ≡ x +ℤ pos (2 ^ low) =
      ap₂ (λ (y z : ℤ). y +ℤ z) (to_z-of_z fits_x) (to_z-of_z fits_u ∙ c.unit.ensures) in
      let kept_low = was ∙ ap (λ (k : ℕ). kept *ℤ pos (2 ^ suc k)) (sym is_low) in
      let room = room-dc low kept x c.args.self.now.shallow kept_low (omega (arith, ints, fits_x))
      (omega (arith, ints, fits_x)) in
      let room = rw (← sum) at room in
      let at = get_or-set_same block 0 (to_z w16 (of_z w16 v)) (pos 0) (omega (arith, c.told-block)) in
      let e = at ∙ to_z-of_z fits_v ∙ c.sum_of.ensures.exact room.0 room.1 ∙ sum
      ∙ ap (λ (k : ℕ). x +ℤ pos k) (sym (one-mul (2 ^ low))) in
      dc-again p table before block _ low kept 1 is_low (omega arith) s f kept_low e (drop-set block (to_z w16 (of_z w16 v)))
      (subst (λ (b : Bool). Takes (b ∷ []) (data_of c.args.bits.now) (data_of c.take_bit.new.self)) c.if-branch.true
      c.in_ok-take_bit.ensures);
}

pub returns-else-branch : goal.returns-else-branch
returns-else-branch c = record {
  sent = λ p is s f kept was table before.
      let low = c.args.self.now.low in
      let z = zero-mul (2 ^ low) in
      let kept_low = was ∙ ap (λ (k : ℕ). kept *ℤ pos (2 ^ suc k)) (sym is.low) in
      dc-again p table before c.args.block.now c.args.block.now low kept 0 is.low (omega arith) s f kept_low
      (omega (arith, ints, z)) refl
      (subst (λ (b : Bool). Takes (b ∷ []) (data_of c.args.bits.now) (data_of c.take_bit.new.self)) c.if-branch.false
      c.in_ok-take_bit.ensures);
}

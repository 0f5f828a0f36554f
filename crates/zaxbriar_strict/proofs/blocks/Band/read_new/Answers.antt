use Rattle.std.proofs.Common.{◌≡◌, ℤ, pos, negsuc, ◌*ℤ◌, ◌^◌, refl, sym, ap₂, ◌∙◌}
use Rattle.std.proofs.Common.{rules, unsigned_abs}
use Rattle.std.proofs.Common.{to_z, of_z, w16, w32, to_z-of_z, SFits}
use Rattle.jpeg_bits.specs.Written.{bit}
use Rattle.jpeg_meaning.specs.WrittenData.{sign_bit}
use Rattle.zaxbriar_strict.specs.BandCodes.{ReadsNew}
use Rattle.zaxbriar_strict.specs.Loaded.{data_of}
use Rattle.zaxbriar_strict.proofs.SentNumbers.{new-read, unit-bounded}
use Rattle.zaxbriar_strict.proofs.Taken.{takes-none}
use Rattle.zaxbriar_strict.proofs.blocks.Band.read_new.Goals as goal
use Rattle.zaxbriar_strict.proofs.blocks.Band.read_new.Goals.{After-product_of, then-branch, else-branch}

pub returns-then-not-is_new-clause-none : goal.returns-then-not-is_new-clause-none
returns-then-not-is_new-clause-none c = λ e. (refl, takes-none _)

-- the value of this sign
of-sign : (c : After-product_of) (s : ℤ) → to_z w32 c.if-branch.sign-bits ≡ s → unsigned_abs s ≡ 1
    → bit (sign_bit s) ≡ c.in_ok-take_bit.field-0
    → ReadsNew c.args.self.now.low (to_z w16 (of_z w16 c.product_of.result)) (data_of c.args.bits.now)
    (data_of c.take_bit.new.self)
of-sign c s e one is =
    let u = c.unit.result in
    let v = c.product_of.result in
    let low = c.args.self.now.low in
    let fits_u : SFits w32 u = search rules in
    let fits_v : SFits w16 v = search rules in
    let same : to_z w32 c.if-branch.sign-bits *ℤ to_z w32 (of_z w32 u) ≡ s *ℤ pos (2 ^ low) =
    ap₂ (λ (x y : ℤ). x *ℤ y) e (to_z-of_z fits_u ∙ c.unit.ensures) in
    let within = rw (← same) at (unit-bounded low s c.args.self.now.shallow one) in
    new-read low s _ c.in_ok-take_bit.field-0 one is
    (to_z-of_z fits_v ∙ c.product_of.ensures.exact within.0 within.1 ∙ same) c.in_ok-take_bit.ensures

pub returns-clause-new : goal.returns-clause-new
returns-clause-new c = λ new. elim c.if-branch.branch [
  | then-branch w ↦ of-sign c (pos 1) w.sign-is refl (sym w.if-branch.true)
  | else-branch w ↦ of-sign c (negsuc 0) w.sign-is refl (sym w.if-branch.false)
]

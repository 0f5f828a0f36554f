use Rattle.std.proofs.Common.{◌≡◌, ℕ, ℤ, pos, ◌+ℤ◌, ◌-ℤ◌, ◌*ℤ◌, ◌^◌, sym, ap, ap₂, ◌∙◌, arith, rules, subst}
use Rattle.std.proofs.Common.{set, to_z, of_z}
use Rattle.std.proofs.Common.{w16, w32, to_z-of_z, SFits}
use Rattle.std.proofs.lemmas.Int.{ints}
use Rattle.std.proofs.lemmas.List.{get_or-set_same}
use Rattle.jpeg_bits.specs.BlockView.{dc_in}
use Rattle.jpeg_meaning.specs.WrittenData.{WritesDifference}
use Rattle.zaxbriar_strict.specs.Bands.{IsInner}
use Rattle.zaxbriar_strict.specs.Data.{Reads}
use Rattle.zaxbriar_strict.specs.Loaded.{data_of}
use Rattle.zaxbriar_strict.specs.Tables.{codes_in}
use Rattle.zaxbriar_strict.proofs.SentNumbers.{dc-first-read, drop-set, inner-number}
use Rattle.zaxbriar_strict.proofs.blocks.Band.read_difference.Goals as goal
use Rattle.zaxbriar_strict.proofs.blocks.Band.read_difference.Goals.{After-product_of}

-- the prediction and the coefficient, where no number is cut
record AreSent (c : After-product_of) : Type 0 where
  next : to_z w16 (of_z w16 c.sum_of.result) ≡ c.args.before.now +ℤ c.in_ok-difference.difference
  dc : dc_in (set c.args.block.now 0 (to_z w16 (of_z w16 c.product_of.result)))
      ≡ to_z w16 (of_z w16 c.sum_of.result) *ℤ pos (2 ^ c.args.self.now.low)

are-sent : (c : After-product_of) → IsInner (dc_in (set c.args.block.now 0 (to_z w16 (of_z w16 c.product_of.result)))) → AreSent c
are-sent c inner =
    let block = c.args.block.now in
    let before = c.args.before.now in
    let p = c.product_of.result in
    let s = c.sum_of.result in
    let d = c.in_ok-difference.difference in
    let u = c.unit.result in
    let g = c.from.result in
    let low = c.args.self.now.low in
    let fits : SFits w16 p = search rules in
    let fits_s : SFits w16 s = search rules in
    let fits_before : SFits w16 before = search rules in
    let fits_d : SFits w32 d = search rules in
    let fits_u : SFits w32 u = search rules in
    let fits_g : SFits w32 g = search rules in
    let at : dc_in (set block 0 (to_z w16 (of_z w16 p))) ≡ p =
    get_or-set_same block 0 (to_z w16 (of_z w16 p)) (pos 0) (omega (arith, c.told-block)) ∙ to_z-of_z fits in
    let inner_p : IsInner p = subst IsInner at inner in
    let from : g ≡ s = c.from.ensures ∙ ap (λ (x : ℤ). to_z w16 (of_z w16 x)) (to_z-of_z fits_s) ∙ to_z-of_z fits_s in
    let q : p ≡ s *ℤ pos (2 ^ low) =
    c.product_of.ensures.inner inner_p ∙ ap₂ (λ (x y : ℤ). x *ℤ y) (to_z-of_z fits_g ∙ from)
    (to_z-of_z fits_u ∙ c.unit.ensures) in
    let inner_s : IsInner s = inner-number low s (subst IsInner q inner_p) in
    let sum : s ≡ before +ℤ d =
    c.sum_of.ensures.inner inner_s ∙ ap₂ (λ (x y : ℤ). x +ℤ y) (to_z-of_z fits_before) (to_z-of_z fits_d) in
    record {
      next = to_z-of_z fits_s ∙ sum;
      dc = at ∙ q ∙ ap (λ (x : ℤ). x *ℤ pos (2 ^ low)) (sym (to_z-of_z fits_s));
    }

-- the same of numbers with all their bits
whole-dc : (c : After-product_of) → c.args.self.now.low ≡ 0
    → IsInner (dc_in (set c.args.block.now 0 (to_z w16 (of_z w16 c.product_of.result))))
    → to_z w16 (of_z w16 c.sum_of.result) ≡ dc_in (set c.args.block.now 0 (to_z w16 (of_z w16 c.product_of.result)))
whole-dc c low inner =
    let s = are-sent c inner in
    let e = s.dc ∙ ap (λ (k : ℕ). to_z w16 (of_z w16 c.sum_of.result) *ℤ pos (2 ^ k)) low in
    omega (arith, ints, e)

pub returns-clause-written : goal.returns-clause-written
returns-clause-written c = λ low inner class.
    let d = c.in_ok-difference.difference in
    let next = (are-sent c inner).next in
    let dc = whole-dc c low inner in
    let is : d ≡ dc_in (set c.args.block.now 0 (to_z w16 (of_z w16 c.product_of.result))) -ℤ c.args.before.now =
    omega (arith, ints, next, dc) in
    subst (λ (z : ℤ). Reads (WritesDifference (codes_in class c.args.table.now) z) (data_of c.args.bits.now)
    (data_of c.difference.new.bits)) is (c.in_ok-difference.ensures class)

pub returns-clause-next : goal.returns-clause-next
returns-clause-next c = λ low inner. whole-dc c low inner

pub returns-clause-sent : goal.returns-clause-sent
returns-clause-sent c = λ p is s f inner class.
    let r = are-sent c inner in
    dc-first-read p (codes_in class c.args.table.now) c.args.before.now _ c.in_ok-difference.difference c.args.block.now _
    c.args.self.now.low is.low s f r.next r.dc (drop-set c.args.block.now _) (c.in_ok-difference.ensures class)

pub returns-clause-others : goal.returns-clause-others
returns-clause-others c = drop-set c.args.block.now _

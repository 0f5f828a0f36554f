use Rattle.std.proofs.Common.{◌≡◌, ℕ, ℤ, pos, List, suc, ◌+◌, ◌-◌, ◌*◌, ◌*ℤ◌, ◌^◌, ◌<◌, ◌≤◌, ◌++◌}
use Rattle.std.proofs.Common.{ap₂, ◌∙◌, arith, rules, subst, set, to_z, of_z}
use Rattle.std.proofs.Common.{w16, w32, to_z-of_z, SFits}
use Rattle.jpeg_bits.specs.Written.{IsCoded}
use Rattle.jpeg_meaning.specs.WrittenData.{no_numbers}
use Rattle.zaxbriar_strict.specs.Data.{Reads}
use Rattle.zaxbriar_strict.specs.Loaded.{data_of}
use Rattle.zaxbriar_strict.specs.Tables.{codes_in}
use Rattle.zaxbriar_strict.proofs.Bands.{bounded, sixteen-step, step-value, value-fits}
use Rattle.zaxbriar_strict.proofs.blocks.Band.read_step.Goals as goal
use Rattle.zaxbriar_strict.proofs.blocks.Band.read_step.Goals.{else-category-eq0-via-then-category-eq0+else-zeros-lt15}
use Rattle.zaxbriar_strict.proofs.blocks.Band.read_step.Goals.{else-category-eq0-via-else-category-eq0}

pub returns-then-category-eq0-2-clause-step : goal.returns-then-category-eq0-2-clause-step
returns-then-category-eq0-2-clause-step c = λ none front tail l e class.
    let zeros = c.from-zeros.result in
    let symbol = c.in_ok-symbol.symbol in
    let small : symbol < 256 = search rules in
    let z = c.from-zeros.ensures in
    let k = c.from-category.ensures in
    let kind = c.if-category-eq0-2.true in
    let least : 15 ≤ zeros = elim c.else-category-eq0.branch [
      | else-category-eq0-via-then-category-eq0+else-zeros-lt15 w ↦ omega (arith, w.if-zeros-lt15.false)
      | else-category-eq0-via-else-category-eq0 w ↦ absurd (w.if-category-eq0.false kind)
    ] in
    sixteen-step (codes_in class c.args.table.now) c.args.self.now.low c.args.self.now.last c.args.place zeros symbol front
    tail c.args.block.now (omega (arith, small, z, least)) (omega (arith, small, z, k, kind, least)) l c.if-last-self.false e
    (c.in_ok-symbol.ensures class)

pub returns-clause-step : goal.returns-clause-step
returns-clause-step c = λ none front tail l e class.
    let zeros = c.from-zeros.result in
    let category = c.from-category.result in
    let symbol = c.in_ok-symbol.symbol in
    let low = c.args.self.now.low in
    let last = c.args.self.now.last in
    let place = c.args.place in
    let small : symbol < 256 = search rules in
    let z = c.from-zeros.ensures in
    let k = c.from-category.ensures in
    let kind = c.if-category-eq0-2.false in
    let most = c.if-category-self.false in
    let categories = c.args.self.now.categories in
    let v = c.in_ok-value.value in
    let p = c.product_of.result in
    let u = c.unit.result in
    let fits_v : SFits w32 v = search rules in
    let fits_u : SFits w32 u = search rules in
    let fits_p : SFits w16 p = search rules in
    let few : category + low ≤ 14 = omega (arith, most, categories) in
    let inner = bounded (v *ℤ pos (2 ^ low)) (value-fits v category low c.in_ok-value.ensures.category few) in
    let same : to_z w32 (of_z w32 v) *ℤ to_z w32 (of_z w32 u) ≡ v *ℤ pos (2 ^ low) =
    ap₂ (λ (x y : ℤ). x *ℤ y) (to_z-of_z fits_v) (to_z-of_z fits_u ∙ c.unit.ensures) in
    let inner = rw (← same) at inner in
    let is : to_z w16 (of_z w16 p) ≡ v *ℤ pos (2 ^ low) =
    to_z-of_z fits_p ∙ c.product_of.ensures.exact inner.0 inner.1 ∙ same in
    let code : symbol ≡ 16 * zeros + category = omega (arith, z, k) in
    let block : set c.args.block.now (place + zeros) (to_z w16 (of_z w16 p))
    ≡ set (front ++ (no_numbers (suc last - place) ++ tail)) (place + zeros) (v *ℤ pos (2 ^ low)) =
    ap₂ (λ (b : List ℤ) (x : ℤ). set b (place + zeros) x) e is in
    step-value (codes_in class c.args.table.now) low last place zeros category front tail _ v l c.if-last-self.false
    (omega (arith, small, z)) (omega (arith, kind)) c.in_ok-value.ensures.category block
    (subst (λ (n : ℕ). Reads (IsCoded (codes_in class c.args.table.now) n) (data_of c.args.bits.now) (data_of c.symbol.new.self))
    code (c.in_ok-symbol.ensures class))
    c.in_ok-value.ensures.bits

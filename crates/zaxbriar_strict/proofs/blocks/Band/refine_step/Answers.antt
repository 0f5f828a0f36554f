use Rattle.std.proofs.Common.{◌≡◌, ◌≢◌, ℕ, ℤ, ◌+◌, ◌*◌, ◌%◌, ◌<◌, ◌≤◌, inl, inr}
use Rattle.std.proofs.Common.{sym, ap, arith, rules, subst, set}
use Rattle.std.proofs.Common.{w16, to_z-of_z, SFits, eq-eqb, ne_eqb}
use Rattle.std.proofs.lemmas.Int.{ints}
use Rattle.jpeg_bits.specs.Written.{IsCoded}
use Rattle.zaxbriar_strict.specs.Bands.{IsInner}
use Rattle.zaxbriar_strict.specs.Data.{Reads}
use Rattle.zaxbriar_strict.specs.Loaded.{data_of}
use Rattle.zaxbriar_strict.specs.Tables.{codes_in}
use Rattle.zaxbriar_strict.proofs.RefinedBands.{inner-set, next-at, step-found, step-passed}
use Rattle.zaxbriar_strict.proofs.blocks.Band.refine_step.Goals as goal

one : (k : ℕ) → k ≤ 1 → k ≢ 0 → k ≡ 1
one k few some = omega (arith, some)

pub returns-clause-step : goal.returns-clause-step
returns-clause-step c = λ none front kept tail l size inner e class.
    let at = c.in_ok-zero.zero in
    let within = c.if-zero-self.false in
    let symbol = c.in_ok-symbol.symbol in
    let many = c.from-zeros.result in
    let value = c.in_ok-value.value in
    let small : symbol < 256 = search rules in
    let fits : SFits w16 value = search rules in
    let z = c.from-zeros.ensures in
    let most = c.if-category-gt1.false in
    let table = codes_in class c.args.table.now in
    let r = c.in_ok-zero.ensures.sent within front kept tail l size inner e in
    let zero = (c.in_ok-zero.ensures.zero within).1 in
    let n = next-at r l size within in
    let put = ap (λ (x : ℤ). set c.pass.new.block at x) (to_z-of_z fits) in
    elim c.else-category-eq0.either [
      | inl h ↦
          let kind = h.0 in
          let least = h.1 in
          let all : many ≡ 15 = omega (arith, small, z, least) in
          let code : symbol ≡ 16 * 15 + 0 = omega (arith, small, z, kind, least) in
          let none = c.in_ok-value.ensures.none (ne_eqb (symbol % 16) 1 (λ e. omega (arith, kind, e))) in
          step-passed value all none.0 (subst (λ (k : ℕ). Reads (IsCoded table k) (data_of c.args.bits.now)
          (data_of c.symbol.new.self)) code (c.in_ok-symbol.ensures class)) none.1 r n zero put
      | inr h ↦
          let kind : symbol % 16 ≡ 1 = one (symbol % 16) most h in
          let code : symbol ≡ 16 * many + 1 = omega (arith, small, z, kind) in
          step-found value (omega (arith, small, z)) (subst (λ (k : ℕ). Reads (IsCoded table k) (data_of c.args.bits.now)
          (data_of c.symbol.new.self)) code (c.in_ok-symbol.ensures class))
          (c.in_ok-value.ensures.new (eq-eqb (symbol % 16) 1 kind)) r n zero put
    ]

pub returns-clause-inner : goal.returns-clause-inner
returns-clause-inner c = λ all.
    let z = (c.in_ok-zero.ensures.zero c.if-zero-self.false).1 in
    c.in_ok-zero.ensures.inner (inner-set c.pass.new.block c.in_ok-zero.zero _
    (λ i. subst IsInner (sym z) (record { low = omega (arith, ints); high = omega (arith, ints) })) all)

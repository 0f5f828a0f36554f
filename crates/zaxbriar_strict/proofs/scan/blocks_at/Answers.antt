use Rattle.std.proofs.Common.{◌≡◌, ℕ, ◌*◌, ◌<◌, ◌≤◌, List, length, get_or, min, sym, ap, ap₂, ◌∙◌, subst, arith}
use Rattle.zaxbriar_strict.specs.declared.frame.Component.{Component}
use Rattle.zaxbriar_strict.proofs.Members.{blocks-are, no-blocks-are}
use Rattle.zaxbriar_strict.proofs.scan.blocks_at.Goals as goal

pub returns-in-Some : goal.returns-in-Some
returns-in-Some c =
    let i = c.args.index in
    let one = c.in-Some.component.now in
    let found = c.in-Some.ensures.lookup in
    let value = c.deref.ensures.value in
    let blocks = blocks-are c.args.frame.now i one (subst (λ (l : List Component). i < length l) value found.3.0)
    (subst (λ (l : List Component). one ≡ get_or l i one) value found.1) in
    c.saturating_mul.ensures
    ∙ ap₂ (λ (x y : ℕ). min (x * y) 4294967295) c.from.ensures c.from-in-Some.ensures
    ∙ ap (λ (x : ℕ). min x 4294967295) (sym blocks)

pub returns-in-None : goal.returns-in-None
returns-in-None c =
    let i = c.args.index in
    let above = subst (λ (l : List Component). length l ≤ i) c.deref.ensures.value c.in-None.ensures.lookup.3 in
    let blocks = no-blocks-are c.args.frame.now i above in
    omega (arith, blocks)

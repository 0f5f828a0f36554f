use Rattle.std.proofs.Common.{◌≡◌, ◌<◌, ◌≤◌, length, take, nat_le, true, refl, sym, ◌∙◌, subst, arith, rules}
use Rattle.std.specs.Prelude.{◌||◌}
use Rattle.std.proofs.lemmas.List.{take_more_set}
use Rattle.std.proofs.lemmas.List.{length-take-le}
use Rattle.zaxbriar_strict.specs.Members.{AreMembers}
use Rattle.zaxbriar_strict.proofs.Members.{all-members, one-member}
use Rattle.zaxbriar_strict.proofs.scan.take_members.Goals as goal

pub loop-place-preserved : goal.loop-place-preserved
loop-place-preserved c =
    let items = c.loop-place.members in
    let i = c.loop-place.place in
    let one = c.in_ok-member.member in
    let sized = c.loop-place.invariant.sized in
    let lt : i < length items =
    omega (arith, sized, c.loop-place-test.true, c.from-place-end.ensures, c.if-count-gt4.false) in
    record {
      sized = search rules;
      taken = one-member c.args.frame.now c.loop-place.least _ c.loop-place.total c.blocks_at.result
          c.saturating_add-total.result (take i items) _ one (take_more_set items i one lt)
          c.loop-place.invariant.taken c.in_ok-member.ensures c.if-member-least.false refl c.blocks_at.ensures
          c.saturating_add-total.ensures;
    }

pub returns-clause-members : goal.returns-clause-members
returns-clause-members c =
    let items = c.loop-place.members in
    let i = c.loop-place.place in
    let sized = c.loop-place.invariant.sized in
    let end : i ≡ c.args.count = omega (arith, c.loop-place-test.false, c.from-place-end.ensures) in
    let few : c.args.count ≤ 4 = omega (arith, c.if-count-gt4.false) in
    let fits : (nat_le c.args.count 1 || nat_le c.loop-place.total 10) ≡ true =
    sym c.is_mcu.ensures ∙ c.if-not-is_mcu.false in
    subst (λ k. AreMembers c.args.frame.now (take k items)) end
    (all-members c.args.frame.now c.args.count c.loop-place.least c.loop-place.total (take i items)
    c.loop-place.invariant.taken (length-take-le i items (omega (arith, sized, end, few)) ∙ end) fits)

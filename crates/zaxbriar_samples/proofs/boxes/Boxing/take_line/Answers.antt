use Rattle.std.proofs.Common.{◌≡◌, ◌∙◌, ◌+◌, ◌<◌, ◌≤◌, ℕ, List, ap, arith, get_or, length, refl, rules, subst, sym}
use Rattle.std.proofs.lemmas.List.{with_items_is}
use Rattle.std.specs.Vec.{with_items}
use Rattle.zaxbriar_samples.proofs.Boxings.{AddsLine, adds-line, has-line, has-more, line-long, zeros-of}
use Rattle.zaxbriar_samples.proofs.boxes.Boxing.take_line.Goals as goal

pub returns-then-self-lines_in-clause-taken : goal.returns-then-self-lines_in-clause-taken
returns-then-self-lines_in-clause-taken c pixels info precision size n low is h =
    let old = c.args.self.now in
    let slice : c.as_mut_slice.result.now ≡ old.sums.items = c.as_mut_slice.ensures.value in
    let long : length c.add_line.new.sums ≡ length c.as_mut_slice.result.now = search rules in
    let kept : (with_items old.sums c.add_line.new.sums).items ≡ c.add_line.new.sums =
    with_items_is old.sums c.add_line.new.sums
    (long ∙ ap (λ (l : List ℕ). length l) slice ∙ sym old.sums.ok.0) in
    let adds : AddsLine old.reduction.precision old.sums.items (with_items old.sums c.add_line.new.sums).items c.args.line.now
    = adds-line old.reduction.precision old.sums.items c.as_mut_slice.result.now c.add_line.new.sums
    (with_items old.sums c.add_line.new.sums).items c.args.line.now slice kept long c.add_line.ensures
    (line-long pixels info precision size n c.args.line.now old is h old.sized)
    (λ k. let fits : get_or c.args.line.now k 0 < 256 = omega (arith, c.type_inv.line k) in fits) in
    has-more pixels info precision size n c.args.line.now old _ is h c.if-self.false old.sized adds
    (subst (λ (k : ℕ). k ≤ 65535) c.lines_in.ensures (omega (arith, c.lines_in.type_inv)))
    (refl, refl, refl, refl) c.saturating_add-self.ensures
    (subst (λ (k : ℕ). c.saturating_add-self.result < k) c.lines_in.ensures c.if-self-lines_in.true)

pub returns-clause-taken : goal.returns-clause-taken
returns-clause-taken c pixels info precision size n low is h =
    let old = c.args.self.now in
    let slice : c.as_mut_slice.result.now ≡ old.sums.items = c.as_mut_slice.ensures.value in
    let long : length c.add_line.new.sums ≡ length c.as_mut_slice.result.now = search rules in
    let kept : (with_items old.sums c.add_line.new.sums).items ≡ c.add_line.new.sums =
    with_items_is old.sums c.add_line.new.sums
    (long ∙ ap (λ (l : List ℕ). length l) slice ∙ sym old.sums.ok.0) in
    let there : c.as_slice.result.now ≡ c.add_line.new.sums = c.as_slice.ensures.value ∙ kept in
    let adds : AddsLine old.reduction.precision old.sums.items c.as_slice.result.now c.args.line.now
    = adds-line old.reduction.precision old.sums.items c.as_mut_slice.result.now c.add_line.new.sums
    c.as_slice.result.now c.args.line.now slice there long c.add_line.ensures
    (line-long pixels info precision size n c.args.line.now old is h old.sized)
    (λ k. let fits : get_or c.args.line.now k 0 < 256 = omega (arith, c.type_inv.line k) in fits) in
    let room = c.fill.ensures.len ∙ ap (λ (l : List ℕ). length l) (c.as_mut_slice-2.ensures.value ∙ kept) ∙ long
    ∙ ap (λ (l : List ℕ). length l) slice ∙ sym old.sums.ok.0 in
    let cleared : (with_items (with_items old.sums c.add_line.new.sums) c.fill.new.self).items ≡ c.fill.new.self =
    with_items_is (with_items old.sums c.add_line.new.sums) c.fill.new.self room in
    has-line pixels info precision size n c.args.line.now c.as_slice.result.now old _ is h c.if-self.false old.sized adds
    (subst (λ (k : ℕ). k ≤ 65535) c.lines_in.ensures (omega (arith, c.lines_in.type_inv)))
    (subst (λ (k : ℕ). k ≤ old.lines + 1) c.lines_in.ensures
    (omega (arith, c.saturating_add-self.ensures, c.if-self-lines_in.false)))
    c.in_ok-push_line.ensures (refl, refl, refl, refl)
    (zeros-of (length c.as_mut_slice-2.result.now) _ (cleared ∙ c.fill.ensures.after (λ y e. cc)))

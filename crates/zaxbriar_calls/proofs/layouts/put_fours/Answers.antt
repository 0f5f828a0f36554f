use Rattle.std.proofs.Common.{◌≡◌, ◌∙◌, ◌-◌, ◌*◌, ◌/◌, ◌++◌, ap, drop, refl, subst, arith}
use Rattle.std.proofs.lemmas.List.{take_rest}
use Rattle.zaxbriar_calls.specs.Layouts.{pixels_of}
use Rattle.zaxbriar_calls.proofs.Laid.{fours-end, fours-put, rgb_pixels}
use Rattle.zaxbriar_calls.proofs.layouts.put_fours.Goals as goal

pub loop-k-init : goal.loop-k-init
unfolding pixels_of
loop-k-init c = refl

pub loop-k-preserved : goal.loop-k-preserved
loop-k-preserved c =
    let row = c.args.row.now in
    let four = c.four_pixels.ensures ∙ ap (rgb_pixels c.args.layout 4) (take_rest row (12 * c.loop-k.k)) in
    fours-put c.args.layout c.loop-k.k row c.args.line.now c.loop-k.line c.four_pixels.result c.requires.four four
    c.loop-k.invariant (grind arith)

pub returns : goal.returns
returns c =
    let row = c.args.row.now in
    let fours = c.saturating_sub-fours.result / 4 in
    let left = c.args.width - 4 * fours in
    let at : c.loop-k.k ≡ fours = grind arith in
    let line = subst (λ k. c.loop-k.line ≡ rgb_pixels c.args.layout (4 * k) row ++ drop (16 * k) c.args.line.now) at
    c.loop-k.invariant in
    let rest = c.put_pixels.ensures ∙ ap (rgb_pixels c.args.layout left) (take_rest row (12 * fours)) in
    fours-end c.args.layout fours left _ c.args.width row c.args.line.now c.loop-k.line c.put_pixels.new.line
    c.requires.four rest line (grind arith) (grind arith) (grind arith)

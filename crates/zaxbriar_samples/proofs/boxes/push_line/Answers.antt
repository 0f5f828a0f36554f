use Rattle.std.proofs.Common.{◌≡◌, ◌∙◌, ◌++◌, ◌-◌, ℕ, ap, rules, sym}
use Rattle.zaxbriar_samples.specs.Boxes.{box_line, box_pixel, edge, lines_in, texts_below}
use Rattle.zaxbriar_samples.proofs.BoxSums.{are-there, edge-first, joined-none, pixel-joined}
use Rattle.zaxbriar_samples.proofs.boxes.push_line.Goals as goal

pub loop-x-init : goal.loop-x-init
loop-x-init c = (
  sym (edge-first c.args.reduction.width c.args.reduction.to_width),
  λ pixels are. joined-none c.args.bytes.now.items (box_pixel pixels c.args.reduction c.args.y),
)

pub loop-x-preserved : goal.loop-x-preserved
loop-x-preserved c = (
  c.edge-right.ensures.edge,
  λ pixels are. pixel-joined pixels c.args.bytes.now.items c.loop-x.bytes.items c.push_pixel.new.bytes.items
      c.args.reduction c.loop-x.x c.args.y c.loop-x.left c.edge-top.result c.saturating_sub.result
      c.lines_in-height.result c.loop-x.invariant.0 c.edge-top.ensures.edge
      (c.saturating_sub.ensures ∙ ap (λ (n : ℕ). n - c.loop-x.left) c.edge-right.ensures.edge)
      c.lines_in-height.ensures (c.loop-x.invariant.1 pixels are)
      (c.in_ok-push_pixel.ensures pixels
      (are-there pixels c.args.reduction (edge c.args.y c.args.reduction.height c.args.reduction.to_height)
      (lines_in c.args.reduction c.args.y) c.edge-top.result c.lines_in-height.result c.args.sums.now
      c.edge-top.ensures.edge c.lines_in-height.ensures are)),
)

pub returns : goal.returns
unfolding box_line
returns c pixels are =
    let all : c.loop-x.x ≡ c.args.reduction.to_width = search rules in
    c.loop-x.invariant.1 pixels are
    ∙ ap (λ (n : ℕ). c.args.bytes.now.items ++ texts_below n (box_pixel pixels c.args.reduction c.args.y)) all

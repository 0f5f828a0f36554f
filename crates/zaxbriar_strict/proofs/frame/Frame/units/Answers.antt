use Rattle.std.proofs.Common.{ℕ, ap, ◌∙◌}
use Rattle.jpeg_segments.specs.Frame.{ceiling}
use Rattle.zaxbriar_strict.proofs.FrameComponents.{eights, most-across, most-down, ones, whole-high, whole-wide}
use Rattle.zaxbriar_strict.proofs.frame.Frame.units.Goals as goal

pub returns-clause-as_blocks : goal.returns-clause-as_blocks
returns-clause-as_blocks c = λ eight made.
    let f = c.args.self.now in
    let side = c.args.side in
    let w = eights f.most_across side c.saturating_mul.result eight (most-across f made) c.saturating_mul.ensures in
    let h = eights f.most_down side c.saturating_mul-2.result eight (most-down f made) c.saturating_mul-2.ensures in (
      c.parts_of.ensures w.0 ∙ ap (λ (n : ℕ). ceiling f.width n) w.1 ∙ whole-wide f made,
      c.parts_of-2.ensures h.0 ∙ ap (λ (n : ℕ). ceiling f.height n) h.1 ∙ whole-high f made,
    )

pub returns-clause-as_samples : goal.returns-clause-as_samples
returns-clause-as_samples c = λ one made.
    let f = c.args.self.now in
    let side = c.args.side in
    let w = ones f.most_across side c.saturating_mul.result one (most-across f made) c.saturating_mul.ensures in
    let h = ones f.most_down side c.saturating_mul-2.result one (most-down f made) c.saturating_mul-2.ensures in (
      c.parts_of.ensures w.0 ∙ ap (λ (n : ℕ). ceiling f.width n) w.1,
      c.parts_of-2.ensures h.0 ∙ ap (λ (n : ℕ). ceiling f.height n) h.1,
    )

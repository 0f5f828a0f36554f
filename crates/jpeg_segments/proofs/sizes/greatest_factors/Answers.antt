use Rattle.std.proofs.Common.{rules}
use Rattle.jpeg_segments.specs.FrameView.{factors_of}
use Rattle.jpeg_segments.specs.declared.frame.Factors.{Factors as Read}
use Rattle.jpeg_segments.proofs.FrameLemmas.{greatest-next, greatest-after}
use Rattle.jpeg_segments.proofs.sizes.greatest_factors.Goals as goal

abbrev none : Read
none = record { identifier = 0; horizontal = 0; vertical = 0; quantization = 0 }

pub loop-component-preserved : goal.loop-component-preserved
loop-component-preserved c =
    let xs = c.args.components.now in
    let i = c.loop-component.component-index in
    let h = greatest-next factors_of (λ f. f.horizontal) xs i none c.loop-component-test.true in
    let v = greatest-next factors_of (λ f. f.vertical) xs i none c.loop-component-test.true in
    search rules

pub returns-clause-covers_horizontal : goal.returns-clause-covers_horizontal
returns-clause-covers_horizontal c = search (rules, greatest-after)

pub returns-clause-covers_vertical : goal.returns-clause-covers_vertical
returns-clause-covers_vertical c = search (rules, greatest-after)

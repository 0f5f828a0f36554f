use Rattle.std.proofs.Common.{◌≡◌, ◌∙◌, ap, ap₂, sym, arith, get_or, map, rules, List}
use Rattle.std.proofs.lemmas.List.{length-map}
use Rattle.jpeg_segments.specs.Frame.{Component, ceiling, greatest, most_down}
use Rattle.jpeg_segments.specs.FrameView.{component_in, factors_in, frame_in}
use Rattle.jpeg_segments.specs.declared.frame.Component.{Component as Given}
use Rattle.jpeg_segments.proofs.ScaleLemmas.{factors-seen}
use Rattle.jpeg_decoder.specs.LosslessParts.{no_component}
use Rattle.jpeg_decoder.proofs.LosslessFrames.LosslessReads.{alone, component-at, not-alone}
use Rattle.jpeg_decoder.proofs.scan.lossless.mcus_of.Goals as goal
use Rattle.std.proofs.lemmas.Grind.{common_steps}

-- the component alone
only : (c : goal.After-size-1) → component_in c.index.result.now
    ≡ get_or (frame_in c.args.frame.now).components (get_or c.args.indices.now 0 0) no_component
only c = grind (arith, common_steps, component-at, length-map)

pub returns-then-indices-eq1-clause-wide : goal.returns-then-indices-eq1-clause-wide
returns-then-indices-eq1-clause-wide c = grind (arith, common_steps, only, alone)

pub returns-then-indices-eq1-clause-high : goal.returns-then-indices-eq1-clause-high
returns-then-indices-eq1-clause-high c = ap (λ (x : Component). x.height) (only c) ∙ sym (alone _ _
    (search rules)).1

pub returns-clause-wide : goal.returns-clause-wide
returns-clause-wide c = grind (arith, common_steps, factors-seen, not-alone)

pub returns-clause-high : goal.returns-clause-high
returns-clause-high c =
    let frame = frame_in c.args.frame.now in
    let cs = c.args.frame.now.components.items in
    let most : c.greatest_of-horizontal.result.1 ≡ most_down frame.components =
    c.greatest_of-horizontal.ensures.vertical
    ∙ ap (λ (l : List Given). greatest (λ f. f.vertical) (map factors_in l)) c.deref.ensures.value
    ∙ ap (greatest (λ f. f.vertical)) (sym (factors-seen cs)) in
    c.ceiling-high.ensures ∙ ap₂ ceiling c.from-3.ensures (c.from-4.ensures ∙ most)
    ∙ sym (not-alone frame c.args.indices.now (search rules)).1

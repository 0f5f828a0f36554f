use Rattle.std.proofs.Common.{◌≡◌, length, map, arith, subst}
use Rattle.std.proofs.lemmas.Grind.{common_steps}
use Rattle.std.proofs.Math.ListN as lists
use Rattle.std.proofs.lemmas.List.{map-append, length-map}
use Rattle.std.proofs.lemmas.Result.{err_from_is_err_and}
use Rattle.jpeg_segments.specs.Frame.{HasSampling}
use Rattle.jpeg_segments.specs.FrameView.{component_in}
use Rattle.jpeg_segments.proofs.Gathered.{gathers-more, gathers-refused}
use Rattle.jpeg_segments.proofs.ScaleLemmas.{none}
use Rattle.jpeg_pixels.proofs.SourceLists.{factors-at}
use Rattle.jpeg_pixels.proofs.sources.component_sources.Goals as goal

pub component_source-requires : goal.component_source-requires
component_source-requires c =
    let components = c.args.components.now in
    let index = c.loop-component.component-index in
    let count : length (map component_in components) ≡ length components = length-map components component_in in
    subst HasSampling (lists.get_or-map component_in components index none)
    (factors-at (map component_in components) index (component_in none) c.requires (omega arith))

pub loop-component-preserved : goal.loop-component-preserved
loop-component-preserved c =
    let at = lists.get_or-map component_in c.args.components.now c.loop-component.component-index none in
    grind (arith, common_steps, gathers-more, length-map, map-append)

pub returns-in_err-source : goal.returns-in_err-source
returns-in_err-source c =
    let at = lists.get_or-map component_in c.args.components.now c.loop-component.component-index none in
    let p = err_from_is_err_and c.from_residual-in_err-source.result c.from_residual-in_err-source.ensures.1 in
    grind (arith, common_steps, gathers-refused, length-map)

use Rattle.std.proofs.Common.{◌≡◌, ◌<◌, true, List, map, refl, subst, arith, rules}
use Rattle.jpeg_segments.specs.Frame.{greatest, is_count, is_precision}
use Rattle.zaxbriar_strict.specs.Heads.{factors_of, number_of}
use Rattle.zaxbriar_strict.specs.declared.frame.Component.{Component}
use Rattle.zaxbriar_strict.proofs.Frames.{reads-frame}
use Rattle.zaxbriar_strict.proofs.frame.read_frame.Goals as goal

pub returns : goal.returns
returns c =
    let size = c.in-Ok.size in
    let number = number_of c.in_ok-process.process in
    let most = c.greatest_factors-most_across.result in
    let taken = c.in-Ok.ensures in
    let components = c.in_ok-components.ensures in
    let some : 0 < size.count = taken.components in
    let precise : is_precision number size.precision ≡ true = search rules in
    let counted : is_count number size.count ≡ true = search rules in
    let value = c.deref.ensures.value in
    let across : most.0 ≡ greatest (λ f. f.horizontal) (map factors_of c.in_ok-components.components.items) =
    subst (λ (l : List Component). most.0 ≡ greatest (λ f. f.horizontal) (map factors_of l)) value
    c.greatest_factors-most_across.ensures.across in
    let down : most.1 ≡ greatest (λ f. f.vertical) (map factors_of c.in_ok-components.components.items) =
    subst (λ (l : List Component). most.1 ≡ greatest (λ f. f.vertical) (map factors_of l)) value
    c.greatest_factors-most_across.ensures.down in
    reads-frame c.args.code size.precision size.height size.width size.count c.args.part.rest.now
    c.take_size.new.part.rest.now _ c.in_ok-process.ensures taken.bytes taken.long refl c.from.ensures
    c.from-2.ensures precise counted (omega (arith, c.if-size-eq0.false)) taken.tall taken.samples taken.wide
    components.bytes components.legal components.unsent across down

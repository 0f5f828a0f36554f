use Rattle.std.proofs.Common.{◌/◌, ◌%◌, ◌<◌, ◌∙◌, arith}
use Rattle.std.proofs.lemmas.Nat.{div-add-mod'}
use Rattle.zaxbriar_strict.proofs.Sizes.{last-part, parts-fit, whole-parts}
use Rattle.zaxbriar_strict.proofs.frame.parts_of.Goals as goal

pub returns-then-length-size-eq0 : goal.returns-then-length-size-eq0
returns-then-length-size-eq0 c = λ some.
    let n = c.args.length in
    let d = c.args.size in
    whole-parts n d (n / d) (n % d) some (div-add-mod' n d) c.if-length-size-eq0.true

pub returns-else-length-size-eq0 : goal.returns-else-length-size-eq0
returns-else-length-size-eq0 c = λ some.
    let n = c.args.length in
    let d = c.args.size in
    let below : n % d < d = omega arith in
    let fits = parts-fit n d (n / d) (n % d) (div-add-mod' n d) below c.if-length-size-eq0.false c.ranges.length.fits in
    let e = c.saturating_add.ensures in
    (omega (arith, e, fits)) ∙ last-part n d (n / d) (n % d) (div-add-mod' n d) below c.if-length-size-eq0.false

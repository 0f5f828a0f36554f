use Rattle.std.proofs.Common.{◌≡◌, false, List, sym, ap, ◌∙◌}
use Rattle.std.specs.List.{list_any}
use Rattle.std.specs.Prelude.{◌==◌}
use Rattle.zaxbriar_strict.specs.Heads.{number_of}
use Rattle.zaxbriar_strict.specs.declared.frame.Component.{Component}
use Rattle.zaxbriar_strict.proofs.Frames.{none-taken, one-taken}
use Rattle.zaxbriar_strict.proofs.frame.take_components.Goals as goal

pub loop-rest-init : goal.loop-rest-init
loop-rest-init c = none-taken (number_of c.args.process) c.in_ok-components.components.items c.args.part.rest.now
    c.in_ok-components.ensures.items

pub loop-rest-preserved : goal.loop-rest-preserved
loop-rest-preserved c =
    let cs = c.loop-rest.components.items in
    let one = c.in-Ok.component in
    let fresh : list_any (λ x. x.identifier == one.identifier) cs ≡ false =
    ap (λ (l : List Component). list_any (λ x. x.identifier == one.identifier) l) (sym c.deref.ensures.value)
    ∙ sym c.has_identifier.ensures ∙ c.if-has_identifier.false in
    one-taken (number_of c.args.process) cs c.push.new.self.items one c.in-Ok-push.ensures.items c.loop-rest.invariant
    c.in-Ok.ensures.bytes fresh c.in-Ok.ensures.across c.in-Ok.ensures.down c.in-Ok.ensures.placed
    c.in-Ok.ensures.unsent

use Rattle.std.proofs.Common.{◌≡◌, List, Some, position, sym, ap, refl, ◌∙◌}
use Rattle.std.specs.Prelude.{◌==◌, slice_index_or}
use Rattle.zaxbriar_strict.specs.declared.frame.Component.{Component}
use Rattle.zaxbriar_strict.proofs.Members.{takes-member, two-are}
use Rattle.zaxbriar_strict.proofs.scan.take_member.Goals as goal

pub returns-in-Some : goal.returns-in-Some
returns-in-Some c =
    let old = c.args.part.now.rest.now in
    let identifier = slice_index_or old 0 0 in
    let found : position (λ x. x.identifier == identifier) c.args.frame.now.components.items ≡ Some c.in-Some.component =
    ap (λ (l : List Component). position (λ x. x.identifier == identifier) l) (sym c.deref.ensures.value)
    ∙ sym c.in-Some.ensures in
    takes-member c.args.frame.now _ identifier (slice_index_or old 1 0) old _ found refl refl
    (two-are old c.in-len2-up.len_at_least)

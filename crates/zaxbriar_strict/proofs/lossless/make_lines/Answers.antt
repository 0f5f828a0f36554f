use Rattle.std.proofs.Common.{◌≤◌, ◌∙◌, length, get_or, sym}
use Rattle.std.proofs.lemmas.Bool.{ltb-true as is-less}
use Rattle.zaxbriar_strict.specs.Heads.{members_of}
use Rattle.zaxbriar_strict.proofs.Codings.{no_member}
use Rattle.zaxbriar_strict.proofs.Contexts.{found}
use Rattle.zaxbriar_strict.proofs.Shares.{all-shares, no-shares, none-within, shares-next, shares-none}
use Rattle.zaxbriar_strict.proofs.lossless.make_lines.Goals as goal

pub loop-member-init : goal.loop-member-init
loop-member-init c =
    no-shares c.args.scan.now.count c.args.frame.now.components.items (members_of c.args.scan.now) c.in_ok-all.all.items
    c.in_ok-all.ensures.items

pub loop-member-preserved : goal.loop-member-preserved
loop-member-preserved c =
    let s = c.args.scan.now in
    let cs = c.args.frame.now.components.items in
    let xs = c.members-member-items.result.now in
    let i = c.loop-member.member-index in
    let m = get_or xs i no_member in
    let x = c.in-Some.component.now in
    let at = found c.deref.result.now cs m.component x c.deref.ensures.value
    (is-less m.component (length c.deref.result.now) (sym c.in-Some.ensures.lookup.0)) c.in-Some.ensures.lookup.1 in
    let l = c.in_ok-lines.ensures in
    shares-next s.count cs xs (members_of s) i x c.loop-member.all.items c.push.new.self.items c.in_ok-lines.lines
    c.members-member-items.ensures c.loop-member-test.true at c.in_default-push.ensures.items l.member
    (l.across ∙ c.unit_size.ensures.across) (l.down ∙ c.unit_size.ensures.down) c.loop-member.invariant

pub loop-member-preserved-in_default : goal.loop-member-preserved-in_default
loop-member-preserved-in_default c =
    let s = c.args.scan.now in
    let cs = c.args.frame.now.components.items in
    let xs = c.members-member-items.result.now in
    let m = get_or xs c.loop-member.member-index no_member in
    let over : length cs ≤ m.component =
    none-within c.deref.result.now cs m.component c.deref.ensures.value c.in_default.ensures.lookup.0 in
    shares-none s.count cs xs (members_of s) c.loop-member.member-index c.loop-member.all.items
    c.members-member-items.ensures c.loop-member-test.true over c.loop-member.invariant

pub returns : goal.returns
returns c =
    all-shares c.args.scan.now.count c.args.frame.now.components.items c.members-member-items.result.now
    (members_of c.args.scan.now) c.loop-member.member-index c.loop-member.all.items c.members-member-items.ensures
    c.loop-member-test.false c.loop-member.invariant

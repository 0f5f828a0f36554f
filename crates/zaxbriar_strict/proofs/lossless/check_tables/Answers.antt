use Rattle.std.proofs.Common.{◌≤◌, List, length, ap, arith, subst}
use Rattle.std.proofs.lemmas.List.{take_all}
use Rattle.zaxbriar_strict.specs.Heads.{members_of}
use Rattle.zaxbriar_strict.specs.declared.scan.Member.{Member}
use Rattle.zaxbriar_strict.proofs.Shares.{AreInstalledAt, installed-more}
use Rattle.zaxbriar_strict.proofs.lossless.check_tables.Goals as goal

pub loop-member-preserved : goal.loop-member-preserved
loop-member-preserved c = λ placed.
    installed-more c.args.tables.now c.members-member-items.result.now (members_of c.args.scan.now)
    c.loop-member.member-index c.members-member-items.ensures c.loop-member-test.true placed
    (c.loop-member.invariant placed) (λ near. c.in_ok-has_categories.ensures (omega arith) near)

pub returns-then-has_categories : goal.returns-then-has_categories
returns-then-has_categories c = λ placed.
    let ms = members_of c.args.scan.now in
    let all : length ms ≤ c.loop-member.member-index =
    omega (arith, ap length c.members-member-items.ensures, c.loop-member-test.false) in
    subst (λ (l : List Member). AreInstalledAt c.args.tables.now l) (take_all c.loop-member.member-index ms all)
    (c.loop-member.invariant placed)

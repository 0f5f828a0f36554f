use Rattle.std.proofs.Common.{◌≤◌, ◌∙◌, length, ap, arith, refl, subst}
use Rattle.std.proofs.lemmas.List.{take_all}
use Rattle.zaxbriar_strict.specs.Heads.{members_of, written_frame}
use Rattle.zaxbriar_strict.specs.ScanData.{AreInstalled}
use Rattle.zaxbriar_strict.proofs.Codings.{installed-next, none-installed}
use Rattle.zaxbriar_strict.proofs.SameFrames.{kept-none, kept-then}
use Rattle.zaxbriar_strict.proofs.transform.check_tables.Goals as goal

pub loop-member-init : goal.loop-member-init
loop-member-init c = record {
  kept = kept-none c.args.frame.now;
  rows = refl;
  tables = λ p made first last has. none-installed p c.args.tables.now (written_frame c.args.frame.now);
}

pub loop-member-preserved : goal.loop-member-preserved
loop-member-preserved c =
    let i = c.loop-member.invariant in
    record {
      kept = kept-then i.kept c.in_ok-has_categories.ensures.kept;
      rows = c.in_ok-has_categories.ensures.rows ∙ i.rows;
      tables = λ p made first last has.
          installed-next p c.args.tables.now c.args.frame.now c.loop-member.frame c.args.scan.now
          c.members-member-items.result.now c.loop-member.member-index c.members-member-items.ensures
          c.loop-member-test.true i.kept made has (i.tables p made first last has)
          (λ again within dc ac. c.in_ok-has_categories.ensures.tables p again within first last dc ac);
    }

pub returns-then-has_categories-clause-tables : goal.returns-then-has_categories-clause-tables
returns-then-has_categories-clause-tables c = λ p made first last has.
    let ms = members_of c.args.scan.now in
    let all : length ms ≤ c.loop-member.member-index =
    omega (arith, ap length c.members-member-items.ensures, c.loop-member-test.false) in
    subst (AreInstalled p c.args.tables.now (written_frame c.args.frame.now))
    (take_all c.loop-member.member-index ms all) (c.loop-member.invariant.tables p made first last has)

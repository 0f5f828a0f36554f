use Rattle.std.proofs.Common.{◌≤◌, sym, ◌∙◌, arith, subst}
use Rattle.jpeg_bits.specs.Codes.{Table}
use Rattle.jpeg_bits.specs.declared.huffman.codes.HuffmanTableClass.TheVariants.{AC}
use Rattle.zaxbriar_strict.specs.Loaded.{data_of}
use Rattle.zaxbriar_strict.specs.Sent.{ReadsSentAc}
use Rattle.zaxbriar_strict.specs.Tables.{codes_in}
use Rattle.zaxbriar_strict.proofs.Contexts.{way-ac}
use Rattle.zaxbriar_strict.proofs.SentNext.{is-first, is-refined}
use Rattle.zaxbriar_strict.proofs.transform.Context.read_acs.Goals as goal

pub returns-then-self : goal.returns-then-self
returns-then-self c = λ p slot via pass some within way ready inner.
    let high : 1 ≤ 1 = omega arith in
    let u = codes_in AC c.in_ok-table.table.now in
    let t = way-ac c.args.self.now.tables.now slot c.args.member via u p way (omega (arith, some, within))
    (λ h. c.in_ok-table.ensures high h) in
    let again = is-refined p.is_first (sym pass.refined ∙ c.if-self.true) in
    let kept = ready.acs_again some again in
    subst (λ (t : Table). ReadsSentAc p t c.args.run.now c.refine_ac.new.run c.args.block.now c.refine_ac.new.block
    (data_of c.args.bits.now) (data_of c.refine_ac.new.bits)) t
    (c.in_ok-refine_ac.ensures.sent p pass some within again kept.numbers kept.are inner AC)

pub returns : goal.returns
returns c = λ p slot via pass some within way ready inner.
    let high : 1 ≤ 1 = omega arith in
    let u = codes_in AC c.in_ok-table.table.now in
    let t = way-ac c.args.self.now.tables.now slot c.args.member via u p way (omega (arith, some, within))
    (λ h. c.in_ok-table.ensures high h) in
    let first = is-first p.is_first (sym pass.refined ∙ c.if-self.false) in
    subst (λ (t : Table). ReadsSentAc p t c.args.run.now c.read_ac.new.run c.args.block.now c.read_ac.new.block
    (data_of c.args.bits.now) (data_of c.read_ac.new.bits)) t
    (c.in_ok-read_ac.ensures.sent p pass some within first (ready.acs_first some first) AC)

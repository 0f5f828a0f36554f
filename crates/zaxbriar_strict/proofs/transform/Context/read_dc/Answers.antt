use Rattle.std.proofs.Common.{◌≤◌, sym, ◌∙◌, arith, subst}
use Rattle.jpeg_bits.specs.Codes.{Table}
use Rattle.jpeg_bits.specs.declared.huffman.codes.HuffmanTableClass.TheVariants.{DC}
use Rattle.zaxbriar_strict.specs.Loaded.{data_of}
use Rattle.zaxbriar_strict.specs.Sent.{ReadsSentDc}
use Rattle.zaxbriar_strict.specs.Tables.{codes_in}
use Rattle.zaxbriar_strict.proofs.Contexts.{way-dc}
use Rattle.zaxbriar_strict.proofs.SentNext.{is-first, is-refined}
use Rattle.zaxbriar_strict.proofs.transform.Context.read_dc.Goals as goal

pub returns-then-self : goal.returns-then-self
returns-then-self c = λ p slot via pass first way ready inner.
    let again = is-refined p.is_first (sym pass.refined ∙ c.if-self.true) in
    let kept = ready.dc_again first again in
    c.in_ok-refine_dc.ensures.sent p pass first again kept.number kept.is via.dc c.args.before.now

pub returns : goal.returns
returns c = λ p slot via pass first way ready inner.
    let low : 0 ≤ 1 = omega arith in
    let u = codes_in DC c.in_ok-table.table.now in
    let t = way-dc c.args.self.now.tables.now slot c.args.member via u p way first
    (λ h. c.in_ok-table.ensures low h) in
    subst (λ (t : Table). ReadsSentDc p t c.args.before.now c.read_difference.new.before c.args.block.now
    c.read_difference.new.block (data_of c.args.bits.now) (data_of c.read_difference.new.bits)) t
    (c.in_ok-read_difference.ensures.sent p pass first (is-first p.is_first (sym pass.refined ∙ c.if-self.false)) inner
    DC)

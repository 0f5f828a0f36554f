use Rattle.std.proofs.Common.{◌≡◌, ◌≤◌, ℕ, false, get_or, set, ap, sym, arith, subst, pos}
use Rattle.jpeg_bits.specs.Passes.{Pass}
use Rattle.jpeg_bits.specs.declared.huffman.codes.HuffmanTableClass.TheVariants.{AC, DC}
use Rattle.zaxbriar_strict.specs.Blocks.{ReadsBlock}
use Rattle.zaxbriar_strict.specs.Heads.{members_of}
use Rattle.zaxbriar_strict.specs.Loaded.{data_of}
use Rattle.zaxbriar_strict.specs.Tables.{codes_in}
use Rattle.zaxbriar_strict.proofs.Contexts.{block-by, found, way-ac, way-at, way-dc}
use Rattle.zaxbriar_strict.proofs.Runs.{run-one}
use Rattle.zaxbriar_strict.proofs.transform.Context.read_whole.Goals as goal

pub returns : goal.returns
returns c = λ p vias via place from to g plain e.
    let x = c.args.self.now in
    let slot = c.args.slot in
    let m = c.in-Some.member.now in
    let at = found c.members.result.now (members_of x.scan.now) slot m c.members.ensures c.in-Some.ensures.lookup.3.0
    c.in-Some.ensures.lookup.1 in
    let w = way-at x p vias slot m via g at e in
    let whole = g.sequential plain in
    let first : p.ss ≡ 0 = ap (λ (q : Pass). q.ss) whole in
    let last : p.se ≡ 63 = ap (λ (q : Pass). q.se) whole in
    let low : 0 ≤ 1 = omega arith in
    let high : 1 ≤ 1 = omega arith in
    let u = codes_in DC c.in_ok-dc.dc.now in
    let v = codes_in AC c.in_ok-ac.ac.now in
    let d = way-dc x.tables.now slot m via u p w first (λ h. c.in_ok-dc.ensures low h) in
    let a = way-ac x.tables.now slot m via v p w (omega (arith, last)) (λ h. c.in_ok-ac.ensures high h) in
    let b = block-by x.is_deep via.dc via.ac u v _ _ _ _ g.eight d a c.in_ok-read_in_range.ensures in
    let next = c.read_in_range.new.before in
    let old = c.args.past.now in
    let slotted = sym w.slotted in
    let by = subst (λ (k : ℕ). ReadsBlock false via.dc via.ac (get_or old.dc k (pos 0)) next
    (data_of c.args.bits.now) (data_of c.read_in_range.new.bits)) slotted b in
    run-one p via place old _ next from to whole by (ap (λ (k : ℕ). set old.dc k next) slotted)

use Rattle.std.proofs.Common.{◌≡◌, ℕ, get_or, set, ap, sym, ◌∙◌, refl, subst, pos}
use Rattle.std.proofs.lemmas.Bool.{eqb-true, eq-eqb, false≢true}
use Rattle.zaxbriar_strict.specs.Heads.{members_of}
use Rattle.zaxbriar_strict.specs.Loaded.{data_of}
use Rattle.zaxbriar_strict.specs.SentBlocks.{ReadsDc}
use Rattle.zaxbriar_strict.proofs.Contexts.{found, way-at}
use Rattle.zaxbriar_strict.proofs.SentNext.{acs-sent, band-acs, band-dc, dc-sent}
use Rattle.zaxbriar_strict.proofs.transform.Context.read_coefficients.Goals as goal

pub returns-then-has_dc : goal.returns-then-has_dc
returns-then-has_dc c = λ p vias via g kept e.
    let x = c.args.self.now in
    let slot = c.args.slot in
    let m = c.in-Some.member.now in
    let at = found c.members.result.now (members_of x.scan.now) slot m c.members.ensures c.in-Some.ensures.lookup.3.0
    c.in-Some.ensures.lookup.1 in
    let w = way-at x p vias slot m via g at e in
    let pass = g.passed kept in
    let zero : p.ss ≡ 0 = sym pass.first ∙ eqb-true x.band.first 0 (sym c.has_dc.ensures ∙ c.if-has_dc.true) in
    let next = c.read_dc.new.before in
    let old = c.args.past.now in
    let slotted = sym w.slotted in
    dc-sent p via old _ next c.args.block.now _ _ _ zero (band-dc p (g.banded kept) zero)
    (ap (λ (k : ℕ). set old.dc k next) slotted) refl
    (subst (λ (k : ℕ). ReadsDc p via (get_or old.dc k (pos 0)) next c.args.block.now c.read_dc.new.block
    (data_of c.args.bits.now) (data_of c.read_dc.new.bits)) slotted (c.in_ok-read_dc.ensures p slot via pass zero w))

pub returns : goal.returns
returns c = λ p vias via g kept e.
    let x = c.args.self.now in
    let slot = c.args.slot in
    let m = c.in-Some.member.now in
    let at = found c.members.result.now (members_of x.scan.now) slot m c.members.ensures c.in-Some.ensures.lookup.3.0
    c.in-Some.ensures.lookup.1 in
    let w = way-at x p vias slot m via g at e in
    let pass = g.passed kept in
    let acs = band-acs p (g.banded kept) (λ zero.
    false≢true (sym c.if-has_dc.false ∙ c.has_dc.ensures ∙ eq-eqb x.band.first 0 (pass.first ∙ zero))) in
    acs-sent p via c.args.past.now _ c.args.block.now _ _ _ acs.some acs.within acs.most refl
    (c.in_ok-read_acs.ensures p slot via pass acs.some acs.within w)

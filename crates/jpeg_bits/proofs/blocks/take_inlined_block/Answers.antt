use Rattle.std.proofs.Common.{◌≡◌, List, ℤ, pos, length, get_or, set, rules, refl, subst}
use Rattle.std.proofs.lemmas.List.{get_or-set_same}
use Rattle.jpeg_bits.specs.Entropy.{Takes}
use Rattle.jpeg_bits.specs.Passes.{band_part, block_from}
use Rattle.jpeg_bits.specs.BlockView.{to_block, dc_in, pass_in}
use Rattle.jpeg_bits.specs.ZigzagParts.{band_in, KeepsOthers}
use Rattle.jpeg_bits.specs.Refusals.{outcome_of}
use Rattle.jpeg_bits.proofs.BlockParts.{dc_step, dc_refused, block_read}
use Rattle.jpeg_bits.proofs.DcAlone.{Takes-map, keep}
use Rattle.jpeg_bits.proofs.blocks.take_inlined_block.Goals as goal

pub returns-then-not-read_dc-clause-block : goal.returns-then-not-read_dc-clause-block
returns-then-not-read_dc-clause-block g c = search (rules, Takes-map, keep, dc_refused)

pub returns-clause-block : goal.returns-clause-block
returns-clause-block g c =
    let a = c.args in
    let k = a.coding.now in
    let p = pass_in k.pass in
    let block = a.block.now in
    let slot = k.slot in
    let predictors = a.carried.now.predictors in
    let predictor = get_or predictors slot (pos 0) in
    let read = block_from p k.dc_table.now k.ac_table.now predictor a.carried.now.run (to_block block) in
    let y = dc_in c.read_dc.new.block in
    let put : c.read_dc.new.block ≡ set block 0 y = c.if-not-read_dc.ensures.others in
    let n : length block ≡ 64 = search rules in
    let four : length predictors ≡ 4 = search rules in
    let same = get_or-set_same predictors slot c.read_dc.new.predictor (pos 0) (rw four k.within) in
    let q = rw c.decoder.view_is at c.if-not-read_dc.ensures.part in
    rw same (Takes-map (keep k.keeps_ac)
    (λ (u : Unit {0}). (to_block c.read_inlined_band.new.block, c.read_dc.new.predictor, c.read_inlined_band.new.run))
    read a.decoder.now _ a.source.now c.read_inlined_band.new.source _
    (block_read p k.ac_table.now y _ a.carried.now.run _ block _ read a.decoder.now _ _ a.source.now
    c.read_dc.new.source
    c.read_inlined_band.new.source c.read_inlined_band.new.refusal c.read_inlined_band.result n k.legal
    (subst (λ (b : List ℤ). KeepsOthers p b c.read_inlined_band.new.block) put c.read_inlined_band.ensures.others)
    (q.0, λ known. ((q.1 known).0, dc_step _ _ _ _ _ _ _ _ _ _ _ refl (q.1 known).1))
    (subst (λ (b : List ℤ). Takes (λ (u : Unit {0}). (band_in p c.read_inlined_band.new.block, c.read_inlined_band.new.run))
    (band_part p k.ac_table.now (band_in p b) a.carried.now.run) c.read_dc.new.buffered c.read_dc.new.source
    (outcome_of c.read_inlined_band.result c.read_inlined_band.new.refusal) c.read_inlined_band.new.buffered
    c.read_inlined_band.new.source) put c.read_inlined_band.ensures.band)))

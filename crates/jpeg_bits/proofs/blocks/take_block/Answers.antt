use Rattle.std.proofs.Common.{◌≡◌, List, ℤ, pos, length, get_or, set, rules, refl, sym, subst, false}
use Rattle.std.proofs.lemmas.List.{get_or-set_same, set-get_or}
use Rattle.jpeg_bits.specs.Entropy.{Takes}
use Rattle.jpeg_bits.specs.Passes.{band_part, block_from}
use Rattle.jpeg_bits.specs.BlockView.{to_block, dc_in, pass_in}
use Rattle.jpeg_bits.specs.ZigzagParts.{band_in, KeepsOthers}
use Rattle.jpeg_bits.specs.Refusals.{outcome_of}
use Rattle.jpeg_bits.proofs.BlockParts.{dc_step, dc_refused, dc_kept, block_read}
use Rattle.jpeg_bits.proofs.DcAlone.{Takes-map, dc-alone-read, dc-read, keep}
use Rattle.jpeg_bits.proofs.blocks.take_block.Goals as goal

pub returns-then-not-read_dc-clause-block : goal.returns-then-not-read_dc-clause-block
returns-then-not-read_dc-clause-block g c = search (rules, Takes-map, keep, dc_refused)

pub returns-clause-block : goal.returns-clause-block
returns-clause-block g c =
    let a = c.args in
    let k = a.coding.now in
    let p = pass_in k.pass in
    let block = a.block.now in
    let slot = k.slot in
    let predictors = a.carried.now.predictors in
    let predictor = get_or predictors slot (pos 0) in
    let read = block_from p k.dc_table.now k.ac_table.now predictor a.carried.now.run (to_block block) in
    let y = dc_in c.read_dc.new.block in
    let put : c.read_dc.new.block ≡ set block 0 y = c.if-not-read_dc.ensures.others in
    let n : length block ≡ 64 = search rules in
    let four : length predictors ≡ 4 = search rules in
    let same = get_or-set_same predictors slot c.read_dc.new.predictor (pos 0) (rw four k.within) in
    let q = rw c.decoder.view_is at c.if-not-read_dc.ensures.part in
    rw same (Takes-map (keep k.keeps_ac)
    (λ (u : Unit {0}). (to_block c.read_band-2.new.block, c.read_dc.new.predictor, c.read_band-2.new.run))
    read a.decoder.now _ a.source.now c.read_band-2.new.source _
    (block_read p k.ac_table.now y _ a.carried.now.run _ block _ read a.decoder.now _ _ a.source.now
    c.read_dc.new.source
    c.read_band-2.new.source c.read_band-2.new.refusal c.read_band-2.result n k.legal
    (subst (λ (b : List ℤ). KeepsOthers p b c.read_band-2.new.block) put c.read_band-2.ensures.others)
    (q.0, λ known. ((q.1 known).0, dc_step _ _ _ _ _ _ _ _ _ _ _ refl (q.1 known).1))
    (subst (λ (b : List ℤ). Takes (λ (u : Unit {0}). (band_in p c.read_band-2.new.block, c.read_band-2.new.run))
    (band_part p k.ac_table.now (band_in p b) a.carried.now.run) c.read_dc.new.buffered c.read_dc.new.source
    (outcome_of c.read_band-2.result c.read_band-2.new.refusal) c.read_band-2.new.buffered
    c.read_band-2.new.source) put c.read_band-2.ensures.band)))

pub returns-then-coding-gt0-clause-block : goal.returns-then-coding-gt0-clause-block
returns-then-coding-gt0-clause-block g c =
    let a = c.args in
    let k = a.coding.now in
    let p = pass_in k.pass in
    let block = a.block.now in
    let predictor = get_or a.carried.now.predictors k.slot (pos 0) in
    let read = block_from p k.dc_table.now k.ac_table.now predictor a.carried.now.run (to_block block) in
    let n : length block ≡ 64 = search rules in
    let same = set-get_or block 0 (pos 0) in
    Takes-map (keep k.keeps_ac)
    (λ (u : Unit {0}). (to_block c.read_band.new.block, predictor, c.read_band.new.run)) read
    a.decoder.now _ a.source.now c.read_band.new.source _
    (block_read p k.ac_table.now (dc_in block) predictor a.carried.now.run _ block c.read_band.new.block read
    a.decoder.now a.decoder.now _
    a.source.now a.source.now c.read_band.new.source c.read_band.new.refusal c.read_band.result n k.legal
    (rw same c.read_band.ensures.others)
    (refl, λ known. (known, dc_step _ _ _ _ _ _ _ _ _ _ _ refl (dc_kept _ _ _ _ _ c.if-coding-gt0.true)))
    (rw (same, sym c.decoder.view_is) c.read_band.ensures.band))

pub returns-then-not-coding-clause-block : goal.returns-then-not-coding-clause-block
returns-then-not-coding-clause-block g c =
    let a = c.args in
    let k = a.coding.now in
    let p = pass_in k.pass in
    let block = a.block.now in
    let off : k.keeps_ac ≡ false = c.if-not-coding.true in
    let slot = k.slot in
    let predictors = a.carried.now.predictors in
    let run = a.carried.now.run in
    let predictor = get_or predictors slot (pos 0) in
    let next = c.read_dc.new.predictor in
    let y = dc_in c.read_dc.new.block in
    let put : c.read_dc.new.block ≡ set block 0 y = c.if-not-read_dc.ensures.others in
    let n : length block ≡ 64 = search rules in
    let four : length predictors ≡ 4 = search rules in
    let same = get_or-set_same predictors slot next (pos 0) (rw four k.within) in
    let read = block_from p k.dc_table.now k.ac_table.now predictor run (to_block block) in
    let q = rw c.decoder.view_is at c.if-not-read_dc.ensures.part in
    let done = outcome_of c.skip_band.result c.skip_band.new.refusal in
    let alone = dc-alone-read p k.dc_table.now k.ac_table.now predictor run block (k.first off) n y next _
    a.decoder.now _ _
    a.source.now c.read_dc.new.source c.skip_band.new.source c.skip_band.new.refusal c.skip_band.result k.legal
    (dc-read _ _ _ _ _ _ (k.first off) n _ _ _ _ _ _ q) c.skip_band.ensures.band in
    rw (same, put, off) alone

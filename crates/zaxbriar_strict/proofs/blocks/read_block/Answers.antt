use Rattle.std.proofs.Common.{◌≡◌, ℤ, List, ◌∷◌, ◌<◌, length, refl, sym, ap, ◌∙◌, arith, subst}
use Rattle.jpeg_bits.specs.BlockView.{dc_in}
use Rattle.jpeg_bits.specs.declared.huffman.codes.HuffmanTableClass.TheVariants.{AC, DC}
use Rattle.jpeg_meaning.specs.WrittenData.{no_numbers}
use Rattle.zaxbriar_strict.specs.Bands.{IsInner, ReadsAc}
use Rattle.zaxbriar_strict.specs.Loaded.{data_of}
use Rattle.zaxbriar_strict.specs.Tables.{codes_in}
use Rattle.zaxbriar_strict.proofs.Wholes.{block-written, dc-first}
use Rattle.zaxbriar_strict.proofs.blocks.read_block.Goals as goal
use Rattle.zaxbriar_strict.proofs.blocks.read_block.Goals.{In_ok-read_ac}

-- after DC the others are 0
dc-alone : (c : In_ok-read_ac) → c.read_difference.new.block ≡ dc_in c.read_difference.new.block ∷ no_numbers 63
dc-alone c =
    let block = c.read_difference.new.block in
    let some : 0 < length block = omega (arith, c.read_difference.array_long) in
    dc-first block some ∙ ap (λ (l : List ℤ). dc_in block ∷ l) c.in_ok-read_difference.ensures.others

ac-read : (c : In_ok-read_ac) → ReadsAc (codes_in AC c.args.ac.now) (dc_in c.read_difference.new.block) c.read_ac.new.block
    (data_of c.read_difference.new.bits) (data_of c.read_ac.new.bits)
ac-read c = c.in_ok-read_ac.ensures.written c.whole-band.ensures refl (dc_in c.read_difference.new.block) 63 refl (dc-alone c) AC

same-dc : (c : In_ok-read_ac) → dc_in c.read_ac.new.block ≡ dc_in c.read_difference.new.block
same-dc c = ap dc_in (ac-read c).are

pub returns-clause-written : goal.returns-clause-written
returns-clause-written c = λ inner.
    let dc = dc_in c.read_difference.new.block in
    let d = c.in_ok-read_difference.ensures.written c.whole-band.ensures.low (subst IsInner (same-dc c) inner) DC in
    block-written (codes_in DC c.args.dc.now) (codes_in AC c.args.ac.now) dc c.args.before.now c.read_ac.new.block d (ac-read c)

pub returns-clause-next : goal.returns-clause-next
returns-clause-next c = λ inner.
    let s = same-dc c in
    c.in_ok-read_difference.ensures.next c.whole-band.ensures.low (subst IsInner s inner) ∙ sym s

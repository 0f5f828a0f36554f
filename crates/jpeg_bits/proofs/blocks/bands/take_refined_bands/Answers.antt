use Rattle.std.proofs.Common.{ℤ, length, map, arith}
use Rattle.std.proofs.lemmas.List.{length-set}
use Rattle.std.specs.List.{range_with_len}
use Rattle.jpeg_bits.specs.BlockLines.{Line, blocks_at}
use Rattle.jpeg_bits.specs.BlockView.{pass_in, to_block}
use Rattle.jpeg_bits.specs.Readers.{Reads}
use Rattle.jpeg_bits.proofs.BlockLines.{line-end, line-next, line-refused}
use Rattle.jpeg_bits.proofs.blocks.bands.take_refined_bands.Goals as goal

pub returns-then-not-read_refined-clause-blocks : goal.returns-then-not-read_refined-clause-blocks
returns-then-not-read_refined-clause-blocks g c z =
    let k = c.args.coding.now in
    let l = c.loop-index in
    let q = c.if-not-read_refined.ensures in
    let new = c.read_refined.new in
    let whole : ℤ → Reads Line = λ z. blocks_at (pass_in k.pass) k.dc_table.now k.ac_table.now
    (range_with_len 0 (length c.args.blocks.now)) (map to_block c.args.blocks.now, z, c.args.run.now) in
    line-refused (pass_in k.pass) k.dc_table.now k.ac_table.now whole l.index l.blocks l.run new.run _ new.block
    c.args.decoder.now l.buffered new.buffered c.args.source.now l.source new.source new.refusal c.requires.some
    k.legal c.loop-index-test.true q.long q.others l.invariant.blocks q.band
    (λ (u : Unit {0}). (map to_block l.blocks, z, new.run)) z

pub loop-index-preserved : goal.loop-index-preserved
loop-index-preserved g c =
    let k = c.args.coding.now in
    let l = c.loop-index in
    let q = c.if-not-read_refined.ensures in
    let new = c.read_refined.new in
    let whole : ℤ → Reads Line = λ z. blocks_at (pass_in k.pass) k.dc_table.now k.ac_table.now
    (range_with_len 0 (length c.args.blocks.now)) (map to_block c.args.blocks.now, z, c.args.run.now) in
    record {
      most = omega (arith, c.loop-index-test.true, length-set l.blocks l.index new.block);
      blocks = line-next (pass_in k.pass) k.dc_table.now k.ac_table.now whole l.index l.blocks l.run new.run _ new.block
          c.args.decoder.now l.buffered new.buffered c.args.source.now l.source new.source new.refusal c.requires.some
          k.legal c.loop-index-test.true q.long q.others l.invariant.blocks q.band;
    }

pub returns-clause-blocks : goal.returns-clause-blocks
returns-clause-blocks g c z =
    let k = c.args.coding.now in
    let l = c.loop-index in
    line-end (pass_in k.pass) k.dc_table.now k.ac_table.now z (blocks_at (pass_in k.pass) k.dc_table.now k.ac_table.now
    (range_with_len 0 (length c.args.blocks.now)) (map to_block c.args.blocks.now, z, c.args.run.now)) l.index l.blocks
    l.run c.args.decoder.now l.buffered c.args.source.now l.source (omega (arith, c.loop-index-test.false))
    (l.invariant.blocks z)

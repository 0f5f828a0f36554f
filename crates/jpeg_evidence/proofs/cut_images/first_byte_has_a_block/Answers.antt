-- one block, by its code and its bits
use Rattle.std.proofs.Common.{◌∷◌, true, false, [], pos, replicate, refl, arith}
use Rattle.jpeg_bits.specs.Passes.{predictors_at_start}
use Rattle.jpeg_bits.specs.declared.huffman.codes.HuffmanTableClass.TheVariants.{DC}
use Rattle.jpeg_meaning.specs.WrittenData.{WritesDifference}
use Rattle.jpeg_meaning.specs.WrittenData.WritesAc.{first}
use Rattle.jpeg_meaning.specs.WrittenData.WritesBand.{ended}
use Rattle.jpeg_meaning.specs.WrittenData.WritesDc.{whole}
use Rattle.jpeg_meaning.proofs.Tested.TestedData.{category-by}
use Rattle.jpeg_meaning.proofs.Tested.TestedStreams.{written_on_literals}
use Rattle.jpeg_evidence.specs.FirstBlocks.BeginsIntervals.{within}
use Rattle.jpeg_evidence.specs.FirstBlocks.WritesFirst.{next_block, no_more}
use Rattle.jpeg_evidence.specs.FoundTables.{one_symbol}
use Rattle.jpeg_evidence.proofs.cut_images.first_byte_has_a_block.Goals as goal

-- a code of one bit for category 4, and 8 in four bits
difference : WritesDifference (one_symbol DC 4) (pos 8) (false ∷ true ∷ false ∷ false ∷ false ∷ [])
unfolding written_on_literals
difference = record {
  s = 4;
  code = false ∷ [];
  category = category-by (pos 8) 4 refl;
  coded = record { index = 0; listed = omega arith; is_for = refl; has_bits = refl };
  has_bits = refl;
}

pub returns : goal.returns
unfolding written_on_literals
returns c = within 0 _ [] 1 (65 ∷ []) (record {
  bits = false ∷ true ∷ false ∷ false ∷ false ∷ false ∷ [];
  more_bits = false ∷ true ∷ [];
  data_bytes = 65 ∷ [];
  more_bytes = [];
  are_there = omega arith;
  coded = next_block predictors_at_start 0 0 _ _ [] (false ∷ true ∷ false ∷ false ∷ false ∷ []) (false ∷ []) [] (pos 8)
      (whole (pos 8) (pos 0) _ refl refl difference)
      (first (pos 0) (replicate 62 (pos 0)) (false ∷ []) 0 refl (ended 62 0 0 (false ∷ []) (omega arith) (omega arith)
      (record { index = 0; listed = omega arith; is_for = refl; has_bits = refl })))
      (no_more _ 0);
  whole = refl;
  begins = refl;
})

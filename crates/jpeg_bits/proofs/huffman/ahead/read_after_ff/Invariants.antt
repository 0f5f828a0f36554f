use Rattle.std.proofs.Common.{ℕ, List, ◌+◌, ◌∷◌, Ok}
use Rattle.jpeg_bits.specs.Entropy.{after_ff, filled_end}
use Rattle.jpeg_bits.specs.declared.huffman.ahead.Piece.TheVariants.{Data}
use Rattle.jpeg_bits.proofs.Loops.{Continues, Took}
use Rattle.jpeg_bits.proofs.huffman.ahead.read_after_ff.Given as goal

abbrev pub invariant-loop : goal.invariant-loop
invariant-loop g l = record {
  rest : Continues (λ (bs : List ℕ). Ok (after_ff bs)) (g.S.Bytes.stream l.fn.source)
      (λ (bs : List ℕ). Ok (Data (filled_end (l.next ∷ bs)).0, (filled_end (l.next ∷ bs)).1)) (g.S.Bytes.stream l.source);
  took : Took (g.S.Bytes.stream l.fn.source) (l.counter + 1) (g.S.Bytes.stream l.source);
}

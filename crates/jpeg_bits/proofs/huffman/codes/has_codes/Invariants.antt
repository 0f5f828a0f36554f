use Rattle.std.proofs.Common.{◌≡◌, ◌≤◌, ◌^◌, sum, take}
use Rattle.jpeg_bits.specs.Codes.{code_lengths}
use Rattle.jpeg_bits.proofs.CodeLemmas.{Tried, AllFit}
use Rattle.jpeg_bits.proofs.huffman.codes.has_codes.Given as goal

abbrev pub invariant-loop-i : goal.invariant-loop-i
invariant-loop-i l = record {
  room : l.room ≡ 2 ^ l.i;
  within : l.first ≤ l.room;
  tried : Tried (code_lengths l.counts) l.counts l.i (sum (take l.i l.counts)) l.first;
  fit : AllFit (code_lengths l.counts) (sum (take l.i l.counts));
}

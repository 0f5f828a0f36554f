-- Tables that segments give.
use Rattle.std.proofs.Common.{◌≡◌, ℕ, ◌/◌, ◌%◌, ◌≤◌, List, ◌∷◌, ◌++◌, length, sum, take, sym, ap₂, ◌∙◌, arith}
use Rattle.std.proofs.Common.{append_assoc}
use Rattle.std.proofs.lemmas.Bool.Decides.{nat_tests}
use Rattle.std.proofs.lemmas.List.{length-take-le}
use Rattle.jpeg_bits.specs.Codes.{HasCodes, code_lengths}
use Rattle.jpeg_segments.specs.HuffmanTables.{class_of}
use Rattle.jpeg_segments.specs.WrittenSegments.{class_number, huffman_bytes, nibbles}
use Rattle.zaxbriar_strict.specs.Tables.{TakesCodes}
use Rattle.zaxbriar_strict.specs.declared.huffman.HuffmanTable.{HuffmanTable}

class-number : (n : ℕ) → n ≤ 1 → class_number (class_of n) ≡ n
class-number n h = grind (arith, nat_tests)

head-is : (head : ℕ) → head / 16 ≤ 1 → head ≡ nibbles (class_number (class_of (head / 16))) (head % 16)
head-is head h = (let e = class-number (head / 16) h in omega (arith, e))

pub takes-codes : (head : ℕ) (t : HuffmanTable) (old middle new : List ℕ) → head / 16 ≤ 1 → head % 16 ≤ 3
    → length t.counts ≡ 16 → length t.symbols ≡ 256 → sum t.counts ≤ 256 → 1 ≤ sum t.counts
    → HasCodes (code_lengths t.counts) → old ≡ head ∷ middle
    → middle ≡ t.counts ++ (take (sum t.counts) t.symbols ++ new) → TakesCodes (head / 16) (head % 16) t old new
unfolding huffman_bytes
takes-codes head t old middle new class place counted symbols most some exist e f = record {
  classed = class;
  legal = record {
    placed = place;
    counted = counted;
    has_symbols = length-take-le (sum t.counts) t.symbols (omega arith);
    some = some;
    at_most = most;
    exists = exist;
  };
  parts = e ∙ ap₂ (λ (x : ℕ) (l : List ℕ). x ∷ l) (head-is head class)
      (f ∙ sym (append_assoc t.counts (take (sum t.counts) t.symbols) new));
}

-- Intervals whose bits were taken are written, and those of a scan one after the other.
use Rattle.std.proofs.Common.{◌≡◌, ℕ, suc, ◌+◌, ◌%◌, ◌≤◌, List, [], ◌∷◌, ◌++◌, length, arith, append_assoc, rules, Ok, Some}
use Rattle.std.proofs.lemmas.Grind.{common_steps}
use Rattle.std.proofs.lemmas.Bool.Decides.{nat_tests}
use Rattle.jpeg_bits.specs.Marker.{marker_of}
use Rattle.jpeg_bits.specs.Entropy.{Text, Found, text_at}
use Rattle.jpeg_bits.specs.Passes.{Block, Pass, Via, blocks_of, predictors_at_start}
use Rattle.jpeg_bits.specs.Written.{marker}
use Rattle.jpeg_bits.specs.declared.marker.Marker.{Marker}
use Rattle.jpeg_bits.specs.declared.marker.Marker.TheVariants.{RST}
use Rattle.jpeg_bits.specs.Written.WritesIntervals.{last, another}
use Rattle.jpeg_meaning.specs.WrittenData.{WritesBlocks}
use Rattle.jpeg_evidence.specs.Strict.{alone, BlocksFit, IsCut, IsInterval, IsIntervals, numbers_read}
use Rattle.jpeg_evidence.proofs.Taken.TakenBytes.{bytes_back}
use Rattle.jpeg_evidence.proofs.Taken.TakenTurns.{blocks_taken}

-- An interval whose bits are written for its blocks, with at most 7 bits after them, is written.
pub interval_taken : (p : Pass) (turns : List (Via × Block)) (bytes rest : List ℕ) (m : Marker) (left : Text)
    → (text_at bytes).ending ≡ Found m rest
    → IsCut (WritesBlocks p predictors_at_start 0 turns) (text_at bytes).bits left → length left.bits ≤ 7
    → IsInterval p turns bytes m rest
interval_taken p turns bytes rest m left e c short =
    let d = bytes_back bytes rest m e in
    grind arith

-- An interval whose blocks were taken of its bits is written for them.
pub interval_of_taken : (p : Pass) (turns : List (Via × Block)) (bytes rest : List ℕ) (m : Marker)
    (blocks : List Block) (left : Text) → (text_at bytes).ending ≡ Found m rest
    → BlocksFit p predictors_at_start 0 turns (text_at bytes).bits
    → blocks_of p predictors_at_start 0 turns (alone (text_at bytes).bits) ≡ Ok (blocks, left)
    → length left.bits ≤ 7 → IsInterval p (numbers_read p turns blocks) bytes m rest
interval_of_taken p turns bytes rest m blocks left e fits h short = search (rules, interval_taken, blocks_taken)

-- ---- intervals of a scan

rst-code : (n k : ℕ) → marker_of n ≡ Some (RST k) → n ≡ 208 + k
unfolding marker_of
rst-code n k e = grind (arith, nat_tests)

pub last_interval : (p : Pass) (k : ℕ) (turns : List (Via × Block)) (bytes rest : List ℕ) (m : Marker)
    → IsInterval p turns bytes m rest → IsIntervals p k turns [] bytes m rest
last_interval p k turns bytes rest m w = grind (arith, last)

pub another_interval : (p : Pass) (k : ℕ) (turns next : List (Via × Block)) (more : List (List (Via × Block)))
    (bytes others rest : List ℕ) (m : Marker) → IsInterval p turns bytes (RST (k % 8)) others
    → IsIntervals p (suc k) next more others m rest → IsIntervals p k turns (next ∷ more) bytes m rest
another_interval p k turns next more bytes others rest m w o =
    let code : w.code ≡ 0xD0 + k % 8 = rst-code w.code (k % 8) w.names in
    record {
      front = w.front ++ marker w.fill (0xD0 + k % 8) o.front;
      fill = o.fill;
      code = o.code;
      parts = grind (arith, common_steps, append_assoc);
      names = o.names;
      written = another k w.fill turns next more w.front o.front w.written o.written;
    }

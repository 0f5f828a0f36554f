-- Quantization tables, and coefficients by the bits that they have.
use Rattle.std.proofs.Common.{◌≡◌, ℕ, suc, ◌+◌, ◌/◌, ◌%◌, ◌<◌, ◌≤◌, Bool, true, false, List, [], ◌∷◌, ◌++◌, length}
use Rattle.std.proofs.Common.{drop, get_or, nat_le, sym, ap, ap₂, ◌∙◌, subst, arith, length-drop}
use Rattle.std.proofs.Common.{ℤ, pos, ◌≤ℤ◌, unsigned_abs}
use Rattle.std.specs.List.{AllByRecursion, flat_map}
use Rattle.std.proofs.lemmas.Bool.Decides.{nat_tests}
use Rattle.std.proofs.lemmas.Int.{ints}
use Rattle.std.proofs.lemmas.List.{get_or-drop}
use Rattle.jpeg_bits.specs.BlockView.{dc_in}
use Rattle.jpeg_meaning.specs.Levels.{Is8Bit}
use Rattle.jpeg_segments.specs.WrittenSegments.{nibbles, quantization_bytes, value_bytes}
use Rattle.zaxbriar_strict.specs.Bands.{block_in}
use Rattle.zaxbriar_strict.specs.Quantizations.{TakesSteps, precision_of}
use Rattle.zaxbriar_strict.specs.declared.quantization.Steps.{Steps}

-- ---- steps

head-is : (head : ℕ) → head / 16 ≤ 1 → head ≡ nibbles (precision_of (nat_le 16 head)) (head % 16)
head-is head h = grind (arith, nat_tests)

precision-most : (b : Bool) → precision_of b ≤ 1
precision-most true = omega arith
precision-most false = omega arith

pub takes-steps : (head : ℕ) (t : Steps) (old middle new : List ℕ) → head / 16 ≤ 1 → head % 16 ≤ 3
    → t.is_wide ≡ nat_le 16 head → length t.steps ≡ 64 → AllByRecursion (λ v. 0 < v) t.steps → old ≡ head ∷ middle
    → middle ≡ flat_map (value_bytes (precision_of (nat_le 16 head))) t.steps ++ new → TakesSteps (head % 16) t old new
unfolding quantization_bytes
takes-steps head t old middle new class place wide counted some e f = record {
  legal = record { precise = precision-most t.is_wide; placed = place; counted = counted; some = some };
  parts = e ∙ ap₂ (λ (x : ℕ) (l : List ℕ). x ∷ l) (head-is head class) f
      ∙ ap (λ (b : Bool). nibbles (precision_of b) (head % 16) ∷ (flat_map (value_bytes (precision_of b)) t.steps ++ new))
      (sym wide);
}

-- ---- coefficients

all-small : (xs : List ℤ) → ((k : ℕ) → k < length xs → unsigned_abs (get_or xs k (pos 0)) ≤ 1023)
    → AllByRecursion (λ x. unsigned_abs x ≤ 1023) xs
all-small [] h = tt
all-small (x ∷ xs) h = (h 0 (omega arith), all-small xs (λ k lt. h (suc k) (omega arith)))

pub is-8-bit : (block : List ℤ) → length block ≡ 64 → dc_in block ≤ℤ pos 1023 → unsigned_abs (dc_in block) ≤ 1024
    → ((k : ℕ) → 1 ≤ k → k < 64 → unsigned_abs (get_or block k (pos 0)) ≤ 1023) → Is8Bit (block_in block)
is-8-bit block size high low each =
    let l = length-drop 1 block in
    record {
      count = omega (arith, l, size);
      dc_low = omega (arith, ints, low);
      dc_high = high;
      acs = all-small (drop 1 block) (λ k lt.
          subst (λ (x : ℤ). unsigned_abs x ≤ 1023) (sym (get_or-drop 1 block k (pos 0)))
          (each (1 + k) (omega arith) (omega (arith, l, size, lt))));
    }

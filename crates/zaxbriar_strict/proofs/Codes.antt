-- Codes by the number of codes of each length (T.81, C.2).
use Rattle.std.proofs.Common.{◌≡◌, ℕ, zero, suc, ◌+◌, ◌-◌, ◌*◌, ◌/◌, ◌^◌, ◌<◌, ◌≤◌, List, length, take}
use Rattle.std.proofs.Common.{get_or, sum, sym, ap, ◌∙◌, subst, arith, add-zero}
use Rattle.std.proofs.lemmas.List.{get_or-take, take_all}
use Rattle.jpeg_bits.specs.Codes.{Table, HasCodes, code_lengths, code_value}
use Rattle.jpeg_bits.specs.ShortCodes.{value_after}
use Rattle.jpeg_bits.specs.Written.{IsCoded, low_bits}
use Rattle.jpeg_bits.specs.declared.huffman.codes.HuffmanTableClass.{HuffmanTableClass}
use Rattle.jpeg_bits.proofs.CodeLemmas.{tried-at, value_of, length_of, zigzag_within, lengths_length, value-more}
use Rattle.jpeg_bits.proofs.CodeLemmas.{index-more, AllFit, AllFit-more}
use Rattle.jpeg_bits.proofs.BufferedBits.{pow_more}
use Rattle.jpeg_bits.proofs.Reservoirs.{low_bits-take}

abbrev pub table_by : HuffmanTableClass → List ℕ → List ℕ → Table
table_by class counts symbols = record { class = class; counts = counts; symbols = take (sum counts) symbols }

-- a code of i + 1 bits, of those of this length the one at k
module _ (counts : List ℕ) (i k : ℕ) (short : i < length counts) (below : k < get_or counts i 0) where
  pub code-listed : sum (take i counts) + k < length (code_lengths counts)
  code-listed = zigzag_within (code_lengths counts) counts i (sum (take i counts)) (value_after counts i) short
      (tried-at counts i (omega arith)) k below

  pub code-within : sum (take i counts) + k < sum counts
  code-within = omega (arith, code-listed, lengths_length 1 counts)

  pub code-found : (class : HuffmanTableClass) (symbols : List ℕ) (bits : ℕ) → i < 16
      → bits / 2 ^ (15 - i) ≡ 2 * value_after counts i + k
      → IsCoded (table_by class counts symbols) (get_or symbols (sum (take i counts) + k) 0)
      (take (i + 1) (low_bits 16 bits))
  code-found class symbols bits few e =
      let base = sum (take i counts) in
      let t = tried-at counts i (omega arith) in
      let value = value_of (code_lengths counts) counts i base (value_after counts i) short t k below in
      let size = length_of (code_lengths counts) counts i base (value_after counts i) short t k below in
      let all : 16 ≡ i + 1 + (15 - i) = omega arith in
      record {
        index = base + k;
        listed = code-listed;
        is_for = get_or-take (sum counts) symbols (base + k) 0 code-within;
        has_bits = ap (λ (n : ℕ). low_bits n (code_value (code_lengths counts) (base + k))) size
            ∙ ap (low_bits (i + 1)) (value ∙ sym e)
            ∙ sym (low_bits-take (i + 1) (15 - i) bits)
            ∙ ap (λ (n : ℕ). take (i + 1) (low_bits n bits)) (sym all);
      }

-- ---- codes that exist

-- The codes of at most i + d bits have room, and so have those of at most i.
pub room-before : (counts : List ℕ) (i : ℕ) → i < length counts → value_after counts (i + 1) ≤ 2 ^ (i + 1)
    → value_after counts i ≤ 2 ^ i
room-before counts i lt h = omega (arith, value-more counts i lt, pow_more i, h)

rooms : (counts : List ℕ) (d i : ℕ) → i + d ≤ length counts → value_after counts (i + d) ≤ 2 ^ (i + d)
    → value_after counts i ≤ 2 ^ i
rooms counts zero i le h = subst (λ (k : ℕ). value_after counts k ≤ 2 ^ k) (add-zero i) h
rooms counts (suc d) i le h =
    let e : i + suc d ≡ i + 1 + d = omega arith in
    room-before counts i (omega arith) (rooms counts d (i + 1) (omega arith)
    (subst (λ (k : ℕ). value_after counts k ≤ 2 ^ k) e h))

fit-below : (counts : List ℕ) (n i : ℕ) → n ≡ length counts → value_after counts n ≤ 2 ^ n → i ≤ n
    → AllFit (code_lengths counts) (sum (take i counts))
fit-below counts n zero e h le = λ k lt. absurd (omega arith)
fit-below counts n (suc i) e h le =
    let lt : i < length counts = omega arith in
    let t = tried-at counts i (omega arith) in
    let v = value-more counts i lt in
    let d : i + 1 + (n - (i + 1)) ≡ n = omega arith in
    let room : value_after counts (i + 1) ≤ 2 ^ (i + 1) = rooms counts (n - (i + 1)) (i + 1) (omega arith)
    (subst (λ (k : ℕ). value_after counts k ≤ 2 ^ k) (sym d) h) in
    let fit = AllFit-more (code_lengths counts) counts i (sum (take i counts)) (value_after counts i) lt t
    (λ some. omega (arith, v, room)) (fit-below counts n i e h (omega arith)) in
    let next : i + 1 ≡ suc i = omega arith in
    let s : sum (take (suc i) counts) ≡ sum (take i counts) + get_or counts i 0 =
    subst (λ (k : ℕ). sum (take k counts) ≡ sum (take i counts) + get_or counts i 0) next (index-more counts i lt) in
    subst (λ (k : ℕ). AllFit (code_lengths counts) k) (sym s) fit

-- Codes exist where they leave no more than the room of 16 bits.
pub codes-exist : (counts : List ℕ) → length counts ≡ 16 → value_after counts 16 ≤ 65536
    → HasCodes (code_lengths counts)
codes-exist counts e h =
    let all : sum counts ≡ sum (take 16 counts) = ap sum (sym (take_all 16 counts (omega arith))) in
    let l = lengths_length 1 counts in
    λ i lt. fit-below counts 16 16 (sym e) h (omega arith) i (omega (arith, all, l, lt))

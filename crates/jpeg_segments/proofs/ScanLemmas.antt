-- Steps of the parser of scan headers.
use Rattle.std.proofs.Common.{All, sym, true, ◌∙◌, ◌≡◌, ◌≤◌, ℕ, zero, suc, ◌+◌, ◌-◌, ◌*◌, ◌/◌, ◌%◌, ◌<◌, Bool, not}
use Rattle.std.proofs.Common.{cond, List, [], ◌∷◌, ◌++◌, map, length, refl, ap, subst, arith, get_or, nat_le, sum_by}
use Rattle.std.proofs.Common.{append-nil, append_assoc, rules}
use Rattle.std.specs.List.{position, position_or_len}
use Rattle.std.proofs.lemmas.List.{length-map}
use Rattle.std.proofs.lemmas.List.Elements.{All-head, All-map, All-tail, All-weaker}
use Rattle.std.proofs.lemmas.List.Sums.{sum_by-cons}
use Rattle.std.proofs.lemmas.Bool.{leb-true}
use Rattle.jpeg_bits.specs.Reading.{◌>>=◌}
use Rattle.std.specs.Prelude.{◌||◌}
use Rattle.jpeg_segments.specs.declared.frame.CodingProcess.{CodingProcess}
use Rattle.jpeg_segments.specs.declared.frame.Component.{Component as Seen}
use Rattle.jpeg_segments.specs.declared.scan_header.Selector.{Selector as Read}
use Rattle.jpeg_segments.specs.Frame as frames
use Rattle.jpeg_segments.specs.FrameView.{component_in, selector_of}
use Rattle.jpeg_segments.specs.Parts.{HasBlocks}
use Rattle.jpeg_segments.specs.ScanHeader.{IsBandOf, after_of, is_band, is_mcu, IsRising, IsScanOf, IsSelectorOf}
use Rattle.jpeg_segments.specs.ScanHeader.{Selector, blocks_by, scan_of, selector_at, selectors_from}
use Rattle.std.proofs.lemmas.Grind.{common_steps}
use Rattle.std.proofs.lemmas.Bool.Decides.{nat_tests}

pub selectors_from-more : (frame : frames.Frame) (n : ℕ) (front : List Selector) (least : ℕ) (bytes : List ℕ) → 0 < n
    → selectors_from frame n front least bytes
    ≡ (selector_at frame least bytes >>= λ (s : Selector × List ℕ). selectors_from frame (n - 1) (front
    ++ s.0 ∷ []) (s.0.component + 1) s.1)
unfolding selectors_from
selectors_from-more frame n front least bytes h1 = grind (arith, common_steps, nat_tests)

-- the first index at which a test passes
position_or_len-map : {A B : Type 0} (f : A → B) (test : B → Bool) (xs : List A)
    → position_or_len test (map f xs) ≡ position_or_len (λ x. test (f x)) xs
position_or_len-map f test [] = refl
position_or_len-map f test (x ∷ xs) = ap (λ n. cond (not (test (f x))) (1 + n) 0) (position_or_len-map f test xs)

pub position-map : {A B : Type 0} (f : A → B) (test : B → Bool) (xs : List A)
    → position test (map f xs) ≡ position (λ x. test (f x)) xs
position-map f test xs = rw (position_or_len-map f test xs, length-map xs f) refl

-- the blocks of the component at an index
pub blocks-at : (xs : List Seen) (i : ℕ) (d : Seen) → i < length xs
    → blocks_by (map component_in xs) i
    ≡ (get_or xs i d).horizontal_sampling_factor * (get_or xs i d).vertical_sampling_factor
blocks-at [] i d h = absurd (omega arith)
blocks-at (x ∷ xs) zero d h = refl
blocks-at (x ∷ xs) (suc i) d h = blocks-at xs i d (omega arith)

-- ---- what each scan that is read has

-- a field of each, where each has it so
all-of : (P : Selector → Type 0) (Q : ℕ → Type 0) (field : Selector → ℕ) → ((s : Selector) → P s → Q (field s))
    → (xs : List Selector) → All P xs → All Q (map field xs)
all-of P Q field f xs h = All-map Q field xs (All-weaker P (λ s. Q (field s)) f xs h)

-- a band that a header may name passes the rules by the indices that it stands for
legal-again : (p : CodingProcess) (count first last high low : ℕ) → is_band p count first last high low ≡ true
    → is_band p count first (after_of p last - 1) high low ≡ true
legal-again p count first last high low h1 = grind (arith, nat_tests)

-- the blocks of an MCU, as the code keeps them
kept-blocks : (frame : frames.Frame) (xs : List Read) → All (HasBlocks frame) xs
    → sum_by (λ s. blocks_by frame.components s.component) (map selector_of xs) ≡ sum_by (λ s. s.blocks) xs
kept-blocks frame [] all = refl
kept-blocks frame (x ∷ xs) all =
    let one = All-head (HasBlocks frame) x xs all in
    search (rules, sum_by-cons, kept-blocks frame xs (All-tail (HasBlocks frame) x xs all))

pub mcu_of_blocks : (frame : frames.Frame) (xs : List Read) → All (HasBlocks frame) xs
    → is_mcu frame (map selector_of xs) ≡ (nat_le (length xs) 1 || nat_le (sum_by (λ s. s.blocks) xs) 10)
mcu_of_blocks frame xs all = rw (kept-blocks frame xs all, length-map xs selector_of) refl

-- the same, by the indices of the components
blocks-by : (frame : frames.Frame) (xs : List Selector) → sum_by (blocks_by frame.components) (map (λ x. x.component) xs)
    ≡ sum_by (λ x. blocks_by frame.components x.component) xs
blocks-by frame [] = refl
blocks-by frame (x ∷ xs) = search (rules, sum_by-cons, blocks-by frame xs)

few : (count blocks : ℕ) → (nat_le count 1 || nat_le blocks 10) ≡ true → 2 ≤ count → blocks ≤ 10
few count blocks e h = grind (arith, common_steps, nat_le, leb-true)

-- ---- indices that rise

-- Places that rise after those in front, from the least on, make the whole rise.
abbrev pub RisesTo : List ℕ → ℕ → Type 0
RisesTo front least = (more : List ℕ) → IsRising least more → IsRising 0 (front ++ more)

pub rises-more : (front : List ℕ) (least index : ℕ) → RisesTo front least → least ≤ index
    → RisesTo (front ++ index ∷ []) (index + 1)
unfolding IsRising
rises-more front least index rises h more after = search (rules, append_assoc)

pub rises-all : (front : List ℕ) (least : ℕ) → RisesTo front least → IsRising 0 front
unfolding IsRising
rises-all front least rises = subst (IsRising 0) (append-nil front) (rises [] tt)

coded-by : (p : CodingProcess) (count first last high low : ℕ) → is_band p count first last high low ≡ true
    → IsBandOf p first (after_of p last) high low
coded-by p count first last high low h1 = grind (arith, nat_tests)

pub is-scan : (frame : frames.Frame) (xs : List Selector) (first last levels : ℕ) → 1 ≤ length xs → length xs ≤ 4
    → All (IsSelectorOf frame) xs
    → IsRising 0 (map (λ x. x.component) xs) → is_mcu frame xs ≡ true
    → is_band frame.process (length xs) first last (levels / 16) (levels % 16) ≡ true
    → levels % 16 < frame.precision → IsScanOf frame (scan_of frame xs first last levels)
unfolding scan_of
is-scan frame xs first last levels some most indices rising mcu band below =
    let count = length-map xs (λ x. x.component) in
    record {
      some = rw count some;
      most = rw count most;
      components = all-of (IsSelectorOf frame) (λ n. n < length frame.components) (λ x. x.component)
          (λ x p. p.component) xs indices;
      rising = rising;
      few_blocks = search (rules, blocks-by, few);
      dc_length = length-map xs (λ x. x.dc) ∙ sym count;
      dc_destinations = all-of (IsSelectorOf frame) (λ n. n ≤ 3) (λ x. x.dc) (λ x p. p.dc) xs indices;
      ac_length = length-map xs (λ x. x.ac) ∙ sym count;
      ac_destinations = all-of (IsSelectorOf frame) (λ n. n ≤ 3) (λ x. x.ac) (λ x p. p.ac) xs indices;
      coded = coded-by frame.process (length xs) first last _ _ band;
      legal = rw count (legal-again frame.process (length xs) first last _ _ band);
      below = below;
      same_point = refl;
    }

pub ruleset position_rules = (blocks-at, position-map)

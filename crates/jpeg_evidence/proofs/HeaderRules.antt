-- Headers of frames and scans keep the rules of T.81's tables where they keep those of the definitions.
use Rattle.std.proofs.Common.{rules, ◌≡◌, ◌≢◌, ◌⊎◌, inl, inr, ℕ, zero, suc, ◌+◌, ◌<◌, ◌≤◌, ◌==◌, ◌||◌}
use Rattle.std.proofs.Common.{Bool, true, false, List, [], ◌∷◌, ◌++◌, map, length, Some, get_or}
use Rattle.std.proofs.Common.{refl, sym, ap, subst, ◌∙◌, arith, sum_by}
use Rattle.std.specs.Prelude.{nat_le, slice_get, zip}
use Rattle.std.specs.List.{AllByRecursion, position_or_len}
use Rattle.std.proofs.lemmas.Bool.{cases_lt, eq-eqb, eqb-true, le-leb, leb-true, lt-ltb, ltb-true, ne_eqb, or_parts}
use Rattle.std.proofs.lemmas.Bool.Decides.{nat_tests}
use Rattle.std.proofs.lemmas.Grind.{common_steps}
use Rattle.std.proofs.lemmas.List.Quantifiers.{position-Some}
use Rattle.std.proofs.lemmas.List.Sums.{position_or_len_is, sum_by-cons}
use lib.ListN.{length-map}
use Rattle.jpeg_segments.specs.declared.frame.CodingProcess.{CodingProcess}
use Rattle.jpeg_segments.specs.declared.frame.CodingProcess.TheVariants.{DctProgressive, DctSequential, Lossless}
use Rattle.jpeg_segments.specs.Frame.{Component, Factors, Frame, is_count, is_destination, is_factor, is_lossless_number}
use Rattle.jpeg_segments.specs.Frame.{is_precision, is_taken}
use Rattle.jpeg_segments.specs.HuffmanTables.{greatest_destination}
use Rattle.jpeg_segments.specs.ScanHeader.{blocks_by, index_of, is_band, scan_of, Selector}
use Rattle.jpeg_segments.specs.ScanHeaders.{AreChoices, IsChoice, IsScan, scan_written, ScanHeader, selectors_in}
use Rattle.jpeg_segments.specs.WrittenSegments.{AreComponents, FrameHeader, IsComponent, IsFrameHeader}
use Rattle.jpeg_meaning.proofs.Encoded.EncodedParts.{all-weaker}
use Rattle.jpeg_meaning.proofs.Encoded.EncodedScripts.{blank}
use Rattle.jpeg_meaning.proofs.Partial.FittingFrames.{factor-bounds}
use Rattle.jpeg_evidence.specs.HeaderRules.{AreDistinct, AreInOrder, blocks_of, KeepsBandRules, KeepsChoiceRules}
use Rattle.jpeg_evidence.specs.HeaderRules.{KeepsComponentRules, KeepsFrameRules, KeepsScanRules}

-- ---- frame headers

range-factor : (n : ℕ) → 1 ≤ n → n ≤ 4 → is_factor n ≡ true
range-factor n a b = grind (arith, nat_tests)

destination-low : (number q : ℕ) → number ≤ 3 → is_destination (is_lossless_number number) q ≡ true → q ≤ 3
destination-low (suc (suc (suc zero))) q le h = let e = eqb-true q 0 h in omega arith
destination-low (suc (suc (suc (suc n)))) q le h = absurd (omega arith)
destination-low number q le h = leb-true q 3 h

destination-zero : (number q : ℕ) → number ≡ 3 → is_destination (is_lossless_number number) q ≡ true → q ≡ 0
destination-zero (suc (suc (suc zero))) q e h = eqb-true q 0 h
destination-zero number q e h = absurd (omega arith)

low-destination : (number q : ℕ) → number ≤ 3 → q ≤ 3 → (number ≡ 3 → q ≡ 0)
    → is_destination (is_lossless_number number) q ≡ true
low-destination (suc (suc (suc zero))) q le h z = eq-eqb q 0 (z refl)
low-destination (suc (suc (suc (suc n)))) q le h z = absurd (omega arith)
low-destination number q le h z = le-leb q 3 h

-- a component after those in front keeps the rules, and has another identifier
abbrev IsNotTaken : List Factors → Factors → Type 0
IsNotTaken front c = is_taken front c.identifier ≡ false

component-kept : (number : ℕ) (front : List Factors) (c : Factors) → number ≤ 3 → IsComponent number front c
    → KeepsComponentRules number c
component-kept number front c le is = search (rules, factor-bounds, destination-low, destination-zero)

kept-component : (number : ℕ) (front : List Factors) (c : Factors) → number ≤ 3 → IsNotTaken front c
    → KeepsComponentRules number c → IsComponent number front c
kept-component number front c le new keeps = search (rules, range-factor, low-destination)

-- taken by one more
taken-more : (front : List Factors) (c d : Factors) → IsNotTaken (front ++ c ∷ []) d
    → IsNotTaken front d × (c.identifier ≢ d.identifier)
taken-more [] c d h = search (rules, eq-eqb, or_parts)
taken-more (x ∷ front) c d h =
    let parts = or_parts (x.identifier == d.identifier) (is_taken (front ++ c ∷ []) d.identifier) h in
    let rest = taken-more front c d parts.1 in
    (rw (parts.0, rest.0) refl, rest.1)

more-taken : (front : List Factors) (c d : Factors) → IsNotTaken front d → c.identifier ≢ d.identifier
    → IsNotTaken (front ++ c ∷ []) d
more-taken [] c d h ne = rw (ne_eqb c.identifier d.identifier ne) refl
more-taken (x ∷ front) c d h ne =
    let parts = or_parts (x.identifier == d.identifier) (is_taken front d.identifier) h in
    rw (parts.0, more-taken front c d parts.1 ne) refl

record AreKept (number : ℕ) (front cs : List Factors) : Type 0 where
  new : AllByRecursion (IsNotTaken front) cs
  kept : AllByRecursion (KeepsComponentRules number) cs
  distinct : AreDistinct cs

components-kept : (number : ℕ) (front cs : List Factors) → number ≤ 3 → AreComponents number front cs
    → AreKept number front cs
unfolding AreComponents AreDistinct
components-kept number front [] le are = record { new = tt; kept = tt; distinct = tt }
components-kept number front (c ∷ cs) le are =
    search (rules, all-weaker, taken-more, component-kept, components-kept number (front ++ c ∷ []) cs le are.1)

all-both : {A : Type 0} (P Q R : A → Type 0) (xs : List A) → ((x : A) → P x → Q x → R x) → AllByRecursion P xs
    → AllByRecursion Q xs → AllByRecursion R xs
all-both P Q R [] f h k = tt
all-both P Q R (x ∷ xs) f h k = (f x h.0 k.0, all-both P Q R xs f h.1 k.1)

kept-components : (number : ℕ) (front cs : List Factors) → number ≤ 3 → AllByRecursion (IsNotTaken front) cs
    → AllByRecursion (KeepsComponentRules number) cs → AreDistinct cs → AreComponents number front cs
unfolding AreComponents AreDistinct
kept-components number front [] le new kept distinct = tt
kept-components number front (c ∷ cs) le new kept distinct = (
  kept-component number front c le new.0 kept.0,
  kept-components number (front ++ c ∷ []) cs le
      (all-both (IsNotTaken front) (λ d. c.identifier ≢ d.identifier) (IsNotTaken (front ++ c ∷ [])) cs
      (λ d h ne. more-taken front c d h ne) new.1 distinct.0)
      kept.1 distinct.1,
)

none-taken : (cs : List Factors) → AllByRecursion (IsNotTaken []) cs
none-taken [] = tt
none-taken (c ∷ cs) = (refl, none-taken cs)

-- the precision and the number of components
record AreNumbers (number precision count : ℕ) : Type 0 where
  baseline : number ≡ 0 → precision ≡ 8
  by_dct : number ≤ 2 → precision ≢ 8 → precision ≡ 12
  lossless : number ≡ 3 → precision ≤ 16
  some : 1 ≤ count
  few : number ≡ 2 → count ≤ 4

numbers-kept : (number precision count : ℕ) → number ≤ 3 → is_precision number precision ≡ true
    → is_count number count ≡ true → AreNumbers number precision count
numbers-kept (suc (suc (suc zero))) precision count le p n = search (rules, leb-true, nat_tests)
numbers-kept (suc (suc (suc (suc k)))) precision count le p n = absurd (omega arith)
numbers-kept number precision count le p n = search (rules, nat_tests)

kept-precision : (number precision : ℕ) → number ≤ 3 → (number ≡ 0 → precision ≡ 8)
    → (number ≤ 2 → precision ≢ 8 → precision ≡ 12) → (number ≡ 3 → precision ≤ 16)
    → is_precision number precision ≡ true
kept-precision zero precision le a b c = let e = a refl in grind (arith, nat_tests)
kept-precision (suc zero) precision le a b c = let e = b (omega arith) in grind (arith, nat_tests)
kept-precision (suc (suc zero)) precision le a b c = let e = b (omega arith) in grind (arith, nat_tests)
kept-precision (suc (suc (suc zero))) precision le a b c = le-leb precision 16 (c refl)
kept-precision (suc (suc (suc (suc k)))) precision le a b c = absurd (omega arith)

kept-count : (number count : ℕ) → number ≤ 3 → 1 ≤ count → (number ≡ 2 → count ≤ 4) → is_count number count ≡ true
kept-count zero count le a b = grind (arith, nat_tests)
kept-count (suc zero) count le a b = grind (arith, nat_tests)
kept-count (suc (suc zero)) count le a b = let e = b refl in grind (arith, nat_tests)
kept-count (suc (suc (suc zero))) count le a b = grind (arith, nat_tests)
kept-count (suc (suc (suc (suc k)))) count le a b = absurd (omega arith)

pub frame-kept : (number : ℕ) (h : FrameHeader) → IsFrameHeader number h → KeepsFrameRules number h
frame-kept number h is =
    let numbers = numbers-kept number h.precision (length h.components) is.numbered is.precise is.counted in
    let cs = components-kept number [] h.components is.numbered is.components in
    record {
      numbered = is.numbered;
      baseline = numbers.baseline;
      by_dct = numbers.by_dct;
      lossless = numbers.lossless;
      wide = is.wide;
      high = is.high;
      some = numbers.some;
      few = numbers.few;
      components = cs.kept;
      distinct = cs.distinct;
    }

pub kept-frame : (number : ℕ) (h : FrameHeader) → KeepsFrameRules number h → IsFrameHeader number h
kept-frame number h keeps = grind (arith, common_steps, kept-precision, kept-count, kept-components, none-taken)

-- ---- the components of a scan

-- what is at an index, by both ways of looking
record IsAt (cs : List Component) (i : ℕ) (d : Component) : Type 0 where
  component : Component
  stands : slice_get cs i ≡ Some component
  same : component ≡ get_or cs i d

at-index : (cs : List Component) (i : ℕ) (d : Component) → i < length cs → IsAt cs i d
at-index [] i d h = absurd (omega arith)
at-index (c ∷ cs) zero d h = record { component = c; stands = refl; same = refl }
at-index (c ∷ cs) (suc i) d h = search (rules, at-index cs i d (omega arith))

get-same : (cs : List Component) (i : ℕ) (d c : Component) → slice_get cs i ≡ Some c → (i < length cs) × (get_or cs i d ≡ c)
get-same [] i d c e = absurd (let n : ⊥ = cc in n)
get-same (x ∷ cs) zero d c e = (omega arith, cc)
get-same (x ∷ cs) (suc i) d c e = let r = get-same cs i d c e in (let h = r.0 in omega arith, r.1)

eqb-not : (a b : ℕ) → (a == b) ≡ false → a ≢ b
eqb-not a b e f = let g : true ≡ false = sym (eq-eqb a b f) ∙ e in let n : ⊥ = cc in n

destination-few : (b : Bool) (d : ℕ) → d ≤ greatest_destination (Some b) → (d ≤ 3) × (b ≡ true → d ≤ 1)
destination-few true d h = (omega arith, λ e. h)
destination-few false d h = (h, λ e. absurd (let n : ⊥ = cc in n))

few-destination : (b : Bool) (d : ℕ) → d ≤ 3 → (b ≡ true → d ≤ 1) → d ≤ greatest_destination (Some b)
few-destination true d h k = k refl
few-destination false d h k = h

-- the component at the index that is found has the identifier, and none before has it
choice-kept : (frame : Frame) (least : ℕ) (c : ℕ × Selector) → IsChoice frame least c → KeepsChoiceRules frame c
choice-kept frame least c is =
    let test : Component → Bool = λ k. k.factors.identifier == c.0 in
    let found = position-Some test frame.components c.1.component blank is.identified in
    let at = at-index frame.components c.1.component blank found.0 in
    let dc = destination-few frame.is_baseline c.1.dc is.dc_bounded in
    let ac = destination-few frame.is_baseline c.1.ac is.ac_bounded in
    record {
      component = at.component;
      stands = at.stands;
      named = ap (λ (k : Component). k.factors.identifier) at.same ∙ eqb-true _ c.0 found.1;
      is_first = λ i other lt e.
          eqb-not other.factors.identifier c.0
          (subst (λ (k : Component). (k.factors.identifier == c.0) ≡ false)
          (get-same frame.components i blank other e).1 (found.2 i lt));
      dc = dc.0;
      ac = ac.0;
      baseline_dc = dc.1;
      baseline_ac = ac.1;
    }

index-is : (cs : List Component) (i id : ℕ) (k : Component) → slice_get cs i ≡ Some k → k.factors.identifier ≡ id
    → ((j : ℕ) (other : Component) → j < i → slice_get cs j ≡ Some other → other.factors.identifier ≢ id)
    → index_of cs id ≡ Some i
index-is cs i id k e named first =
    let test : Component → Bool = λ c. c.factors.identifier == id in
    let here = get-same cs i blank k e in
    let low : i < length cs = here.0 in
    let at : position_or_len test cs ≡ i = position_or_len_is test cs i blank (omega arith)
    (λ j lt. let r = at-index cs j blank (omega arith) in
    subst (λ (c : Component). test c ≡ false) r.same (ne_eqb r.component.factors.identifier id (first j r.component lt r.stands)))
    (λ h. subst (λ (c : Component). test c ≡ true) (sym here.1) (eq-eqb k.factors.identifier id named)) in
    rw (at, lt-ltb i (length cs) low) refl

kept-choice : (frame : Frame) (least : ℕ) (c : ℕ × Selector) → least ≤ c.1.component → KeepsChoiceRules frame c
    → IsChoice frame least c
kept-choice frame least c low keeps = search (rules, index-is, few-destination)

record ChoicesKept (frame : Frame) (least : ℕ) (cs : List (ℕ × Selector)) : Type 0 where
  low : AllByRecursion (λ c. least ≤ c.1.component) cs
  kept : AllByRecursion (KeepsChoiceRules frame) cs
  ordered : AreInOrder cs

choices-kept : (frame : Frame) (least : ℕ) (cs : List (ℕ × Selector)) → AreChoices frame least cs
    → ChoicesKept frame least cs
unfolding AreChoices AreInOrder
choices-kept frame least [] are = record { low = tt; kept = tt; ordered = tt }
choices-kept frame least (c ∷ cs) are =
    let more = choices-kept frame (c.1.component + 1) cs are.1 in
    let here = are.0.ordered in
    record {
      low = (
        here,
        all-weaker (λ d. c.1.component + 1 ≤ d.1.component) (λ d. least ≤ d.1.component) cs
            (λ d h. omega arith) more.low,
      );
      kept = (choice-kept frame least c are.0, more.kept);
      ordered = (
        all-weaker (λ d. c.1.component + 1 ≤ d.1.component) (λ d. c.1.component < d.1.component) cs
            (λ d h. omega arith) more.low,
        more.ordered,
      );
    }

kept-choices : (frame : Frame) (least : ℕ) (cs : List (ℕ × Selector)) → AllByRecursion (λ c. least ≤ c.1.component) cs
    → AllByRecursion (KeepsChoiceRules frame) cs → AreInOrder cs → AreChoices frame least cs
unfolding AreChoices AreInOrder
kept-choices frame least [] low kept ordered = tt
kept-choices frame least (c ∷ cs) low kept ordered = (
  kept-choice frame least c low.0 kept.0,
  kept-choices frame (c.1.component + 1) cs
      (all-weaker (λ d. c.1.component < d.1.component) (λ d. c.1.component + 1 ≤ d.1.component) cs (λ d h. omega arith)
      ordered.0) kept.1 ordered.1,
)

all-low : (cs : List (ℕ × Selector)) → AllByRecursion (λ c. 0 ≤ c.1.component) cs
all-low [] = tt
all-low (c ∷ cs) = (omega arith, all-low cs)

-- ---- the blocks of an MCU

blocks-same : (cs : List Component) (i : ℕ) → blocks_by cs i ≡ blocks_of (slice_get cs i)
blocks-same [] i = refl
blocks-same (c ∷ cs) zero = refl
blocks-same (c ∷ cs) (suc i) = blocks-same cs i

sums-same : (frame : Frame) (xs : List Selector)
    → sum_by (λ s. blocks_by frame.components s.component) xs
    ≡ sum_by (λ s. blocks_of (slice_get frame.components s.component)) xs
sums-same frame [] = refl
sums-same frame (x ∷ xs) = search (rules, sum_by-cons, blocks-same, sums-same frame xs)

few : (count blocks : ℕ) → (nat_le count 1 || nat_le blocks 10) ≡ true → 2 ≤ count → blocks ≤ 10
few count blocks e h = grind (arith, common_steps, nat_le, leb-true)

few-back : (count blocks : ℕ) → (2 ≤ count → blocks ≤ 10) → (count < 2) ⊎ (2 ≤ count)
    → (nat_le count 1 || nat_le blocks 10) ≡ true
few-back count blocks h (inl less) = rw (le-leb count 1 (omega arith)) refl
few-back count blocks h (inr more) = go (nat_le count 1)
  where
    go : (b : Bool) → (b || nat_le blocks 10) ≡ true
    go true = refl
    go false = le-leb blocks 10 (h more)

-- ---- bands

band-kept : (process : CodingProcess) (count : ℕ) (h : ScanHeader)
    → is_band process count h.first h.last h.high h.low ≡ true → KeepsBandRules process count h
band-kept DctSequential count h e = search (rules, nat_tests)
band-kept DctProgressive count h e = search (rules, nat_tests)
band-kept Lossless count h e = (grind (arith, nat_tests), grind (arith, nat_tests), grind (arith, nat_tests))

sequential-band : (first last high low : ℕ) → first ≡ 0 → (last ≢ 0 → last ≡ 63) → high ≡ 0 → low ≡ 0
    → is_band DctSequential 1 first last high low ≡ true
sequential-band first last high low a b c d = grind (arith, nat_tests)

progressive-band : (count first last high low : ℕ) → first ≤ last → last ≤ 63 → (first ≡ 0 → last ≡ 0)
    → (first ≢ 0 → count ≡ 1) → high ≤ 13 → low ≤ 13 → (high ≢ 0 → high ≡ low + 1)
    → is_band DctProgressive count first last high low ≡ true
progressive-band count first last high low a b c d e f g = grind (arith, nat_tests)

lossless-band : (first last high : ℕ) → first ≤ 7 → last ≡ 0 → high ≡ 0 → is_band Lossless 1 first last high 0 ≡ true
lossless-band first last high a b c = grind (arith, nat_tests)

kept-band : (process : CodingProcess) (count : ℕ) (h : ScanHeader) → KeepsBandRules process count h
    → is_band process count h.first h.last h.high h.low ≡ true
kept-band DctSequential count h k = sequential-band h.first h.last h.high h.low k.0 k.1 k.2 k.3
kept-band DctProgressive count h k = search (rules, progressive-band)
kept-band Lossless count h k = lossless-band h.first h.last h.high k.0 k.1 k.2

-- ---- scan headers

pub scan-kept : (frame : Frame) (h : ScanHeader) → IsScan frame h → KeepsScanRules frame h
scan-kept frame h is = search (rules, choices-kept, length-map, sums-same, few, sum_by, ltb-true, band-kept)

pub kept-scan : (frame : Frame) (h : ScanHeader) → KeepsScanRules frame h → IsScan frame h
kept-scan frame h keeps =
    let count : length (selectors_in h) ≡ length h.choices = length-map h.choices (λ c. c.1) in
    record {
      some = keeps.some;
      most = keeps.most;
      choices = kept-choices frame 0 h.choices (all-low h.choices) keeps.choices keeps.ordered;
      fits = few-back (length (selectors_in h))
          (sum_by (λ s. blocks_by frame.components s.component) (selectors_in h))
          (λ two. subst (λ (n : ℕ). n ≤ 10) (sym (sums-same frame (selectors_in h))) (keeps.few_blocks (omega arith)))
          (cases_lt (length (selectors_in h)) 2);
      narrow = keeps.narrow;
      precise = lt-ltb h.low frame.precision keeps.precise;
      band = kept-band frame.process (length h.choices) h keeps.band;
    }

-- ---- what a scan codes

zip-maps : {A B C D : Type 0} (f : A → B) (g : A → C) (k : A → D) (xs : List A)
    → zip (map f xs) (zip (map g xs) (map k xs)) ≡ map (λ x. (f x, (g x, k x))) xs
zip-maps f g k [] = refl
zip-maps f g k (x ∷ xs) = ap (λ l. (f x, (g x, k x)) ∷ l) (zip-maps f g k xs)

pub slots-are : (frame : Frame) (h : ScanHeader)
    → zip (scan_written frame h).components
    (zip (scan_written frame h).dc_destinations (scan_written frame h).ac_destinations)
    ≡ map (λ s. (s.component, (s.dc, s.ac))) (selectors_in h)
unfolding scan_of
slots-are frame h = zip-maps (λ s. s.component) (λ s. s.dc) (λ s. s.ac) (selectors_in h)

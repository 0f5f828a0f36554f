-- Scan headers of sequential frames (T.81, B.2.3).
use Rattle.std.proofs.Common.{◌≡◌, ℕ, ◌+◌, ◌-◌, ◌/◌, ◌%◌, ◌<◌, ◌≤◌, Bool, true, false, ◌&&◌, ◌||◌, ◌==◌}
use Rattle.std.proofs.Common.{List, [], ◌∷◌, length, map, refl, sym, ap, ◌∙◌, subst, arith, Some}
use Rattle.std.proofs.lemmas.Bool.{and_parts, eq-eqb, eqb-true}
use Rattle.std.proofs.lemmas.List.{length-take-le}
use Rattle.std.proofs.lemmas.List.Quantifiers.{position-Some}
use Rattle.std.specs.List.{AllByRecursion}
use Rattle.std.specs.Prelude.{zip}
use Rattle.jpeg_bits.specs.Passes.{whole_pass}
use Rattle.jpeg_segments.specs.declared.frame.CodingProcess.{CodingProcess}
use Rattle.jpeg_segments.specs.declared.frame.CodingProcess.TheVariants.{DctSequential}
use Rattle.jpeg_segments.specs.Frame.{Component as WrittenComponent, Factors, Frame as WrittenFrame}
use Rattle.jpeg_segments.specs.Frame.{frame_of, process_of}
use Rattle.jpeg_segments.specs.HuffmanTables.{greatest_destination}
use Rattle.jpeg_segments.specs.ScanHeader.{Selector, is_band, is_sequential_band, after_of, scan_of}
use Rattle.jpeg_segments.specs.ScanHeaders.{AreChoices, IsChoice, IsScan, ScanHeader, scan_written}
use Rattle.jpeg_segments.specs.WrittenSegments.{nibbles}
use Rattle.jpeg_meaning.specs.ScanSegments.{pass_of}
use Rattle.zaxbriar_strict.specs.Heads.{IsSameFrame, IsSentOnce, IsSequential, ReadsHeader, choice_of, header_of}
use Rattle.zaxbriar_strict.specs.Heads.{members_of, number_of, written_frame}
use Rattle.zaxbriar_strict.specs.Members.{HaveTables}
use Rattle.zaxbriar_strict.specs.ScanData.{HasMembers}
use Rattle.zaxbriar_strict.specs.declared.frame.Frame.{Frame}
use Rattle.zaxbriar_strict.specs.declared.frame.Process.{Process}
use Rattle.zaxbriar_strict.specs.declared.frame.Process.TheVariants.{Baseline, Extended, Lossless, Progressive}
use Rattle.zaxbriar_strict.specs.declared.scan.Member.{Member}
use Rattle.zaxbriar_strict.specs.declared.scan.Scan.{Scan}
use Rattle.zaxbriar_strict.proofs.FrameComponents.{no_component, written-count}
use Rattle.zaxbriar_strict.proofs.SameFrames.{same-length}

-- ---- frames

process-by : (p : Process) → number_of p ≤ 1 → process_of (number_of p) ≡ DctSequential
process-by Baseline h = refl
process-by Extended h = refl
process-by Progressive h = absurd (omega arith)
process-by Lossless h = absurd (omega arith)

pub process-is : (f : Frame) → IsSequential f → (written_frame f).process ≡ DctSequential
unfolding frame_of
process-is f h = process-by f.process h

-- ---- the components of a scan

destination-most : (b : Bool) → greatest_destination (Some b) ≤ 3
destination-most true = omega arith
destination-most false = omega arith

chosen-within : (frame : WrittenFrame) (least : ℕ) (c : ℕ × Selector) → IsChoice frame least c
    → c.1.component < length frame.components
chosen-within frame least c is =
    (position-Some (λ (k : WrittenComponent). k.factors.identifier == c.0) frame.components c.1.component no_component
    is.identified).0

module _ (frame : WrittenFrame) (factors : List Factors) where
  within-from : (least : ℕ) (ms : List Member) → AreChoices frame least (map (choice_of factors) ms)
      → AllByRecursion (λ (m : Member). m.component < length frame.components) ms
  unfolding AreChoices
  within-from least [] all = tt
  within-from least (m ∷ ms) all =
      (chosen-within frame least (choice_of factors m) all.0, within-from (m.component + 1) ms all.1)

  tables-from : (least : ℕ) (ms : List Member) → AreChoices frame least (map (choice_of factors) ms) → HaveTables 3 ms
  unfolding AreChoices
  tables-from least [] all = tt
  tables-from least (m ∷ ms) all =
      let most = destination-most frame.is_baseline in
      let d = all.0.dc_bounded in
      let a = all.0.ac_bounded in
      ((omega (arith, most, d), omega (arith, most, a)), tables-from (m.component + 1) ms all.1)

pub sent-once : (f : Frame) → IsSequential f → IsSentOnce f
sent-once f h = λ e. omega (arith, h, e)

-- A scan has some components of the frame.
pub has-members : (payload : List ℕ) (s : Scan) (old new : Frame) → length s.members ≡ 4
    → ReadsHeader payload s old new → HasMembers old s
has-members payload s old new sized head =
    let few = head.counted in
    let factors = (header_of old).components in
    record {
      counted = sym (length-take-le s.count s.members (omega (arith, few, sized)));
      some = head.some;
      within = subst (λ (n : ℕ). AllByRecursion (λ (m : Member). m.component < n) (members_of s)) (written-count old)
          (within-from (written_frame old) factors 0 (members_of s) head.choices);
      tables = tables-from (written_frame old) factors 0 (members_of s) head.choices;
    }

pub same-members : (old new : Frame) (s : Scan) → IsSameFrame old new → HasMembers old s → HasMembers new s
same-members old new s same has = record {
  counted = has.counted;
  some = has.some;
  within = subst (λ (n : ℕ). AllByRecursion (λ (m : Member). m.component < n) (members_of s)) (sym (same-length same))
      has.within;
  tables = has.tables;
}

-- ---- what it sends

-- a scan of a sequential frame sends all bits of all coefficients
pub pass-whole : (frame : WrittenFrame) (h : ScanHeader) → frame.process ≡ DctSequential → IsScan frame h
    → pass_of (scan_written frame h) ≡ whole_pass
unfolding pass_of scan_of
pass-whole frame h e is =
    let band : is_sequential_band h.first h.last h.high h.low ≡ true =
    subst (λ (p : CodingProcess). is_band p (length h.choices) h.first h.last h.high h.low ≡ true) e is.band in
    let x = and_parts (h.first == 0) ((h.last == 0 || h.last == 63) && (h.high == 0 && h.low == 0)) band in
    let y = and_parts (h.last == 0 || h.last == 63) (h.high == 0 && h.low == 0) x.1 in
    let z = and_parts (h.high == 0) (h.low == 0) y.1 in
    let first : h.first ≡ 0 = eqb-true h.first 0 x.0 in
    let high : h.high ≡ 0 = eqb-true h.high 0 z.0 in
    let low : h.low ≡ 0 = eqb-true h.low 0 z.1 in
    let is_first : (nibbles h.high h.low / 16 == 0) ≡ true =
    eq-eqb (nibbles h.high h.low / 16) 0 (omega (arith, high, low)) in
    let se : after_of frame.process h.last - 1 ≡ 63 = ap (λ (p : CodingProcess). after_of p h.last - 1) e in
    let al : nibbles h.high h.low % 16 ≡ 0 = omega (arith, high, low) in
    λ i. record { is_first = is_first i; ss = first i; se = se i; al = al i }

-- ---- its slots

-- the index of a component, and the destinations of its tables
abbrev pub slot_of : Member → ℕ × (ℕ × ℕ)
slot_of m = (m.component, (m.dc, m.ac))

abbrev slots_in : List (ℕ × Selector) → List (ℕ × (ℕ × ℕ))
slots_in choices =
    let selectors = map (λ (c : ℕ × Selector). c.1) choices in
    zip (map (λ (t : Selector). t.component) selectors)
    (zip (map (λ (t : Selector). t.dc) selectors) (map (λ (t : Selector). t.ac) selectors))

slots-of : (factors : List Factors) (ms : List Member) → slots_in (map (choice_of factors) ms) ≡ map slot_of ms
slots-of factors [] = refl
slots-of factors (m ∷ ms) = ap (λ (l : List (ℕ × (ℕ × ℕ))). slot_of m ∷ l) (slots-of factors ms)

pub slots-are : (frame : WrittenFrame) (h : ScanHeader) (factors : List Factors) (ms : List Member)
    → h.choices ≡ map (choice_of factors) ms → let scan = scan_written frame h in
    zip scan.components (zip scan.dc_destinations scan.ac_destinations) ≡ map slot_of ms
unfolding scan_of
slots-are frame h factors ms e = ap slots_in e ∙ slots-of factors ms

-- A scan of some components of a frame, as a writer sends it: its tables, and what it sends.
use Rattle.std.proofs.Common.{◌≡◌, ℕ, zero, suc, ◌+◌, Bool, true, false, true≢false, List, [], ◌∷◌, map, set, get_or}
use Rattle.std.proofs.Common.{is_some, Option, None, Some, refl, sym, ap, ap₂, ◌∙◌, subst, arith, inl, inr}
use Rattle.std.proofs.lemmas.List.{get_or-set_other}
use Rattle.std.proofs.lemmas.Option.{same_Some}
use Rattle.std.specs.List.{AllByRecursion}
use Rattle.std.specs.Prelude.{◌==◌, if◌then◌else◌, nat_lt, slice_get}
use Rattle.jpeg_bits.specs.Codes.{Table}
use Rattle.jpeg_bits.specs.DefaultTables.{filled, names, with_defaults}
use Rattle.jpeg_bits.specs.DefaultTables.{chrominance_ac, chrominance_dc, luminance_ac, luminance_dc}
use Rattle.jpeg_bits.specs.Passes.{Pass, whole_pass}
use Rattle.jpeg_segments.specs.Frame.{Component, Factors, Frame as WrittenFrame}
use Rattle.jpeg_segments.specs.HuffmanTables.{Tables as CodeTables}
use Rattle.jpeg_segments.specs.ScanHeader.{Scan}
use Rattle.jpeg_segments.specs.ScanHeaders.{AreChoices, ScanHeader, scan_written}
use Rattle.jpeg_meaning.specs.Found.{Said}
use Rattle.jpeg_meaning.specs.Levels.{IsLegal, Levels, nothing_sent}
use Rattle.jpeg_meaning.specs.ScanSegments.{Coding, pass_of, tables_of}
use Rattle.jpeg_meaning.specs.WrittenScans.{AreInForce, HasCodings, HasTable, IsComplete, IsLegalScan, IsTableAt, levels_after}
use Rattle.jpeg_bits.specs.declared.huffman.codes.HuffmanTableClass.{HuffmanTableClass}
use Rattle.jpeg_bits.specs.declared.huffman.codes.HuffmanTableClass.TheVariants.{AC, DC}
use Rattle.jpeg_meaning.proofs.Order.Apart.{At}
use Rattle.zaxbriar_strict.specs.Heads.{AreUnsent, choice_of, sent_with}
use Rattle.zaxbriar_strict.specs.Installed.{codes_of, steps_of}
use Rattle.zaxbriar_strict.specs.ScanData.{AreCodedBy}
use Rattle.zaxbriar_strict.specs.declared.scan.Member.{Member}
use Rattle.zaxbriar_strict.specs.declared.tables.Tables.{Tables}
use Rattle.zaxbriar_strict.proofs.DecidedFrames.{equal}
use Rattle.zaxbriar_strict.proofs.SentComponents.{AreLevels, level_of, levels-sent, unsent-within}
use Rattle.zaxbriar_strict.proofs.SequentialHeaders.{slot_of, slots-are}
use Rattle.zaxbriar_strict.proofs.ScanTurns.{AreRising, all-replicate}

-- Components that have scans have their quantization tables.
abbrev pub AreTabled : Said → WrittenFrame → List Bool → Type 0
AreTabled said frame sent =
    (i : ℕ) (c : Component) → slice_get frame.components i ≡ Some c → get_or sent i true ≡ true → HasTable said c

-- ---- tables

-- default tables take no place of one that is there
kept-in : (first second : Table) (named : List ℕ) (ts : List (Option Table)) (i : ℕ) (t : Table)
    → get_or ts i None ≡ Some t → get_or (with_defaults first second named ts) i None ≡ Some t
kept-in first second named [] i t e = e
kept-in first second named (a ∷ []) zero t e = ap (λ (o : Option Table). filled first (names named 0) o) e
kept-in first second named (a ∷ []) (suc i) t e = e
kept-in first second named (a ∷ b ∷ more) zero t e = ap (λ (o : Option Table). filled first (names named 0) o) e
kept-in first second named (a ∷ b ∷ more) (suc zero) t e = ap (λ (o : Option Table). filled second (names named 1) o) e
kept-in first second named (a ∷ b ∷ more) (suc (suc i)) t e = e

-- tables that were there are there now
record AreKept (old now : CodeTables) : Type 0 where
  dc_kept : (i : ℕ) (t : Table) → get_or old.dc i None ≡ Some t → get_or now.dc i None ≡ Some t
  ac_kept : (i : ℕ) (t : Table) → get_or old.ac i None ≡ Some t → get_or now.ac i None ≡ Some t

kept-by : (avi1 : Bool) (dcs acs : List ℕ) (now : CodeTables) → AreKept now (if avi1 then record {
  dc = with_defaults luminance_dc chrominance_dc dcs now.dc;
  ac = with_defaults luminance_ac chrominance_ac acs now.ac;
} else now)
kept-by true dcs acs now = record {
  dc_kept = λ i t e. kept-in luminance_dc chrominance_dc dcs now.dc i t e;
  ac_kept = λ i t e. kept-in luminance_ac chrominance_ac acs now.ac i t e;
}
kept-by false dcs acs now = record { dc_kept = λ i t e. e; ac_kept = λ i t e. e }

tables-kept : (said : Said) (s : Scan) → AreKept said.huffman (tables_of said s)
unfolding tables_of
tables-kept said s = kept-by said.metadata.avi1 s.dc_destinations s.ac_destinations said.huffman

-- ---- how its components are coded

table-kept : (needed : Bool) (class : HuffmanTableClass) (old new : List (Option Table)) (i : ℕ) (t : Table)
    → (get_or old i None ≡ Some t → get_or new i None ≡ Some t) → IsTableAt needed class old i t
    → IsTableAt needed class new i t
table-kept true class old new i t h is = h is
table-kept false class old new i t h is = is

module _ (p : Pass) (t : Tables) (frame : WrittenFrame) where
  pub indices-are : (ms : List Member) (codings : List Coding) → AreCodedBy p t frame ms codings
      → map (λ (k : Coding). k.index) codings ≡ map (λ (m : Member). m.component) ms
  unfolding AreCodedBy
  indices-are [] [] coded = refl
  indices-are [] (k ∷ codings) coded = absurd coded
  indices-are (m ∷ ms) [] coded = absurd coded
  indices-are (m ∷ ms) (k ∷ codings) coded =
      ap₂ (λ (x : ℕ) (l : List ℕ). x ∷ l) (sym coded.0.index) (indices-are ms codings coded.1)

  -- the component in a slot
  pub coded-at : (slot : ℕ) (ms : List Member) (codings : List Coding) (k : Coding) → AreCodedBy p t frame ms codings
      → At slot codings k → slice_get frame.components k.index ≡ Some k.component
  unfolding AreCodedBy
  coded-at slot ms [] k coded here = absurd here
  coded-at slot [] (j ∷ codings) k coded here = absurd coded
  coded-at zero (m ∷ ms) (j ∷ codings) k coded here =
      subst (λ (c : Coding). slice_get frame.components c.index ≡ Some c.component) here coded.0.component
  coded-at (suc slot) (m ∷ ms) (j ∷ codings) k coded here = coded-at slot ms codings k coded.1 here

  pub coded-member : (slot : ℕ) (ms : List Member) (codings : List Coding) (k : Coding) → AreCodedBy p t frame ms codings
      → At slot codings k → (m : Member) × (At slot ms m) × (m.component ≡ k.index)
  unfolding AreCodedBy
  coded-member slot ms [] k coded here = absurd here
  coded-member slot [] (j ∷ codings) k coded here = absurd coded
  coded-member zero (m ∷ ms) (j ∷ codings) k coded here =
      (m, refl, coded.0.index ∙ ap (λ (c : Coding). c.index) here)
  coded-member (suc slot) (m ∷ ms) (j ∷ codings) k coded here = coded-member slot ms codings k coded.1 here

  -- they stand in the order of the frame
  pub coded-rising : (factors : List Factors) (least : ℕ) (ms : List Member) (codings : List Coding)
      → AreCodedBy p t frame ms codings → AreChoices frame least (map (choice_of factors) ms) → AreRising least codings
  unfolding AreCodedBy AreChoices AreRising
  coded-rising factors least [] [] coded all = tt
  coded-rising factors least [] (k ∷ codings) coded all = absurd coded
  coded-rising factors least (m ∷ ms) [] coded all = absurd coded
  coded-rising factors least (m ∷ ms) (k ∷ codings) coded all =
      let same = coded.0.index in
      let ordered = all.0.ordered in (
        omega (arith, same, ordered),
        subst (λ (n : ℕ). AreRising (n + 1) codings) same
            (coded-rising factors (m.component + 1) ms codings coded.1 all.1),
      )

  module _ (said : Said) (steps : steps_of t ≡ said.quantization) where
    -- its components have quantization tables, as those that had scans before
    pub tabled : (ms : List Member) (codings : List Coding) (sent : List Bool) → AreCodedBy p t frame ms codings
        → AreTabled said frame sent → AreTabled said frame (sent_with ms sent)
    unfolding AreCodedBy sent_with
    tabled [] [] sent coded before = before
    tabled [] (k ∷ codings) sent coded before = absurd coded
    tabled (m ∷ ms) [] sent coded before = absurd coded
    tabled (m ∷ ms) (k ∷ codings) sent coded before =
        tabled ms codings (set sent m.component true) coded.1 (λ i c at e. elim (equal i m.component) [
          | inl same ↦
              let is : k.component ≡ c = same_Some k.component c
              (sym coded.0.component ∙ ap (λ (j : ℕ). slice_get frame.components j) (sym coded.0.index)
              ∙ ap (λ (j : ℕ). slice_get frame.components j) (sym same) ∙ at) in
              let q = k.component.factors.quantization in
              let found : get_or said.quantization q None ≡ Some k.quantization =
              subst (λ (l : List (Option (List ℕ))). get_or l q None ≡ Some k.quantization) steps
              coded.0.quantization in
              subst (λ (x : Component). HasTable said x) is (ap (λ (o : Option (List ℕ)). is_some o) found)
          | inr other ↦ before i c at (sym (get_or-set_other sent m.component i true true other) ∙ e)
        ])

    in-force : (now : CodeTables) → codes_of t ≡ said.huffman
        → AreKept said.huffman now
        → (ms : List Member) (codings : List Coding) → AreCodedBy p t frame ms codings
        → AreInForce said frame p now (map slot_of ms) codings
    unfolding AreCodedBy AreInForce
    in-force now codes keeps [] [] coded = tt
    in-force now codes keeps [] (k ∷ codings) coded = absurd coded
    in-force now codes keeps (m ∷ ms) [] coded = absurd coded
    in-force now codes keeps (m ∷ ms) (k ∷ codings) coded =
        let q = k.component.factors.quantization in (
          record {
            index = coded.0.index;
            component = subst (λ (i : ℕ). slice_get frame.components i ≡ Some k.component) (sym coded.0.index)
                coded.0.component;
            quantization = subst (λ (l : List (Option (List ℕ))). get_or l q None ≡ Some k.quantization) steps
                coded.0.quantization;
            dc = table-kept (p.ss == 0) DC (codes_of t).dc now.dc m.dc k.dc
                (λ e. keeps.dc_kept m.dc k.dc (subst (λ (x : CodeTables). get_or x.dc m.dc None ≡ Some k.dc) codes e))
                coded.0.dc;
            ac = table-kept (nat_lt 0 p.se) AC (codes_of t).ac now.ac m.ac k.ac
                (λ e. keeps.ac_kept m.ac k.ac (subst (λ (x : CodeTables). get_or x.ac m.ac None ≡ Some k.ac) codes e))
                coded.0.ac;
          },
          in-force now codes keeps ms codings coded.1,
        )

-- ---- levels

whole-legal : IsLegal whole_pass nothing_sent
whole-legal = record {
  low = omega arith;
  dc_unsent = λ e f. refl;
  dc_sent = λ e f. absurd (true≢false f);
  dc_before = λ ne. absurd (ne refl);
  acs_unsent = λ e. all-replicate (λ (x : Option ℕ). x ≡ None) 63 None refl;
  acs_sent = λ e. absurd (true≢false e);
}

unsent-legal : (t : Tables) (frame : WrittenFrame) (ms : List Member) (codings : List Coding) (sent : List Bool)
    (levels : ℕ → Levels) → AreCodedBy whole_pass t frame ms codings → AreUnsent sent ms → AreLevels sent levels
    → AllByRecursion (λ (c : Coding). IsLegal whole_pass (levels c.index)) codings
unfolding AreCodedBy
unsent-legal t frame [] [] sent levels coded unsent are = tt
unsent-legal t frame [] (k ∷ codings) sent levels coded unsent are = absurd coded
unsent-legal t frame (m ∷ ms) [] sent levels coded unsent are = absurd coded
unsent-legal t frame (m ∷ ms) (k ∷ codings) sent levels coded unsent are =
    let none : levels m.component ≡ nothing_sent =
    are m.component (unsent-within sent m.component unsent.0) ∙ ap level_of unsent.0 in (
      subst (λ (l : Levels). IsLegal whole_pass l)
          (sym none ∙ ap (λ (i : ℕ). levels i) coded.0.index) whole-legal,
      unsent-legal t frame ms codings sent levels coded.1 unsent.1 are,
    )

pub whole-complete : IsComplete (level_of true)
whole-complete = record { dc = refl; acs = all-replicate (λ (x : Option ℕ). x ≡ Some 0) 63 (Some 0) refl }

-- ---- the scan

-- what is known of a scan of some components of a frame, of which none has a scan before
pub record HasCoded (said : Said) (frame : WrittenFrame) (h : ScanHeader) (codings : List Coding) (ms : List Member)
    (sent : List Bool) : Type 0 where
  pub t : Tables
  pub factors : List Factors
  pub coded : AreCodedBy whole_pass t frame ms codings
  pub unsent : AreUnsent sent ms
  pub steps : steps_of t ≡ said.quantization
  pub codes : codes_of t ≡ said.huffman
  pub choices : h.choices ≡ map (choice_of factors) ms
  pub passes : pass_of (scan_written frame h) ≡ whole_pass

-- The components of a scan have the tables that are in force.
pub has-codings : (p : Pass) (t : Tables) (said : Said) (frame : WrittenFrame) (h : ScanHeader) (factors : List Factors)
    (ms : List Member) (codings : List Coding) → h.choices ≡ map (choice_of factors) ms
    → pass_of (scan_written frame h) ≡ p → AreCodedBy p t frame ms codings → steps_of t ≡ said.quantization
    → codes_of t ≡ said.huffman → HasCodings said frame (scan_written frame h) codings
has-codings p t said frame h factors ms codings choices passes coded steps codes =
    let s = scan_written frame h in
    let now = tables_of said s in
    subst (λ (l : List (ℕ × (ℕ × ℕ))). AreInForce said frame (pass_of s) now l codings)
    (sym (slots-are frame h factors ms choices))
    (subst (λ (q : Pass). AreInForce said frame q now (map slot_of ms) codings) (sym passes)
    (in-force p t frame said steps now codes (tables-kept said s) ms codings coded))

module _ (said : Said) (frame : WrittenFrame) (h : ScanHeader) (codings : List Coding) (ms : List Member)
    (sent : List Bool) (levels : ℕ → Levels) (has : HasCoded said frame h codings ms sent)
    (are : AreLevels sent levels) where
  pub legal-scan : IsLegalScan said frame levels (scan_written frame h) codings
  legal-scan = record {
    are_in_force = has-codings whole_pass has.t said frame h has.factors ms codings has.choices has.passes has.coded
        has.steps has.codes;
    legal = subst (λ (p : Pass). AllByRecursion (λ (c : Coding). IsLegal p (levels c.index)) codings)
        (sym has.passes) (unsent-legal has.t frame ms codings sent levels has.coded has.unsent are);
  }

  pub leveled : AreLevels (sent_with ms sent)
      (levels_after (pass_of (scan_written frame h)) (map (λ (c : Coding). c.index) codings) levels)
  leveled =
      subst (λ (p : Pass). AreLevels (sent_with ms sent) (levels_after p (map (λ (c : Coding). c.index) codings) levels))
      (sym has.passes)
      (subst (λ (l : List ℕ). AreLevels (sent_with ms sent) (levels_after whole_pass l levels))
      (sym (indices-are whole_pass has.t frame ms codings has.coded)) (levels-sent ms sent levels are))

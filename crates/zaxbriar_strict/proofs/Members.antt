-- Scan headers, component by component.
use Rattle.std.proofs.Common.{◌≡◌, ℕ, zero, suc, ◌+◌, ◌*◌, ◌-◌, ◌/◌, ◌%◌, ◌^◌, ◌<◌, ◌≤◌, Bool, true, List, []}
use Rattle.std.proofs.Common.{◌∷◌, ◌++◌, length, map, take, drop, get_or, min, nat_le, Some, refl, sym, ap, ap₂, ◌∙◌, subst}
use Rattle.std.proofs.Common.{arith, append_assoc, append-nil, sum_by}
use Rattle.std.specs.List.{flat_map, position}
use Rattle.std.specs.Prelude.{◌==◌, ◌||◌, slice_index_or}
use Rattle.std.proofs.lemmas.Bool.{eqb-true}
use Rattle.std.proofs.lemmas.Bool.Decides.{nat_tests}
use Rattle.std.proofs.lemmas.List.{flat_map_more, length-map, map-append, take_all}
use Rattle.std.proofs.lemmas.List.Quantifiers.{position-Some}
use Rattle.std.proofs.lemmas.List.Sums.{sum_by_push}
use Rattle.jpeg_segments.specs.Frame.{Factors, component_of, frame_of, greatest}
use Rattle.jpeg_segments.specs.HuffmanTables.{greatest_destination}
use Rattle.jpeg_segments.specs.ScanHeader.{Selector, blocks_by, index_of}
use Rattle.jpeg_segments.specs.ScanHeaders.{AreChoices, IsChoice, choice_bytes}
use Rattle.jpeg_segments.specs.WrittenSegments.{nibbles}
use Rattle.jpeg_segments.proofs.ScanLemmas.{position-map}
use Rattle.zaxbriar_strict.specs.Heads.{choice_of, factors_of, header_of, is_baseline_of, is_baseline_process}
use Rattle.zaxbriar_strict.specs.Heads.{no_factors, number_of, written_frame}
use Rattle.zaxbriar_strict.specs.Members.{AreMembers, HaveTables, TakesMember, choices_of, most_tables, selectors_of}
use Rattle.zaxbriar_strict.specs.declared.frame.Component.{Component}
use Rattle.zaxbriar_strict.specs.declared.frame.Frame.{Frame}
use Rattle.zaxbriar_strict.specs.declared.frame.Process.{Process}
use Rattle.zaxbriar_strict.specs.declared.frame.Process.TheVariants.{Baseline, Extended, Lossless, Progressive}
use Rattle.zaxbriar_strict.specs.declared.scan.Member.{Member}

-- ---- a component

-- where a component stands in the frame, by its identifier
index-is : (f : Frame) (identifier : ℕ) → index_of (written_frame f).components identifier
    ≡ position (λ c. c.identifier == identifier) (header_of f).components
unfolding frame_of component_of
index-is f identifier =
    let fs = (header_of f).components in
    position-map (component_of f.width f.height (greatest (λ c. c.horizontal) fs) (greatest (λ c. c.vertical) fs))
    (λ c. c.factors.identifier == identifier) fs

place-is : (cs : List Component) (identifier : ℕ) → position (λ c. c.identifier == identifier) (map factors_of cs)
    ≡ position (λ c. c.identifier == identifier) cs
place-is cs identifier = position-map factors_of (λ c. c.identifier == identifier) cs

identifier-at : (fs : List Factors) (identifier index : ℕ)
    → position (λ c. c.identifier == identifier) fs ≡ Some index
    → (index < length fs) × ((get_or fs index no_factors).identifier ≡ identifier)
identifier-at fs identifier index e =
    let p = position-Some (λ c. c.identifier == identifier) fs index no_factors e in
    (p.0, eqb-true (get_or fs index no_factors).identifier identifier p.1)

-- two bytes by their places, and those after them
pub two-are : (xs : List ℕ) → 2 ≤ length xs
    → xs ≡ slice_index_or xs 0 0 ∷ (slice_index_or xs 1 0 ∷ take (length xs - 2) (drop 2 xs))
two-are [] some = absurd (omega arith)
two-are (x ∷ []) some = absurd (omega arith)
two-are (x ∷ (y ∷ ys)) some =
    let e : suc (suc (length ys)) - 2 ≡ length ys = omega arith in
    ap (λ (l : List ℕ). x ∷ (y ∷ l)) (sym (take_all (suc (suc (length ys)) - 2) ys (omega (arith, e))))

pub takes-member : (f : Frame) (m : Member) (identifier tables : ℕ) (old new : List ℕ)
    → position (λ c. c.identifier == identifier) f.components.items ≡ Some m.component
    → m.dc ≡ tables / 16 → m.ac ≡ tables % 16 → old ≡ identifier ∷ (tables ∷ new)
    → TakesMember f m old new
takes-member f m identifier tables old new at dc ac e =
    let cs = f.components.items in
    let fs = (header_of f).components in
    let found : position (λ c. c.identifier == identifier) fs ≡ Some m.component = place-is cs identifier ∙ at in
    let named = identifier-at fs identifier m.component found in
    let name : ℕ = (get_or fs m.component no_factors).identifier in
    let same : name ≡ identifier = named.1 in
    let in_fs = named.0 in
    let code : tables ≡ nibbles m.dc m.ac = omega (arith, dc, ac) in
    record {
      identified = ap (λ (k : ℕ). index_of (written_frame f).components k) same
          ∙ index-is f identifier ∙ found;
      within = omega (arith, in_fs, length-map cs factors_of);
      parts = e ∙ ap₂ (λ (x t : ℕ). x ∷ (t ∷ new)) (sym same) code;
    }

-- ---- blocks

blocks-in : (w h a b : ℕ) (cs : List Component) (i : ℕ) (d : Component) → i < length cs
    → blocks_by (map (component_of w h a b) (map factors_of cs)) i ≡ (get_or cs i d).across * (get_or cs i d).down
unfolding component_of
blocks-in w h a b [] i d lt = absurd (omega arith)
blocks-in w h a b (c ∷ cs) zero d lt = refl
blocks-in w h a b (c ∷ cs) (suc i) d lt = blocks-in w h a b cs i d (omega arith)

no-blocks-in : (w h a b : ℕ) (cs : List Component) (i : ℕ) → length cs ≤ i
    → blocks_by (map (component_of w h a b) (map factors_of cs)) i ≡ 0
no-blocks-in w h a b [] i above = refl
no-blocks-in w h a b (c ∷ cs) zero above = absurd (omega arith)
no-blocks-in w h a b (c ∷ cs) (suc i) above = no-blocks-in w h a b cs i (omega arith)

pub blocks-are : (f : Frame) (i : ℕ) (c : Component) → i < length f.components.items → c ≡ get_or f.components.items i c
    → blocks_by (written_frame f).components i ≡ c.across * c.down
unfolding frame_of
blocks-are f i c lt e =
    let fs = (header_of f).components in
    blocks-in f.width f.height (greatest (λ c. c.horizontal) fs) (greatest (λ c. c.vertical) fs) f.components.items i c lt
    ∙ ap (λ (k : Component). k.across * k.down) (sym e)

pub no-blocks-are : (f : Frame) (i : ℕ) → length f.components.items ≤ i → blocks_by (written_frame f).components i ≡ 0
unfolding frame_of
no-blocks-are f i above =
    let fs = (header_of f).components in
    no-blocks-in f.width f.height (greatest (λ c. c.horizontal) fs) (greatest (λ c. c.vertical) fs) f.components.items i above

-- ---- components one after the other

baseline-number : (p : Process) → (number_of p == 0) ≡ is_baseline_process p
baseline-number Baseline = refl
baseline-number Extended = refl
baseline-number Progressive = refl
baseline-number Lossless = refl

baseline-is : (f : Frame) → (written_frame f).is_baseline ≡ is_baseline_of f
unfolding frame_of
baseline-is f = baseline-number f.process

tables-split : (most : ℕ) (ms : List Member) (m : Member) → HaveTables most (ms ++ m ∷ [])
    → HaveTables most ms × ((m.dc ≤ most) × (m.ac ≤ most))
tables-split most [] m all = (tt, all.0)
tables-split most (x ∷ xs) m all = let r = tables-split most xs m all.1 in ((all.0, r.0), r.1)

-- the number of blocks, up to the greatest number of 32 bits
abbrev pub sum_of : Frame → List Member → ℕ
sum_of f ms = sum_by (λ s. blocks_by (written_frame f).components s.component) (selectors_of f ms)

-- Components that were taken, with so many blocks: the index of the next is at least this.
pub record TakesMembers (f : Frame) (least blocks : ℕ) (ms : List Member) (old new : List ℕ) : Type 0 where
  pub parts : old ≡ flat_map choice_bytes (choices_of f ms) ++ new
  pub choices : HaveTables (most_tables f.process) ms → (more : List (ℕ × Selector))
      → AreChoices (written_frame f) least more → AreChoices (written_frame f) 0 (choices_of f ms ++ more)
  pub counted : blocks ≡ min (sum_of f ms) (2 ^ 32 - 1)

choice-legal : (f : Frame) (least : ℕ) (m : Member) → index_of (written_frame f).components
    (choice_of (header_of f).components m).0 ≡ Some m.component → least ≤ m.component
    → m.dc ≤ most_tables f.process → m.ac ≤ most_tables f.process
    → IsChoice (written_frame f) least (choice_of (header_of f).components m)
choice-legal f least m at order dc ac =
    let e : most_tables f.process ≡ greatest_destination (Some (written_frame f).is_baseline) =
    ap (λ (b : Bool). greatest_destination (Some b)) (sym (baseline-is f)) in
    record {
      identified = at;
      ordered = order;
      dc_bounded = subst (λ (k : ℕ). m.dc ≤ k) e dc;
      ac_bounded = subst (λ (k : ℕ). m.ac ≤ k) e ac;
    }

choices-more : (f : Frame) (least : ℕ) (ms : List Member) (m : Member)
    → ((more : List (ℕ × Selector)) → AreChoices (written_frame f) least more
    → AreChoices (written_frame f) 0 (choices_of f ms ++ more))
    → IsChoice (written_frame f) least (choice_of (header_of f).components m) → (more : List (ℕ × Selector))
    → AreChoices (written_frame f) (m.component + 1) more
    → AreChoices (written_frame f) 0 (choices_of f (ms ++ m ∷ []) ++ more)
unfolding AreChoices
choices-more f least ms m front legal more h =
    let one = choice_of (header_of f).components m in
    let e : choices_of f (ms ++ m ∷ []) ++ more ≡ choices_of f ms ++ (one ∷ more) =
    ap (λ (l : List (ℕ × Selector)). l ++ more) (map-append (choice_of (header_of f).components) ms (m ∷ []))
    ∙ append_assoc (choices_of f ms) (one ∷ []) more in
    subst (λ (l : List (ℕ × Selector)). AreChoices (written_frame f) 0 l) (sym e) (front (one ∷ more) (legal, h))

sum-more : (f : Frame) (ms : List Member) (m : Member)
    → sum_of f (ms ++ m ∷ []) ≡ sum_of f ms + blocks_by (written_frame f).components m.component
sum-more f ms m =
    let one = choice_of (header_of f).components m in
    let test = λ (s : Selector). blocks_by (written_frame f).components s.component in
    ap (λ (l : List (ℕ × Selector)). sum_by test (map (λ c. c.1) l))
    (map-append (choice_of (header_of f).components) ms (m ∷ []))
    ∙ ap (sum_by test) (map-append (λ (c : ℕ × Selector). c.1) (choices_of f ms) (one ∷ []))
    ∙ sum_by_push test (selectors_of f ms) one.1

pub one-member : {old middle new : List ℕ} (f : Frame) (least next blocks size sum : ℕ) (ms after : List Member)
    (m : Member) → after ≡ ms ++ m ∷ [] → TakesMembers f least blocks ms old middle → TakesMember f m middle new
    → least ≤ m.component → next ≡ m.component + 1
    → size ≡ min (blocks_by (written_frame f).components m.component) (2 ^ 32 - 1)
    → sum ≡ min (blocks + size) (2 ^ 32 - 1) → TakesMembers f next sum after old new
one-member {old} {middle} {new} f least next blocks size sum ms after m placed t u order then_next sized summed =
    subst (λ (l : List Member). TakesMembers f next sum l old new) (sym placed) (record {
      parts = t.parts ∙ ap (λ (l : List ℕ). flat_map choice_bytes (choices_of f ms) ++ l) u.parts
          ∙ sym (append_assoc (flat_map choice_bytes (choices_of f ms))
          (choice_bytes (choice_of (header_of f).components m)) new)
          ∙ ap (λ (l : List ℕ). l ++ new)
          (flat_map_more choice_bytes [] (choices_of f ms) (choice_of (header_of f).components m))
          ∙ ap (λ (l : List (ℕ × Selector)). flat_map choice_bytes l ++ new)
          (sym (map-append (choice_of (header_of f).components) ms (m ∷ [])));
      choices = λ tables more h.
          let split = tables-split (most_tables f.process) ms m tables in
          choices-more f least ms m (t.choices split.0)
          (choice-legal f least m u.identified order split.1.0 split.1.1) more
          (subst (λ (k : ℕ). AreChoices (written_frame f) k more) then_next h);
      counted = (let e = sum-more f ms m in let before = t.counted in omega (arith, e, before, sized, summed));
    })

fits-also : (count blocks sum : ℕ) → blocks ≡ min sum (2 ^ 32 - 1) → (nat_le count 1 || nat_le blocks 10) ≡ true
    → (nat_le count 1 || nat_le sum 10) ≡ true
fits-also count blocks sum e h = grind (arith, nat_tests)

pub all-members : {old new : List ℕ} (f : Frame) (count least blocks : ℕ) (ms : List Member)
    → TakesMembers f least blocks ms old new → length ms ≡ count → (nat_le count 1 || nat_le blocks 10) ≡ true
    → AreMembers f ms
unfolding AreChoices
all-members f count least blocks ms t many fits =
    let cs = choices_of f ms in
    let long : length (selectors_of f ms) ≡ count =
    length-map cs (λ (c : ℕ × Selector). c.1) ∙ length-map ms (choice_of (header_of f).components) ∙ many in
    record {
      choices = λ tables. subst (λ (l : List (ℕ × Selector)). AreChoices (written_frame f) 0 l) (append-nil cs)
          (t.choices tables [] tt);
      fits = ap (λ (k : ℕ). nat_le k 1 || nat_le (sum_of f ms) 10) long
          ∙ fits-also count blocks (sum_of f ms) t.counted fits;
    }

-- The blocks of a scan of some components of a frame, in an array and in the order of the scan (T.81, A.2).
use Rattle.std.proofs.Common.{◌≡◌, ℕ, zero, suc, ◌+◌, ◌*◌, ◌/◌, ◌%◌, ◌≤◌, ◌==◌, ◌&&◌, Bool, true, false, true≢false}
use Rattle.std.proofs.Common.{List, [], ◌∷◌, length, map, get_or, replicate, refl, sym, ap, ap₂, ◌∙◌, subst}
use Rattle.std.proofs.Common.{arith, inl, inr, ℤ, pos, unsigned_abs, div-add-mod'}
use Rattle.std.proofs.lemmas.Bool.{and_parts, eq-eqb, eqb-true, ne_eqb}
use Rattle.std.proofs.lemmas.Int.{ints}
use Rattle.std.proofs.lemmas.List.{length-map}
use Rattle.std.proofs.lemmas.Option.{get_or_from_slice_get}
use Rattle.std.specs.List.{AllByRecursion}
use Rattle.std.specs.Prelude.{Some, slice_get, zip}
use Rattle.jpeg_bits.specs.Passes.{Block, Via, whole_pass, zero_block}
use Rattle.jpeg_segments.specs.Frame.{Component, Frame as WrittenFrame}
use Rattle.jpeg_meaning.specs.InTurn.{AreApart, Fits, IsIn}
use Rattle.jpeg_meaning.specs.Levels.{Is8Bit, numbers_at}
use Rattle.jpeg_meaning.specs.Order.{Spot, mcu_size, spots_of}
use Rattle.jpeg_meaning.specs.ScanSegments.{Coding, components_of, vias_from}
use Rattle.jpeg_meaning.specs.Scans.{turns_of, via_at}
use Rattle.jpeg_meaning.specs.WrittenScans.{Coefficients, WritesScan}
use Rattle.jpeg_meaning.proofs.Order.Apart.{At, get-at, spots-apart}
use Rattle.jpeg_meaning.proofs.Order.FrameShapes.{frames-fit}
use Rattle.jpeg_meaning.proofs.Pictures.LosslessSizes.{all-ranged}
use Rattle.zaxbriar_strict.specs.Changes.{Kept, sent_by}
use Rattle.zaxbriar_strict.specs.Heads.{IsMade, header_of, number_of, written_frame}
use Rattle.zaxbriar_strict.specs.Runs.{AreGood, WritesGroups, WritesPassBlocks}
use Rattle.zaxbriar_strict.specs.ScanData.{AreGroups, AreInstalled, ReadsData, ways_of}
use Rattle.zaxbriar_strict.specs.declared.scan.Member.{Member}
use Rattle.zaxbriar_strict.specs.declared.tables.Tables.{Tables}
use Rattle.zaxbriar_strict.specs.declared.frame.Frame.{Frame}
use Rattle.zaxbriar_strict.proofs.FrameComponents.{no_component}
use Rattle.zaxbriar_strict.proofs.Numbers.{numbers-same}

-- ---- blocks in range

pub all-replicate : {A : Type 0} (P : A → Type 0) (n : ℕ) (x : A) → P x → AllByRecursion P (replicate n x)
all-replicate P zero x h = tt
all-replicate P (suc n) x h = (h, all-replicate P n x h)

pub zero-in-range : Is8Bit zero_block
unfolding zero_block
zero-in-range = record {
  count = refl;
  dc_low = omega (arith, ints);
  dc_high = omega (arith, ints);
  acs = all-replicate (λ (x : ℤ). unsigned_abs x ≤ 1023) 63 (pos 0) (omega (arith, ints));
}

pub all-map : {A B : Type 0} (P : B → Type 0) (f : A → B) (xs : List A) → AllByRecursion (λ (x : A). P (f x)) xs
    → AllByRecursion P (map f xs)
all-map P f [] all = tt
all-map P f (x ∷ xs) all = (all.0, all-map P f xs all.1)

-- ---- the block at a spot

abbrev is_spot : Spot → Spot → Bool
is_spot x s = x.slot == s.slot && x.index == s.index

-- the block that stands beside a spot, or zeros
unfoldable pub beside : List Spot → List Block → Spot → Block
beside (x ∷ spots) (b ∷ blocks) s = elim (is_spot x s) [ true ↦ b | false ↦ beside spots blocks s ]
beside _ _ s = zero_block

beside-in-range : (spots : List Spot) (blocks : List Block) (s : Spot) → AllByRecursion Is8Bit blocks
    → Is8Bit (beside spots blocks s)
unfolding beside
beside-in-range [] blocks s all = zero-in-range
beside-in-range (x ∷ spots) [] s all = zero-in-range
beside-in-range (x ∷ spots) (b ∷ blocks) s all =
    go (is_spot x s) (beside spots blocks s) all.0 (beside-in-range spots blocks s all.1)
  where
    go : (c : Bool) (other : Block) → Is8Bit b → Is8Bit other
        → Is8Bit (elim c as (λ _. Block) [ true ↦ b | false ↦ other ])
    go true other h k = h
    go false other h k = k

same-spot : (x s : Spot) → is_spot x s ≡ true → s ≡ x
same-spot x s e =
    let h = and_parts (x.slot == s.slot) (x.index == s.index) e in
    ap₂ (λ (k i : ℕ). record { slot = k; index = i }) (sym (eqb-true x.slot s.slot h.0))
    (sym (eqb-true x.index s.index h.1))

is-itself : (s : Spot) → is_spot s s ≡ true
is-itself s = ap₂ (λ (a b : Bool). a && b) (eq-eqb s.slot s.slot refl) (eq-eqb s.index s.index refl)

is-other : (x s : Spot) → (s ≡ x → ⊥) → is_spot x s ≡ false
is-other x s n = go (is_spot x s) refl
  where
    go : (c : Bool) → is_spot x s ≡ c → is_spot x s ≡ false
    go true e = absurd (n (same-spot x s e))
    go false e = e

module _ (x : Spot) (b : Block) (spots : List Spot) (blocks : List Block) where
  beside-first : beside (x ∷ spots) (b ∷ blocks) x ≡ b
  unfolding beside
  beside-first = rw (is-itself x, beside) refl

  beside-other : (s : Spot) → (s ≡ x → ⊥) → beside (x ∷ spots) (b ∷ blocks) s ≡ beside spots blocks s
  unfolding beside
  beside-other s n = rw (is-other x s n, beside) refl

  beside-others : (others : List Spot) → (IsIn x others → ⊥)
      → map (beside (x ∷ spots) (b ∷ blocks)) others ≡ map (beside spots blocks) others
  beside-others [] n = refl
  beside-others (s ∷ others) n =
      ap₂ (λ (y : Block) (l : List Block). y ∷ l) (beside-other s (λ e. n (inl e)))
      (beside-others others (λ h. n (inr h)))

-- each block is beside its spot, where these are apart
all-beside : (spots : List Spot) (blocks : List Block) → AreApart spots → length blocks ≡ length spots
    → map (beside spots blocks) spots ≡ blocks
all-beside [] [] apart counted = refl
all-beside [] (b ∷ blocks) apart counted = absurd (omega arith)
all-beside (x ∷ spots) [] apart counted = absurd (omega arith)
all-beside (x ∷ spots) (b ∷ blocks) apart counted =
    ap₂ (λ (y : Block) (l : List Block). y ∷ l) (beside-first x b spots blocks)
    (beside-others x b spots blocks spots apart.0 ∙ all-beside spots blocks apart.1 (omega arith))

-- ---- the array

-- the slot of the component at an index
unfoldable pub slot_in : ℕ → List Coding → ℕ
slot_in index [] = 0
slot_in index (k ∷ more) = elim (k.index == index) as (λ _. ℕ) [ true ↦ 0 | false ↦ suc (slot_in index more) ]

-- the blocks of a scan, by their components' indices in the frame, rows and columns
abbrev pub scan_array : WrittenFrame → List Coding → List Block → Coefficients
scan_array frame codings blocks index row column =
    beside (spots_of frame (components_of codings)) blocks (record {
      slot = slot_in index codings;
      index = row * (get_or frame.components index no_component).blocks_wide + column;
    })

pub array-in-range : (frame : WrittenFrame) (codings : List Coding) (blocks : List Block)
    → AllByRecursion Is8Bit blocks → (index row column : ℕ) → Is8Bit (scan_array frame codings blocks index row column)
array-in-range frame codings blocks all index row column =
    beside-in-range (spots_of frame (components_of codings)) blocks _ all

-- ---- slots

-- the indices of a scan's components rise, from one on
unfoldable pub AreRising : ℕ → List Coding → Type 0
AreRising least [] = Unit {0}
AreRising least (k ∷ more) = (least ≤ k.index) × AreRising (k.index + 1) more

rising-least : (least slot : ℕ) (codings : List Coding) (k : Coding) → AreRising least codings → At slot codings k
    → least ≤ k.index
unfolding AreRising
rising-least least slot [] k all here = absurd here
rising-least least zero (j ∷ more) k all here = subst (λ (c : Coding). least ≤ c.index) here all.0
rising-least least (suc slot) (j ∷ more) k all here =
    let above = rising-least (j.index + 1) slot more k all.1 here in
    let low = all.0 in
    omega (arith, low, above)

-- then each is found in its slot
pub slot-found : (least slot : ℕ) (codings : List Coding) (k : Coding) → AreRising least codings → At slot codings k
    → slot_in k.index codings ≡ slot
unfolding slot_in AreRising
slot-found least slot [] k all here = absurd here
slot-found least zero (j ∷ more) k all here =
    ap (λ (b : Bool). elim b as (λ _. ℕ) [ true ↦ 0 | false ↦ suc (slot_in k.index more) ])
    (eq-eqb j.index k.index (ap (λ (c : Coding). c.index) here))
slot-found least (suc slot) (j ∷ more) k all here =
    let above = rising-least (j.index + 1) slot more k all.1 here in
    ap (λ (b : Bool). elim b as (λ _. ℕ) [ true ↦ 0 | false ↦ suc (slot_in k.index more) ])
    (ne_eqb j.index k.index (λ e. omega (arith, above, e)))
    ∙ ap suc (slot-found (j.index + 1) slot more k all.1 here)

-- ---- the scan

turns-zipped : (vias : List Via) (sent : Spot → Block) (spots : List Spot)
    → map (λ s. (via_at vias s.slot, numbers_at 0 (sent s))) spots
    ≡ zip (map (λ s. via_at vias s.slot) spots) (map sent spots)
turns-zipped vias sent [] = refl
turns-zipped vias sent (s ∷ spots) =
    ap₂ (λ (b : Block) (l : List (Via × Block)). (via_at vias s.slot, b) ∷ l) (numbers-same (sent s))
    (turns-zipped vias sent spots)

-- The array has the blocks of the scan, at the indices of its components.
abbrev pub HasBlocks : Coefficients → WrittenFrame → List Coding → List Block → Type 0
HasBlocks array frame codings blocks =
    (slot : ℕ) (k : Coding) → At slot codings k → (row column : ℕ)
    → array k.index row column ≡ scan_array frame codings blocks k.index row column

-- Blocks that were read of a scan of some components are what a writer sends of an array that has them.
pub scan-written : (frame : WrittenFrame) (codings : List Coding) (blocks : List Block) (array : Coefficients)
    (restart : ℕ) (bytes : List ℕ) → AllByRecursion (Fits frame) (components_of codings) → AreRising 0 codings
    → ((slot : ℕ) (k : Coding) → At slot codings k → slice_get frame.components k.index ≡ Some k.component)
    → HasBlocks array frame codings blocks
    → length blocks ≡ length (ways_of frame codings) → AllByRecursion Is8Bit blocks
    → WritesGroups (WritesPassBlocks whole_pass) (restart * mcu_size (components_of codings)) 0 (zip (ways_of frame codings) blocks) bytes
    → WritesScan frame restart whole_pass codings array bytes
unfolding turns_of
scan-written frame codings blocks array restart bytes fits rising placed has counted in_range w =
    let spots = spots_of frame (components_of codings) in
    let sent = beside spots blocks in
    let vias = vias_from 0 codings in
    let n = restart * mcu_size (components_of codings) in
    let apart = spots-apart frame (components_of codings) fits in
    let same : map sent spots ≡ blocks =
    all-beside spots blocks apart (counted ∙ length-map spots (λ s. via_at vias s.slot)) in
    let turns : map (λ s. (via_at vias s.slot, numbers_at 0 (sent s))) spots ≡ zip (ways_of frame codings) blocks =
    turns-zipped vias sent spots ∙ ap (λ (l : List Block). zip (ways_of frame codings) l) same in
    record {
      sent = sent;
      in_range = λ s. beside-in-range spots blocks s in_range;
      is_own = λ s k e own.
          let here = get-at s.slot codings k e in
          let slot = slot-found 0 s.slot codings k rising here in
          let wide = k.component.blocks_wide in
          let component : get_or frame.components k.index no_component ≡ k.component =
          get_or_from_slice_get frame.components k.index k.component no_component (placed s.slot k here) in
          let place : s.index / wide * wide + s.index % wide ≡ s.index = div-add-mod' s.index wide in
          ap₂ (λ (slot i : ℕ). sent (record { slot = slot; index = i })) (sym slot)
          (sym (ap (λ (c : Component). s.index / wide * c.blocks_wide + s.index % wide) component ∙ place))
          ∙ sym (has s.slot k here (s.index / wide) (s.index % wide));
      coded = subst (λ (turns : List (Via × Block)). WritesGroups (WritesPassBlocks whole_pass) n 0 turns bytes) (sym turns) w;
    }

-- What was read of a scan of a sequential frame.
pub record SequentialData (t : Tables) (frame : WrittenFrame) (ms : List Member) (bytes rest : List ℕ) : Type 0 where
  pub installed : AreInstalled whole_pass t frame ms
  pub blocks : List Block
  pub counted : length blocks ≡ length (ways_of frame installed.codings)
  pub in_range : AllByRecursion Is8Bit blocks
  pub groups : AreGroups whole_pass (t.interval * mcu_size (components_of installed.codings))
      (zip (ways_of frame installed.codings) blocks) bytes rest

pub sequential-data : (k : Bool) (t : Tables) (frame : WrittenFrame) (ms : List Member) (from to : Kept)
    (bytes rest : List ℕ) → k ≡ false → ReadsData k whole_pass t frame ms from to bytes rest
    → SequentialData t frame ms bytes rest
unfolding AreGood
sequential-data true t frame ms from to bytes rest e r = absurd (true≢false e)
sequential-data false t frame ms from to bytes rest e r = record {
  installed = r.installed;
  blocks = map (sent_by whole_pass) r.changes;
  counted = length-map r.changes (sent_by whole_pass) ∙ r.counted;
  in_range = all-map Is8Bit (sent_by whole_pass) r.changes (r.changed.in_range refl);
  groups = r.coded tt;
}

-- ---- frames that are read

pub made-fits : (f : Frame) → IsMade f → AllByRecursion (Fits (written_frame f)) (written_frame f).components
made-fits f made =
    let h = header_of f in
    frames-fit (number_of f.process) h.precision h.width h.height h.components
    (all-ranged (number_of f.process) [] h.components made.legal.components)

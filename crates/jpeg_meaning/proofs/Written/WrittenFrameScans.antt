-- A written scan of a frame takes the blocks of its components to the next level.
use Rattle.std.proofs.Common.{rules, ◌≡◌, ℕ, List, ◌++◌, map, Some, Ok, ap, ◌∙◌, Option, inl, inr, zero, suc, ◌+◌, ◌*◌}
use Rattle.std.proofs.Common.{◌/◌, ◌%◌, ◌<◌, ◌≤◌, [], ◌∷◌, length, get_or, refl, sym, ap₂, subst, arith, length-set}
use Rattle.std.specs.List.{AllByRecursion}
use Rattle.jpeg_bits.specs.Intervals.{first_group, intervals, other_groups}
use Rattle.jpeg_bits.specs.Passes.{Block, Pass, Via, blocks_of, predictors_at_start, whole_pass, zero_block}
use Rattle.jpeg_bits.specs.Written.{IsMarker, WritesIntervals, marker}
use Rattle.jpeg_bits.specs.declared.marker.Marker.{Marker}
use Rattle.jpeg_bits.proofs.WrittenIntervals.{groups-of-map, reads-groups}
use Rattle.jpeg_meaning.specs.WrittenData.{WritesBlocks}
use Rattle.jpeg_meaning.proofs.Written.SentBlocks.{after_pass, numbers_of, reads_of, Suits}
use Rattle.jpeg_meaning.proofs.Written.WrittenBlocks.{IsReady, Predicts, takes-blocks}
use Rattle.std.proofs.lemmas.Simd.{map-map}
use Rattle.jpeg_bits.proofs.ReadIntervals.{all-map}
use Rattle.jpeg_bits.specs.Reading.{Outcome, ◌>>=◌}
use Rattle.jpeg_meaning.specs.Order.{Spot, grid_of, spots_of, mcu_size}
use Rattle.jpeg_meaning.specs.Scans.{Arrays, block_at, put_blocks, via_at, turns_of, arrays_at, put_block, no_table}
use Rattle.std.proofs.lemmas.Grind.{common_steps}
use Rattle.std.proofs.Math.Nat.{div-lt_iff_lt-mul}
use lib.ListN.{length-map}
use Rattle.jpeg_bits.specs.Codes.{code_lengths, lengths_from}
use Rattle.jpeg_bits.specs.declared.huffman.codes.HuffmanTableClass.{HuffmanTableClass}
use Rattle.jpeg_bits.proofs.Tables.{IsGood}
use Rattle.jpeg_segments.specs.Frame.{Frame}
use Rattle.jpeg_meaning.specs.declared.grids.Grid.{Grid}
use Rattle.jpeg_meaning.specs.ScanSegments.{vias_from, Coding, components_of}
use Rattle.jpeg_meaning.specs.Levels.{Levels, Is8Bit, numbers_at, cut, nothing_sent, IsLegal, sent_after}
use Rattle.jpeg_meaning.specs.WrittenScans.{Coefficients, IsOwn, WritesScan}
use Rattle.jpeg_meaning.proofs.Written.CutLevels.{suits-cut, cut-after, all-same, cut-unsent, floor-range, floor-fits}
use Rattle.jpeg_meaning.proofs.Order.CountedScans.{reaches}
use Rattle.jpeg_meaning.specs.InTurn.{IsIn, IsInside}
use Rattle.jpeg_meaning.proofs.Order.OwnSpots.{At, at-within, at-get, IsOwnSpot, own-only, Fits, covered}
use Rattle.jpeg_meaning.proofs.Order.Apart.{at-got}
pub use Rattle.jpeg_meaning.proofs.Order.Apart.{at-all}

-- ---- the bytes of a scan that was written are read again

pub start-predicts : Predicts predictors_at_start
start-predicts = search rules

-- A scan that was written is read as the blocks after the pass.
pub reads-turns : (p : Pass) (n : ℕ) (turns : List (Via × Block × Block)) (bytes : List ℕ) (fill code : ℕ)
    (m : Marker) (rest : List ℕ) → AllByRecursion (IsReady p) turns → IsMarker code m
    → WritesIntervals (WritesBlocks p predictors_at_start 0) 0 (first_group n (numbers_of turns))
    (other_groups n (numbers_of turns)) bytes
    → intervals (blocks_of p predictors_at_start 0) 0 (first_group n (reads_of turns))
    (other_groups n (reads_of turns)) (bytes ++ marker fill code rest)
    ≡ Ok ((map (λ t. after_pass p t.1 t.2) turns, Some m), rest)
reads-turns p n turns bytes fill code m rest ready h w =
    reads-groups (blocks_of p predictors_at_start 0) (WritesBlocks p predictors_at_start 0) (λ t. (t.0, t.1))
    (λ t. (t.0, t.2)) (map (λ t. after_pass p t.1 t.2)) (IsReady p)
    (λ ts bits. takes-blocks p ts predictors_at_start 0 bits start-predicts) fill code m rest h n turns bytes ready w
    ∙ ap (λ l. Ok ((l, Some m), rest)) (groups-of-map (λ t. after_pass p t.1 t.2) n turns)

-- ---- a scan that was written is read at each of its spots

-- a block's way, what is kept of it, and its numbers at the level of the pass
abbrev pub turn_with : List Via → Arrays → (Spot → Block) → Spot → Via × Block × Block
turn_with vias arrays u s = (via_at vias s.slot, block_at arrays s, u s)

-- the block at a spot is ready for the pass
pub record IsReadyAt (p : Pass) (vias : List Via) (arrays : Arrays) (u : Spot → Block) (s : Spot) : Type 0 where
  pub at : IsReady p (turn_with vias arrays u s)

abbrev pub put_back : List Spot → Arrays → (List Block × Option Marker) × List ℕ → Outcome (Arrays × Option Marker)
put_back spots arrays r = Ok ((put_blocks spots r.0.0 arrays, r.0.1), r.1)

-- A scan that was written is read as the blocks after the pass, put back at their spots.
pub reads-arrays : (p : Pass) (n : ℕ) (vias : List Via) (spots : List Spot) (arrays : Arrays) (u : Spot → Block)
    (bytes : List ℕ) (fill code : ℕ) (m : Marker) (rest : List ℕ)
    → AllByRecursion (IsReadyAt p vias arrays u) spots → IsMarker code m
    → WritesIntervals (WritesBlocks p predictors_at_start 0) 0 (first_group n (turns_of vias spots u))
    (other_groups n (turns_of vias spots u)) bytes
    → arrays_at p n vias spots arrays (bytes ++ marker fill code rest)
    ≡ Ok ((put_blocks spots (map (λ s. after_pass p (block_at arrays s) (u s)) spots) arrays, Some m), rest)
unfolding arrays_at turns_of
reads-arrays p n vias spots arrays u bytes fill code m rest ready h w =
    ap (λ (o : Outcome (List Block × Option Marker)). o >>= put_back spots arrays)
    (rw (map-map, map-map) at (reads-turns p n (map (turn_with vias arrays u) spots) bytes fill code m rest
    (all-map (IsReadyAt p vias arrays u) (IsReady p) (turn_with vias arrays u) spots (λ s is. is.at) ready) h
    (rw (map-map) w)))

-- ---- blocks of a component

-- the own blocks of an array are kept, cut at these levels
pub record HoldsOwn (g : Grid) (array : ℕ → ℕ → Block) (l : Levels) (blocks : List Block) : Type 0 where
  pub sized : length blocks ≡ g.high * g.wide
  pub each : (i : ℕ) → IsOwn g i → get_or blocks i zero_block ≡ cut l (array (i / g.wide) (i % g.wide))

pub own-within : (g : Grid) (i : ℕ) → IsOwn g i → g.own_wide ≤ g.wide → g.own_high ≤ g.high → i < g.high * g.wide
own-within g i own w h = search (rules, div-lt_iff_lt-mul)

-- ---- what suits a pass

pub cut-nothing : (c : Block) → length c.acs ≡ 63 → cut nothing_sent c ≡ zero_block
unfolding zero_block
cut-nothing c h = search (rules, cut-unsent, all-same)

pub whole-legal : IsLegal whole_pass nothing_sent
whole-legal = search (rules, all-same)

pub suits-zero : (c : Block) → Is8Bit c → Suits whole_pass zero_block (numbers_at 0 c)
suits-zero c range =
    grind (arith, cut-nothing c range.count, suits-cut whole_pass nothing_sent c range range.count whole-legal)

pub suits-dc : (p : Pass) (old c : Block) → p.ss ≡ 0 → p.se ≡ 0 → p.al ≤ 7 → Is8Bit c → Suits p old (numbers_at p.al c)
suits-dc p old c e f low range = search (rules, floor-range, floor-fits)

-- ---- tables

pub no-codes : (class : HuffmanTableClass) → length (code_lengths (no_table class).counts) ≡ 0
unfolding lengths_from
no-codes class = refl

pub none-good : (class : HuffmanTableClass) → IsGood (no_table class)
none-good class = record { reads = λ i h. absurd (let n = no-codes class in omega arith) }

pub record HasGood (k : Coding) : Type 0 where
  pub dc : IsGood k.dc
  pub ac : IsGood k.ac

pub record IsGoodVia (v : Via) : Type 0 where
  pub dc : IsGood v.dc
  pub ac : IsGood v.ac

vias-good : (base slot : ℕ) (codings : List Coding) (d : Via) → IsGoodVia d → AllByRecursion HasGood codings
    → IsGoodVia (get_or (vias_from base codings) slot d)
unfolding vias_from
vias-good base slot [] d h all = h
vias-good base zero (k ∷ more) d h all = record { dc = all.0.dc; ac = all.0.ac }
vias-good base (suc slot) (k ∷ more) d h all = vias-good (base + 1) slot more d h all.1

pub via-good : (codings : List Coding) (slot : ℕ) → AllByRecursion HasGood codings
    → IsGoodVia (via_at (vias_from 0 codings) slot)
via-good codings slot all = vias-good 0 slot codings _ (record { dc = none-good _; ac = none-good _ }) all

-- ---- a scan

-- a component of the scan: its blocks are kept, and the scan is legal for it
pub record SlotReady (frame : Frame) (p : Pass) (array : Coefficients) (levels : ℕ → Levels) (before : Arrays)
    (k : Coding) : Type 0 where
  pub fits : Fits frame k.component
  pub holds : HoldsOwn (grid_of k.component) (array k.index) (levels k.index) (get_or before k.index [])
  pub legal : IsLegal p (levels k.index)
  pub sized : length (levels k.index).acs ≡ 63

-- why the blocks at all spots of a scan suit it: none was read yet; or it has DC alone; or it has
-- one component, and so no padding
pub data SpotsSuit (p : Pass) (before : Arrays) (codings : List Coding) : Type 0 where
  none_read : p ≡ whole_pass → ((nth index : ℕ) → get_or (get_or before nth []) index zero_block ≡
      zero_block)
      → SpotsSuit p before codings
  dc_alone : p.ss ≡ 0 → p.se ≡ 0 → p.al ≤ 7 → SpotsSuit p before codings
  one_component : (k : Coding) → codings ≡ k ∷ [] → SpotsSuit p before codings

abbrev pub arrays_of : Arrays → List Coding → Arrays
arrays_of before codings = map (λ (c : Coding). get_or before c.index []) codings

pub array-at : (before : Arrays) (codings : List Coding) (k : Coding) (j : ℕ) → At j codings k
    → get_or (arrays_of before codings) j [] ≡ get_or before k.index []
array-at before codings k j h = at-get (λ (c : Coding). get_or before c.index []) [] j codings k h

pub zeros-in : (before : Arrays) (codings : List Coding) (slot index : ℕ)
    → ((nth i : ℕ) → get_or (get_or before nth []) i zero_block ≡ zero_block)
    → get_or (get_or (arrays_of before codings) slot []) index zero_block ≡ zero_block
zeros-in before (k ∷ more) (suc slot) index z = zeros-in before more slot index z
zeros-in before codings slot index z = search rules

pub all-in : {A : Type 0} (Q : A → Type 0) (xs : List A) → ((x : A) → IsIn x xs → Q x) → AllByRecursion Q xs
all-in Q [] h = tt
all-in Q (x ∷ xs) h = (h x (inl refl), all-in Q xs (λ y t. h y (inr t)))

pub in-all : {A : Type 0} (Q : A → Type 0) (xs : List A) (x : A) → AllByRecursion Q xs → IsIn x xs → Q x
in-all Q [] x h t = absurd t
in-all Q (y ∷ xs) x h (inl e) = subst Q e h.0
in-all Q (y ∷ xs) x h (inr t) = in-all Q xs x h.1 t

pub at-map : {A B : Type 0} (f : A → B) (j : ℕ) (xs : List A) (x : A) → At j xs x → At j (map f xs) (f x)
at-map f j [] x h = absurd h
at-map f zero (y ∷ xs) x h = ap f h
at-map f (suc j) (y ∷ xs) x h = at-map f j xs x h

pub put-count : (f : Spot → Block) (spots : List Spot) (arrays : Arrays)
    → length (put_blocks spots (map f spots) arrays) ≡ length arrays
unfolding put_blocks
put-count f [] arrays = refl
put-count f (s ∷ spots) arrays = search (rules, length-set, put-count f spots (put_block s (f s) arrays))

pub put-size : (f : Spot → Block) (j : ℕ) (spots : List Spot) (arrays : Arrays)
    → length (get_or (put_blocks spots (map f spots) arrays) j []) ≡ length (get_or arrays j [])
unfolding put_blocks
put-size f j [] arrays = refl
put-size f j (s ∷ spots) arrays = put-size f j spots (put_block s (f s) arrays) ∙ (grind (arith, common_steps, length-set))

-- What a written scan is read as.
pub record ReadsScan (frame : Frame) (restart : ℕ) (p : Pass) (codings : List Coding) (array : Coefficients)
    (levels : ℕ → Levels) (before : Arrays) (bytes : List ℕ) : Type 0 where
  pub arrays : Arrays
  pub count : length arrays ≡ length codings
  pub holds : (k : Coding) (j : ℕ) → At j codings k
      → HoldsOwn (grid_of k.component) (array k.index) (sent_after p (levels k.index)) (get_or arrays j
      [])
  pub read : (fill code : ℕ) (m : Marker) (rest : List ℕ) → IsMarker code m
      → arrays_at p (restart * mcu_size (components_of codings)) (vias_from 0 codings)
      (spots_of frame (components_of codings)) (arrays_of before codings) (bytes ++ marker fill code rest)
      ≡ Ok ((arrays, Some m), rest)

module _ (frame : Frame) (restart : ℕ) (p : Pass) (codings : List Coding) (array : Coefficients) (levels : ℕ → Levels)
    (before : Arrays) (bytes : List ℕ)
    (range : (nth row column : ℕ) → Is8Bit (array nth row column))
    (ready : AllByRecursion (SlotReady frame p array levels before) codings) (suit : SpotsSuit p before codings)
    (good : AllByRecursion HasGood codings) (w : WritesScan frame restart p codings array bytes) where
  abbrev spots : List Spot
  spots = spots_of frame (components_of codings)

  abbrev u : Spot → Block
  u s = numbers_at p.al (w.sent s)

  abbrev scanned : Arrays
  scanned = arrays_of before codings

  -- the block kept at an own spot, and the numbers sent for it
  kept-own : (k : Coding) (s : Spot) → At s.slot codings k → IsOwn (grid_of k.component) s.index
      → block_at scanned s ≡ cut (levels k.index)
      (array k.index (s.index / k.component.blocks_wide) (s.index % k.component.blocks_wide))
  kept-own k s h own = grind (arith, common_steps, array-at, at-all)

  sent-own : (k : Coding) (s : Spot) → At s.slot codings k → IsOwn (grid_of k.component) s.index
      → w.sent s ≡ array k.index (s.index / k.component.blocks_wide) (s.index %
      k.component.blocks_wide)
  sent-own k s h own = w.is_own s k (at-got s.slot codings k h) own

  suits-own : (k : Coding) (s : Spot) → At s.slot codings k → IsOwn (grid_of k.component) s.index
      → Suits p (block_at scanned s) (u s)
  suits-own k s h own =
      let r = at-all (SlotReady frame p array levels before) s.slot codings k ready h in
      let c = array k.index (s.index / k.component.blocks_wide) (s.index % k.component.blocks_wide) in
      let here : Is8Bit c = grind arith in
      rw (kept-own k s h own) (rw (sent-own k s h own)
      (suits-cut p (levels k.index) c here (here.count ∙ sym r.sized) r.legal))

  suits-at : SpotsSuit p before codings → (s : Spot) → IsIn s spots → Suits p (block_at scanned s) (u s)
  unfolding spots_of
  suits-at (none_read e z) s t =
      rw e (rw (zeros-in before codings s.slot s.index z) (suits-zero (w.sent s) (w.in_range s)))
  suits-at (dc_alone e f low) s t = suits-dc p (block_at scanned s) (w.sent s) e f low (w.in_range s)
  suits-at (one_component k e) s t =
      let first : At 0 codings k = subst (λ (l : List Coding). At 0 l k) (sym e) refl in
      let fits = (at-all (SlotReady frame p array levels before) 0 codings k ready first).fits in
      let own : IsOwnSpot (grid_of k.component) s = search (rules, in-all, own-only, fits) in
      suits-own k s (subst (λ (n : ℕ). At n codings k) (sym own.slot) first) own.own

  abbrev f : Spot → Block
  f s = after_pass p (block_at scanned s) (u s)

  abbrev after : Arrays
  after = put_blocks spots (map f spots) scanned

  inside : (k : Coding) (s : Spot) → At s.slot codings k → IsOwn (grid_of k.component) s.index → IsInside scanned s
  inside k s h own =
      let r = at-all (SlotReady frame p array levels before) s.slot codings k ready h in
      let within = at-within s.slot codings k h in
      let count = length-map codings (λ (c : Coding). get_or before c.index []) in
      let size = ap (λ (l : List Block). length l) (array-at before codings k s.slot h) in
      let room = own-within (grid_of k.component) s.index own r.fits.own_wide r.fits.own_high in
      record { slot = omega arith; index = let e = r.holds.sized in omega arith }

  after-own : (k : Coding) (s : Spot) → At s.slot codings k → IsOwn (grid_of k.component) s.index
      → block_at after s ≡ cut (sent_after p (levels k.index))
      (array k.index (s.index / k.component.blocks_wide) (s.index % k.component.blocks_wide))
  after-own k s h own =
      let r = at-all (SlotReady frame p array levels before) s.slot codings k ready h in
      let c = array k.index (s.index / k.component.blocks_wide) (s.index % k.component.blocks_wide) in
      let here : Is8Bit c = search rules in
      reaches f s spots scanned (inside k s h own)
      (covered frame (components_of codings) k.component s
      (at-map (λ (x : Coding). x.component) s.slot codings k h) r.fits own)
      ∙ ap₂ (λ (b d : Block). after_pass p b (numbers_at p.al d)) (kept-own k s h own) (sent-own k
      s h own)
      ∙ cut-after p (levels k.index) c (here.count ∙ sym r.sized) r.legal

  after-kept : (k : Coding) (j : ℕ) → At j codings k
      → HoldsOwn (grid_of k.component) (array k.index) (sent_after p (levels k.index)) (get_or after j
      [])
  after-kept k j h =
      let r = at-all (SlotReady frame p array levels before) j codings k ready h in
      record {
        sized = put-size f j spots scanned ∙ ap (λ (l : List Block). length l) (array-at before codings k j h)
            ∙ r.holds.sized;
        each = λ i own. after-own k (record { slot = j; index = i }) h own;
      }

  -- The scan is read as the blocks after it.
  reads-scan : (fill code : ℕ) (m : Marker) (rest : List ℕ) → IsMarker code m
      → arrays_at p (restart * mcu_size (components_of codings)) (vias_from 0 codings) spots scanned
      (bytes ++ marker fill code rest) ≡ Ok ((after, Some m), rest)
  reads-scan fill code m rest h =
      reads-arrays p (restart * mcu_size (components_of codings))
      (vias_from 0 codings) spots scanned u bytes fill code m rest
      (all-in (IsReadyAt p (vias_from 0 codings) scanned u) spots (λ s t.
      let v = via-good codings s.slot good in
      record { at = record { dc_good = v.dc; ac_good = v.ac; suits = suits-at suit s t } }))
      h w.coded

  -- A written scan of a frame takes the blocks of its components to the levels after it.
  pub scan-is_read : ReadsScan frame restart p codings array levels before bytes
  scan-is_read =
      record {
        arrays = after;
        count = grind (arith, common_steps, put-count);
        holds = after-kept;
        read = reads-scan;
      }
